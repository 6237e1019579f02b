-- The faults of an image ("Turned away because of the input", 10 to 18, and 19 of document 02): for each number and each
-- node whether the node has a fault of that number, and the answer of the image check.
use Rattle.std.specs.Prelude.{Bool, false, cond, not, ◌&&◌, ◌||◌, List, ℕ, zero, suc, ◌+◌, ◌*◌, ◌-◌, ◌%◌, min, length, eqb, leb, ltb, Result, Ok, Err}
use Rattle.image.specs.declared.answer.Fault.{Fault}
use Rattle.image.specs.declared.type_code.Layout.{Layout}
use Rattle.image.specs.declared.type_code.Layout.TheVariants.{Null, Boolean, FixedWidth, VariableSize, View, List as Lists, ListView, FixedList, Struct, DenseUnion, SparseUnion, Dictionary, Runs}
use Rattle.image.specs.Ranges.{any, first, rises}
use Rattle.image.specs.Bytes.{byte_at, number_at}
use Rattle.image.specs.Record.{longest_image, most_elements, header_size, max_depth, node_count, buffer_total, tables_end, code_of, flags_of, id_of, name_length, p1_of, p2_of, length_of, offset_of, name_place, bitmap_place, bitmap_length, first_bit, first_child, child_count, first_buffer, buffer_count, has_bitmap, elements_of, child_start, buffer_start, buffer_place, buffer_length}
use Rattle.image.specs.TypeCode.{layout_of, p1_fits, p2_fits, is_text, is_union, is_map, key_signed, sign_bit, takes_bitmap, child_rule, buffer_rule, counts}
use Rattle.image.specs.Element.{valid, element_width, element_place, element_at, size_at, type_id_at, dense_offset_at, child_end, child_with_id, inline_length, view_length, view_buffer, view_offset, view_data, text_at, run_end_width, run_end_at}
use Rattle.image.specs.Utf8.{well_formed}

-- 10: "image shorter than header and tables, longer than the maximum, or n or m out of range"
unfoldable pub fault10 : List ℕ → Bool
fault10 s =
    ltb (length s) header_size
    || ltb longest_image (length s)
    || eqb (node_count s) 0
    || ltb 256 (node_count s)
    || ltb 1024 (buffer_total s)
    || ltb (length s) (tables_end s)

-- 11: "unknown code or flag, p1 or p2 out of range, a bitmap on 0, 39, 40 or 43"
unfoldable pub fault11 : List ℕ → ℕ → Bool
fault11 s k =
    ltb 43 (code_of s k)
    || ltb 3 (flags_of s k)
    || not (p1_fits (code_of s k) (p1_of s k))
    || not (p2_fits (code_of s k) (p2_of s k))
    || (has_bitmap s k && not (takes_bitmap (layout_of (code_of s k))))

-- "Depth at most 16, the root being 1": of the n nodes those of depth d and less are numbered below level_end s d.
-- Children are numbered in the order of their parents, so these are the root and the children of all nodes of depth
-- d - 1 and less.
unfoldable pub level_end : List ℕ → ℕ → ℕ
level_end s zero = 0
level_end s (suc d) = min (child_start s (level_end s d)) (node_count s)

-- "union ids not strictly rising within 0 to 127"
unfoldable pub ids_rise : List ℕ → ℕ → Bool
ids_rise s k = rises 1 (id_of s) 127 0 (first_child s k) (child_count s k)

-- node j is a union, and node k is one of its children
unfoldable pub union_over : List ℕ → ℕ → ℕ → Bool
union_over s k j = is_union (code_of s j) && leb (child_start s j) k && ltb k (child_start s (suc j))

-- node k is a union's child
unfoldable pub under_union : List ℕ → ℕ → Bool
under_union s k = any (union_over s k) 0 k

-- "a Map's child not a Struct of two"
unfoldable pub map_entries : List ℕ → ℕ → Bool
map_entries s k = eqb (code_of s (first_child s k)) 38 && eqb (child_count s (first_child s k)) 2

-- "run ends not code 3, 4, 5 or with a bitmap"; the run ends are the first child
unfoldable pub run_ends : List ℕ → ℕ → Bool
run_ends s k = leb 3 (code_of s (first_child s k)) && leb (code_of s (first_child s k)) 5 && not (has_bitmap s (first_child s k))

-- 12: "tree broken: counts, numbering, depth; union ids ..; a Map's child ..; run ends .."; "a wrong total is node 0's"
unfoldable pub fault12 : List ℕ → ℕ → Bool
fault12 s k =
    not (counts (child_rule (layout_of (code_of s k))) (child_count s k))
    || not (eqb (first_child s k) (child_start s k))
    || leb (first_child s k) k
    || (eqb k 0 && not (eqb (child_start s (node_count s)) (node_count s)))
    || leb (level_end s max_depth) k
    || (is_union (code_of s k) && not (ids_rise s k))
    || (not (eqb (id_of s k) 0) && not (under_union s k))
    || (is_map (code_of s k) && not (map_entries s k))
    || (eqb (code_of s k) 43 && not (run_ends s k))

-- a part of the image that does not lie inside it
unfoldable pub outside : List ℕ → ℕ → ℕ → Bool
outside s place len = ltb (length s) (place + len)

-- buffer j of node k does not lie inside the image
unfoldable pub buffer_outside : List ℕ → ℕ → ℕ → Bool
buffer_outside s k j = outside s (buffer_place s k j) (buffer_length s k j)

-- 13: "name too long or outside the image"; "Name place is not read at name length 0"
unfoldable pub fault13 : List ℕ → ℕ → Bool
fault13 s k = ltb 64 (name_length s k) || (not (eqb (name_length s k) 0) && outside s (name_place s k) (name_length s k))

-- a buffer of len bytes holds whole elements of w bytes
unfoldable pub whole : ℕ → ℕ → Bool
whole len w = eqb (len % w) 0

-- "a buffer of offsets, sizes, keys or views not whole elements"
abbrev pub not_whole : Layout → List ℕ → ℕ → Bool
not_whole Null s k = false
not_whole Boolean s k = false
not_whole FixedWidth s k = false
not_whole VariableSize s k = not (whole (buffer_length s k 0) (element_width s k))
not_whole View s k = not (whole (buffer_length s k 0) (element_width s k))
not_whole Lists s k = not (whole (buffer_length s k 0) (element_width s k))
not_whole ListView s k = not (whole (buffer_length s k 0) (element_width s k)) || not (whole (buffer_length s k 1) (element_width s k))
not_whole FixedList s k = false
not_whole Struct s k = false
not_whole DenseUnion s k = not (whole (buffer_length s k 1) 4)
not_whole SparseUnion s k = false
not_whole Dictionary s k = not (whole (buffer_length s k 0) (element_width s k))
not_whole Runs s k = false

-- 14: "buffer count or numbering wrong, buffer or bitmap outside, e too large, or a buffer .. not whole elements"
unfoldable pub fault14 : List ℕ → ℕ → Bool
fault14 s k =
    not (counts (buffer_rule (layout_of (code_of s k))) (buffer_count s k))
    || not (eqb (first_buffer s k) (buffer_start s k))
    || (eqb k 0 && not (eqb (buffer_start s (node_count s)) (buffer_total s)))
    || any (buffer_outside s k) 0 (buffer_count s k)
    || (has_bitmap s k && outside s (bitmap_place s k) (bitmap_length s k))
    || ltb most_elements (elements_of s k)
    || not_whole (layout_of (code_of s k)) s k

-- buffer j of node k is under n elements of w bytes
unfoldable pub under : List ℕ → ℕ → ℕ → ℕ → ℕ → Bool
under s k j n w = ltb (buffer_length s k j) (n * w)

-- "buffer under e elements (offsets of 26 to 29, 33, 34, 42: e + 1; text bytes and view data: none)"
abbrev pub too_few_elements : Layout → List ℕ → ℕ → ℕ → Bool
too_few_elements Null s k e = false
too_few_elements Boolean s k e = ltb (8 * buffer_length s k 0) e
too_few_elements FixedWidth s k e = under s k 0 e (element_width s k)
too_few_elements VariableSize s k e = under s k 0 (e + 1) (element_width s k)
too_few_elements View s k e = under s k 0 e (element_width s k)
too_few_elements Lists s k e = under s k 0 (e + 1) (element_width s k)
too_few_elements ListView s k e = under s k 0 e (element_width s k) || under s k 1 e (element_width s k)
too_few_elements FixedList s k e = false
too_few_elements Struct s k e = false
too_few_elements DenseUnion s k e = under s k 0 e 1 || under s k 1 e 4
too_few_elements SparseUnion s k e = under s k 0 e 1
too_few_elements Dictionary s k e = under s k 0 e (element_width s k)
too_few_elements Runs s k e = false

-- 15: "bitmap under first bit + length bits, or buffer under e elements"
unfoldable pub fault15 : List ℕ → ℕ → Bool
fault15 s k =
    (has_bitmap s k && ltb (8 * bitmap_length s k) (first_bit s k + length_of s k))
    || too_few_elements (layout_of (code_of s k)) s k (elements_of s k)

-- node c has under n rows
unfoldable pub rows_under : List ℕ → ℕ → ℕ → Bool
rows_under s n c = ltb (length_of s c) n

-- a child of node k has under n rows
unfoldable pub child_under : List ℕ → ℕ → ℕ → Bool
child_under s k n = any (rows_under s n) (first_child s k) (child_count s k)

-- 16: "child under e rows (Struct, sparse) or e × p1; run values and run ends of unequal length"
abbrev pub too_few_child_rows : Layout → List ℕ → ℕ → Bool
too_few_child_rows Null s k = false
too_few_child_rows Boolean s k = false
too_few_child_rows FixedWidth s k = false
too_few_child_rows VariableSize s k = false
too_few_child_rows View s k = false
too_few_child_rows Lists s k = false
too_few_child_rows ListView s k = false
too_few_child_rows FixedList s k = ltb (length_of s (first_child s k)) (elements_of s k * p1_of s k)
too_few_child_rows Struct s k = child_under s k (elements_of s k)
too_few_child_rows DenseUnion s k = false
too_few_child_rows SparseUnion s k = child_under s k (elements_of s k)
too_few_child_rows Dictionary s k = false
too_few_child_rows Runs s k = not (eqb (length_of s (first_child s k)) (length_of s (first_child s k + 1)))

unfoldable pub fault16 : List ℕ → ℕ → Bool
fault16 s k = too_few_child_rows (layout_of (code_of s k)) s k

-- "offsets at places 0 to e negative, falling, or past the end": a negative offset reads as a number above every end
unfoldable pub offsets_rise : List ℕ → ℕ → ℕ → Bool
offsets_rise s k end = rises 0 (element_at s k) end 0 0 (elements_of s k + 1)

-- "a list view outside its child (rows 0 to e - 1, nulls too)"; the sum is of whole numbers, and a negative offset or
-- size reads as a number above every length
unfoldable pub list_outside : List ℕ → ℕ → ℕ → Bool
list_outside s k j = ltb (length_of s (first_child s k)) (element_at s k j + size_at s k j)

-- 17: "offsets .. past the end of the text or of the child's length; a list view outside its child"
abbrev pub offset_fault : Layout → List ℕ → ℕ → Bool
offset_fault Null s k = false
offset_fault Boolean s k = false
offset_fault FixedWidth s k = false
offset_fault VariableSize s k = not (offsets_rise s k (buffer_length s k 1))
offset_fault View s k = false
offset_fault Lists s k = not (offsets_rise s k (length_of s (first_child s k)))
offset_fault ListView s k = any (list_outside s k) 0 (elements_of s k)
offset_fault FixedList s k = false
offset_fault Struct s k = false
offset_fault DenseUnion s k = false
offset_fault SparseUnion s k = false
offset_fault Dictionary s k = false
offset_fault Runs s k = false

unfoldable pub fault17 : List ℕ → ℕ → Bool
fault17 s k = offset_fault (layout_of (code_of s k)) s k

-- "type id without a child", at element j
unfoldable pub id_unknown : List ℕ → ℕ → ℕ → Bool
id_unknown s k j = leb (child_end s k) (child_with_id s k (type_id_at s k j))

-- "dense offset outside" the child that the id names; a negative one reads as a number above every length
unfoldable pub dense_outside : List ℕ → ℕ → ℕ → Bool
dense_outside s k j = leb (length_of s (child_with_id s k (type_id_at s k j))) (dense_offset_at s k j)

-- "key outside": a negative key of a signed code, or one past the child's rows
unfoldable pub key_outside : List ℕ → ℕ → ℕ → Bool
key_outside s k j =
    leb (length_of s (first_child s k)) (element_at s k j)
    || (key_signed (p1_of s k) && leb (sign_bit (element_width s k)) (element_at s k j))

-- the byte at a place is not 0
unfoldable pub nonzero : List ℕ → ℕ → Bool
nonzero s p = not (eqb (byte_at s p) 0)

-- "inline padding not zero": of the 12 bytes after the length, those past it
unfoldable pub padding_nonzero : List ℕ → ℕ → Bool
padding_nonzero s v = any (nonzero s) (v + 4 + view_length s v) (inline_length - view_length s v)

-- "view outside its buffers .. stored prefix wrong", of a view longer than 12 bytes
unfoldable pub long_view_fault : List ℕ → ℕ → ℕ → Bool
long_view_fault s k v =
    leb (buffer_count s k) (1 + view_buffer s v)
    || ltb (buffer_length s k (1 + view_buffer s v)) (view_offset s v + view_length s v)
    || not (eqb (number_at 4 s (v + 4)) (number_at 4 s (view_data s k v)))

-- the view at v breaks a rule of 18
unfoldable pub view_fault : List ℕ → ℕ → ℕ → Bool
view_fault s k v = cond (leb (view_length s v) inline_length) (padding_nonzero s v) (long_view_fault s k v)

-- "run ends, over all rows of their child, not positive and strictly rising", as signed numbers of their width
unfoldable pub run_ends_rise : List ℕ → ℕ → Bool
run_ends_rise s k = rises 1 (run_end_at s k) (sign_bit (run_end_width s k) - 1) 1 0 (length_of s (first_child s k))

-- "or last below e (none: e must be 0)"
unfoldable pub last_end_below : List ℕ → ℕ → Bool
last_end_below s k =
    cond (eqb (length_of s (first_child s k)) 0) (not (eqb (elements_of s k) 0))
    (ltb (run_end_at s k (length_of s (first_child s k) - 1)) (elements_of s k))

-- Row i of node k breaks a rule of 18: "in rows offset to e - 1", where row i reads element offset + i. Keys and views
-- are judged only "in rows not null".
unfoldable pub view_row_fault : List ℕ → ℕ → ℕ → Bool
view_row_fault s k i = valid s k i && view_fault s k (element_place s k (offset_of s k + i))

unfoldable pub key_row_fault : List ℕ → ℕ → ℕ → Bool
key_row_fault s k i = valid s k i && key_outside s k (offset_of s k + i)

unfoldable pub dense_row_fault : List ℕ → ℕ → ℕ → Bool
dense_row_fault s k i = id_unknown s k (offset_of s k + i) || dense_outside s k (offset_of s k + i)

unfoldable pub sparse_row_fault : List ℕ → ℕ → ℕ → Bool
sparse_row_fault s k i = id_unknown s k (offset_of s k + i)

-- 18: "type id without a child, dense offset outside; .. key outside, view outside its buffers, inline padding not
-- zero, stored prefix wrong; run ends .."
abbrev pub row_fault : Layout → List ℕ → ℕ → Bool
row_fault Null s k = false
row_fault Boolean s k = false
row_fault FixedWidth s k = false
row_fault VariableSize s k = false
row_fault View s k = any (view_row_fault s k) 0 (length_of s k)
row_fault Lists s k = false
row_fault ListView s k = false
row_fault FixedList s k = false
row_fault Struct s k = false
row_fault DenseUnion s k = any (dense_row_fault s k) 0 (length_of s k)
row_fault SparseUnion s k = any (sparse_row_fault s k) 0 (length_of s k)
row_fault Dictionary s k = any (key_row_fault s k) 0 (length_of s k)
row_fault Runs s k = not (run_ends_rise s k) || last_end_below s k

unfoldable pub fault18 : List ℕ → ℕ → Bool
fault18 s k = row_fault (layout_of (code_of s k)) s k

-- the text of row i of node k is ill-formed, where the row is not null; each value is judged by itself
unfoldable pub text_row_fault : List ℕ → ℕ → ℕ → Bool
text_row_fault s k i = valid s k i && not (well_formed (text_at s k (offset_of s k + i)))

-- 19: "Columns of Utf8, LargeUtf8 and Utf8View are checked in their non-null rows by RFC 3629."
unfoldable pub fault19 : List ℕ → ℕ → Bool
fault19 s k = is_text (code_of s k) && any (text_row_fault s k) 0 (length_of s k)

-- the test of each number
unfoldable pub fault : ℕ → List ℕ → ℕ → Bool
fault number =
    cond (eqb number 11) fault11
    (cond (eqb number 12) fault12
    (cond (eqb number 13) fault13
    (cond (eqb number 14) fault14
    (cond (eqb number 15) fault15
    (cond (eqb number 16) fault16
    (cond (eqb number 17) fault17
    (cond (eqb number 18) fault18 fault19)))))))

-- "Lowest number first; among nodes the lowest": the first node that has a fault of the number, or n where none has
unfoldable pub first_faulty : ℕ → List ℕ → ℕ
first_faulty number s = first (fault number s) 0 (node_count s)

-- the numbers of the faults that belong to a node begin with 11 and end before this one
abbrev pub numbers_end : ℕ
numbers_end = 20

-- what a check answers: nothing where it accepts the image, else the fault
abbrev pub Checked : Type 0
Checked = Result (Unit {0}) Fault

-- the answer by the numbers from one number on, so many of them
unfoldable pub check_from : ℕ → ℕ → List ℕ → Checked
check_from zero number s = Ok tt
check_from (suc left) number s =
    let rest = check_from left (suc number) s in
    cond (ltb (first_faulty number s) (node_count s)) (Err (record { number = number; node = first_faulty number s })) rest

-- The image check. "A table is accepted if its image has none of the faults that are returned with a node"; "10: node 0".
unfoldable pub check_image : List ℕ → Checked
check_image s =
    let rest = check_from (numbers_end - 11) 11 s in
    cond (fault10 s) (Err (record { number = 10; node = 0 })) rest
