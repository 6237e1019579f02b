-- What the check gives, number by number: the facts of a whole image, and of each of its nodes, a record for each fault
-- number. A fact of one layout is a function of the equation that the node has that layout.
use Rattle.std.specs.Prelude.{◌≡◌, true, false, List, ℕ, suc, ◌+◌, ◌*◌, ◌-◌, ◌≤◌, ◌<◌, length}
use Rattle.image.specs.declared.type_code.Layout.TheVariants.{Boolean, FixedWidth, VariableSize, View, List as Lists, ListView, FixedList, Struct, DenseUnion, SparseUnion, Dictionary, Runs}
use Rattle.image.specs.declared.type_code.Count.TheVariants.{Exactly, AtLeast}
use Rattle.image.specs.Bytes.{byte_at, number_at}
use Rattle.image.specs.Record.{header_size, max_depth, node_count, buffer_total, tables_end, code_of, flags_of, id_of, name_length, p1_of, p2_of, length_of, offset_of, name_place, bitmap_place, bitmap_length, first_bit, first_child, child_count, first_buffer, buffer_count, has_bitmap, elements_of, child_start, buffer_start, buffer_place, buffer_length}
use Rattle.image.specs.TypeCode.{layout_of, p1_fits, p2_fits, is_text, is_union, sign_bit, takes_bitmap, child_rule, buffer_rule}
use Rattle.image.specs.Element.{valid, element_width, element_place, element_at, size_at, type_id_at, dense_offset_at, child_end, child_with_id, inline_length, view_length, view_buffer, view_offset, view_data, text_at, run_end_width, run_end_at, run_at}
use Rattle.image.specs.Utf8.{well_formed}
use Rattle.image.specs.Faults.{level_end, under_union, not_whole, fault10, fault}

-- The image has not fault 10, and none of its nodes a fault of a number below this one: what the rules of this number
-- rest on.
pub record NoneBelow (number : ℕ) (s : List ℕ) : Type 0 where
  pub image : fault10 s ≡ false
  pub nodes : (m : ℕ) → 11 ≤ m → m < number → (k : ℕ) → k < node_count s → fault m s k ≡ false

-- 10: the tables lie inside, and there are some nodes, not too many
pub record Tables (s : List ℕ) : Type 0 where
  pub header : header_size ≤ length s
  pub size : length s ≤ 16777216
  pub some_nodes : 1 ≤ node_count s
  pub few_nodes : node_count s ≤ 256
  pub few_buffers : buffer_total s ≤ 1024
  pub inside : tables_end s ≤ length s

-- 11: the code, the flags and the parameters are known
pub record Known (s : List ℕ) (k : ℕ) : Type 0 where
  pub code : code_of s k ≤ 43
  pub flags : flags_of s k ≤ 3
  pub p1 : p1_fits (code_of s k) (p1_of s k) ≡ true
  pub p2 : p2_fits (code_of s k) (p2_of s k) ≡ true
  pub bitmap : has_bitmap s k ≡ true → takes_bitmap (layout_of (code_of s k)) ≡ true
  pub all_valid : takes_bitmap (layout_of (code_of s k)) ≡ false → (i : ℕ) → valid s k i ≡ true

-- 11, of the code: how wide the elements of the first buffer are
pub record Widths (s : List ℕ) (k : ℕ) : Type 0 where
  pub variable_size : layout_of (code_of s k) ≡ VariableSize → element_width s k ≤ 8
  pub view : layout_of (code_of s k) ≡ View → element_width s k ≡ 16
  pub lists : layout_of (code_of s k) ≡ Lists → element_width s k ≤ 8
  pub list_view : layout_of (code_of s k) ≡ ListView → element_width s k ≤ 8
  pub keys : layout_of (code_of s k) ≡ Dictionary → element_width s k ≤ 8

-- 12, of a union: the ids of its children rise within 0 to 127
pub record Ids (s : List ℕ) (k : ℕ) : Type 0 where
  pub rise : (c d : ℕ) → first_child s k ≤ c → c < d → d < child_end s k → id_of s c < id_of s d
  pub small : (c : ℕ) → first_child s k ≤ c → c < child_end s k → id_of s c ≤ 127

-- 12, of runs: the run ends are integers of code 3, 4 or 5 without a bitmap
pub record RunEnds (s : List ℕ) (k : ℕ) : Type 0 where
  pub low : 3 ≤ code_of s (first_child s k)
  pub high : code_of s (first_child s k) ≤ 5
  pub no_bitmap : has_bitmap s (first_child s k) ≡ false
  pub width : run_end_width s k ≡ element_width s (first_child s k)

-- 12, of a Map: its child is a Struct of two
pub record Entries (s : List ℕ) (k : ℕ) : Type 0 where
  pub struct : code_of s (first_child s k) ≡ 38
  pub two : child_count s (first_child s k) ≡ 2

-- 12: the node's place in the tree
pub record Tree (s : List ℕ) (k : ℕ) : Type 0 where
  pub exactly : (n : ℕ) → child_rule (layout_of (code_of s k)) ≡ Exactly n → child_count s k ≡ n
  pub numbered : first_child s k ≡ child_start s k
  pub below : k < first_child s k
  pub ends : child_end s k ≤ node_count s
  pub shallow : k < level_end s max_depth
  pub ids : is_union (code_of s k) ≡ true → Ids s k
  pub without_id : under_union s k ≡ false → id_of s k ≡ 0
  pub entries : code_of s k ≡ 42 → Entries s k
  pub run_ends : layout_of (code_of s k) ≡ Runs → RunEnds s k

-- 13: the name lies inside
pub record Named (s : List ℕ) (k : ℕ) : Type 0 where
  pub short : name_length s k ≤ 64
  pub inside : 0 < name_length s k → name_place s k + name_length s k ≤ length s

-- 14: the buffers and the bitmap lie inside
pub record Buffers (s : List ℕ) (k : ℕ) : Type 0 where
  pub exactly : (n : ℕ) → buffer_rule (layout_of (code_of s k)) ≡ Exactly n → buffer_count s k ≡ n
  pub at_least : (n : ℕ) → buffer_rule (layout_of (code_of s k)) ≡ AtLeast n → n ≤ buffer_count s k
  pub numbered : first_buffer s k ≡ buffer_start s k
  pub ends : first_buffer s k + buffer_count s k ≤ buffer_total s
  pub inside : (j : ℕ) → j < buffer_count s k → buffer_place s k j + buffer_length s k j ≤ length s
  pub bitmap : has_bitmap s k ≡ true → bitmap_place s k + bitmap_length s k ≤ length s
  pub small : elements_of s k ≤ 1073741824
  pub whole : not_whole (layout_of (code_of s k)) s k ≡ false

-- 15: the bitmap has a bit for each row, and the buffers hold all elements
pub record Enough (s : List ℕ) (k : ℕ) : Type 0 where
  pub bitmap : has_bitmap s k ≡ true → first_bit s k + length_of s k ≤ 8 * bitmap_length s k
  pub boolean : layout_of (code_of s k) ≡ Boolean → elements_of s k ≤ 8 * buffer_length s k 0
  pub fixed_width : layout_of (code_of s k) ≡ FixedWidth → elements_of s k * element_width s k ≤ buffer_length s k 0
  pub variable_size : layout_of (code_of s k) ≡ VariableSize → (elements_of s k + 1) * element_width s k ≤ buffer_length s k 0
  pub view : layout_of (code_of s k) ≡ View → elements_of s k * element_width s k ≤ buffer_length s k 0
  pub lists : layout_of (code_of s k) ≡ Lists → (elements_of s k + 1) * element_width s k ≤ buffer_length s k 0
  pub list_view_offsets : layout_of (code_of s k) ≡ ListView → elements_of s k * element_width s k ≤ buffer_length s k 0
  pub list_view_sizes : layout_of (code_of s k) ≡ ListView → elements_of s k * element_width s k ≤ buffer_length s k 1
  pub dense_ids : layout_of (code_of s k) ≡ DenseUnion → elements_of s k ≤ buffer_length s k 0
  pub dense_offsets : layout_of (code_of s k) ≡ DenseUnion → elements_of s k * 4 ≤ buffer_length s k 1
  pub sparse_ids : layout_of (code_of s k) ≡ SparseUnion → elements_of s k ≤ buffer_length s k 0
  pub keys : layout_of (code_of s k) ≡ Dictionary → elements_of s k * element_width s k ≤ buffer_length s k 0

-- 16: the children are long enough
pub record Children (s : List ℕ) (k : ℕ) : Type 0 where
  pub struct : layout_of (code_of s k) ≡ Struct → (c : ℕ) → first_child s k ≤ c → c < child_end s k → elements_of s k ≤ length_of s c
  pub sparse : layout_of (code_of s k) ≡ SparseUnion → (c : ℕ) → first_child s k ≤ c → c < child_end s k → elements_of s k ≤ length_of s c
  pub fixed_list : layout_of (code_of s k) ≡ FixedList → elements_of s k * p1_of s k ≤ length_of s (first_child s k)
  pub runs : layout_of (code_of s k) ≡ Runs → length_of s (first_child s k) ≡ length_of s (first_child s k + 1)

-- 17, of offsets: they do not fall, and none is past the end
pub record OffsetsRise (s : List ℕ) (k end : ℕ) : Type 0 where
  pub rise : (j : ℕ) → j < elements_of s k → element_at s k j ≤ element_at s k (suc j)
  pub within : (j : ℕ) → j ≤ elements_of s k → element_at s k j ≤ end

-- 17: the offsets and sizes stay within the text or the child
pub record Places (s : List ℕ) (k : ℕ) : Type 0 where
  pub variable_size : layout_of (code_of s k) ≡ VariableSize → OffsetsRise s k (buffer_length s k 1)
  pub lists : layout_of (code_of s k) ≡ Lists → OffsetsRise s k (length_of s (first_child s k))
  pub list_view : layout_of (code_of s k) ≡ ListView → (j : ℕ) → j < elements_of s k → element_at s k j + size_at s k j ≤ length_of s (first_child s k)

-- 18, of the type id at element j of a union: the child that has it
pub record IdKnown (s : List ℕ) (k j : ℕ) : Type 0 where
  pub low : first_child s k ≤ child_with_id s k (type_id_at s k j)
  pub high : child_with_id s k (type_id_at s k j) < child_end s k
  pub same : id_of s (child_with_id s k (type_id_at s k j)) ≡ type_id_at s k j

-- 18, of the view at v: zero after a short one; a long one lies in its buffer, and its first bytes are stored with it
pub record ViewInside (s : List ℕ) (k v : ℕ) : Type 0 where
  pub padding : view_length s v ≤ inline_length → (p : ℕ) → view_length s v ≤ p → p < inline_length → byte_at s (v + 4 + p) ≡ 0
  pub buffer : inline_length < view_length s v → 1 + view_buffer s v < buffer_count s k
  pub inside : inline_length < view_length s v → view_offset s v + view_length s v ≤ buffer_length s k (1 + view_buffer s v)
  pub prefix : inline_length < view_length s v → number_at 4 s (v + 4) ≡ number_at 4 s (view_data s k v)

-- 18, of runs: the run ends are positive and rise, and every element lies in a run
pub record RunsCover (s : List ℕ) (k : ℕ) : Type 0 where
  pub positive : (r : ℕ) → r < length_of s (first_child s k) → 0 < run_end_at s k r
  pub rise : (q r : ℕ) → q < r → r < length_of s (first_child s k) → run_end_at s k q < run_end_at s k r
  pub small : (r : ℕ) → r < length_of s (first_child s k) → run_end_at s k r ≤ sign_bit (run_end_width s k) - 1
  pub last : 0 < length_of s (first_child s k) → elements_of s k ≤ run_end_at s k (length_of s (first_child s k) - 1)
  pub none : length_of s (first_child s k) ≡ 0 → elements_of s k ≡ 0
  pub run : (j : ℕ) → j < elements_of s k → run_at s k j < length_of s (first_child s k)
  pub value : (j : ℕ) → j < elements_of s k → run_at s k j < length_of s (first_child s k + 1)
  pub above : (j : ℕ) → j < elements_of s k → j < run_end_at s k (run_at s k j)

-- 18: what the rows of the node name lies inside
pub record NodeRows (s : List ℕ) (k : ℕ) : Type 0 where
  pub dense : layout_of (code_of s k) ≡ DenseUnion → (i : ℕ) → i < length_of s k → IdKnown s k (offset_of s k + i)
  pub dense_offset : layout_of (code_of s k) ≡ DenseUnion → (i : ℕ) → i < length_of s k
      → dense_offset_at s k (offset_of s k + i) < length_of s (child_with_id s k (type_id_at s k (offset_of s k + i)))
  pub sparse : layout_of (code_of s k) ≡ SparseUnion → (i : ℕ) → i < length_of s k → IdKnown s k (offset_of s k + i)
  pub key : layout_of (code_of s k) ≡ Dictionary → (i : ℕ) → i < length_of s k → valid s k i ≡ true
      → element_at s k (offset_of s k + i) < length_of s (first_child s k)
  pub view : layout_of (code_of s k) ≡ View → (i : ℕ) → i < length_of s k → valid s k i ≡ true
      → ViewInside s k (element_place s k (offset_of s k + i))
  pub runs : layout_of (code_of s k) ≡ Runs → RunsCover s k

-- 19: the texts of the rows that are not null are well-formed
pub record Texts (s : List ℕ) (k : ℕ) : Type 0 where
  pub formed : is_text (code_of s k) ≡ true → (i : ℕ) → i < length_of s k → valid s k i ≡ true → well_formed (text_at s k (offset_of s k + i)) ≡ true

-- an accepted image's node
pub record Node (s : List ℕ) (k : ℕ) : Type 0 where
  pub known : Known s k
  pub widths : Widths s k
  pub tree : Tree s k
  pub named : Named s k
  pub buffers : Buffers s k
  pub enough : Enough s k
  pub children : Children s k
  pub places : Places s k
  pub rows : NodeRows s k
  pub texts : Texts s k

-- an accepted image
pub record AcceptedImage (s : List ℕ) : Type 0 where
  pub tables : Tables s
  pub child_total : child_start s (node_count s) ≡ node_count s
  pub buffers_total : buffer_start s (node_count s) ≡ buffer_total s
  pub node : (k : ℕ) → k < node_count s → Node s k
