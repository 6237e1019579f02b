-- What the check gives, number by number, and all of it where an image is accepted.
-- A test that says false is a fact; each number's tests give that number's record.
use mathlib.Core.Path.{◌≡◌, refl}
use mathlib.Core.Bool.{Bool, true, false, not, ◌||◌}
use mathlib.Core.List.{List}
use mathlib.Core.Logic.{◌≢◌, ◌⊎◌, inl, inr}
use Prim.Native.Nat.{ℕ, suc, ◌+◌, ◌*◌, ◌-◌, ◌≤◌, ◌<◌}
use native.Mathlib.Nat.{eq-zero-or-pos}
use native.Mathlib.Omega.{arith}
use native.Mathlib.Decide.{ℕ_discrete}
use lib.ListN.{length}
use borrow.Author.Tests.{eqb-true, leb-true, leb-false, ltb-true, ltb-false, lt-ltb, eq-eqb, ne_eqb, le-leb, lt-leb}
use Rattle.std.proofs.Common.{Ok}
use Rattle.image.specs.declared.type_code.Count.{Count}
use Rattle.image.specs.declared.type_code.Count.TheVariants.{Exactly, AtLeast}
use Rattle.image.specs.Bytes.{byte_at, bit_at}
use Rattle.image.specs.Record.{node_count, buffer_total, id_of, length_of, offset_of, code_of, name_length, name_place, bitmap_place, bitmap_length, first_bit, has_bitmap, first_child, child_count, first_buffer, buffer_count, buffer_length, elements_of, child_start, buffer_start}
use Rattle.image.specs.TypeCode.{is_text, counts, sign_bit}
use Rattle.image.specs.Element.{child_end, element_at, element_width, run_end_width, run_end_at, ends_above, run_at, has_id, type_id_at, child_with_id, dense_offset_at, inline_length, view_length, valid}
use Rattle.image.specs.Faults.{fault, fault10, fault11, fault12, fault13, fault14, fault15, fault16, fault17, fault18, fault19, text_row_fault, check_image, outside, ids_rise, map_entries, run_ends, under, child_under, offsets_rise, list_outside, buffer_outside, rows_under, nonzero, id_unknown, dense_outside, key_outside, padding_nonzero, view_fault, long_view_fault, run_ends_rise, last_end_below, dense_row_fault, sparse_row_fault, key_row_fault, view_row_fault}
use Rattle.image.proofs.Bools.{facts, or_left, or_right, and_fails}
use Rattle.image.proofs.Ranges.{any_false, any_below, sum_next, rises_least, rises_top, rises_apart, first_from, first_at_most, first_passes}
use Rattle.image.proofs.Widths.{variable_width, view_width, list_width, list_view_width, key_width}
use Rattle.laws.specs.Accepted.{Known, Widths, Ids, RunEnds, Entries, Tree, Named, Buffers, Enough, Children, OffsetsRise, Places, IdKnown, ViewInside, RunsCover, NodeRows, Texts, AcceptedImage, NoneBelow, Tables}
use Rattle.laws.proofs.NoneBelow.{accepted_none}
use Rattle.laws.proofs.Codes.{runs_code, run_end_width_lem}

-- no bitmap, no null
all_valid : (s : List ℕ) (k i : ℕ) (takes : Bool) → (has_bitmap s k ≡ true → takes ≡ true) → takes ≡ false → valid s k i ≡ true
unfolding valid
all_valid s k i takes h e = cases (has_bitmap s k) h
  where
    cases : (b : Bool) → (b ≡ true → takes ≡ true) → not b || bit_at s (bitmap_place s k) (first_bit s k + i) ≡ true
    cases true given =
        let p : takes ≡ true = given refl in
        cc
    cases false given = refl

known : (s : List ℕ) (k : ℕ) → fault11 s k ≡ false → Known s k
unfolding fault11
known s k e =
    let h = simp facts at e in
    record { code = omega arith; flags = omega arith; p1 = h.0.0.1; p2 = h.0.1; bitmap = h.1; all_valid = λ none i. all_valid s k i _ h.1 none }

widths : (s : List ℕ) (k : ℕ) → Widths s k
unfolding element_width
widths s k = record {
  variable_size = variable_width _ _;
  view = view_width _ _;
  lists = list_width _ _;
  list_view = list_view_width _ _;
  keys = key_width _ _;
}

-- a count as its rule says
exact : (rule : Count) (n x : ℕ) → counts rule x ≡ true → rule ≡ Exactly n → x ≡ n
exact rule n x h e = eqb-true x n (rw e at h)

least : (rule : Count) (n x : ℕ) → counts rule x ≡ true → rule ≡ AtLeast n → n ≤ x
least rule n x h e = leb-true n x (rw e at h)

-- equal numbers, where unequal ones would pass a test that fails
unless : (a b : ℕ) (t : Bool) → (a ≢ b → t ≡ true) → t ≡ false → a ≡ b
unless a b t h e = cases (ℕ_discrete a b)
  where
    cases : Dec (a ≡ b) → a ≡ b
    cases (yes q) = q
    cases (no n) =
        let p : t ≡ true = h n in
        cc

ids : (s : List ℕ) (k : ℕ) → ids_rise s k ≡ true → Ids s k
unfolding ids_rise child_end
ids s k e = record {
  rise = λ c d from lt end.
      let h : id_of s c + 1 ≤ id_of s d = rises_apart 1 (id_of s) 127 0 (first_child s k) (child_count s k) e c d from lt end in
      omega arith;
  small = λ c from end. rises_top 1 (id_of s) 127 0 (first_child s k) (child_count s k) e c from end;
}

run_ends_lem : (s : List ℕ) (k : ℕ) → run_ends s k ≡ true → RunEnds s k
unfolding run_ends run_end_width element_width
run_ends_lem s k e =
    let h = simp facts at e in
    record { low = omega arith; high = omega arith; no_bitmap = h.1; width = run_end_width_lem _ _ (omega arith) (omega arith) }

entries : (s : List ℕ) (k : ℕ) → map_entries s k ≡ true → Entries s k
unfolding map_entries
entries s k e =
    let h = simp facts at e in
    record { struct = h.0; two = h.1 }

children_end : (s : List ℕ) (k : ℕ) → first_child s k ≡ child_start s k → k < node_count s → child_start s (node_count s) ≡ node_count s → child_end s k ≤ node_count s
unfolding child_end child_start
children_end s k first lt total = omega (arith, sum_next (child_count s) k (node_count s) lt)

buffers_end : (s : List ℕ) (k : ℕ) → first_buffer s k ≡ buffer_start s k → k < node_count s → buffer_start s (node_count s) ≡ buffer_total s → first_buffer s k + buffer_count s k ≤ buffer_total s
unfolding buffer_start
buffers_end s k first lt total = omega (arith, sum_next (buffer_count s) k (node_count s) lt)

child_total : (s : List ℕ) → fault12 s 0 ≡ false → child_start s (node_count s) ≡ node_count s
unfolding fault12
child_total s e =
    let h = simp facts at e in
    h.0.0.0.0.0.1 refl

tree : (s : List ℕ) (k : ℕ) → fault12 s k ≡ false → k < node_count s → child_start s (node_count s) ≡ node_count s → Tree s k
unfolding fault12
tree s k e lt total =
    let h = simp facts at e in
    record {
      exactly = λ n rule. exact _ n _ h.0.0.0.0.0.0.0.0 rule;
      numbered = omega arith;
      below = omega arith;
      ends = children_end s k (omega arith) lt total;
      shallow = omega arith;
      ids = λ union. ids s k (h.0.0.0.1 union);
      without_id = λ none. unless (id_of s k) 0 _ h.0.0.1 none;
      entries = λ map. entries s k (h.0.1 map);
      run_ends = λ l. run_ends_lem s k (h.1 (runs_code _ l));
    }

named : (s : List ℕ) (k : ℕ) → fault13 s k ≡ false → Named s k
unfolding fault13 outside
named s k e =
    let h = simp facts at e in
    record {
      short = omega arith;
      inside = λ some.
          let g : name_place s k + name_length s k < suc (length s) = h.1 (omega arith) in
          omega arith;
    }

buffers_total : (s : List ℕ) → fault14 s 0 ≡ false → buffer_start s (node_count s) ≡ buffer_total s
unfolding fault14
buffers_total s e =
    let h = simp facts at e in
    h.0.0.0.0.1 refl

buffers : (s : List ℕ) (k : ℕ) → fault14 s k ≡ false → k < node_count s → buffer_start s (node_count s) ≡ buffer_total s → Buffers s k
unfolding fault14 outside buffer_outside
buffers s k e lt total =
    let h = simp facts at e in
    record {
      exactly = λ n rule. exact _ n _ h.0.0.0.0.0.0 rule;
      at_least = λ n rule. least _ n _ h.0.0.0.0.0.0 rule;
      numbered = omega arith;
      ends = buffers_end s k (omega arith) lt total;
      inside = λ j at. ltb-false _ _ (any_below (buffer_outside s k) _ h.0.0.0.1 j at);
      bitmap = λ has.
          let g : bitmap_place s k + bitmap_length s k < suc (length s) = h.0.0.1 has in
          omega arith;
      small = omega arith;
      whole = h.1;
    }

enough : (s : List ℕ) (k : ℕ) → fault15 s k ≡ false → Enough s k
unfolding fault15 under
enough s k e =
    let h = simp facts at e in
    record {
      bitmap = λ has.
          let g : first_bit s k + length_of s k < suc (8 * bitmap_length s k) = h.0 has in
          omega arith;
      boolean = λ l. omega (arith, simp (l, facts) at h.1);
      fixed_width = λ l. omega (arith, simp (l, facts) at h.1);
      variable_size = λ l. omega (arith, simp (l, facts) at h.1);
      view = λ l. omega (arith, simp (l, facts) at h.1);
      lists = λ l. omega (arith, simp (l, facts) at h.1);
      list_view_offsets = λ l. omega (arith, simp (l, facts) at h.1);
      list_view_sizes = λ l. omega (arith, simp (l, facts) at h.1);
      dense_ids = λ l. omega (arith, simp (l, facts) at h.1);
      dense_offsets = λ l. omega (arith, simp (l, facts) at h.1);
      sparse_ids = λ l. omega (arith, simp (l, facts) at h.1);
      keys = λ l. omega (arith, simp (l, facts) at h.1);
    }

-- no child has under n rows: each has n
children_long : (s : List ℕ) (k n : ℕ) → child_under s k n ≡ false → (c : ℕ) → first_child s k ≤ c → c < child_end s k → n ≤ length_of s c
unfolding child_under rows_under child_end
children_long s k n e c from end = ltb-false _ _ (any_false (rows_under s n) _ _ e c from end)

children : (s : List ℕ) (k : ℕ) → fault16 s k ≡ false → Children s k
unfolding fault16
children s k e = record {
  struct = λ l. children_long s k (elements_of s k) (rw l at e);
  sparse = λ l. children_long s k (elements_of s k) (rw l at e);
  fixed_list = λ l. omega (arith, simp (l, facts) at e);
  runs = λ l. simp (l, facts) at e;
}

offsets_rise_lem : (s : List ℕ) (k end : ℕ) → offsets_rise s k end ≡ true → OffsetsRise s k end
unfolding offsets_rise
offsets_rise_lem s k end e = record {
  rise = λ j lt.
      let h : element_at s k j + 0 ≤ element_at s k (suc j) = rises_apart 0 (element_at s k) end 0 0 (elements_of s k + 1) e j (suc j) (omega arith) (omega arith) (omega arith) in
      omega arith;
  within = λ j le. rises_top 0 (element_at s k) end 0 0 (elements_of s k + 1) e j (omega arith) (omega arith);
}

places : (s : List ℕ) (k : ℕ) → fault17 s k ≡ false → Places s k
unfolding fault17 list_outside
places s k e = record {
  variable_size = λ l. offsets_rise_lem s k (buffer_length s k 1) (simp (l, facts) at e);
  lists = λ l. offsets_rise_lem s k (length_of s (first_child s k)) (simp (l, facts) at e);
  list_view = λ l j lt. ltb-false _ _ (any_below (list_outside s k) _ (rw l at e) j lt);
}

id_known : (s : List ℕ) (k j : ℕ) → id_unknown s k j ≡ false → IdKnown s k j
unfolding id_unknown child_with_id has_id child_end
id_known s k j e =
    let lt : child_with_id s k (type_id_at s k j) < first_child s k + child_count s k = leb-false _ _ e in
    record {
      low = first_from (has_id s (type_id_at s k j)) (first_child s k) (child_count s k);
      high = lt;
      same = eqb-true _ _ (first_passes (has_id s (type_id_at s k j)) (first_child s k) (child_count s k) lt);
    }

dense_inside : (s : List ℕ) (k j : ℕ) → dense_outside s k j ≡ false → dense_offset_at s k j < length_of s (child_with_id s k (type_id_at s k j))
unfolding dense_outside
dense_inside s k j e = leb-false _ _ e

key_inside : (s : List ℕ) (k j : ℕ) → key_outside s k j ≡ false → element_at s k j < length_of s (first_child s k)
unfolding key_outside
key_inside s k j e = leb-false _ _ (or_left _ _ e)

zero_padding : (s : List ℕ) (v : ℕ) → padding_nonzero s v ≡ false → (p : ℕ) → view_length s v ≤ p → p < inline_length → byte_at s (v + 4 + p) ≡ 0
unfolding padding_nonzero nonzero
zero_padding s v e p from end =
    simp facts at (any_false (nonzero s) (v + 4 + view_length s v) (inline_length - view_length s v) e (v + 4 + p) (omega arith) (omega arith))

view_inside : (s : List ℕ) (k v : ℕ) → view_fault s k v ≡ false → ViewInside s k v
unfolding view_fault long_view_fault
view_inside s k v e = record {
  padding = λ short. zero_padding s v (rw (le-leb _ _ short) at e);
  buffer = λ long. omega (arith, simp (lt-leb _ _ long, facts) at e);
  inside = λ long. omega (arith, simp (lt-leb _ _ long, facts) at e);
  prefix = λ long. omega (arith, simp (lt-leb _ _ long, facts) at e);
}

last_run : (s : List ℕ) (k : ℕ) → last_end_below s k ≡ false → 0 < length_of s (first_child s k) → elements_of s k ≤ run_end_at s k (length_of s (first_child s k) - 1)
unfolding last_end_below
last_run s k e some =
    let ne : length_of s (first_child s k) ≢ 0 = omega arith in
    ltb-false _ _ (rw (ne_eqb _ _ ne) at e)

no_run : (s : List ℕ) (k : ℕ) → last_end_below s k ≡ false → length_of s (first_child s k) ≡ 0 → elements_of s k ≡ 0
unfolding last_end_below
no_run s k e none = simp (eq-eqb _ _ none, facts) at e

-- the first run end above an element is one of the run ends, since the last is above it
run_found : (s : List ℕ) (k : ℕ) → last_end_below s k ≡ false → (j : ℕ) → j < elements_of s k → run_at s k j < length_of s (first_child s k)
unfolding run_at ends_above
run_found s k e j lt = cases (eq-zero-or-pos (length_of s (first_child s k)))
  where
    cases : (length_of s (first_child s k) ≡ 0) ⊎ (0 < length_of s (first_child s k)) → run_at s k j < length_of s (first_child s k)
    cases (inl none) =
        let no : elements_of s k ≡ 0 = no_run s k e none in
        absurd (omega arith)
    cases (inr some) =
        let last : elements_of s k ≤ run_end_at s k (length_of s (first_child s k) - 1) = last_run s k e some in
        let above : j < run_end_at s k (length_of s (first_child s k) - 1) = omega arith in
        let le : run_at s k j ≤ length_of s (first_child s k) - 1 = first_at_most (ends_above s k j) 0 (length_of s (first_child s k)) _ (omega arith) (lt-ltb _ _ above) in
        omega arith

run_above : (s : List ℕ) (k : ℕ) → last_end_below s k ≡ false → (j : ℕ) → j < elements_of s k → j < run_end_at s k (run_at s k j)
unfolding run_at ends_above
run_above s k e j lt =
    let found : run_at s k j < length_of s (first_child s k) = run_found s k e j lt in
    ltb-true _ _ (first_passes (ends_above s k j) 0 (length_of s (first_child s k)) (omega arith))

runs_cover : (s : List ℕ) (k : ℕ) → run_ends_rise s k ≡ true → last_end_below s k ≡ false → length_of s (first_child s k) ≡ length_of s (first_child s k + 1) → RunsCover s k
unfolding run_ends_rise
runs_cover s k rise short same = record {
  positive = λ r lt. rises_least 1 (run_end_at s k) (sign_bit (run_end_width s k) - 1) 1 0 (length_of s (first_child s k)) rise r (omega arith) (omega arith);
  rise = λ q r before lt.
      let h : run_end_at s k q + 1 ≤ run_end_at s k r = rises_apart 1 (run_end_at s k) (sign_bit (run_end_width s k) - 1) 1 0 (length_of s (first_child s k)) rise q r (omega arith) before (omega arith) in
      omega arith;
  small = λ r lt. rises_top 1 (run_end_at s k) (sign_bit (run_end_width s k) - 1) 1 0 (length_of s (first_child s k)) rise r (omega arith) (omega arith);
  last = last_run s k short;
  none = no_run s k short;
  run = run_found s k short;
  value = λ j lt. rw (← same) (run_found s k short j lt);
  above = λ j lt. run_above s k short j lt;
}

rows : (s : List ℕ) (k : ℕ) → fault18 s k ≡ false → Children s k → NodeRows s k
unfolding fault18 dense_row_fault sparse_row_fault key_row_fault view_row_fault
rows s k e c = record {
  dense = λ l i lt. id_known s k _ (or_left _ _ (any_below (dense_row_fault s k) _ (rw l at e) i lt));
  dense_offset = λ l i lt. dense_inside s k _ (or_right (id_unknown s k (offset_of s k + i)) _ (any_below (dense_row_fault s k) _ (rw l at e) i lt));
  sparse = λ l i lt. id_known s k _ (any_below (sparse_row_fault s k) _ (rw l at e) i lt);
  key = λ l i lt set. key_inside s k _ (and_fails (valid s k i) _ (any_below (key_row_fault s k) _ (rw l at e) i lt) set);
  view = λ l i lt set. view_inside s k _ (and_fails (valid s k i) _ (any_below (view_row_fault s k) _ (rw l at e) i lt) set);
  runs = λ l.
      let h : (run_ends_rise s k ≡ true) × (last_end_below s k ≡ false) = simp (l, facts) at e in
      runs_cover s k h.0 h.1 (c.runs l);
}

texts : (s : List ℕ) (k : ℕ) → fault19 s k ≡ false → Texts s k
unfolding fault19 text_row_fault
texts s k e = record {
  formed = λ text i lt set. simp facts at (and_fails (valid s k i) _ (any_below (text_row_fault s k) _ (and_fails (is_text (code_of s k)) _ e text) i lt) set);
}

-- What the numbers below one give: of the whole image, and of node k.
pub tables : {number : ℕ} {s : List ℕ} → NoneBelow number s → Tables s
unfolding fault10
tables b =
    let h = simp facts at b.image in
    record { header = omega arith; size = omega arith; some_nodes = omega arith; few_nodes = omega arith; few_buffers = omega arith; inside = omega arith }

module _ {number : ℕ} {s : List ℕ} (b : NoneBelow number s) where
  child_sum : 12 < number → child_start s (node_count s) ≡ node_count s
  unfolding fault
  child_sum lt = child_total s (b.nodes 12 (omega arith) lt 0 (omega (arith, (tables b).some_nodes)))

  buffer_sum : 14 < number → buffer_start s (node_count s) ≡ buffer_total s
  unfolding fault
  buffer_sum lt = buffers_total s (b.nodes 14 (omega arith) lt 0 (omega (arith, (tables b).some_nodes)))

  module _ (k : ℕ) (node : k < node_count s) where
    after_11 : 11 < number → Known s k
    unfolding fault
    after_11 lt = known s k (b.nodes 11 (omega arith) lt k node)

    pub after_12 : 12 < number → Tree s k
    unfolding fault
    after_12 lt = tree s k (b.nodes 12 (omega arith) lt k node) node (child_sum lt)

    after_13 : 13 < number → Named s k
    unfolding fault
    after_13 lt = named s k (b.nodes 13 (omega arith) lt k node)

    pub after_14 : 14 < number → Buffers s k
    unfolding fault
    after_14 lt = buffers s k (b.nodes 14 (omega arith) lt k node) node (buffer_sum lt)

    pub after_15 : 15 < number → Enough s k
    unfolding fault
    after_15 lt = enough s k (b.nodes 15 (omega arith) lt k node)

    after_16 : 16 < number → Children s k
    unfolding fault
    after_16 lt = children s k (b.nodes 16 (omega arith) lt k node)

    pub after_17 : 17 < number → Places s k
    unfolding fault
    after_17 lt = places s k (b.nodes 17 (omega arith) lt k node)

    pub after_18 : 18 < number → NodeRows s k
    unfolding fault
    after_18 lt = rows s k (b.nodes 18 (omega arith) lt k node) (after_16 (omega arith))

    after_19 : 19 < number → Texts s k
    unfolding fault
    after_19 lt = texts s k (b.nodes 19 (omega arith) lt k node)

pub accepted : (s : List ℕ) → check_image s ≡ Ok tt → AcceptedImage s
accepted s accepts =
    let none = accepted_none s accepts in
    record {
      tables = tables none;
      child_total = child_sum none (omega arith);
      buffers_total = buffer_sum none (omega arith);
      node = λ k node. record {
        known = after_11 none k node (omega arith);
        widths = widths s k;
        tree = after_12 none k node (omega arith);
        named = after_13 none k node (omega arith);
        buffers = after_14 none k node (omega arith);
        enough = after_15 none k node (omega arith);
        children = after_16 none k node (omega arith);
        places = after_17 none k node (omega arith);
        rows = after_18 none k node (omega arith);
        texts = after_19 none k node (omega arith);
      };
    }
