-- What the lower numbers give to 17 and 18: what their rules read lies inside the image.
-- A buffer lies inside by 14 and holds the elements of its node by 15; their width is an integer's by the code.
use mathlib.Core.Path.{◌≡◌, refl}
use mathlib.Core.Bool.{true}
use mathlib.Core.List.{List}
use Prim.Native.Nat.{ℕ, ◌+◌, ◌*◌, ◌≤◌, ◌<◌}
use native.Mathlib.Omega.{arith}
use Rattle.image.specs.declared.type_code.Layout.{Layout}
use Rattle.image.specs.declared.type_code.Layout.TheVariants.{FixedWidth, VariableSize, View, List as Lists, ListView, DenseUnion, SparseUnion, Dictionary, Runs}
use Rattle.image.specs.Ranges.{every}
use Rattle.image.specs.Reads.{is_width}
use Rattle.image.specs.Record.{node_count, code_of, p1_of, first_child, child_count, buffer_count, buffer_length, elements_of, entry_place, tables_end}
use Rattle.image.specs.TypeCode.{layout_of, entry_of, entries, width_of}
use Rattle.image.specs.Element.{element_width, child_end, run_end_width}
use Rattle.image.proofs.Widths.{codes_of, code_passes, own_width, own_width_lem, dictionary_code, integer_is_width, view_width}
use Rattle.laws.specs.Accepted.{NoneBelow, RunEnds, Buffers, Enough}
use Rattle.laws.proofs.Accepted.{tables, after_12, after_14, after_15}
use Rattle.laws.proofs.Codes.{run_end_layout}
use Rattle.validate.specs.Numbers.{Holds, EndsInside}
use Rattle.validate.specs.Views.{ViewsInside}

code_width : (l : Layout) → codes_of l (own_width is_width) ≡ true → (s : List ℕ) (k : ℕ) → layout_of (code_of s k) ≡ l → is_width (element_width s k) ≡ true
unfolding element_width
code_width l all s k e = own_width_lem is_width (code_of s k) (p1_of s k) (code_passes l (own_width is_width) all (code_of s k) e)

key_width : (s : List ℕ) (k : ℕ) → layout_of (code_of s k) ≡ Dictionary → is_width (element_width s k) ≡ true
unfolding element_width width_of
key_width s k e = rw (dictionary_code (code_of s k) e) (integer_is_width (p1_of s k))

end_width : (s : List ℕ) (k : ℕ) → is_width (run_end_width s k) ≡ true
unfolding run_end_width
end_width s k = integer_is_width (code_of s (first_child s k))

module _ {number : ℕ} {s : List ℕ} (b : NoneBelow number s) (later : 16 < number) (k : ℕ) (node : k < node_count s) where
  here : Buffers s k
  here = after_14 b k node (omega arith)

  full : Enough s k
  full = after_15 b k node (omega arith)

  holds : (j w n : ℕ) → is_width w ≡ true → j < buffer_count s k → n * w ≤ buffer_length s k j → Holds s k j w n
  holds j w n width some fits = record { width = width; inside = omega (arith, here.inside j some) }

  pub text_offsets : layout_of (code_of s k) ≡ VariableSize → Holds s k 0 (element_width s k) (elements_of s k + 1)
  unfolding every layout_of entry_of entries width_of is_width
  text_offsets l =
      let two : buffer_count s k ≡ 2 = here.exactly 2 (rw l) in
      holds 0 _ _ (code_width VariableSize refl s k l) (omega arith) (full.variable_size l)

  pub list_offsets : layout_of (code_of s k) ≡ Lists → Holds s k 0 (element_width s k) (elements_of s k + 1)
  unfolding every layout_of entry_of entries width_of is_width
  list_offsets l =
      let one : buffer_count s k ≡ 1 = here.exactly 1 (rw l) in
      holds 0 _ _ (code_width Lists refl s k l) (omega arith) (full.lists l)

  pub list_views : layout_of (code_of s k) ≡ ListView → Holds s k 0 (element_width s k) (elements_of s k) × Holds s k 1 (element_width s k) (elements_of s k)
  unfolding every layout_of entry_of entries width_of is_width
  list_views l =
      let two : buffer_count s k ≡ 2 = here.exactly 2 (rw l) in
      let width = code_width ListView refl s k l in
      (holds 0 _ _ width (omega arith) (full.list_view_offsets l), holds 1 _ _ width (omega arith) (full.list_view_sizes l))

  pub dense_rows : layout_of (code_of s k) ≡ DenseUnion → Holds s k 0 1 (elements_of s k) × Holds s k 1 4 (elements_of s k)
  unfolding is_width
  dense_rows l =
      let two : buffer_count s k ≡ 2 = here.exactly 2 (rw l) in
      (holds 0 1 _ refl (omega arith) (omega (arith, full.dense_ids l)), holds 1 4 _ refl (omega arith) (full.dense_offsets l))

  pub sparse_rows : layout_of (code_of s k) ≡ SparseUnion → Holds s k 0 1 (elements_of s k)
  unfolding is_width
  sparse_rows l =
      let one : buffer_count s k ≡ 1 = here.exactly 1 (rw l) in
      holds 0 1 _ refl (omega arith) (omega (arith, full.sparse_ids l))

  pub keys : layout_of (code_of s k) ≡ Dictionary → Holds s k 0 (element_width s k) (elements_of s k)
  keys l =
      let one : buffer_count s k ≡ 1 = here.exactly 1 (rw l) in
      holds 0 _ _ (key_width s k l) (omega arith) (full.keys l)

  pub views : layout_of (code_of s k) ≡ View → ViewsInside s k
  unfolding element_width entry_place tables_end
  views l =
      let some : 1 ≤ buffer_count s k = here.at_least 1 (rw l) in
      let wide = view_width (code_of s k) (p1_of s k) l in
      let fits : elements_of s k * 16 ≤ buffer_length s k 0 = rw wide at (full.view l) in
      record {
        wide = wide;
        views = omega (arith, here.inside 0 (omega arith));
        entries = omega (arith, (tables b).inside, here.ends);
        buffers = here.inside;
      }

module _ {number : ℕ} {s : List ℕ} (b : NoneBelow number s) (later : 16 < number) (k : ℕ) (node : k < node_count s) (l : layout_of (code_of s k) ≡ Runs) where
  pub run_ends_lem : EndsInside s k
  unfolding child_end
  run_ends_lem =
      let two : child_count s k ≡ 2 = (after_12 b k node (omega arith)).exactly 2 (rw l) in
      let ends : RunEnds s k = (after_12 b k node (omega arith)).run_ends l in
      let child : first_child s k < node_count s = omega (arith, (after_12 b k node (omega arith)).ends) in
      let fixed : layout_of (code_of s (first_child s k)) ≡ FixedWidth = run_end_layout _ ends.low ends.high in
      let one : buffer_count s (first_child s k) ≡ 1 = (after_14 b (first_child s k) child (omega arith)).exactly 1 (rw fixed) in
      holds b later (first_child s k) child 0 (run_end_width s k) _ (end_width s k) (omega arith)
      (rw ends.width ((after_15 b (first_child s k) child (omega arith)).fixed_width fixed))
