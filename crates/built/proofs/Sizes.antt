-- How long the nodes and the buffers of a built image are, and what its offsets are.
-- Its records and entries say how many rows a node has and how long its parts are; an offset is the sum of the spans before it.
use mathlib.Core.Path.{◌≡◌, ◌∙◌}
use mathlib.Core.Bool.{true}
use mathlib.Core.List.{List}
use Prim.Native.Nat.{ℕ, suc, ◌+◌, ◌*◌, ◌≤◌, ◌<◌}
use native.Mathlib.Nat.{add-zero}
use native.Mathlib.Omega.{arith}
use Rattle.image.specs.declared.type_code.Layout.TheVariants.{Boolean, FixedWidth, VariableSize, List as Lists}
use Rattle.image.specs.Record.{node_count, code_of, length_of, buffer_count, buffer_length}
use Rattle.image.specs.TypeCode.{layout_of}
use Rattle.image.specs.Element.{element_width, element_at}
use Rattle.image.specs.Row.{Rows}
use Rattle.image.specs.RowBytes.{count}
use Rattle.image.specs.Built.{column, span, part_length, built_image}
use Rattle.built.specs.Typed.{all_rows, is_row}
use Rattle.built.specs.Walk.{total}
use Rattle.built.proofs.Offsets.{sum_over}
use Rattle.built.proofs.TypedColumns.{node_typed}
use Rattle.built.proofs.Fields.{start_small, length_built, buffer_length_built}
use Rattle.built.proofs.Lengths.{total_sum, boolean_lengths, fixed_lengths, text_lengths, list_lengths}
use Rattle.built.proofs.Back.{Fitting, list_few, first_part, offset_built, wide_text, wide_list}

module _ (s : List ℕ) (rs : Rows) (fit : Fitting s rs) (root : all_rows (is_row 16 s 0) rs ≡ true) (k : ℕ) (node : k < node_count s) where
  pub length_is : length_of (built_image s rs) k ≡ count (column s rs k)
  length_is = length_built s rs fit.image fit.bytes fit.short k node (omega (arith, fit.few k node))

  first_length : 0 < buffer_count s k → buffer_length (built_image s rs) k 0 ≡ part_length s rs (3 * k + 1)
  first_length some = rw (add-zero (3 * k + 1)) at (buffer_length_built s rs fit.image fit.bytes fit.short k node 0 (omega arith) some)

  second_length : 1 < buffer_count s k → buffer_length (built_image s rs) k 1 ≡ part_length s rs (3 * k + 2)
  second_length some =
      let q : 3 * k + 1 + 1 ≡ 3 * k + 2 = omega arith in
      rw q at (buffer_length_built s rs fit.image fit.bytes fit.short k node 1 (omega arith) some)

  pub boolean_length : layout_of (code_of s k) ≡ Boolean → count (column s rs k) ≤ 8 * buffer_length (built_image s rs) k 0
  boolean_length l =
      let some : 0 < buffer_count s k = omega (arith, (fit.image.node k node).buffers.exactly 1 (rw l)) in
      omega (arith, first_length some, (boolean_lengths s rs k l).first)

  pub fixed_length : layout_of (code_of s k) ≡ FixedWidth → buffer_length (built_image s rs) k 0 ≡ count (column s rs k) * element_width s k
  fixed_length l =
      let some : 0 < buffer_count s k = omega (arith, (fit.image.node k node).buffers.exactly 1 (rw l)) in
      first_length some ∙ (fixed_lengths s fit.image fit.coded rs root k node l).first

  pub text_offsets : layout_of (code_of s k) ≡ VariableSize → buffer_length (built_image s rs) k 0 ≡ suc (count (column s rs k)) * element_width s k
  text_offsets l =
      let two : buffer_count s k ≡ 2 = (fit.image.node k node).buffers.exactly 2 (rw l) in
      first_length (omega arith) ∙ (text_lengths s fit.image fit.coded rs root k node l).first

  pub text_length : layout_of (code_of s k) ≡ VariableSize → buffer_length (built_image s rs) k 1 ≡ total (column s rs k)
  text_length l =
      let two : buffer_count s k ≡ 2 = (fit.image.node k node).buffers.exactly 2 (rw l) in
      second_length (omega arith) ∙ (text_lengths s fit.image fit.coded rs root k node l).second

  pub list_offsets : layout_of (code_of s k) ≡ Lists → buffer_length (built_image s rs) k 0 ≡ suc (count (column s rs k)) * element_width s k
  list_offsets l =
      let one : buffer_count s k ≡ 1 = (fit.image.node k node).buffers.exactly 1 (rw l) in
      first_length (omega arith) ∙ (list_lengths s rs k l).first

  pub text_offset : layout_of (code_of s k) ≡ VariableSize → (j : ℕ) → j ≤ count (column s rs k) → element_at (built_image s rs) k j ≡ sum_over span (column s rs k) j
  text_offset l j le =
      let two : buffer_count s k ≡ 2 = (fit.image.node k node).buffers.exactly 2 (rw l) in
      let few : sum_over span (column s rs k) (count (column s rs k)) < 4294967296 =
      omega (arith, total_sum (column s rs k), (text_lengths s fit.image fit.coded rs root k node l).second, start_small s rs fit.image fit.bytes fit.short (3 * k + 2) (omega arith)) in
      offset_built s rs fit k node (first_part s rs fit k node VariableSize l) (omega arith) (wide_text s k l) few j le

  pub list_offset : layout_of (code_of s k) ≡ Lists → (j : ℕ) → j ≤ count (column s rs k) → element_at (built_image s rs) k j ≡ sum_over span (column s rs k) j
  list_offset l j le =
      let one : buffer_count s k ≡ 1 = (fit.image.node k node).buffers.exactly 1 (rw l) in
      let t = node_typed s fit.image fit.coded rs root k node in
      let few = list_few s rs fit t.left k node t.typed l in
      offset_built s rs fit k node (first_part s rs fit k node Lists l) (omega arith) (wide_list s k l) few j le
