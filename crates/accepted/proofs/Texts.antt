-- What acceptance gives of the offsets of texts: they rise, and the text ends inside the image.
-- Each is a field of acceptance, at the node of the part.
use mathlib.Core.Path.{◌≡◌}
use mathlib.Core.List.{List}
use Prim.Native.Nat.{ℕ, ◌+◌, ◌*◌, ◌≤◌}
use native.Mathlib.Omega.{arith}
use lib.ListN.{length}
use Rattle.image.specs.declared.type_code.Layout.TheVariants.{VariableSize}
use Rattle.image.specs.Record.{code_of, buffer_place, buffer_length, buffer_count}
use Rattle.image.specs.TypeCode.{layout_of}
use Rattle.image.specs.Element.{element_width, element_place, element_at}
use Rattle.laws.specs.Accepted.{OffsetsRise}
use Rattle.accepted.specs.Parts.{Part}
use Rattle.accepted.proofs.Nodes.{part_offsets}

module _ (s : List ℕ) (k i n : ℕ) (r : Part s k i n) (text : layout_of (code_of s k) ≡ VariableSize) where
  pub text_narrow : element_width s k ≤ 8
  text_narrow = (r.image.node k r.node).widths.variable_size text

  pub text_rises : OffsetsRise s k (buffer_length s k 1)
  text_rises = (r.image.node k r.node).places.variable_size text

  two_buffers : buffer_count s k ≡ 2
  two_buffers = (r.image.node k r.node).buffers.exactly 2 (rw text)

  pub text_offsets : element_place s k i + (n + 1) * element_width s k ≤ length s
  text_offsets = part_offsets r (omega (arith, two_buffers)) ((r.image.node k r.node).enough.variable_size text)

  -- the text from the offset at i up to that at i + n lies inside
  pub text_inside : buffer_place s k 1 + element_at s k (i + n) ≤ length s
  text_inside =
      let inside : buffer_place s k 1 + buffer_length s k 1 ≤ length s = (r.image.node k r.node).buffers.inside 1 (omega (arith, two_buffers)) in
      let end : element_at s k (i + n) ≤ buffer_length s k 1 = text_rises.within (i + n) r.high in
      omega arith
