-- The text of the row is well-formed exactly where its bytes are.
-- It goes from its own start up to the next.
use mathlib.Core.Path.{ap, ◌∙◌}
use Prim.Native.Nat.{◌≤◌}
use Rattle.image.specs.Utf8.{well_formed}
use Rattle.image.proofs.Slices.{bytes_taken}
use Rattle.validate.proofs.TextRows.{few_rows, starts_apart, offset_text}
use native.Mathlib.Omega.{arith}
use Rattle.validate.proofs.texts.Texts.is_formed.Goals as goal

pub overflow_add-i : goal.overflow_add-i
overflow_add-i c = omega (arith, c.requires, few_rows c.args.self.texts.text)

pub slice_bounds-is_utf8-count : goal.slice_bounds-is_utf8-count
slice_bounds-is_utf8-count c = rw (c.text_start.ensures.value, c.text_start-2.ensures.value) (starts_apart c.args.self.texts _ c.requires)

pub slice_bounds-is_utf8-start : goal.slice_bounds-is_utf8-start
slice_bounds-is_utf8-start c = rw (c.text_start.ensures.value, c.text_start-2.ensures.value) (starts_apart c.args.self.texts _ c.requires)

pub returns : goal.returns
returns c =
    let apart : c.text_start.result ≤ c.text_start-2.result = rw (c.text_start.ensures.value, c.text_start-2.ensures.value) (starts_apart c.args.self.texts _ c.requires) in
    c.is_utf8.ensures ∙ ap well_formed (bytes_taken c.args.self.node.image.now c.text_start.result _ (omega (arith, c.text_start-2.ensures.inside, apart)) ∙ rw (c.text_start.ensures.value, c.text_start-2.ensures.value) (offset_text c.args.self.texts _ c.requires))
