-- `text_start` gives where a row's text starts.
-- The offset is read inside the buffer, and by the lower numbers the text starts inside the image.
use Rattle.validate.proofs.TextRows.{small_image, offset_inside, start_read, start_inside}
use native.Mathlib.Omega.{arith}
use Rattle.validate.proofs.texts.Texts.text_start.Goals as goal

pub inside-requires : goal.inside-requires
inside-requires c = offset_inside c.args.self.texts c.args.self.read _ c.requires

pub overflow_add-result : goal.overflow_add-result
overflow_add-result c = omega (arith, start_read c.args.self.texts c.args.self.read _ c.inside.ensures.value, start_inside c.args.self.texts _ c.requires, small_image c.args.self.texts.text)

pub returns-clause-value : goal.returns-clause-value
returns-clause-value c = start_read c.args.self.texts c.args.self.read _ c.inside.ensures.value

pub returns-clause-inside : goal.returns-clause-inside
returns-clause-inside c = omega (arith, start_read c.args.self.texts c.args.self.read _ c.inside.ensures.value, start_inside c.args.self.texts _ c.requires)
