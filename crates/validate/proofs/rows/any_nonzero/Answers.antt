-- `any_nonzero` tells whether one of a few bytes is not zero.
-- Where there are four bytes and more the callee tells; else the library, which goes over a list.
use mathlib.Core.Path.{◌∙◌}
use Rattle.validate.proofs.Padding.{bytes_nonzero}
use Rattle.validate.proofs.rows.any_nonzero.Goals as goal

pub returns : goal.returns
returns c = c.some_nonzero.ensures ∙ bytes_nonzero _
