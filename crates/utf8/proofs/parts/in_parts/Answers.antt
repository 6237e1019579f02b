-- `utf8::parts::in_parts` meets its contract: the text is cut near its quarters, where no tail stands.
-- Assumes nothing.
use mathlib.Core.Path.{◌∙◌}
use native.Mathlib.Omega.{arith}
use Rattle.utf8.proofs.Walks.{cut_ends, none_holds}
use Rattle.utf8.proofs.parts.in_parts.Goals as goal

pub returns : goal.returns
returns c =
    let tails = none_holds c.is_tail.ensures c.is_tail-2.ensures c.is_tail-3.ensures c.if-is_tail.false in
    c.all_end.ensures
    ∙ cut_ends _ _ _ _ (omega arith) (omega arith) (omega arith) (λ lt. tails.0) (λ lt. tails.1) (λ lt. tails.2)
    c.start.ensures c.start-2.ensures c.start-3.ensures c.start-4.ensures
