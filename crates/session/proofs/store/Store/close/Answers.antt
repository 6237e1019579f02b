-- A close answers 41 for a closed side, and else what the check of its image says.
-- By the ways of the test and the check's variants.
use Rattle.session.proofs.Sides.{close_accepts, close_refuses}
use Rattle.session.specs.Steps.{SideState, side_stepped, close_side}
use Rattle.session.specs.declared.reply.Refusal.TheVariants.{Faulty}
use Rattle.std.proofs.Common.{Err}
use Rattle.session.specs.Stores.{side_of_store}
use mathlib.Core.Path.{refl, ap, ◌∙◌}
use Rattle.session.proofs.store.Store.close.Goals as goal

pub returns-then-self : goal.returns-then-self
unfolding close_side
returns-then-self c = record { side_after = rw c.if-self.true; bytes_after = refl }

pub returns-in-Ok : goal.returns-in-Ok
returns-in-Ok c = record { side_after = close_accepts _ (side_of_store c.args.self.now) _ c.image.ensures _ c.if-self.false c.check.ensures c.in-Ok.is; bytes_after = refl }

pub returns-in-Err : goal.returns-in-Err
returns-in-Err c =
    record {
      side_after = ap (λ (now : SideState). side_stepped now (Err (Faulty c.in-Err.fault))) c.empty.ensures.side_after ∙ close_refuses _ (side_of_store c.args.self.now) _ c.image.ensures _ _ c.if-self.false c.check.ensures c.in-Err.is;
      bytes_after = c.empty.ensures.bytes_after;
    }
