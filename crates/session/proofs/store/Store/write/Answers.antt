-- Rows of a side written: 42 where it is open, else the reply to the write, and the output that it leaves.
-- By whether it is closed, from what the calls give.
use Rattle.std.proofs.lemmas.Result.{err_from_is_err_and}
use Rattle.session.specs.Steps.{write_reply, write_out}
use Rattle.session.specs.Stores.{side_of_store}
use Rattle.session.proofs.Sides.{is_open, is_closed}
use mathlib.Core.Path.{◌∙◌, refl}
use Rattle.session.proofs.store.Store.write.Goals as goal

pub returns-in_err-accepted : goal.returns-in_err-accepted
unfolding write_reply write_out
returns-in_err-accepted c =
    let p = err_from_is_err_and c.from_residual.result c.from_residual.ensures.1 in
    let lent = is_open _ (side_of_store c.args.self.now) c.accepted.ensures c.in_err-accepted.was in
    rw (p.1, p.2, lent.0, lent.1) (record { value = refl; out_after = refl })

pub returns : goal.returns
unfolding write_reply write_out
returns c =
    let closed = is_closed _ (side_of_store c.args.self.now) c.accepted.ensures c.in_ok-accepted.was in
    record {
      value = c.written_reply.ensures ∙ rw (c.write.ensures.value, closed.0, closed.1);
      out_after = c.write.ensures.out_after ∙ rw (closed.0, closed.1);
    }
