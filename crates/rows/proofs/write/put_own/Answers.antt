-- `put_own` puts what a value has before its child rows.
-- Three pieces, one after the other.
use mathlib.Core.Path.{◌∙◌}
use native.Mathlib.Omega.{arith}
use Rattle.rows.proofs.Over.{own_fits, own_put, number_at}
use Rattle.rows.proofs.write.put_own.Goals as goal

pub put_number-requires : goal.put_number-requires
put_number-requires c = omega (arith, own_fits _ c.requires)

pub put_number-requires-2 : goal.put_number-requires-2
put_number-requires-2 c = omega (arith, own_fits _ c.requires, number_at _ _ c.put_number.ensures)

pub put_bytes-requires : goal.put_bytes-requires
put_bytes-requires c = omega (arith, own_fits _ c.requires, number_at _ _ c.put_number.ensures, number_at _ _ c.put_number-2.ensures)

pub returns : goal.returns
returns c =
    let p = c.put_bytes.ensures in
    let mark = rw c.from.ensures at c.put_number.ensures in
    let both = own_put _ c.requires (mark.at, mark.bytes) (c.put_number-2.ensures.at, c.put_number-2.ensures.bytes) (p.at, p.bytes) in
    record { lent = p.lent ∙ c.put_number-2.ensures.lent ∙ c.put_number.ensures.lent; long = p.long ∙ c.put_number-2.ensures.long ∙ c.put_number.ensures.long; at = both.0; bytes = both.1 }
