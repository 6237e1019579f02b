-- `bytes` reads w bytes, where there are so many.
use borrow.Author.Rules.{rules}
use Rattle.parse.proofs.Leaves.{bytes_stop, bytes_go}
use Rattle.parse.proofs.leaf.Scan.bytes.Goals as goal

pub returns-in_err-rest : goal.returns-in_err-rest
returns-in_err-rest c = rw c.from_residual.ensures (record { same = search rules; scans = bytes_stop _ _ c.in_err-rest.ensures.cases _ })

pub returns : goal.returns
returns c = record { same = search rules; scans = bytes_go _ _ _ _ c.in_ok-rest.ensures.cases _ }
