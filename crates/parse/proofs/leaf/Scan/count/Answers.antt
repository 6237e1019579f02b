-- `count` reads the number that the first four bytes make.
use borrow.Author.Rules.{rules}
use Rattle.parse.proofs.Leaves.{count_none, count_some}
use Rattle.parse.proofs.leaf.Scan.count.Goals as goal

pub returns-in_err-bytes : goal.returns-in_err-bytes
returns-in_err-bytes c = rw c.from_residual.ensures (record { same = search rules; spans = search rules; tells = count_none _ c.in_err-bytes.ensures.cases })

pub returns : goal.returns
returns c = record { same = search rules; spans = search rules; tells = count_some _ _ _ c.in_ok-bytes.ensures.cases c.load.ensures }
