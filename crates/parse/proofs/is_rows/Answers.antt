-- `is_rows` scans so many rows of the root.
-- They are all of the string where nothing is left of it.
use mathlib.Core.Path.{sym}
use native.Mathlib.Omega.{arith}
use Rattle.parse.proofs.Whole.{root_within, begun_first, none_answer, some_answer, whole_spans}
use Rattle.parse.proofs.is_rows.Goals as goal

pub invariant_of-scan : goal.invariant_of-scan
invariant_of-scan c = record { begun = begun_first _ _ (omega (arith, c.well_formed)) c.requires.spans }

pub rows-requires : goal.rows-requires
rows-requires c = rw (c.root-root.ensures.image, c.root-root.ensures.number) (root_within _ c.requires.accepted.0)

pub returns-in-Some-clause-value : goal.returns-in-Some-clause-value
returns-in-Some-clause-value c = rw c.is_empty.ensures (some_answer _ _ _ (rw (c.root-root.ensures.image, c.root-root.ensures.number, c.in-Some.is) at c.rows.ensures.scans))

pub returns-in-Some-clause-spanned : goal.returns-in-Some-clause-spanned
returns-in-Some-clause-spanned c = rw (c.spans-1.given.1.1 (sym c.rows.ensures.same)) (whole_spans _ _ _ (rw (c.root-root.ensures.image, c.root-root.ensures.number) at c.rows.ensures.scans) c.requires.accepted.0 c.requires.accepted.1 (λ k. omega (arith, c.type_inv.b k)) c.requires.spans)

pub returns-in-None-clause-value : goal.returns-in-None-clause-value
returns-in-None-clause-value c = none_answer _ _ _ (rw (c.root-root.ensures.image, c.root-root.ensures.number, c.in-None.is) at c.rows.ensures.scans)

pub returns-in-None-clause-spanned : goal.returns-in-None-clause-spanned
returns-in-None-clause-spanned c = rw (c.spans-in-None-1.given.1.1 (sym c.rows.ensures.same)) (whole_spans _ _ _ (rw (c.root-root.ensures.image, c.root-root.ensures.number) at c.rows.ensures.scans) c.requires.accepted.0 c.requires.accepted.1 (λ k. omega (arith, c.type_inv.b k)) c.requires.spans)
