-- `rows_agree` compares row by row.
-- The loop keeps that what is left to look at gives the answer; the measure is how much is left.
use Rattle.image.specs.Digits.{kept_agree}
use Rattle.values.proofs.Steps.{Left}
use Rattle.digits.proofs.Chunk.rows_agree.Given as goal

abbrev pub invariant-loop-k : goal.invariant-loop-k
invariant-loop-k g l = Left (kept_agree l.power.value l.self.pair.left.image.now l.self.pair.right.image.now) l.self.rows.left l.self.rows.right l.self.rows.count l.k
