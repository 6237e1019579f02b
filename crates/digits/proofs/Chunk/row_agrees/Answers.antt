-- `row_agrees` compares a row of each column.
-- Numbers that are the same agree, and so do nulls; of others the stored numbers decide.
use mathlib.Core.Path.{sym, ◌∙◌}
use Rattle.accepted.proofs.Nodes.{side_small}
use Rattle.digits.proofs.Agreeing.{mask_of, nulls_agree, same_agree, narrow, left_room, right_room, read_agree}
use native.Mathlib.Omega.{arith}
use Rattle.digits.proofs.Chunk.row_agrees.Goals as goal

pub overflow_add-i : goal.overflow_add-i
overflow_add-i g c = omega (arith, c.requires.some, side_small _ _ _ _ c.args.self.numbers.numbers.rows.left)

pub overflow_add-j : goal.overflow_add-j
overflow_add-j g c = omega (arith, c.requires.some, side_small _ _ _ _ c.args.self.numbers.numbers.rows.right)

pub load-x-requires : goal.load-x-requires
load-x-requires g c = (narrow c.args.self.numbers c.args.self.read c.requires.width c.requires.some, left_room c.args.self.numbers c.args.self.read c.requires.width c.requires.some)

pub load-y-requires : goal.load-y-requires
load-y-requires g c = (narrow c.args.self.numbers c.args.self.read c.requires.width c.requires.some, right_room c.args.self.numbers c.args.self.read c.requires.width c.requires.some)

pub returns-then-x-y : goal.returns-then-x-y
returns-then-x-y g c = same_agree c.args.self.numbers c.args.self.read c.requires.width c.requires.some c.load-x.ensures c.load-y.ensures _ c.if-x-y.true

pub is_kept-requires : goal.is_kept-requires
is_kept-requires g c = (rw c.args.self.numbers.left_root (mask_of _ c.args.self.read.mask), omega (arith, c.requires.some, side_small _ _ _ _ c.args.self.numbers.numbers.rows.left))

pub returns-then-not-is_kept : goal.returns-then-not-is_kept
returns-then-not-is_kept g c = nulls_agree c.args.self.numbers c.args.self.read c.requires.width c.requires.some _ (sym (rw c.args.self.numbers.left_root at c.is_kept.ensures) ∙ c.if-not-is_kept.true)

pub returns : goal.returns
returns g c = read_agree c.args.self.numbers c.args.self.read c.requires.width c.requires.some c.load-x.ensures c.load-y.ensures _ (sym (rw c.args.self.numbers.left_root at c.is_kept.ensures) ∙ c.if-not-is_kept.false) c.numbers_agree.ensures

pub overflow_mul-i : goal.overflow_mul-i
overflow_mul-i g c = omega (arith, left_room c.args.self.numbers c.args.self.read c.requires.width c.requires.some, c.ranges)

pub overflow_add-self : goal.overflow_add-self
overflow_add-self g c = omega (arith, left_room c.args.self.numbers c.args.self.read c.requires.width c.requires.some, c.ranges)

pub overflow_mul-j : goal.overflow_mul-j
overflow_mul-j g c = omega (arith, right_room c.args.self.numbers c.args.self.read c.requires.width c.requires.some, c.ranges)

pub overflow_add-self-2 : goal.overflow_add-self-2
overflow_add-self-2 g c = omega (arith, right_room c.args.self.numbers c.args.self.read c.requires.width c.requires.some, c.ranges)
