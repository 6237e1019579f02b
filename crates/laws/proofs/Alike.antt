-- Images whose types agree have roots that are alike down to the greatest depth, and nodes that are alike have elements of one width.
-- By the levels of the agreement of types.
use mathlib.Core.Path.{◌≡◌}
use mathlib.Core.Bool.{Bool, true, false}
use mathlib.Core.List.{List}
use Prim.Native.Nat.{ℕ, zero, suc, ◌+◌}
use Rattle.image.specs.Record.{max_depth, code_of, p1_of, first_child}
use Rattle.image.specs.Element.{element_width}
use Rattle.image.specs.Types.{counted_for, types_agree_at, types_agree}
use Rattle.laws.specs.Alike.{Heads, Alike}
use Rattle.laws.proofs.TypeLaws.{Level, level}

-- a level of the agreement of types: the heads, and under a union the ids, which count whatever the node is
heads : (d : ℕ) (p : Bool) (a b : List ℕ) (k l : ℕ) → Level d p a b k l → Heads a b k l
unfolding counted_for
heads d p a b k l e = record {
  code = e.heads.code;
  p1 = e.heads.p1;
  count = e.heads.children;
  ids = λ union c lt. (e.labels c lt).id union;
}

at_alike : (d : ℕ) (p : Bool) (a b : List ℕ) (k l : ℕ) → types_agree_at d p a b k l ≡ true → Alike d a b k l
at_alike zero p a b k l e = tt
at_alike (suc d) p a b k l e =
    let here = level d p a b k l e in
    (heads d p a b k l here, λ c lt. at_alike d _ a b (first_child a k + c) (first_child b l + c) (here.types c lt))

-- images whose types agree
pub types_alike : (a b : List ℕ) → types_agree a b ≡ true → Alike max_depth a b 0 0
unfolding types_agree
types_alike a b e = at_alike max_depth false a b 0 0 e

-- nodes of one code and p1 have elements of one width
pub same_width : (a b : List ℕ) (k l : ℕ) → code_of a k ≡ code_of b l → p1_of a k ≡ p1_of b l → element_width a k ≡ element_width b l
unfolding element_width
same_width a b k l code p1 = rw (code, p1)
