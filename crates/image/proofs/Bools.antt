-- What a Boolean conjunction or disjunction says of its parts, and the other way.
-- Each is by cases.
use mathlib.Core.Path.{◌≡◌, refl, sym}
use mathlib.Core.Logic.{◌↔◌, ◌≢◌}
use mathlib.Core.Bool.{Bool, true, false, not, beq, ◌&&◌, ◌||◌}
use Prim.Native.Nat.{ℕ, ◌≤◌, ◌<◌}
use lib.Dec.{eqb, leb}
use borrow.Author.Tests.{leb-true, leb-false, eqb-true, eqb-false, not-true, not-false, le-leb, lt-leb, eq-eqb, ne_eqb}

pub and_left : (x y : Bool) → x && y ≡ true → x ≡ true
and_left true y e = refl
and_left false y e = e

pub and_right : (x y : Bool) → x && y ≡ true → y ≡ true
and_right true y e = e
and_right false true e = refl
and_right false false e = e

pub or_left : (x y : Bool) → x || y ≡ false → x ≡ false
or_left true y e = e
or_left false y e = refl

pub or_right : (x y : Bool) → x || y ≡ false → y ≡ false
or_right true true e = e
or_right true false e = refl
or_right false y e = e

pub or_none : (x : Bool) → x || false ≡ x
or_none true = refl
or_none false = refl

pub and_true : (x y : Bool) → x ≡ true → y ≡ true → x && y ≡ true
and_true true y p q = q
and_true false y p q = p

-- a conjunction that fails, one part of which holds
pub and_fails : (x y : Bool) → x && y ≡ false → x ≡ true → y ≡ false
and_fails true y e p = e
and_fails false true e p = sym p
and_fails false false e p = refl

pub fails_and : (x y : Bool) → (x ≡ true → y ≡ false) → x && y ≡ false
fails_and true y h = h refl
fails_and false y h = refl

-- that x holds if c does, as a test
pub when_true : (c x : Bool) → not c || x ≡ true → c ≡ true → x ≡ true
when_true true x e p = e
when_true false true e p = refl
when_true false false e p = p

pub true_when : (c x : Bool) → (c ≡ true → x ≡ true) → not c || x ≡ true
true_when true x h = h refl
true_when false x h = refl

-- two flags that agree
pub flags_same : (x y : Bool) → beq x y ≡ true → x ≡ y
flags_same true true e = refl
flags_same true false e = cc
flags_same false true e = cc
flags_same false false e = refl

-- two tests that hold together are the same
pub tests_same : (x y : Bool) → (x ≡ true → y ≡ true) → (y ≡ true → x ≡ true) → x ≡ y
tests_same true y to from = sym (to refl)
tests_same false true to from = from refl
tests_same false false to from = refl

-- The same as equivalences, for `simp facts at`: a test becomes what it says.
pub or_false_is : (x y : Bool) → (x || y ≡ false) ↔ ((x ≡ false) × (y ≡ false))
or_false_is x y = (λ e. (or_left x y e, or_right x y e), λ p. rw p.0 p.1)

pub and_true_is : (x y : Bool) → (x && y ≡ true) ↔ ((x ≡ true) × (y ≡ true))
and_true_is x y = (λ e. (and_left x y e, and_right x y e), λ p. and_true x y p.0 p.1)

pub and_false_is : (x y : Bool) → (x && y ≡ false) ↔ (x ≡ true → y ≡ false)
and_false_is x y = (and_fails x y, fails_and x y)

pub not_false_is : (x : Bool) → (not x ≡ false) ↔ (x ≡ true)
not_false_is x = (not-false x, λ e. rw e)

pub not_true_is : (x : Bool) → (not x ≡ true) ↔ (x ≡ false)
not_true_is x = (not-true x, λ e. rw e)

pub leb_true_is : (a b : ℕ) → (leb a b ≡ true) ↔ (a ≤ b)
leb_true_is a b = (leb-true a b, le-leb a b)

pub leb_false_is : (a b : ℕ) → (leb a b ≡ false) ↔ (b < a)
leb_false_is a b = (leb-false a b, lt-leb a b)

pub eqb_true_is : (a b : ℕ) → (eqb a b ≡ true) ↔ (a ≡ b)
eqb_true_is a b = (eqb-true a b, eq-eqb a b)

pub eqb_false_is : (a b : ℕ) → (eqb a b ≡ false) ↔ (a ≢ b)
eqb_false_is a b = (eqb-false a b, ne_eqb a b)

pub ruleset facts = (or_false_is, and_true_is, and_false_is, not_false_is, not_true_is, leb_true_is, leb_false_is, eqb_true_is, eqb_false_is)
