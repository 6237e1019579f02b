-- `key_limit` gives the first key outside: that past the rows, or the first negative one where it is lower.
-- Of two tests "at least" the one with the lower bound decides.
use mathlib.Core.Path.{◌≡◌, refl, sym}
use mathlib.Core.Bool.{Bool, true, false, ◌||◌}
use mathlib.Core.List.{List}
use Prim.Native.Nat.{ℕ, ◌<◌, ◌≤◌, min}
use native.Mathlib.Nat.{add-zero}
use lib.Dec.{leb}
use borrow.Author.Tests.{leb-true, leb-false, le-leb, lt-leb}
use Rattle.image.specs.Record.{p1_of, length_of, first_child}
use Rattle.image.specs.TypeCode.{key_signed, sign_bit}
use Rattle.image.specs.Element.{element_width}
use Rattle.image.specs.Faults.{key_outside}
use Rattle.validate.specs.Numbers.{KeyLimit}
use native.Mathlib.Omega.{arith}
use Rattle.validate.proofs.rows.key_limit.Goals as goal

or-false : (b : Bool) → b || false ≡ b
or-false true = refl
or-false false = refl

first-lower : (a b x : ℕ) → a ≤ b → leb a x || leb b x ≡ leb a x
first-lower a b x le = cases (leb a x) refl
  where
    cases : (t : Bool) → leb a x ≡ t → t || leb b x ≡ t
    cases true e = refl
    cases false e =
        let h : x < a = leb-false a x e in
        lt-leb b x (omega arith)

second-lower : (a b x : ℕ) → b ≤ a → leb a x || leb b x ≡ leb b x
second-lower a b x le = cases (leb a x) refl
  where
    cases : (t : Bool) → leb a x ≡ t → t || leb b x ≡ leb b x
    cases true e =
        let h : a ≤ x = leb-true a x e in
        sym (le-leb b x (omega arith))
    cases false e = refl

module _ (s : List ℕ) (k child rows p : ℕ) (signed : Bool) (node : child ≡ first_child s k) (count : rows ≡ length_of s child) (key : p ≡ p1_of s k) (test : signed ≡ key_signed p) where
  unsigned : signed ≡ false → KeyLimit s k rows
  unfolding key_outside
  unsigned e = record { outside = λ j. rw (← node, ← count, ← key, ← test, e) (or-false _) }

  module _ (negative : signed ≡ true) (w sign : ℕ) (width : w ≡ element_width s k) (bit : sign ≡ sign_bit w) where
    low-sign : sign ≤ rows → KeyLimit s k sign
    unfolding key_outside
    low-sign le = record { outside = λ j. rw (← node, ← count, ← key, ← test, negative, ← width, ← bit) (second-lower rows sign _ le) }

    low_rows : rows ≤ sign → KeyLimit s k rows
    unfolding key_outside
    low_rows le = record { outside = λ j. rw (← node, ← count, ← key, ← test, negative, ← width, ← bit) (first-lower rows sign _ le) }

    lower : {r : ℕ} → r ≡ min rows sign → KeyLimit s k r
    lower {r} e = cases (leb rows sign) refl
      where
        cases : (b : Bool) → leb rows sign ≡ b → KeyLimit s k r
        cases true h =
            let le : rows ≤ sign = leb-true rows sign h in
            let q : r ≡ rows = omega (arith, e) in
            rw q (low_rows le)
        cases false h =
            let lt : sign < rows = leb-false rows sign h in
            let q : r ≡ sign = omega (arith, e) in
            rw q (low-sign (omega arith))

pub returns-then-not-key_signed : goal.returns-then-not-key_signed
returns-then-not-key_signed c =
    let rows = rw c.child.ensures.image at c.length-rows.ensures.value in
    unsigned _ _ _ _ _ _ (rw add-zero at c.child.ensures.number) rows c.p1.ensures.value c.key_signed.ensures c.if-not-key_signed.true

pub returns : goal.returns
returns c =
    let rows = rw c.child.ensures.image at c.length-rows.ensures.value in
    lower _ _ _ _ _ _ (rw add-zero at c.child.ensures.number) rows c.p1.ensures.value c.key_signed.ensures c.if-not-key_signed.false _ _ c.requires.0 c.sign_bit-sign.ensures c.min.ensures
