-- A test of two numbers, answered by the results that stand for them.
-- Each result equals its number, so the test is that of the results.
use mathlib.Core.Path.{◌≡◌, sym, ap₂, ◌∙◌}
use mathlib.Core.Bool.{true, false}
use Prim.Native.Nat.{ℕ}
use lib.Dec.{eqb}
use borrow.Author.Tests.{eq-eqb, ne_eqb}

module _ {r x q y : ℕ} (p : r ≡ x) (s : q ≡ y) where
  pub is_eq : r ≡ q → eqb x y ≡ true
  is_eq h = sym (ap₂ eqb p s) ∙ eq-eqb r q h

  pub is_ne : (r ≡ q → ⊥) → eqb x y ≡ false
  is_ne h = sym (ap₂ eqb p s) ∙ ne_eqb r q h
