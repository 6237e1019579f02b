-- A name beside other bytes: of another length they are not the same; of one length they are where each byte is.
-- By induction over the lengths; a name is the bytes at its place.
use mathlib.Core.Path.{◌≡◌, refl, sym, ap, ap₂, ◌∙◌}
use mathlib.Core.Bool.{Bool, false, ◌&&◌}
use mathlib.Core.List.{List}
use Prim.Native.Nat.{ℕ, zero, suc, ◌+◌}
use native.Mathlib.Omega.{arith}
use lib.Dec.{eqb}
use Rattle.image.specs.Ranges.{every}
use Rattle.image.specs.Bytes.{byte_at, bytes_at}
use Rattle.image.specs.Record.{name_length, name_place}
use Rattle.image.specs.Types.{same_bytes, name_of}
use Rattle.image.proofs.Bools.{fails_and}

-- the bytes numbered k from two places on are the same
abbrev pub same_at : List ℕ → List ℕ → ℕ → ℕ → ℕ → Bool
same_at a b p q k = eqb (byte_at a (p + k)) (byte_at b (q + k))

pub other_length : (a b : List ℕ) (i j m n : ℕ) → (m ≡ n → ⊥) → same_bytes (bytes_at a i m) (bytes_at b j n) ≡ false
unfolding bytes_at same_bytes
other_length a b i j zero zero h = absurd (h refl)
other_length a b i j zero (suc n) h = refl
other_length a b i j (suc m) zero h = refl
other_length a b i j (suc m) (suc n) h = fails_and (eqb (byte_at a i) (byte_at b j)) _ (λ e. other_length a b (suc i) (suc j) m n (λ p. h (ap suc p)))

by_bytes : (a b : List ℕ) (p q k n : ℕ) → every (same_at a b p q) k n ≡ same_bytes (bytes_at a (p + k) n) (bytes_at b (q + k) n)
unfolding bytes_at same_bytes every
by_bytes a b p q k zero = refl
by_bytes a b p q k (suc n) =
    let x : p + suc k ≡ suc (p + k) = omega arith in
    let y : q + suc k ≡ suc (q + k) = omega arith in
    ap (λ (r : Bool). same_at a b p q k && r) (by_bytes a b p q (suc k) n ∙ rw (x, y))

module _ (a b : List ℕ) (k q m n : ℕ) (size : m ≡ name_length a k) where
  pub name_differs : (m ≡ n → ⊥) → false ≡ same_bytes (name_of a k) (bytes_at b q n)
  unfolding name_of
  name_differs h = sym (other_length a b (name_place a k) q (name_length a k) n (λ e. h (size ∙ e)))

  pub name_bytes : (p : ℕ) → m ≡ n → p ≡ name_place a k → every (same_at a b p q) 0 n ≡ same_bytes (name_of a k) (bytes_at b q n)
  unfolding name_of
  name_bytes p e ep =
      let x : p + 0 ≡ name_place a k = omega (arith, ep) in
      let y : q + 0 ≡ q = omega arith in
      by_bytes a b p q 0 n ∙ ap₂ same_bytes (ap₂ (bytes_at a) x (sym e ∙ size)) (ap (λ (j : ℕ). bytes_at b j n) y)
