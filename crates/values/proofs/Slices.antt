-- What `==` says of two parts of slices: that their bytes are the same.
-- A part that lies inside is the bytes from its place on.
use mathlib.Core.Path.{◌≡◌, refl, ap, ◌∙◌}
use mathlib.Core.Bool.{Bool, ◌&&◌}
use mathlib.Core.List.{List, [], ◌∷◌}
use Prim.Native.Nat.{ℕ, zero, suc, ◌+◌, ◌-◌, ◌<◌, ◌≤◌}
use native.Mathlib.Omega.{arith}
use lib.Dec.{eqb}
use lib.ListN.{length, take, drop}
use lib.Pointwise.{pointwise}
use Rattle.image.specs.Bytes.{byte_at, bytes_at}
use Rattle.image.specs.Types.{same_bytes}
use Rattle.image.proofs.Slices.{sliced}
use Rattle.laws.proofs.Lengths.{bytes_length}
use Rattle.values.specs.Pairs.{all, same_byte}
use Rattle.values.proofs.Steps.{all_moved}

pub lists_same : (xs ys : List ℕ) → pointwise eqb xs ys ≡ same_bytes xs ys
unfolding same_bytes
lists_same [] [] = refl
lists_same [] (y ∷ ys) = refl
lists_same (x ∷ xs) [] = refl
lists_same (x ∷ xs) (y ∷ ys) = ap (λ (r : Bool). eqb x y && r) (lists_same xs ys)

pub parts_same : (a b : List ℕ) (i j m n : ℕ) → i + m ≤ length a → j + n ≤ length b → pointwise eqb (take (i + m - i) (drop i a)) (take (j + n - j) (drop j b)) ≡ same_bytes (bytes_at a i m) (bytes_at b j n)
parts_same a b i j m n la lb = rw (sliced a i m la, sliced b j n lb) (lists_same _ _)

-- byte h of a part
pub byte_of_part : (s : List ℕ) (i n h : ℕ) → h < n → byte_at (bytes_at s i n) h ≡ byte_at s (i + h)
unfolding bytes_at
byte_of_part s i zero h lt = absurd (omega arith)
byte_of_part s i (suc n) zero lt = let e : i + 0 ≡ i = omega arith in rw e
byte_of_part s i (suc n) (suc h) lt = let e : i + suc h ≡ suc i + h = omega arith in rw e (byte_of_part s (suc i) n h (omega arith))

-- pairs of bytes of two parts
pub part_pairs : (a b : List ℕ) (i j m g w : ℕ) → g + w ≤ m → all (same_byte (bytes_at a i m) (bytes_at b j m)) g g w ≡ all (same_byte a b) (i + g) (j + g) w
unfolding same_byte
part_pairs a b i j m g w le =
    all_moved (same_byte (bytes_at a i m) (bytes_at b j m)) (same_byte a b) g g (i + g) (j + g) w (λ h lt.
    let x : i + (g + h) ≡ i + g + h = omega arith in
    let y : j + (g + h) ≡ j + g + h = omega arith in
    rw (byte_of_part a i m (g + h) (omega arith), byte_of_part b j m (g + h) (omega arith), x, y))

pub part_length : (s : List ℕ) (i n : ℕ) → i + n ≤ length s → length (take (i + n - i) (drop i s)) ≡ n
part_length s i n le = ap length (sliced s i n le) ∙ bytes_length s i n
