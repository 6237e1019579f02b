-- Bytes and numbers that are read at a place of a string.
-- Where they lie inside, what follows stands behind them; where they do not, the reader fails.
use mathlib.Core.Path.{◌≡◌, refl}
use mathlib.Core.List.{List}
use Prim.Native.Nat.{ℕ, ◌+◌, ◌-◌, ◌≤◌, ◌<◌}
use native.Mathlib.Omega.{arith}
use lib.ListN.{length, drop, length-drop}
use lib.Seq.{drop-drop}
use borrow.Author.Tests.{lt-ltb, le-ltb}
use Rattle.image.specs.Bytes.{number_at, bytes_at}
use Rattle.image.specs.Parse.{failed, parsed, bytes_in, number_in}
use Rattle.image.proofs.Slices.{bytes_taken}

module _ (n at : ℕ) (b : List ℕ) where
  pub bytes_here : at + n ≤ length b → bytes_in n (drop at b) ≡ parsed (bytes_at b at n) (drop (at + n) b)
  unfolding bytes_in
  bytes_here le =
      let inside : n ≤ length (drop at b) = omega (arith, length-drop at b) in
      rw (le-ltb (length (drop at b)) n inside, bytes_taken b at n le, drop-drop n at b)

  pub bytes_short : length b - at < n → bytes_in n (drop at b) ≡ failed
  unfolding bytes_in
  bytes_short lt =
      let outside : length (drop at b) < n = omega (arith, length-drop at b) in
      rw (lt-ltb (length (drop at b)) n outside)

-- the number that a list's first bytes make
number_taken : (at : ℕ) (b : List ℕ) → number_at 4 (bytes_at b at 4) 0 ≡ number_at 4 b at
unfolding number_at bytes_at
number_taken at b = refl

module _ (at : ℕ) (b : List ℕ) where
  pub number_here : at + 4 ≤ length b → number_in (drop at b) ≡ parsed (number_at 4 b at) (drop (at + 4) b)
  unfolding number_in
  number_here le = rw (bytes_here 4 at b le, number_taken at b)

  pub number_short : length b - at < 4 → number_in (drop at b) ≡ failed
  unfolding number_in
  number_short lt = rw (bytes_short 4 at b lt)
