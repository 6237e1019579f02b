-- Tests, searches, sums and lists over the numbers i, i + 1, .. of a range of n numbers.
use Rattle.std.specs.Prelude.{◌≡◌, Bool, true, false, cond, ◌&&◌, ◌||◌, List, [], ◌++◌, ℕ, zero, suc, ◌+◌, ◌<◌, leb}

-- one of the n numbers from i on passes the test
unfoldable pub any : (ℕ → Bool) → ℕ → ℕ → Bool
any p i zero = false
any p i (suc n) = p i || any p (suc i) n

-- each of the n numbers from i on passes the test
unfoldable pub every : (ℕ → Bool) → ℕ → ℕ → Bool
every p i zero = true
every p i (suc n) = p i && every p (suc i) n

-- the first of the n numbers from i on that passes the test, or i + n where none does
unfoldable pub first : (ℕ → Bool) → ℕ → ℕ → ℕ
first p i zero = i
first p i (suc n) = cond (p i) i (first p (suc i) n)

-- f 0 + f 1 + .. + f (n - 1)
unfoldable pub sum_to : (ℕ → ℕ) → ℕ → ℕ
sum_to f zero = 0
sum_to f (suc n) = sum_to f n + f n

-- the n numbers f i, f (i + 1), .. lie between least and top, and each is at least step above the one before it
unfoldable pub rises : ℕ → (ℕ → ℕ) → ℕ → ℕ → ℕ → ℕ → Bool
rises step f top least i zero = true
rises step f top least i (suc n) = leb least (f i) && leb (f i) top && rises step f top (f i + step) (suc i) n

-- the pieces p i, p (i + 1), .., n of them, joined
unfoldable pub pieces : (ℕ → List ℕ) → ℕ → ℕ → List ℕ
pieces p i zero = []
pieces p i (suc n) = p i ++ pieces p (suc i) n

-- whatever may be answered of a number below n is what the test says of it
abbrev pub Tells : (ℕ → Bool → Type 0) → ℕ → (ℕ → Bool) → Type 0
Tells answers n p = (k : ℕ) (b : Bool) → k < n → answers k b → b ≡ p k
