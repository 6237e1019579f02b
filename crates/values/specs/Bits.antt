-- Bits as a number, and runs of bits.
use Rattle.std.specs.Prelude.{◌≡◌, Bool, true, false, cond, List, ℕ, zero, suc, ◌+◌, ◌*◌, ◌/◌, ◌%◌, ◌^◌, ◌≤◌, ◌<◌}
use Rattle.image.specs.Bytes.{bit_at}

-- the n bits from bit i on, of the bits that start at a place, as a number, the first bit lowest
unfoldable pub bits_at : List ℕ → ℕ → ℕ → ℕ → ℕ
bits_at s p i zero = 0
bits_at s p i (suc n) = cond (bit_at s p i) 1 0 + 2 * bits_at s p (suc i) n

-- the 64 bits from bit r on of the number that eight bytes and the one after them make
unfoldable pub joined : ℕ → ℕ → ℕ → ℕ
joined low next r = (low + 18446744073709551616 * next) / 2 ^ r % 2 ^ 64

-- of n tests from i on, the first r hold, and where r is below n the next fails
pub record Leading (test : ℕ → Bool) (i n r : ℕ) : Type 0 where
  pub within : r ≤ n
  pub holds : (k : ℕ) → k < r → test (i + k) ≡ true
  pub stops : r < n → test (i + r) ≡ false
