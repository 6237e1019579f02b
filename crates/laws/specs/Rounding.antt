-- What it is to be divided to the nearest, in whole numbers.
use Rattle.std.specs.Prelude.{ℕ, ◌+◌, ◌*◌, ◌≤◌, ◌<◌}

-- q is the size m divided by p "to the nearest, halves away from zero": m / p lies from q - 1/2 up to, but not at, q + 1/2
pub record Nearest (m p q : ℕ) : Type 0 where
  pub low : 2 * (p * q) ≤ 2 * m + p
  pub high : 2 * m + p < 2 * (p * q) + 2 * p
