-- Walks through a text, side by side.
use Rattle.std.specs.Prelude.{◌≡◌, Bool, not, ◌&&◌, List, ℕ, ◌≤◌, eqb, length, take, drop}
use Rattle.std.specs.List.{list_all, list_any}
use Rattle.image.specs.Utf8.{walk}
use Rattle.utf8.specs.declared.walk.Walk.{Walk}
use Rattle.utf8.specs.Ascii.{any_high}

-- a walk that is at a text's first byte
pub record Begun (s : List ℕ) (w : Walk) : Type 0 where
  pub left : w.left.now ≡ s
  pub state : w.state ≡ 0

-- the walk of what is left ends between characters
unfoldable pub ends_well : Walk → Bool
ends_well w = eqb (walk w.state w.left.now) 0

-- n bytes at least are left
pub record Left (n : ℕ) (w : Walk) : Type 0 where
  pub room : n ≤ length w.left.now

-- a walk, and the same n bytes further
pub record Further (n : ℕ) (w r : Walk) : Type 0 where
  pub left : r.left.now ≡ drop n w.left.now
  pub same : ends_well r ≡ ends_well w

-- a walk, and the same n bytes further, in the same state
pub record Passed (n : ℕ) (w r : Walk) : Type 0 where
  pub left : r.left.now ≡ drop n w.left.now
  pub state : r.state ≡ w.state

-- a walk is between characters; one of its next n bytes is above 7F; it is ill-formed for ever
abbrev pub between : Walk → Bool
between w = eqb w.state 0

abbrev pub high_ahead : ℕ → Walk → Bool
high_ahead n w = any_high (take n w.left.now)

abbrev pub ill : Walk → Bool
ill w = eqb w.state 8

-- walks are between characters, and none of their next n bytes is above 7F
unfoldable pub plain : ℕ → List Walk → Bool
plain n ws = list_all between ws && not (list_any (high_ahead n) ws)
