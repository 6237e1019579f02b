-- The children of two unions that stand at one place.
use Rattle.std.specs.Prelude.{Option, None, Some, ℕ}
use Rattle.values.specs.declared.pair.Pair.{Pair}
use Rattle.values.specs.Pair.{children}

-- those at a place among the children of each, if there is one
abbrev pub children_at : Pair → Option ℕ → Option Pair
children_at p None = None
children_at p (Some c) = Some (children p c)
