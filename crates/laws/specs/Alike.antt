-- Nodes of two images that are alike: what agreement of their types says of all that their rows hang on.
use Rattle.std.specs.Prelude.{◌≡◌, true, List, ℕ, zero, suc, ◌+◌, ◌<◌}
use Rattle.image.specs.Record.{code_of, id_of, p1_of, first_child, child_count}
use Rattle.image.specs.TypeCode.{is_union}

-- What two nodes have in common: their codes, parameters and child counts, and of unions the children's ids.
pub record Heads (a b : List ℕ) (k l : ℕ) : Type 0 where
  pub code : code_of a k ≡ code_of b l
  pub p1 : p1_of a k ≡ p1_of b l
  pub count : child_count a k ≡ child_count b l
  pub ids : is_union (code_of a k) ≡ true → (c : ℕ) → c < child_count a k → id_of a (first_child a k + c) ≡ id_of b (first_child b l + c)

-- Two nodes have their heads in common, and so have their children in turn, down to a depth.
abbrev pub Alike : ℕ → List ℕ → List ℕ → ℕ → ℕ → Type 0
Alike zero a b k l = Unit {0}
Alike (suc depth) a b k l = Heads a b k l × ((c : ℕ) → c < child_count a k → Alike depth a b (first_child a k + c) (first_child b l + c))
