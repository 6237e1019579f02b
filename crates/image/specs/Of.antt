-- What is said of a node: a definition that takes an image and a number of a node, of the node that has both.
use Rattle.std.specs.Prelude.{List, ℕ}
use Rattle.image.specs.declared.record.Node.{Node}

infixl 90 ◌of◌
abbrev pub ◌of◌ {ℓ} : {A : Type ℓ} → (List ℕ → ℕ → A) → Node → A
f of n = f n.image.now n.number
