-- What a walk over the nodes knows at a node.
use Rattle.std.specs.Prelude.{◌≡◌, Option, None, Some, List, ℕ, ◌+◌, ◌*◌, ◌≤◌, ◌<◌, suc}
use Rattle.image.specs.Reads.{Read}
use Rattle.image.specs.Record.{max_depth, node_count, child_start, buffer_start}
use Rattle.image.specs.Faults.{level_end, first_faulty}
use Rattle.validate.specs.declared.tree.Parent.{Parent}

-- the result is the sum x of k counts, each a u16
pub record Sum (x k r : ℕ) : Type 0 where
  pub value : r ≡ x
  pub small : r ≤ 1 + 65535 * k

-- the result is x, the sum of n counts, each a u16
pub record Total (x n r : ℕ) : Type 0 where
  pub value : r ≡ x
  pub small : r ≤ 65535 * n

-- whatever may be answered of a number below n is what f says of it, a u16
abbrev pub Counts : (ℕ → ℕ → Type 0) → ℕ → (ℕ → ℕ) → Type 0
Counts answers n f = (k r : ℕ) → k < n → answers k r → Read (f k) 16 r

-- the children of node p end before node e, and those of each node before p end at node k or before
pub record Passed (s : List ℕ) (k p e : ℕ) : Type 0 where
  pub ends : Sum (child_start s (p + 1)) (p + 1) e
  pub within : p ≤ k
  pub passed : (j : ℕ) → j < p → child_start s (suc j) ≤ k

-- of the nodes before node k the first whose children end past it, or k
pub record Parents (s : List ℕ) (k : ℕ) (p : Parent) : Type 0 where
  pub known : Passed s k p.node p.end
  pub reached : p.node < k → k < p.end

-- the sums before node k, its parent, and those of the whole image
pub record Walks (s : List ℕ) (k children buffers : ℕ) (parent : Parent) (all_children all_buffers shallow : ℕ) : Type 0 where
  pub children_before : Sum (child_start s k) k children
  pub buffers_before : Sum (buffer_start s k) k buffers
  pub above : Parents s k parent
  pub children_in_all : all_children ≡ child_start s (node_count s)
  pub buffers_in_all : all_buffers ≡ buffer_start s (node_count s)
  pub levels : shallow ≡ level_end s max_depth

-- the first node that has a fault of the number, or none
abbrev pub FirstFaulty : ℕ → List ℕ → Option ℕ → Type 0
FirstFaulty number s None = node_count s ≤ first_faulty number s
FirstFaulty number s (Some k) = (k ≡ first_faulty number s) × (k < node_count s)
