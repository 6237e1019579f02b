-- Runs of two nodes that end together: their ends are the same as one block of bytes.
-- Run ends are fixed-width elements of the first child; the same bytes make the same numbers.
use mathlib.Core.Path.{◌≡◌, refl, sym, ap, ◌∙◌}
use mathlib.Core.Bool.{Bool, true}
use mathlib.Core.List.{List}
use Prim.Native.Nat.{ℕ, suc, ◌+◌, ◌-◌, ◌<◌, ◌≤◌}
use native.Mathlib.Omega.{arith}
use native.Mathlib.Nat.{le_of_suc-le-suc, lt_of_not-le}
use Rattle.image.specs.declared.type_code.Layout.TheVariants.{FixedWidth}
use Rattle.image.specs.Bytes.{number_at, bytes_at}
use Rattle.image.specs.Record.{node_count, offset_of, first_child, child_count, elements_of}
use Rattle.image.specs.TypeCode.{layout_of, entry_of, entries}
use Rattle.image.specs.Element.{element_width, element_place, run_end_at, run_at}
use Rattle.image.specs.Types.{same_bytes}
use Rattle.image.specs.Row.{fixed_row}
use Rattle.image.specs.Equality.{row_equal}
use Rattle.image.proofs.CodeTable.{agree}
use Rattle.laws.specs.Accepted.{Node, RunEnds}
use Rattle.values.specs.Pairs.{same_row, range_equal}
use Rattle.accepted.specs.Parts.{RunPart, Elements}
use Rattle.values.specs.Parts.{RunRange, SameEnds, RunParts, Together}
use Rattle.values.proofs.Steps.{by_rows, by_bytes}
use Rattle.values.proofs.Blocks.{all_at}
use Rattle.values.proofs.Spans.{number_same}
use Rattle.accepted.proofs.Nodes.{length_small, first_child_node}
use Rattle.accepted.proofs.RunEnds.{ends_before, runs_cover, runs_few}

-- integers of codes 3 to 5 have a fixed width
ends_fixed : (code : ℕ) → 3 ≤ code → code ≤ 5 → layout_of code ≡ FixedWidth
unfolding layout_of entry_of entries
ends_fixed code low high = agree layout_of (λ (c : ℕ). FixedWidth) 3 3 refl code low (omega arith)

module _ {s : List ℕ} {k i m : ℕ} (r : RunRange s k i m) where
  range_node : Node s k
  range_node = r.image.node k r.node

  ends_of : RunEnds s k
  ends_of = range_node.tree.run_ends r.runs

  ends_node : first_child s k < node_count s
  ends_node =
      let two : child_count s k ≡ 2 = range_node.tree.exactly 2 (rw r.runs) in
      first_child_node s k r.image r.node (omega arith)

  -- run ends, as elements of their node
  ends_elements : Elements s (first_child s k) (offset_of s (first_child s k) + i) m
  unfolding elements_of
  ends_elements = record { image = r.image; node = ends_node; fixed = ends_fixed _ ends_of.low ends_of.high; high = omega (arith, r.high) }

  pub ends_small : i + m ≤ 1073741824
  ends_small = omega (arith, r.high, length_small s (first_child s k) r.image ends_node)

  -- as they are read
  pub ends_read : {x : ℕ} → x ≡ first_child s k → Elements s x (offset_of s x + i) m
  ends_read ex = rw ex ends_elements

  end_is : (q : ℕ) → run_end_at s k (i + q) ≡ number_at (element_width s (first_child s k)) s (element_place s (first_child s k) (offset_of s (first_child s k) + i + q))
  unfolding run_end_at element_place
  end_is q =
      let e : offset_of s (first_child s k) + (i + q) ≡ offset_of s (first_child s k) + i + q = omega arith in
      rw (e, ends_of.width)

-- fixed-width elements that are the same, as numbers
element_number : (a b : List ℕ) (k l x y : ℕ) → element_width a k ≡ element_width b l → same_row (fixed_row a k) (fixed_row b l) x y ≡ true → number_at (element_width a k) a (element_place a k x) ≡ number_at (element_width b l) b (element_place b l y)
unfolding same_row fixed_row row_equal
element_number a b k l x y w e =
    ap (λ (z : ℕ). number_at z a (element_place a k x)) w
    ∙ number_same (element_width b l) a b (element_place a k x) (element_place b l y) (by_bytes a b (element_place a k x) (element_place b l y) (element_width b l) ∙ ap (λ (z : ℕ). same_bytes (bytes_at a (element_place a k x) z) (bytes_at b (element_place b l y) (element_width b l))) (sym w) ∙ e)

module _ {a b : List ℕ} {k l i j m : ℕ} (r : RunRange a k i m) (q : RunRange b l j m) {x y : ℕ} (ex : x ≡ first_child a k) (ey : y ≡ first_child b l) where
  pub ends_same : {u v : ℕ} {c : Bool} → u ≡ element_width a x → v ≡ element_width b y → u ≡ v
      → c ≡ range_equal (fixed_row a x) (fixed_row b y) (offset_of a x + i) (offset_of b y + j) m → c ≡ true → SameEnds a b k l i j m
  ends_same eu ev e ec t =
      let whole : range_equal (fixed_row a (first_child a k)) (fixed_row b (first_child b l)) (offset_of a (first_child a k) + i) (offset_of b (first_child b l) + j) m ≡ true =
      rw (← ex, ← ey) (sym ec ∙ t) in
      let width : element_width a (first_child a k) ≡ element_width b (first_child b l) = rw (← ex, ← ey) (sym eu ∙ e ∙ ev) in
      record {
        same = λ h lt.
            end_is r h
            ∙ element_number a b _ _ _ _ width (all_at (same_row (fixed_row a (first_child a k)) (fixed_row b (first_child b l))) _ _ m (by_rows _ _ _ _ m ∙ whole) h lt)
            ∙ sym (end_is q h);
      }

-- a later element's run is no earlier
run_order : (s : List ℕ) (k x y : ℕ) → RunPart s k y → x ≤ y → run_at s k x ≤ run_at s k y
run_order s k x y r le = le_of_suc-le-suc (lt_of_not-le (λ (past : suc (run_at s k y) ≤ run_at s k x). omega (arith, ends_before s k x (run_at s k y) past, (runs_cover r).above y r.element)))

-- elements are few
pub element_small : {s : List ℕ} {k j : ℕ} → RunPart s k j → j < 1073741824
element_small {s} {k} r = omega (arith, r.element, (r.image.node k r.node).buffers.small)

module _ {a b : List ℕ} {k l s t n i j : ℕ} (r : RunParts a b k l s t n i j) {x : ℕ} (ex : x ≡ run_at a k (s + (n - 1))) where
  -- the first run is not past the last
  pub left_order : i ≤ x
  left_order = rw (ex, r.left_first) (run_order a k s (s + (n - 1)) r.left (omega arith))

  pub left_range : RunRange a k i (x - i)
  left_range = record { image = r.left.image; node = r.left.node; runs = r.left.runs; high = omega (arith, left_order, (runs_cover r.left).run (s + (n - 1)) r.left.element) }

  pub left_few : x ≤ 1073741824
  left_few = omega (arith, (runs_cover r.left).run (s + (n - 1)) r.left.element, runs_few r.left)

  module _ {y : ℕ} (ey : y ≡ run_at b l (t + (n - 1))) where
    pub right_order : j ≤ y
    right_order = rw (ey, r.right_first) (run_order b l t (t + (n - 1)) r.right (omega arith))

    module _ (e : y - j ≡ x - i) where
      pub right_range : RunRange b l j (x - i)
      right_range = record { image = r.right.image; node = r.right.node; runs = r.right.runs; high = omega (arith, right_order, (runs_cover r.right).run (t + (n - 1)) r.right.element) }

      pub together : s ≡ t → SameEnds a b k l i j (x - i) → Together a b k l s t n i j (x - i + 1 - 1)
      together st same =
          let one : x - i + 1 - 1 ≡ x - i = omega arith in
          rw one
          (record { left_last = omega (arith, left_order); right_last = omega (arith, right_order); ends = λ q lt. rw (st, same.same q lt) })
