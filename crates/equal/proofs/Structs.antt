-- Structs: ranges of them are equal exactly where the ranges of their children are, child by child.
-- Rows first or children first, the same pairs are tested.
use mathlib.Core.Path.{◌≡◌, refl, sym, ap, ◌∙◌}
use mathlib.Core.Bool.{Bool, true, false, ◌&&◌}
use mathlib.Core.List.{List}
use mathlib.Core.Logic.{◌⊎◌, inl, inr}
use Prim.Native.Nat.{ℕ, zero, suc, ◌+◌, ◌<◌, ◌≤◌}
use native.Mathlib.Omega.{arith}
use Rattle.image.specs.declared.type_code.Layout.TheVariants.{Struct, SparseUnion}
use Rattle.image.specs.Record.{code_of, length_of, elements_of, first_child, child_count}
use Rattle.image.specs.TypeCode.{layout_of}
use Rattle.image.specs.Element.{child_end}
use Rattle.image.specs.Reads.{Read}
use Rattle.image.specs.Row.{Row, range, joined, struct_row, row_at}
use Rattle.image.specs.Equality.{row_equal}
use Rattle.values.specs.Pairs.{all, range_equal}
use Rattle.values.specs.Parts.{Sides, Parts}
use Rattle.accepted.specs.Parts.{Part}
use Rattle.values.proofs.Steps.{Left, left_none, left_more, left_fails, left_done}
use Rattle.accepted.proofs.Nodes.{part_node}
use Rattle.equal.proofs.Child.{layout_right, child_sides}

-- the ranges of two children are equal
unfoldable pub same_column : (ℕ → ℕ → Row) → (ℕ → ℕ → Row) → ℕ → ℕ → ℕ → ℕ → ℕ → Bool
same_column A B i j n c e = range_equal (A c) (B e) i j n

-- the rows of m children from f on
abbrev across : (ℕ → ℕ → Row) → ℕ → ℕ → ℕ → Row
across A f m i = joined (range (λ c. A c i) f m)

and_swap : (x y u v : Bool) → x && y && (u && v) ≡ x && u && (y && v)
and_swap true true u v = refl
and_swap true false true v = refl
and_swap true false false v = refl
and_swap false y u v = refl

columns_none : (A B : ℕ → ℕ → Row) (f e i j n : ℕ) → range_equal (across A f 0) (across B e 0) i j n ≡ true
unfolding range row_equal
columns_none A B f e i j zero = refl
columns_none A B f e i j (suc n) = columns_none A B f e (suc i) (suc j) n

columns_more : (A B : ℕ → ℕ → Row) (f e m i j n : ℕ) → range_equal (across A f (suc m)) (across B e (suc m)) i j n ≡ range_equal (A f) (B e) i j n && range_equal (across A (suc f) m) (across B (suc e) m) i j n
unfolding range row_equal
columns_more A B f e m i j zero = refl
columns_more A B f e m i j (suc n) = rw (columns_more A B f e m (suc i) (suc j) n) (and_swap (row_equal (A f i) (B e j)) _ _ _)

columns : (A B : ℕ → ℕ → Row) (i j n f e m : ℕ) → all (same_column A B i j n) f e m ≡ range_equal (across A f m) (across B e m) i j n
unfolding all same_column
columns A B i j n f e zero = sym (columns_none A B f e i j n)
columns A B i j n f e (suc m) = rw (columns A B i j n (suc f) (suc e) m) (sym (columns_more A B f e m i j n))

pub by_columns : (A B : ℕ → ℕ → Row) (a b : List ℕ) (k l i j n : ℕ) → child_count a k ≡ child_count b l
    → all (same_column A B i j n) (first_child a k) (first_child b l) (child_count a k) ≡ range_equal (struct_row A a k) (struct_row B b l) i j n
unfolding struct_row
by_columns A B a b k l i j n e = columns A B i j n (first_child a k) (first_child b l) (child_count a k) ∙ ap (λ (m : ℕ). range_equal (across A (first_child a k) (child_count a k)) (across B (first_child b l) m) i j n) e

-- what the loop over children keeps: ranges of Structs are equal exactly where those of the children from child c on are
pub record ColumnsLeft (A B : ℕ → ℕ → Row) (i j n f e m c : ℕ) : Type 0 where
  pub pairs : Left (same_column A B i j n) f e m c

pub columns_start : (A B : ℕ → ℕ → Row) (i j n f e m : ℕ) → ColumnsLeft A B i j n f e m 0
columns_start A B i j n f e m = record { pairs = left_none (same_column A B i j n) f e m }

-- the children of a Struct and of a sparse union are long enough
long_child : {s : List ℕ} {k j n : ℕ} → Part s k j n → (layout_of (code_of s k) ≡ Struct) ⊎ (layout_of (code_of s k) ≡ SparseUnion) → (c : ℕ) → first_child s k ≤ c → c < child_end s k → elements_of s k ≤ length_of s c
long_child r (inl e) c low high = (part_node r).children.struct e c low high
long_child r (inr e) c low high = (part_node r).children.sparse e c low high

right_kind : {a b : List ℕ} {k l i j n d : ℕ} → Parts a b k l i j n d → (layout_of (code_of a k) ≡ Struct) ⊎ (layout_of (code_of a k) ≡ SparseUnion) → (layout_of (code_of b l) ≡ Struct) ⊎ (layout_of (code_of b l) ≡ SparseUnion)
right_kind r (inl e) = inl (layout_right r e)
right_kind r (inr e) = inr (layout_right r e)

module _ {a b : List ℕ} {k l i j n d : ℕ} (r : Parts a b k l i j n d) (kind : (layout_of (code_of a k) ≡ Struct) ⊎ (layout_of (code_of a k) ≡ SparseUnion)) where
  whole : {ca cb m : ℕ} → ca ≡ first_child a k → cb ≡ first_child b l → m ≡ child_count a k → all (same_column (row_at d a) (row_at d b) i j n) ca cb m ≡ range_equal (struct_row (row_at d a) a k) (struct_row (row_at d b) b l) i j n
  whole fa fb fm = rw (fa, fb, fm) (by_columns (row_at d a) (row_at d b) a b k l i j n r.alike.0.count)

  -- child c, as the counts and the first children are read
  module _ {ca cb m c : ℕ} (fa : ca ≡ first_child a k) (fb : cb ≡ first_child b l) (fm : Read (child_count a k) 16 m) where
    pub struct_requires : c < m → Sides a b (ca + c) (cb + c) i j n d
    unfolding child_end
    struct_requires lt =
        let below : c < child_count a k = omega (arith, fm.value) in
        let other : c < child_count b l = omega (arith, r.alike.0.count) in
        rw (fa, fb) (child_sides r c i j n below
        (omega (arith, r.left.high, long_child r.left kind (first_child a k + c) (omega arith) (omega arith)))
        (omega (arith, r.right.high, long_child r.right (right_kind r kind) (first_child b l + c) (omega arith) (omega arith))))

    module _ (kept : ColumnsLeft (row_at d a) (row_at d b) i j n ca cb m c) where
      pub columns_more_left : c < m → range_equal (row_at d a (ca + c)) (row_at d b (cb + c)) i j n ≡ true → ColumnsLeft (row_at d a) (row_at d b) i j n ca cb m (c + 1)
      unfolding same_column
      columns_more_left lt e = record { pairs = left_more (same_column (row_at d a) (row_at d b) i j n) ca cb m c lt kept.pairs e }

      pub columns_fail : c < m → range_equal (row_at d a (ca + c)) (row_at d b (cb + c)) i j n ≡ false → false ≡ range_equal (struct_row (row_at d a) a k) (struct_row (row_at d b) b l) i j n
      unfolding same_column
      columns_fail lt e = left_fails (same_column (row_at d a) (row_at d b) i j n) ca cb m c lt kept.pairs e ∙ whole fa fb fm.value

      pub columns_done : m ≤ c → true ≡ range_equal (struct_row (row_at d a) a k) (struct_row (row_at d b) b l) i j n
      columns_done le = left_done (same_column (row_at d a) (row_at d b) i j n) ca cb m c le kept.pairs ∙ whole fa fb fm.value
