-- What the layout of runs and of unions says of the code, and how wide run ends and offsets are.
-- Each is a test over the 44 codes, computed once.
use mathlib.Core.Path.{◌≡◌, refl}
use mathlib.Core.Bool.{Bool, true, false, not, ◌&&◌, ◌||◌}
use mathlib.Core.List.{List}
use mathlib.Core.Logic.{◌⊎◌, inl, inr}
use Prim.Native.Nat.{ℕ, ◌≤◌}
use native.Mathlib.Omega.{arith}
use lib.Dec.{eqb, leb}
use borrow.Author.Tests.{eqb-true, le-leb}
use Rattle.image.specs.declared.type_code.Layout.{Layout}
use Rattle.image.specs.declared.type_code.Layout.TheVariants.{FixedWidth, VariableSize, List as Lists, DenseUnion, SparseUnion, Runs}
use Rattle.image.specs.Ranges.{every}
use Rattle.image.specs.Record.{code_of, p1_of}
use Rattle.image.specs.Element.{element_width}
use Rattle.image.specs.TypeCode.{entries, entry_of, layout_of, is_union, integer_width, width_of}
use Rattle.image.proofs.Bools.{when_true, and_true}
use Rattle.image.proofs.CodeTable.{agree}
use Rattle.image.proofs.Ranges.{every_below}
use Rattle.image.proofs.Widths.{codes_of, code_passes, own_width, own_width_lem}

pub runs_code : (code : ℕ) → layout_of code ≡ Runs → code ≡ 43
unfolding every layout_of entry_of entries
runs_code code e = eqb-true code 43 (code_passes Runs (λ c. eqb c 43) refl code e)

pub dense_code : (code : ℕ) → layout_of code ≡ DenseUnion → is_union code ≡ true
unfolding every layout_of entry_of entries is_union
dense_code code e = code_passes DenseUnion is_union refl code e

pub sparse_code : (code : ℕ) → layout_of code ≡ SparseUnion → is_union code ≡ true
unfolding every layout_of entry_of entries is_union
sparse_code code e = code_passes SparseUnion is_union refl code e

run_end_codes : every (λ c. not (leb 3 c && leb c 5) || own_width (eqb (integer_width c)) c) 0 44 ≡ true
unfolding every integer_width width_of entry_of entries
run_end_codes = refl

-- run ends are as wide as elements of their node
pub run_end_width_lem : (code p1 : ℕ) → 3 ≤ code → code ≤ 5 → integer_width code ≡ width_of code p1
run_end_width_lem code p1 low high =
    let test = and_true (leb 3 code) (leb code 5) (le-leb 3 code low) (le-leb code 5 high) in
    eqb-true _ _ (own_width_lem (eqb (integer_width code)) code p1 (when_true (leb 3 code && leb code 5) _ (every_below _ 44 run_end_codes code (omega arith)) test))

-- they are of fixed width
pub run_end_layout : (code : ℕ) → 3 ≤ code → code ≤ 5 → layout_of code ≡ FixedWidth
unfolding layout_of entry_of entries
run_end_layout code low high = agree layout_of (λ (c : ℕ). FixedWidth) 3 3 refl code low (omega arith)

-- offsets of texts and of lists have 4 or 8 bytes
either_width : (w : ℕ) → eqb w 4 || eqb w 8 ≡ true → (w ≡ 4) ⊎ (w ≡ 8)
either_width w = cases (eqb w 4) refl
  where
    cases : (b : Bool) → eqb w 4 ≡ b → b || eqb w 8 ≡ true → (w ≡ 4) ⊎ (w ≡ 8)
    cases true e h = inl (eqb-true w 4 e)
    cases false e h = inr (eqb-true w 8 h)

offset_width : (l : Layout) → codes_of l (own_width (λ w. eqb w 4 || eqb w 8)) ≡ true → (s : List ℕ) (k : ℕ) → layout_of (code_of s k) ≡ l → (element_width s k ≡ 4) ⊎ (element_width s k ≡ 8)
unfolding element_width
offset_width l all s k e = either_width _ (own_width_lem (λ w. eqb w 4 || eqb w 8) (code_of s k) (p1_of s k) (code_passes l _ all (code_of s k) e))

pub text_offset_width : (s : List ℕ) (k : ℕ) → layout_of (code_of s k) ≡ VariableSize → (element_width s k ≡ 4) ⊎ (element_width s k ≡ 8)
unfolding every layout_of entry_of entries width_of
text_offset_width = offset_width VariableSize refl

pub list_offset_width : (s : List ℕ) (k : ℕ) → layout_of (code_of s k) ≡ Lists → (element_width s k ≡ 4) ⊎ (element_width s k ≡ 8)
unfolding every layout_of entry_of entries width_of
list_offset_width = offset_width Lists refl
