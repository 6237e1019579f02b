-- What a layout says of the code, and of the width of an element.
-- Each is a test over the 44 codes, computed once; a code past them has the layout Null.
use mathlib.Core.Path.{◌≡◌, refl, sym, ap, ◌∙◌}
use mathlib.Core.Bool.{Bool, true, false, cond, not, ◌&&◌, ◌||◌}
use mathlib.Core.Logic.{◌≢◌}
use Prim.Native.Nat.{ℕ, ◌≤◌, ◌<◌}
use native.Mathlib.Omega.{arith}
use native.Mathlib.Nat.{lt_of_not-le}
use lib.Dec.{eqb, leb, lit≤}
use lib.ListN.{get_or-eq_default}
use denote.Enum.Declared.{tag_of}
use borrow.Author.Tests.{eqb-true, eqb-false, eq-eqb, leb-true, ne_eqb, not-true}
use Rattle.image.specs.declared.type_code.Layout.{Layout}
use Rattle.image.specs.declared.type_code.Layout.TheVariants.{Null, VariableSize, View, List as Lists, ListView, Dictionary}
use Rattle.image.specs.contracts.type_code.Layout.{the_type}
use Rattle.image.specs.Ranges.{every}
use Rattle.image.specs.Reads.{is_width}
use Rattle.image.specs.TypeCode.{Entry, entry, entries, entry_of, layout_of, integer_width, width_of}
use Rattle.image.proofs.Bools.{when_true, and_left, and_right, facts}
use Rattle.image.proofs.Ranges.{every_below}

-- past the table a code's layout is Null
unknown_code : (code : ℕ) → 43 < code → layout_of code ≡ Null
unfolding layout_of entry_of entries
unknown_code code lt =
    let h : 44 ≤ code = omega arith in
    ap (λ (e : Entry). e.layout) (get_or-eq_default entries (entry Null 0 0 0) {n = code} h)

-- another layout than Null, and its code is in the table
pub known_code : (l : Layout) → eqb (tag_of the_type l) 0 ≡ false → (code : ℕ) → layout_of code ≡ l → code ≤ 43
known_code l other code e =
    let h : code < 44 = lt_of_not-le {n = 44} {m = code} (λ le. eqb-false (tag_of the_type l) 0 other (ap (tag_of the_type) (sym e ∙ unknown_code code le))) in
    omega arith

-- each code of that layout passes the test
abbrev pub codes_of : Layout → (ℕ → Bool) → Bool
codes_of l p = not (eqb (tag_of the_type l) 0) && every (λ c. not (eqb (tag_of the_type (layout_of c)) (tag_of the_type l)) || p c) 0 44

pub code_passes : (l : Layout) (p : ℕ → Bool) → codes_of l p ≡ true → (code : ℕ) → layout_of code ≡ l → p code ≡ true
code_passes l p all code e =
    let le : code ≤ 43 = known_code l (not-true _ (and_left _ _ all)) code e in
    when_true (eqb (tag_of the_type (layout_of code)) (tag_of the_type l)) (p code) (every_below _ 44 (and_right (not (eqb (tag_of the_type l) 0)) _ all) code (omega arith))
    (eq-eqb _ _ (ap (tag_of the_type) e))

pub dictionary_code : (code : ℕ) → layout_of code ≡ Dictionary → code ≡ 41
unfolding every layout_of entry_of entries
dictionary_code code e = eqb-true code 41 (code_passes Dictionary (λ c. eqb c 41) refl code e)

-- only the width of FixedSizeBinary and of a Dictionary's keys is p1's
width_of_code : (code p q : ℕ) → code ≢ 30 → code ≢ 41 → width_of code p ≡ width_of code q
unfolding width_of
width_of_code code p q a b = rw (ne_eqb code 30 a, ne_eqb code 41 b)

-- the code's own width passes a test
abbrev pub own_width : (ℕ → Bool) → ℕ → Bool
own_width q c = not (eqb c 30) && not (eqb c 41) && q (width_of c 0)

pub own_width_lem : (q : ℕ → Bool) (code p1 : ℕ) → own_width q code ≡ true → q (width_of code p1) ≡ true
own_width_lem q code p1 e =
    let h = simp facts at e in
    rw (width_of_code code p1 0 h.0.0 h.0.1) h.1

-- offsets and sizes have at most 8 bytes
narrow : (l : Layout) → codes_of l (own_width (λ w. leb w 8)) ≡ true → (code p1 : ℕ) → layout_of code ≡ l → width_of code p1 ≤ 8
narrow l all code p1 e = leb-true _ _ (own_width_lem (λ w. leb w 8) code p1 (code_passes l _ all code e))

pub variable_width : (code p1 : ℕ) → layout_of code ≡ VariableSize → width_of code p1 ≤ 8
unfolding every layout_of entry_of entries width_of
variable_width = narrow VariableSize refl

pub list_width : (code p1 : ℕ) → layout_of code ≡ Lists → width_of code p1 ≤ 8
unfolding every layout_of entry_of entries width_of
list_width = narrow Lists refl

pub list_view_width : (code p1 : ℕ) → layout_of code ≡ ListView → width_of code p1 ≤ 8
unfolding every layout_of entry_of entries width_of
list_view_width = narrow ListView refl

pub view_width : (code p1 : ℕ) → layout_of code ≡ View → width_of code p1 ≡ 16
unfolding every layout_of entry_of entries width_of
view_width code p1 e = eqb-true _ _ (own_width_lem (λ w. eqb w 16) code p1 (code_passes View (own_width (λ w. eqb w 16)) refl code e))

-- integers have at most 8 bytes, and so have keys
either : (b : Bool) (x y n : ℕ) → x ≤ n → y ≤ n → cond b x y ≤ n
either true x y n p q = p
either false x y n p q = q

pub integer_width_lem : (code : ℕ) → integer_width code ≤ 8
unfolding integer_width
integer_width_lem code =
    either (eqb code 2 || eqb code 6) _ _ 8 (lit≤ tt)
    (either (eqb code 3 || eqb code 7) _ _ 8 (lit≤ tt) (either (eqb code 4 || eqb code 8) _ _ 8 (lit≤ tt) (lit≤ tt)))

pub key_width : (code p1 : ℕ) → layout_of code ≡ Dictionary → width_of code p1 ≤ 8
unfolding width_of
key_width code p1 e = rw (dictionary_code code e) (integer_width_lem p1)

-- and at least one
at_least : (b : Bool) (x y n : ℕ) → n ≤ x → n ≤ y → n ≤ cond b x y
at_least true x y n p q = p
at_least false x y n p q = q

pub integer_width_least : (code : ℕ) → 1 ≤ integer_width code
unfolding integer_width
integer_width_least code =
    at_least (eqb code 2 || eqb code 6) _ _ 1 (lit≤ tt)
    (at_least (eqb code 3 || eqb code 7) _ _ 1 (lit≤ tt) (at_least (eqb code 4 || eqb code 8) _ _ 1 (lit≤ tt) (lit≤ tt)))

-- it is one of the widths that integers have
pub integer_is_width : (code : ℕ) → is_width (integer_width code) ≡ true
unfolding integer_width is_width
integer_is_width code = cases (eqb code 2 || eqb code 6) (eqb code 3 || eqb code 7) (eqb code 4 || eqb code 8)
  where
    cases : (a b c : Bool) → is_width (cond a 1 (cond b 2 (cond c 4 8))) ≡ true
    cases true b c = refl
    cases false true c = refl
    cases false false true = refl
    cases false false false = refl
