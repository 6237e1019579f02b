-- The texts of a built table are well-formed where the code asks for it: 19 does not refuse it.
-- A row that is not null is a text that was read, and stands in the image.
use mathlib.Core.Path.{◌≡◌, refl, sym, ◌∙◌}
use mathlib.Core.Bool.{Bool, true, false, ◌||◌, false≢true}
use mathlib.Core.List.{List}
use Prim.Native.Nat.{ℕ, ◌<◌}
use lib.ListN.{length}
use lib.Dec.{eqb, ltb}
use borrow.Author.Tests.{eqb-true}
use Rattle.image.specs.declared.type_code.Layout.TheVariants.{VariableSize}
use Rattle.image.specs.Record.{node_count, code_of}
use Rattle.image.specs.TypeCode.{entries, entry_of, layout_of, is_text}
use Rattle.image.specs.Element.{valid, text_at}
use Rattle.image.specs.Row.{Row, Rows, null, fixed, sized, joined, counted, tagged, variable_row}
use Rattle.image.specs.RowBytes.{count}
use Rattle.image.specs.Utf8.{well_formed}
use Rattle.image.specs.Parse.{readable_code}
use Rattle.image.specs.Built.{nth, column, valid_bit, text_bytes, built_image}
use Rattle.image.proofs.Bools.{and_right}
use Rattle.built.specs.Typed.{all_rows, text_fits, is_value, is_marked, is_row}
use Rattle.built.proofs.TypedColumns.{text_code, code_readable, coded_at, node_typed}
use Rattle.built.proofs.Fields.{code_kept}
use Rattle.built.proofs.Lengths.{row_typed}
use Rattle.built.proofs.Back.{Fitting, valid_built, text_back}

-- the readable codes of text
small_text : layout_of 26 ≡ VariableSize
unfolding layout_of entry_of entries
small_text = refl

large_text : layout_of 28 ≡ VariableSize
unfolding layout_of entry_of entries
large_text = refl

text_layout : (code : ℕ) → is_text code ≡ true → code_readable code ≡ true → (layout_of code ≡ VariableSize) × (eqb code 26 || eqb code 28 ≡ true)
text_layout code t r = cases (eqb code 26) (eqb code 28) (eqb code 31) refl refl refl t
  where
    cases : (a b c : Bool) → eqb code 26 ≡ a → eqb code 28 ≡ b → eqb code 31 ≡ c → a || b || c ≡ true → (layout_of code ≡ VariableSize) × (a || b ≡ true)
    cases true b c p q w e = (rw (eqb-true code 26 p) small_text, refl)
    cases false true c p q w e = (rw (eqb-true code 28 q) large_text, refl)
    cases false false true p q w e = absurd (false≢true (rw (eqb-true code 31 w) at r))
    cases false false false p q w e = absurd (false≢true e)

-- a row of texts that is not null is a text
text_row : (sub : ℕ → Row → Bool) (s : List ℕ) (k : ℕ) (r : Row) → is_marked true (is_value VariableSize sub s k) r ≡ true → eqb (valid_bit r) 1 ≡ true
    → (P : Row → Type 0) → ((b : List ℕ) → text_fits (code_of s k) b ≡ true → P (sized b)) → P r
text_row sub s k null e v P h = absurd (false≢true v)
text_row sub s k (fixed b) e v P h = absurd (false≢true e)
text_row sub s k (sized b) e v P h = h b (and_right (ltb (length b) 4294967296) _ e)
text_row sub s k (joined rs) e v P h = absurd (false≢true e)
text_row sub s k (counted rs) e v P h = absurd (false≢true e)
text_row sub s k (tagged id r) e v P h = absurd (false≢true e)

module _ (s : List ℕ) (rs : Rows) (fit : Fitting s rs) (root : all_rows (is_row 16 s 0) rs ≡ true) (k : ℕ) (node : k < node_count s) where
  text_fits_lem : layout_of (code_of s k) ≡ VariableSize → (i : ℕ) → i < count (column s rs k) → valid (built_image s rs) k i ≡ true
      → text_fits (code_of s k) (text_bytes (variable_row (built_image s rs) k i)) ≡ true
  text_fits_lem l i lt v =
      let t = node_typed s fit.image fit.coded rs root k node in
      let bit : eqb (valid_bit (nth (column s rs k) i)) 1 ≡ true = rw l at (sym (valid_built s rs fit k node i lt) ∙ v) in
      text_row (is_row t.left s) s k (nth (column s rs k) i) (row_typed s fit.image rs t.left k node t.typed VariableSize l i lt) bit
      (λ r. nth (column s rs k) i ≡ r → text_fits (code_of s k) (text_bytes (variable_row (built_image s rs) k i)) ≡ true)
      (λ b fits is. rw (text_back s rs fit t.left k node t.typed l i lt b is) fits) refl

  pub built_formed : is_text (code_of s k) ≡ true → (i : ℕ) → i < count (column s rs k) → valid (built_image s rs) k i ≡ true → well_formed (text_at (built_image s rs) k i) ≡ true
  unfolding text_at variable_row readable_code
  built_formed text i lt v =
      let is = text_layout (code_of s k) text (coded_at s fit.image fit.coded rs k node) in
      rw (code_kept s rs fit.image fit.bytes fit.short k node, text_code (code_of s k) is.0) (rw is.1 at (text_fits_lem is.0 i lt v))
