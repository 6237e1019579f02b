-- The value of a row by the layout of its node, scanned.
-- What was read becomes the row, and adds to the spans what such a row adds.
use mathlib.Core.Path.{◌≡◌, refl, sym, ap, subst, ◌∙◌}
use mathlib.Core.Bool.{Bool, true, false, cond}
use mathlib.Core.List.{List, [], ◌∷◌}
use Prim.Native.Nat.{ℕ, suc, ◌+◌, ◌≤◌, ◌<◌}
use native.Mathlib.Nat.{add-zero}
use native.Mathlib.Omega.{arith}
use Rattle.std.proofs.Common.{Option, Some, None}
use lib.Dec.{leb}
use borrow.Author.Tests.{ne_eqb}
use types.Run.{OneOf}
use denote.Enum.Declared.{tag_of}
use Rattle.image.specs.contracts.type_code.Layout.{the_type}
use Rattle.image.specs.declared.type_code.Layout.{Layout}
use Rattle.image.specs.declared.type_code.Layout.TheVariants.{Null, Boolean, FixedWidth, VariableSize, List as Lists, Struct}
use Rattle.image.specs.Bytes.{byte_at}
use Rattle.image.specs.Reads.{Read}
use Rattle.image.specs.Record.{code_of, first_child, child_count}
use Rattle.image.specs.TypeCode.{entries, entry_of, layout_of, width_of, takes_bitmap}
use Rattle.image.specs.Element.{element_width, child_end}
use Rattle.image.specs.Row.{fixed, sized, joined, counted}
use Rattle.image.specs.RowBytes.{count}
use Rattle.image.specs.Parse.{Parsed, failed, made, bytes_in, value_in, row_in}
use Rattle.image.proofs.CodeTable.{constant, at_layouts}
use Rattle.parse.specs.Scan.{value_of, boolean_in, text_in, list_of, struct_of, nothing, row_adds, sized_adds, counted_adds, joined_adds, Within, Scans}
use Rattle.parse.proofs.Totals.{fixed_adds, sized_adds_lem, counted_adds_lem, joined_adds_lem}
use Rattle.parse.proofs.Scans.{stopped, reached, made_scans}

-- The children of a node of an accepted image are nodes of it.
module _ {s : List ℕ} {k : ℕ} (within : Within s k) where
  pub node_few : k < 256
  node_few = omega (arith, within.node, within.image.tables.few_nodes)

  child_within : (c : ℕ) → c < child_count s k → Within s (first_child s k + c)
  unfolding child_end
  child_within c few = record { image = within.image; node = omega (arith, few, (within.image.node k within.node).tree.ends) }

  pub list_child : layout_of (code_of s k) ≡ Lists → Within s (first_child s k)
  list_child e =
      let single : child_count s k ≡ 1 = (within.image.node k within.node).tree.exactly 1 (rw e) in
      let child : Within s (first_child s k + 0) = child_within 0 (omega arith) in
      rw (add-zero (first_child s k)) at child

  -- as their numbers were read
  pub first_child_lem : {first : ℕ} → layout_of (code_of s k) ≡ Lists → Read (first_child s k) 16 first → Within s first
  first_child_lem {first} e child = rw child.value (list_child e)

  pub struct_child : {many c : ℕ} → Read (child_count s k) 16 many → c < many → Within s (first_child s k + c)
  struct_child {many} {c} count lt = child_within c (omega (arith, count.value, lt))

-- What the code of a node says, as it was read.
module _ {x code : ℕ} (read : Read x 8 code) where
  pub layout_is : {l : Layout} → l ≡ layout_of code → layout_of x ≡ l
  layout_is {l} e = sym (e ∙ ap layout_of read.value)

  pub layout_told : {l m : Layout} → l ≡ layout_of code → l ≡ m → layout_of x ≡ m
  layout_told {l} {m} e told = layout_is e ∙ told

  pub bitmap_told : {t u : Bool} → t ≡ takes_bitmap (layout_of code) → t ≡ u → takes_bitmap (layout_of x) ≡ u
  bitmap_told {t} {u} e told = sym (e ∙ ap (λ (n : ℕ). takes_bitmap (layout_of n)) read.value) ∙ told

-- the codes from Int8 to the intervals
plain_codes : (code : ℕ) → 2 ≤ code → code ≤ 25 → layout_of code ≡ FixedWidth
unfolding layout_of entry_of entries
plain_codes code low high = sym (constant [] FixedWidth layout_of 2 24 refl code low (omega arith) tt)

pub fixed_codes : {x code : ℕ} → Read x 8 code → 2 ≤ code → code ≤ 25 → layout_of x ≡ FixedWidth
fixed_codes {x} {code} read low high = rw (← read.value) (plain_codes code low high)

-- a code of these says by itself how wide a value is
pub plain_width_lem : (s : List ℕ) (k : ℕ) → 2 ≤ code_of s k → code_of s k ≤ 25 → (layout_of (code_of s k) ≡ FixedWidth) × (element_width s k ≡ (entry_of (code_of s k)).width)
unfolding element_width width_of
plain_width_lem s k low high = (plain_codes (code_of s k) low high, rw (ne_eqb (code_of s k) 30 (λ q. omega arith), ne_eqb (code_of s k) 41 (λ q. omega arith)))

-- a test before what is made of it
made_when : (t : Bool) (p : Parsed (List ℕ)) → made fixed (cond t p failed) ≡ cond t (made fixed p) failed
made_when true p = refl
made_when false p = refl

-- The value by its layout.
module _ (d : ℕ) (s : List ℕ) (k : ℕ) (b : List ℕ) {before after : List ℕ} {answer : Option (List ℕ)} where
  -- of the layout that the node has
  pub value_of_lem : (l : Layout) → layout_of (code_of s k) ≡ l → Scans b 0 (value_in l (row_in d s) s k b) (row_adds (suc d) s k) before after answer → Scans b 0 (value_of d s k b) (row_adds (suc d) s k) before after answer
  value_of_lem l e h = subst (λ (x : Layout). Scans b 0 (value_in x (row_in d s) s k b) (row_adds (suc d) s k) before after answer) (sym e) h

  pub text_value_lem : {code : ℕ} → Read (code_of s k) 8 code → layout_of (code_of s k) ≡ VariableSize → Scans b 0 (text_in code b) (sized_adds k) before after answer → Scans b 0 (value_of d s k b) (row_adds (suc d) s k) before after answer
  unfolding text_in
  text_value_lem {code} read e h = value_of_lem VariableSize e (rw (← read.value) (made_scans sized (sized_adds_lem d s k) h))

  pub list_value_lem : layout_of (code_of s k) ≡ Lists → Scans b 0 (list_of d s k b) (counted_adds d s k) before after answer → Scans b 0 (value_of d s k b) (row_adds (suc d) s k) before after answer
  unfolding list_of
  list_value_lem e h = value_of_lem Lists e (made_scans counted (counted_adds_lem d s k) h)

  pub struct_value : layout_of (code_of s k) ≡ Struct → Scans b 0 (struct_of d s k b) (joined_adds d s k) before after answer → Scans b 0 (value_of d s k b) (row_adds (suc d) s k) before after answer
  struct_value e h = value_of_lem Struct e (made_scans joined (joined_adds_lem d s k) h)

-- A value that adds to no span.
module _ (d : ℕ) (s : List ℕ) (k : ℕ) (b : List ℕ) {before : List ℕ} where
  pub null_value : layout_of (code_of s k) ≡ Null → Scans b 0 (value_of d s k b) (row_adds (suc d) s k) before before (Some b)
  null_value e =
      value_of_lem d s k b Null e
      (reached refl (record {
        what = fixed [];
        is = refl;
        spans = λ j lt. omega (arith, fixed_adds (suc d) s k [] j);
        took = λ j. omega (arith, fixed_adds (suc d) s k [] j);
      }))

  module _ {after : List ℕ} {answer : Option (List ℕ)} where
    fixed_value : (p : Parsed (List ℕ)) → Scans b 0 p nothing before after answer → Scans b 0 (made fixed p) (row_adds (suc d) s k) before after answer
    unfolding nothing
    fixed_value p h = made_scans fixed (λ x j. fixed_adds (suc d) s k x j) h

    pub boolean_value : layout_of (code_of s k) ≡ Boolean → Scans b 0 (boolean_in b) nothing before after answer → Scans b 0 (value_of d s k b) (row_adds (suc d) s k) before after answer
    unfolding boolean_in
    boolean_value e h = value_of_lem d s k b Boolean e (rw (← made_when (leb (byte_at b 0) 1) (bytes_in 1 b)) (fixed_value (boolean_in b) h))

    pub bytes_value_lem : (w : ℕ) → layout_of (code_of s k) ≡ FixedWidth → w ≡ element_width s k → Scans b 0 (bytes_in w b) nothing before after answer → Scans b 0 (value_of d s k b) (row_adds (suc d) s k) before after answer
    bytes_value_lem w e width h = value_of_lem d s k b FixedWidth e (rw (← width) (fixed_value (bytes_in w b) h))

  -- 23 keeps the other layouts out: those at these places of the declaration
  pub other_value : (l : Layout) → layout_of (code_of s k) ≡ l → OneOf (4 ∷ 6 ∷ 7 ∷ 9 ∷ 10 ∷ 11 ∷ 12 ∷ []) (tag_of the_type l) → Scans b 0 (value_of d s k b) (row_adds (suc d) s k) before before None
  other_value l e one =
      value_of_lem d s k b l e (stopped refl (sym (at_layouts (4 ∷ 6 ∷ 7 ∷ 9 ∷ 10 ∷ 11 ∷ 12 ∷ []) failed (λ x. value_in x (row_in d s) s k b) refl l one)))
