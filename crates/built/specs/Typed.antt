-- The rows that a node of a type can have, whose codes are readable.
use Rattle.std.specs.Prelude.{Bool, true, false, cond, ◌&&◌, ◌||◌, List, ℕ, zero, suc, length, eqb, leb, ltb}
use Rattle.image.specs.declared.type_code.Layout.{Layout}
use Rattle.image.specs.declared.type_code.Layout.TheVariants.{Null, Boolean, FixedWidth, VariableSize, View, List as Lists, ListView, FixedList, Struct, DenseUnion, SparseUnion, Dictionary, Runs}
use Rattle.image.specs.Bytes.{byte_at}
use Rattle.image.specs.Record.{code_of, first_child, child_count}
use Rattle.image.specs.TypeCode.{layout_of, takes_bitmap}
use Rattle.image.specs.Element.{element_width}
use Rattle.image.specs.Row.{Row, Rows, null, fixed, sized, joined, counted, tagged, none, more}
use Rattle.image.specs.RowBytes.{count}
use Rattle.image.specs.Utf8.{well_formed}

-- rows that all pass a test; rows of which each passes the test of its node, from node c on
unfoldable pub all_rows : (Row → Bool) → Rows → Bool
all_rows f none = true
all_rows f (more r rs) = f r && all_rows f rs

unfoldable pub each_row : (ℕ → Row → Bool) → ℕ → Rows → Bool
each_row f c none = true
each_row f c (more r rs) = f c r && each_row f (suc c) rs

-- a text that the code allows
abbrev pub text_fits : ℕ → List ℕ → Bool
text_fits code b = cond (eqb code 26 || eqb code 28) (well_formed b) true

-- a row of that kind that passes a test
abbrev pub as_fixed : (List ℕ → Bool) → Row → Bool
as_fixed f null = false
as_fixed f (fixed b) = f b
as_fixed f (sized b) = false
as_fixed f (joined rs) = false
as_fixed f (counted rs) = false
as_fixed f (tagged id r) = false

abbrev pub as_sized : (List ℕ → Bool) → Row → Bool
as_sized f null = false
as_sized f (fixed b) = false
as_sized f (sized b) = f b
as_sized f (joined rs) = false
as_sized f (counted rs) = false
as_sized f (tagged id r) = false

abbrev pub as_joined : (Rows → Bool) → Row → Bool
as_joined f null = false
as_joined f (fixed b) = false
as_joined f (sized b) = false
as_joined f (joined rs) = f rs
as_joined f (counted rs) = false
as_joined f (tagged id r) = false

abbrev pub as_counted : (Rows → Bool) → Row → Bool
as_counted f null = false
as_counted f (fixed b) = false
as_counted f (sized b) = false
as_counted f (joined rs) = false
as_counted f (counted rs) = f rs
as_counted f (tagged id r) = false

-- a value that is not null, of each layout
abbrev pub is_value : Layout → (ℕ → Row → Bool) → List ℕ → ℕ → Row → Bool
is_value Null sub s k r = as_fixed (λ b. eqb (length b) 0) r
is_value Boolean sub s k r = as_fixed (λ b. eqb (length b) 1 && leb (byte_at b 0) 1) r
is_value FixedWidth sub s k r = as_fixed (λ b. eqb (length b) (element_width s k)) r
is_value VariableSize sub s k r = as_sized (λ b. ltb (length b) 4294967296 && text_fits (code_of s k) b) r
is_value Lists sub s k r = as_counted (λ rs. ltb (count rs) 4294967296 && all_rows (sub (first_child s k)) rs) r
is_value Struct sub s k r = as_joined (λ rs. eqb (count rs) (child_count s k) && each_row sub (first_child s k) rs) r
is_value View sub s k r = false
is_value ListView sub s k r = false
is_value FixedList sub s k r = false
is_value DenseUnion sub s k r = false
is_value SparseUnion sub s k r = false
is_value Dictionary sub s k r = false
is_value Runs sub s k r = false

-- null where the node may have a bitmap, or a value
abbrev pub is_marked : Bool → (Row → Bool) → Row → Bool
is_marked bitmap f null = bitmap
is_marked bitmap f (fixed b) = f (fixed b)
is_marked bitmap f (sized b) = f (sized b)
is_marked bitmap f (joined rs) = f (joined rs)
is_marked bitmap f (counted rs) = f (counted rs)
is_marked bitmap f (tagged id r) = f (tagged id r)

-- a row that node k can have, down to the depth
unfoldable pub is_row : ℕ → List ℕ → ℕ → Row → Bool
is_row zero s k r = false
is_row (suc d) s k r = is_marked (takes_bitmap (layout_of (code_of s k))) (is_value (layout_of (code_of s k)) (is_row d s) s k) r
