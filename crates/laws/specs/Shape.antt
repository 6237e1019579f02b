-- The shape of a node's rows, read off its type alone, and when a row has a shape. What a row's bytes mean is given by
-- its shape: nothing else is needed to read them back.
use Rattle.std.specs.Prelude.{Bool, true, false, cond, ◌&&◌, List, ℕ, zero, suc, ◌+◌, length, eqb, ltb}
use Rattle.image.specs.declared.type_code.Layout.{Layout}
use Rattle.image.specs.declared.type_code.Layout.TheVariants.{Null, Boolean, FixedWidth, VariableSize, View, List as Lists, ListView, FixedList, Struct, DenseUnion, SparseUnion, Dictionary, Runs}
use Rattle.image.specs.Record.{code_of, id_of, p1_of, first_child, child_count}
use Rattle.image.specs.TypeCode.{layout_of}
use Rattle.image.specs.Element.{element_width}
use Rattle.image.specs.Row.{Row, Rows, null, fixed, sized, joined, counted, tagged, none, more}
use Rattle.image.specs.RowBytes.{count}

mutual
  pub data Shape : Type 0 where
    -- so many bytes
    bytes : ℕ → Shape
    -- a length and bytes
    text : Shape
    -- rows of these shapes, in turn
    in_turn : Shapes → Shape
    -- a count, and rows of the shape
    many : Shape → Shape
    -- an id, and a row of the shape that stands with it
    one_of : Shapes → Shape

  -- shapes, each with an id
  pub data Shapes : Type 0 where
    end : Shapes
    shape : ℕ → Shape → Shapes → Shapes

-- the first shape that stands with the id
unfoldable pub shape_with : Shapes → ℕ → Shape
shape_with end id = bytes 0
shape_with (shape i h hs) id = cond (eqb i id) h (shape_with hs id)

unfoldable mutual
  -- a row has the shape; null has every shape
  pub fits : Row → Shape → Bool
  fits null h = true
  fits (fixed b) (bytes n) = eqb (length b) n
  fits (fixed b) text = false
  fits (fixed b) (in_turn hs) = false
  fits (fixed b) (many h) = false
  fits (fixed b) (one_of hs) = false
  fits (sized b) (bytes n) = false
  fits (sized b) text = ltb (length b) 4294967296
  fits (sized b) (in_turn hs) = false
  fits (sized b) (many h) = false
  fits (sized b) (one_of hs) = false
  fits (joined rs) (bytes n) = false
  fits (joined rs) text = false
  fits (joined rs) (in_turn hs) = fit_each rs hs
  fits (joined rs) (many h) = false
  fits (joined rs) (one_of hs) = false
  fits (counted rs) (bytes n) = false
  fits (counted rs) text = false
  fits (counted rs) (in_turn hs) = false
  fits (counted rs) (many h) = ltb (count rs) 4294967296 && fit_all rs h
  fits (counted rs) (one_of hs) = false
  fits (tagged id r) (bytes n) = false
  fits (tagged id r) text = false
  fits (tagged id r) (in_turn hs) = false
  fits (tagged id r) (many h) = false
  fits (tagged id r) (one_of hs) = fits r (shape_with hs id)

  -- rows of these shapes in turn, one for each
  pub fit_each : Rows → Shapes → Bool
  fit_each none end = true
  fit_each none (shape i h hs) = false
  fit_each (more r rs) end = false
  fit_each (more r rs) (shape i h hs) = fits r h && fit_each rs hs

  -- rows of one shape
  pub fit_all : Rows → Shape → Bool
  fit_all none h = true
  fit_all (more r rs) h = fits r h && fit_all rs h

-- the shapes of n nodes from c on
unfoldable pub shapes : (ℕ → ℕ) → (ℕ → Shape) → ℕ → ℕ → Shapes
shapes id h c zero = end
shapes id h c (suc n) = shape (id c) (h c) (shapes id h (suc c) n)

-- children that have no id
abbrev pub no_id : ℕ → ℕ
no_id c = 0

abbrev pub only : Shape → Shape
only h = in_turn (shape 0 h end)

-- the shape of the values of node k; `sub c` is that of the rows of node c
abbrev pub value_shape : Layout → (ℕ → Shape) → List ℕ → ℕ → Shape
value_shape Null sub s k = bytes 0
value_shape Boolean sub s k = bytes 1
value_shape FixedWidth sub s k = bytes (element_width s k)
value_shape VariableSize sub s k = text
value_shape View sub s k = text
value_shape Lists sub s k = many (sub (first_child s k))
value_shape ListView sub s k = many (sub (first_child s k))
value_shape FixedList sub s k = in_turn (shapes no_id (λ c. sub (first_child s k)) 0 (p1_of s k))
value_shape Struct sub s k = in_turn (shapes no_id sub (first_child s k) (child_count s k))
value_shape DenseUnion sub s k = one_of (shapes (id_of s) sub (first_child s k) (child_count s k))
value_shape SparseUnion sub s k = one_of (shapes (id_of s) sub (first_child s k) (child_count s k))
value_shape Dictionary sub s k = only (sub (first_child s k))
value_shape Runs sub s k = only (sub (first_child s k + 1))

-- the shape of the rows of node k, down to the depth; below it every row is null, and any shape will do
unfoldable pub shape_of : ℕ → List ℕ → ℕ → Shape
shape_of zero s k = bytes 0
shape_of (suc depth) s k = value_shape (layout_of (code_of s k)) (shape_of depth s) s k
