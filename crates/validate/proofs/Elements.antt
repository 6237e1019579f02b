-- Elements of a buffer that lie inside the image, as a loop reads them.
-- A number past a start stands as many widths behind it; fewer numbers lie inside too.
use mathlib.Core.Path.{◌≡◌, refl, sym, ap, ◌∙◌}
use mathlib.Core.List.{List}
use Prim.Native.Nat.{ℕ, ◌+◌, ◌*◌, ◌<◌}
use native.Mathlib.Nat.{add_assoc, add-mul}
use native.Mathlib.Omega.{arith}
use lib.ListN.{length}
use Rattle.image.specs.declared.bytes.Numbers.{Numbers}
use Rattle.image.specs.declared.record.Node.{Node}
use Rattle.image.specs.Reads.{Packed}
use Rattle.image.specs.Record.{length_of, offset_of, elements_of, buffer_place}
use Rattle.image.proofs.Numbers.{packed_from, packed_fewer}
use Rattle.validate.specs.Numbers.{Holds}

pub shift : (b o j w : ℕ) → b + o * w + j * w ≡ b + (o + j) * w
shift b o j w = add_assoc b (o * w) (j * w) ∙ ap (λ (x : ℕ). b + x) (sym (add-mul o j w))

-- element j of buffer b, where there are n
pub element_inside : (s : List ℕ) (k b j : ℕ) {v w n place : ℕ} → Holds s k b w n → v ≡ w → place ≡ buffer_place s k b → j < n → Packed (length s) place v (j + 1)
element_inside s k b j h e p lt = rw (e, p) (packed_fewer (j + 1) (omega arith) h)

-- the same of the numbers of a buffer
pub number_inside : (node : Node) (v : Numbers) (b j : ℕ) {w n : ℕ} → Holds node.image.now node.number b w n → v.width ≡ w → v.bytes ≡ node.image → v.place ≡ buffer_place node.image.now node.number b → j < n → Packed (length v.bytes.now) v.place v.width (j + 1)
number_inside node v b j h ew eb ep lt = rw eb (element_inside _ _ b j h ew ep lt)

-- the elements of the node's rows, which start at its offset
pub rows_inside : (s : List ℕ) (k b : ℕ) {v w place o rows : ℕ} → Holds s k b w (elements_of s k) → v ≡ w → place ≡ buffer_place s k b → o ≡ offset_of s k → rows ≡ length_of s k
    → Packed (length s) (place + o * v) v rows
unfolding elements_of
rows_inside s k b {rows = rows} h e p q r = rw (e, p, q) (packed_from (offset_of s k) rows (omega arith) h)

-- the same of the numbers of its rows
pub row_inside : (node : Node) (v : Numbers) (i : ℕ) {w u : ℕ} → Holds node.image.now node.number 0 w (elements_of node.image.now node.number) → u ≡ w → v.bytes ≡ node.image
    → v.place ≡ buffer_place node.image.now node.number 0 + offset_of node.image.now node.number * u → v.width ≡ u → i < length_of node.image.now node.number → Packed (length v.bytes.now) v.place v.width (i + 1)
row_inside node v i h ew eb ep ev lt = rw (eb, ep, ev) (packed_fewer (i + 1) (omega arith) (rows_inside _ _ 0 h ew refl refl refl))
