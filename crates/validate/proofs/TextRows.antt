-- Where the texts of a node's rows stand, and which rows are at fault.
-- By the lower numbers offsets rise within the text, and the bytes of a view that is not null lie inside.
use mathlib.Core.Path.{◌≡◌, refl, sym, ap, subst, ◌∙◌}
use Rattle.std.specs.Prelude.{◌≢◌}
use mathlib.Core.Bool.{Bool, true, false, not, ◌&&◌, ◌||◌, and-false, false≢true}
use mathlib.Core.List.{List}
use Prim.Native.Nat.{ℕ, zero, suc, ◌+◌, ◌*◌, ◌-◌, ◌<◌, ◌≤◌}
use native.Mathlib.Nat.{add-zero, zero-add, eq-or-lt_of_le}
use mathlib.Core.Logic.{◌⊎◌, inl, inr}
use native.Mathlib.Omega.{arith}
use lib.Dec.{eqb, ltb}
use lib.ListN.{length}
use borrow.Author.Tests.{eqb-true, ne_eqb, lt-ltb, le-ltb, lt-leb, not-true}
use Rattle.image.specs.declared.type_code.Layout.TheVariants.{VariableSize, View}
use Rattle.image.specs.Ranges.{any}
use Rattle.image.specs.Bytes.{byte_at, bytes_at, number_at}
use Rattle.image.specs.Reads.{Read, Packed}
use Rattle.image.specs.Record.{node_count, code_of, length_of, offset_of, elements_of, first_buffer, entry_place, buffer_place, buffer_length, buffer_count}
use Rattle.image.specs.TypeCode.{layout_of, entry_of, entries, is_text}
use Rattle.image.specs.Element.{valid, element_width, element_place, element_at, view_length, view_buffer, view_offset, view_data, text_at}
use Rattle.image.specs.Faults.{text_row_fault, fault19}
use Rattle.image.specs.Utf8.{well_formed, has, tail}
use Rattle.image.proofs.Bools.{and_fails}
use Rattle.image.proofs.Numbers.{packed_from, width_most}
use Rattle.image.proofs.Ranges.{any_none, any_below}
use Rattle.laws.specs.Accepted.{NoneBelow, OffsetsRise}
use Rattle.laws.proofs.Accepted.{tables, after_14, after_17, after_18}
use Rattle.accepted.specs.Parts.{Viewed, ViewBytes, ViewRow, view_place}
use Rattle.accepted.proofs.Views.{shown_short, data_buffer}
use Rattle.utf8.specs.Ascii.{any_high}
use Rattle.utf8.specs.Cuts.{Cut}
use Rattle.utf8.proofs.Plain.{plain_part}
use Rattle.utf8.proofs.Cutting.{part_formed}
use Rattle.image.specs.declared.bytes.Numbers.{Numbers}
use Rattle.image.specs.declared.record.Node.{Node}
use Rattle.validate.specs.Numbers.{Holds}
use Rattle.validate.specs.Views.{ViewsInside}
use Rattle.validate.specs.Texts.{TextNode, ViewNode, OffsetNode, TextsRead, TextRow, EachBuffer, buffer_bytes, plain_buffer, formed_buffer, text_start, splits}
use Rattle.validate.proofs.Elements.{shift}
use Rattle.validate.proofs.Lower.{text_offsets, views}

view_layout : (code : ℕ) → eqb code 31 ≡ true → layout_of code ≡ View
unfolding layout_of entry_of entries
view_layout code e = rw (eqb-true code 31 e)

offset_layout : (code : ℕ) → is_text code ≡ true → eqb code 31 ≡ false → layout_of code ≡ VariableSize
unfolding layout_of entry_of entries
offset_layout code text isnt = cases (eqb code 26) (eqb code 28) refl refl text
  where
    cases : (a b : Bool) → eqb code 26 ≡ a → eqb code 28 ≡ b → a || b || eqb code 31 ≡ true → layout_of code ≡ VariableSize
    cases true b ea eb h = rw (eqb-true code 26 ea)
    cases false true ea eb h = rw (eqb-true code 28 eb)
    cases false false ea eb h = absurd (false≢true (sym isnt ∙ h))

-- nothing that is read wraps
pub small_image : {s : List ℕ} {k : ℕ} → TextNode s k → length s ≤ 16777216
small_image t = (tables t.below).size

pub few_rows : {s : List ℕ} {k : ℕ} → TextNode s k → length_of s k ≤ 1073741824
unfolding elements_of
few_rows {s} {k} t = omega (arith, (after_14 t.below k t.node (omega arith)).small)

-- views
module _ {s : List ℕ} {k : ℕ} (t : ViewNode s k) where
  views_inside : ViewsInside s k
  views_inside = views t.text.below (omega arith) k t.text.node (view_layout _ t.views)

  -- the view of row 0 lies inside, or stands where they end
  pub views_start : buffer_place s k 0 + offset_of s k * 16 ≤ length s
  unfolding elements_of
  views_start = omega (arith, views_inside.views)

module _ {s : List ℕ} {k : ℕ} (t : ViewNode s k) (i : ℕ) where
  pub view_fits : i < length_of s k → view_place s k i + 16 ≤ length s
  unfolding elements_of
  view_fits lt = omega (arith, (views_inside t).views)

  view_element : view_place s k i ≡ element_place s k (offset_of s k + i)
  unfolding element_place
  view_element = rw (views_inside t).wide

  pub view_text : bytes_at s (view_data s k (view_place s k i)) (view_length s (view_place s k i)) ≡ text_at s k (offset_of s k + i)
  unfolding text_at
  view_text = rw (t.views, ← view_element)

-- any view as it is read
pub first_fits : {s : List ℕ} {k first : ℕ} → ViewNode s k → first ≡ buffer_place s k 0 + offset_of s k * 16 → (i : ℕ) → i < length_of s k → first + i * 16 + 16 ≤ length s
first_fits t e i lt = omega (arith, e, view_fits t i lt)

-- the view of a row that is not null
module _ {s : List ℕ} {k : ℕ} (t : ViewNode s k) {i : ℕ} (row : TextRow s k i) where
  pub view_row : ViewRow s k i
  view_row = record {
    tables = tables t.text.below;
    buffers = after_14 t.text.below k t.text.node (omega arith);
    fits = view_fits t i row.row;
    view = rw (view_element t i) ((after_18 t.text.below k t.text.node (omega arith)).view (view_layout _ t.views) i row.row row.not_null);
  }

  viewed : Viewed s k (entry_place s (first_buffer s k)) (view_place s k i)
  viewed = record { tables = view_row.tables; buffers = view_row.buffers; entries = refl; fits = view_row.fits; view = view_row.view }

  -- a short view without a byte above 7F
  pub plain_short : view_length s (view_place s k i) ≤ 12 → any_high (bytes_at s (view_place s k i) 16) ≡ false → well_formed (text_at s k (offset_of s k + i)) ≡ true
  plain_short short none =
      rw (← view_text t i, ← (shown_short viewed short).place)
      (plain_part s (view_place s k i) 16 none (view_place s k i + 4) (view_length s (view_place s k i)) (omega arith) (omega arith))

  -- a long view is a part of its data buffer
  module _ (long : 12 < view_length s (view_place s k i)) {b : ℕ} (eb : b ≡ 1 + view_buffer s (view_place s k i)) where
    here : b < buffer_count s k
    here = rw eb (data_buffer viewed long)

    within : (buffer_place s k b ≤ view_data s k (view_place s k i)) × (view_data s k (view_place s k i) + view_length s (view_place s k i) ≤ buffer_place s k b + buffer_length s k b)
    unfolding view_data
    within =
        let place : view_data s k (view_place s k i) ≡ buffer_place s k b + view_offset s (view_place s k i) = rw (lt-leb (view_length s (view_place s k i)) 12 long, eb) in
        let inside : view_offset s (view_place s k i) + view_length s (view_place s k i) ≤ buffer_length s k b = rw eb (viewed.view.inside long) in
        (omega arith, omega arith)

    -- where the buffer has no byte above 7F
    pub plain_long : EachBuffer (plain_buffer s k) (buffer_count s k) → well_formed (text_at s k (offset_of s k + i)) ≡ true
    plain_long plain =
        rw (← view_text t i)
        (plain_part s (buffer_place s k b) (buffer_length s k b) (plain.each b (omega (arith, eb)) here) _ (view_length s (view_place s k i)) within.0 within.1)

    -- where the buffer is well-formed and no tail stands at either end of the text, the text is well-formed
    cut_view : {p n x y : ℕ} → p ≡ view_data s k (view_place s k i) → n ≡ view_length s (view_place s k i) → x ≡ buffer_place s k b → y ≡ buffer_length s k b → EachBuffer (formed_buffer s k) (buffer_count s k)
        → Cut s (x + y) p → Cut s (x + y) (p + n) → well_formed (text_at s k (offset_of s k + i)) ≡ true
    cut_view ep en ex ey formed start end =
        rw (← view_text t i)
        (part_formed s (buffer_place s k b) (buffer_length s k b) _ (view_length s (view_place s k i)) within.0 within.1 (rw (← ex, ← ey, ← ep) start) (rw (← ex, ← ey, ← ep, ← en) end)
        (formed.each b (omega (arith, eb)) here))

-- the same of a view as it is read
pub cut_row : {n m : Node} {v i : ℕ} → ViewNode n.image.now n.number → TextRow n.image.now n.number i
    → m ≡ n → v ≡ view_place n.image.now n.number i → {len b p x y : ℕ} → Read (view_length m.image.now v) 32 len → 12 < len → b ≡ 1 + view_buffer m.image.now v
    → ViewBytes m.image.now m.number v p → x ≡ buffer_place n.image.now n.number b → y ≡ buffer_length n.image.now n.number b
    → Cut n.image.now (x + y) p → Cut n.image.now (x + y) (p + len)
    → EachBuffer (formed_buffer n.image.now n.number) (buffer_count n.image.now n.number) → well_formed (text_at n.image.now n.number (offset_of n.image.now n.number + i)) ≡ true
cut_row t row en ep el long eb ebytes ex ey start end formed =
    let size = rw (en, ep) at el.value in
    let number = rw (en, ep) at eb in
    let place = rw (en, ep) at ebytes.place in
    cut_view t row (omega (arith, size, long)) number place size ex ey formed start end

-- data buffers one after the other
pub buffer_none : (P : ℕ → Type 0) → EachBuffer P 1
buffer_none P = record { each = λ m low lt. absurd (omega arith) }

pub buffer_more : {P : ℕ → Type 0} {j : ℕ} → EachBuffer P j → P j → EachBuffer P (j + 1)
buffer_more {P} {j} f here = record { each = λ m low lt. cases m low (eq-or-lt_of_le {n = m} {m = j} (omega arith)) }
  where
    cases : (m : ℕ) → 1 ≤ m → (m ≡ j) ⊎ (m < j) → P m
    cases m low (inl e) = subst P (sym e) here
    cases m low (inr before) = f.each m low before

pub buffer_all : {P : ℕ → Type 0} {n j : ℕ} → EachBuffer P j → n ≤ j → EachBuffer P n
buffer_all f le = record { each = λ m low lt. f.each m low (omega arith) }

-- a test says of the bytes of buffer j what it says of them as they were read
pub told_here : (s : List ℕ) (k j : ℕ) {p n : ℕ} {bytes : List ℕ} (q : List ℕ → Bool) → p ≡ buffer_place s k j → n ≡ buffer_length s k j → bytes ≡ bytes_at s p n → q bytes ≡ true → q (buffer_bytes s k j) ≡ true
told_here s k j q ep en e told = rw (← ep, ← en, ← e) told

pub each_plain : (s : List ℕ) (k : ℕ) {n : ℕ} → EachBuffer (λ j. not (any_high (buffer_bytes s k j)) ≡ true) n → EachBuffer (plain_buffer s k) n
each_plain s k f = record { each = λ j low lt. not-true _ (f.each j low lt) }

-- a buffer of the node lies inside
pub data_inside : {s : List ℕ} {k j p n : ℕ} → TextNode s k → j < buffer_count s k → p ≡ buffer_place s k j → n ≡ buffer_length s k j → p + n ≤ length s
data_inside {s} {k} {j} t lt ep en = rw (ep, en) ((after_14 t.below k t.node (omega arith)).inside j lt)

-- texts by offsets
module _ {s : List ℕ} {k : ℕ} (t : OffsetNode s k) where
  by_offsets : layout_of (code_of s k) ≡ VariableSize
  by_offsets = offset_layout _ t.text.text t.no_views

  offsets : Holds s k 0 (element_width s k) (elements_of s k + 1)
  offsets = text_offsets t.text.below (omega arith) k t.text.node by_offsets

  pub narrow : element_width s k ≤ 8
  narrow = width_most _ offsets.width

  rising : OffsetsRise s k (buffer_length s k 1)
  rising = (after_17 t.text.below k t.text.node (omega arith)).variable_size by_offsets

  pub start_inside : (i : ℕ) → i ≤ length_of s k → text_start s k i ≤ length s
  unfolding elements_of
  start_inside i le =
      let two : buffer_count s k ≡ 2 = (after_14 t.text.below k t.text.node (omega arith)).exactly 2 (rw by_offsets) in
      let inside : buffer_place s k 1 + buffer_length s k 1 ≤ length s = (after_14 t.text.below k t.text.node (omega arith)).inside 1 (omega arith) in
      omega (arith, rising.within (offset_of s k + i) (omega arith))

  rise_by : (i m : ℕ) → i + m ≤ length_of s k → text_start s k i ≤ text_start s k (i + m)
  unfolding elements_of
  rise_by i zero le = rw (add-zero i) (omega arith)
  rise_by i (suc m) le =
      let next : offset_of s k + (i + suc m) ≡ suc (offset_of s k + (i + m)) = omega arith in
      let up : element_at s k (offset_of s k + (i + m)) ≤ element_at s k (offset_of s k + (i + suc m)) = rw next (rising.rise (offset_of s k + (i + m)) (omega arith)) in
      omega (arith, rise_by i m (omega arith))

  starts_rise : (i j : ℕ) → i ≤ j → j ≤ length_of s k → text_start s k i ≤ text_start s k j
  starts_rise i j le end =
      let e : i + (j - i) ≡ j = omega arith in
      rw e at (rise_by i (j - i) (omega arith))

-- the offset of row 0 lies inside
pub rows_start : {s : List ℕ} {k : ℕ} → OffsetNode s k → buffer_place s k 0 + offset_of s k * element_width s k ≤ length s
unfolding elements_of
rows_start {s} {k} t = omega (arith, (packed_from (offset_of s k) 0 (omega arith) (offsets t)).inside)

module _ {s : List ℕ} {k : ℕ} (t : OffsetNode s k) {v : Numbers} {start : ℕ} (r : TextsRead s k v start) where
  pub offset_inside : (i : ℕ) → i ≤ length_of s k → Packed (length v.bytes.now) v.place v.width (i + 1)
  unfolding elements_of
  offset_inside i le = rw (r.bytes, r.place, r.width) (packed_from (offset_of s k) (i + 1) (omega arith) (offsets t))

  offset_read : (i : ℕ) {x : ℕ} → x ≡ number_at v.width v.bytes.now (v.place + i * v.width) → x ≡ element_at s k (offset_of s k + i)
  unfolding element_at element_place
  offset_read i e = e ∙ rw (r.bytes, r.place, r.width, shift (buffer_place s k 0) (offset_of s k) i (element_width s k))

  pub start_read : (i : ℕ) {x : ℕ} → x ≡ number_at v.width v.bytes.now (v.place + i * v.width) → start + x ≡ text_start s k i
  start_read i e = rw (r.start, offset_read i e)

-- the bytes from one text's start up to the next
module _ {s : List ℕ} {k : ℕ} (t : OffsetNode s k) (i : ℕ) (lt : i < length_of s k) where
  pub starts_apart : text_start s k i ≤ text_start s k (i + 1)
  starts_apart = starts_rise t i (i + 1) (omega arith) (omega arith)

  pub offset_text : bytes_at s (text_start s k i) (text_start s k (i + 1) - text_start s k i) ≡ text_at s k (offset_of s k + i)
  unfolding text_at
  offset_text =
      let next : offset_of s k + (i + 1) ≡ suc (offset_of s k + i) = omega arith in
      let len : text_start s k (i + 1) - text_start s k i ≡ element_at s k (offset_of s k + (i + 1)) - element_at s k (offset_of s k + i) = omega arith in
      rw (len, next, t.no_views)

-- A look at all texts together, from where the first starts up to where the last ends.
module _ {s : List ℕ} {k : ℕ} (t : OffsetNode s k) where
  all_rise : text_start s k 0 ≤ text_start s k (length_of s k)
  all_rise = starts_rise t 0 (length_of s k) (omega arith) (omega arith)

  formed_row : (i : ℕ) → i < length_of s k → well_formed (bytes_at s (text_start s k i) (text_start s k (i + 1) - text_start s k i)) ≡ true → text_row_fault s k i ≡ false
  unfolding text_row_fault
  formed_row i lt h = rw (← offset_text t i lt, h) (and-false (valid s k i))

  module _ (i : ℕ) (lt : i < length_of s k) where
    from : text_start s k 0 ≤ text_start s k i
    from = starts_rise t 0 i (omega arith) (omega arith)

    upto : text_start s k i + (text_start s k (i + 1) - text_start s k i) ≤ text_start s k 0 + (text_start s k (length_of s k) - text_start s k 0)
    upto = omega (arith, from, starts_apart t i lt, starts_rise t (i + 1) (length_of s k) (omega arith) (omega arith))

  plain_together : any_high (bytes_at s (text_start s k 0) (text_start s k (length_of s k) - text_start s k 0)) ≡ false → any (text_row_fault s k) 0 (length_of s k) ≡ false
  plain_together e =
      any_none (text_row_fault s k) 0 (length_of s k) (λ i low lt. formed_row i (omega arith) (plain_part s _ _ e (text_start s k i) _ (from i (omega arith)) (upto i (omega arith))))

  module _ (none : any (splits s k (text_start s k (length_of s k))) 0 (length_of s k) ≡ false) where
    cut_at_lem : (j : ℕ) → j ≤ length_of s k → Cut s (text_start s k 0 + (text_start s k (length_of s k) - text_start s k 0)) (text_start s k j)
    unfolding splits
    cut_at_lem j le = cases (eq-or-lt_of_le {n = j} {m = length_of s k} le)
      where
        end : text_start s k 0 + (text_start s k (length_of s k) - text_start s k 0) ≡ text_start s k (length_of s k)
        end = omega (arith, all_rise)

        cases : (j ≡ length_of s k) ⊎ (j < length_of s k) → Cut s (text_start s k 0 + (text_start s k (length_of s k) - text_start s k 0)) (text_start s k j)
        cases (inl e) lt = absurd (omega (arith, end, ap (text_start s k) e))
        cases (inr before) lt = and_fails (ltb (text_start s k j) (text_start s k (length_of s k))) _ (any_below (splits s k (text_start s k (length_of s k))) _ none j before) (lt-ltb _ _ (omega (arith, end)))

    cut_together : well_formed (bytes_at s (text_start s k 0) (text_start s k (length_of s k) - text_start s k 0)) ≡ true → any (text_row_fault s k) 0 (length_of s k) ≡ false
    cut_together e = any_none (text_row_fault s k) 0 (length_of s k) (λ i low lt. formed_row i (omega arith) (row i (omega arith)))
      where
        row : (i : ℕ) → i < length_of s k → well_formed (bytes_at s (text_start s k i) (text_start s k (i + 1) - text_start s k i)) ≡ true
        row i lt =
            let end : text_start s k i + (text_start s k (i + 1) - text_start s k i) ≡ text_start s k (i + 1) = omega (arith, starts_apart t i lt) in
            part_formed s _ _ (text_start s k i) _ (from i lt) (upto i lt) (cut_at_lem i (omega arith)) (rw end (cut_at_lem (i + 1) (omega arith))) e

-- the same of both places as they are read
module _ {s : List ℕ} {k : ℕ} (t : OffsetNode s k) {n x y : ℕ} (en : n ≡ length_of s k) (ex : x ≡ text_start s k 0) (ey : y ≡ text_start s k n) where
  pub read_rise : x ≤ y
  read_rise = rw (ex, ey, en) (all_rise t)

  pub read_plain : any_high (bytes_at s x (y - x)) ≡ false → any (text_row_fault s k) 0 (length_of s k) ≡ false
  read_plain e = plain_together t (rw (ex, ey, en) at e)

  pub read_cut : any (splits s k y) 0 (length_of s k) ≡ false → well_formed (bytes_at s x (y - x)) ≡ true → any (text_row_fault s k) 0 (length_of s k) ≡ false
  read_cut none e = cut_together t (rw (ey, en) at none) (rw (ex, ey, en) at e)

-- the text of row i starts with a tail
module _ (s : List ℕ) (k end i : ℕ) {x : ℕ} (e : x ≡ text_start s k i) where
  pub not_split : end ≤ x → splits s k end (0 + i) ≡ false
  unfolding splits
  not_split le = rw (zero-add i, ← e, le-ltb x end le)

  pub split : {b : Bool} → x < end → b ≡ has tail (byte_at s x) → splits s k end (0 + i) ≡ b
  unfolding splits
  split lt eb = rw (zero-add i, ← e, lt-ltb x end lt) (sym eb)

-- a null row has no ill-formed text, and any other where its text is ill-formed
module _ (s : List ℕ) (k i : ℕ) where
  pub null_row : valid s k i ≡ false → text_row_fault s k i ≡ false
  unfolding text_row_fault
  null_row e = rw e

  pub text_row : {b : Bool} → valid s k i ≡ true → b ≡ not (well_formed (text_at s k (offset_of s k + i))) → b ≡ text_row_fault s k i
  unfolding text_row_fault
  text_row full e = rw full e

-- the whole node
module _ (s : List ℕ) (k : ℕ) {code : ℕ} {b : Bool} (e : code ≡ code_of s k) (f : b ≡ is_text code) where
  is_text_lem : b ≡ is_text (code_of s k)
  is_text_lem = f ∙ ap is_text e

  pub no_text : b ≡ false → false ≡ fault19 s k
  unfolding fault19
  no_text g = sym (ap (λ (x : Bool). x && any (text_row_fault s k) 0 (length_of s k)) (sym is_text_lem ∙ g))

  pub text_node : NoneBelow 19 s → k < node_count s → b ≡ true → TextNode s k
  text_node below node g = record { below = below; node = node; text = sym is_text_lem ∙ g }

module _ {s : List ℕ} {k : ℕ} (t : TextNode s k) {code : ℕ} (e : code ≡ code_of s k) where
  pub view_node : code ≡ 31 → ViewNode s k
  view_node is = record { text = t; views = rw (← e, is) refl }

  pub offset_node : code ≢ 31 → OffsetNode s k
  offset_node isnt = record { text = t; no_views = rw (← e) (ne_eqb code 31 isnt) }

pub text_fault : {s : List ℕ} {k : ℕ} {x : Bool} → TextNode s k → x ≡ any (text_row_fault s k) 0 (length_of s k) → x ≡ fault19 s k
unfolding fault19
text_fault {s} {k} t g = g ∙ sym (ap (λ (x : Bool). x && any (text_row_fault s k) 0 (length_of s k)) t.text)
