-- Offsets that stand equally far above the first of them make equal spans, and the other way.
-- Each offset is the first and the spans up to it; a span is the difference of two such distances.
use mathlib.Core.Path.{◌≡◌, sym, ap₂, ◌∙◌}
use mathlib.Core.Bool.{Bool, true, ◌&&◌}
use mathlib.Core.List.{List}
use mathlib.Core.Logic.{◌⊎◌, inl, inr}
use Prim.Native.Nat.{ℕ, suc, ◌+◌, ◌*◌, ◌-◌, ◌<◌, ◌≤◌}
use native.Mathlib.Omega.{arith}
use native.Mathlib.Nat.{add-mul, mul-le-mul_right}
use lib.ListN.{length}
use lib.Dec.{eqb}
use borrow.Author.Tests.{eqb-true, eq-eqb}
use Rattle.image.specs.Bytes.{number_at}
use Rattle.image.specs.Record.{buffer_place}
use Rattle.image.specs.Element.{element_width, element_place, element_at}
use Rattle.image.specs.Reads.{Read, is_width}
use Rattle.image.proofs.Bools.{tests_same}
use Rattle.values.specs.Pairs.{all, same_span, span_at, same_distance}
use Rattle.values.specs.Parts.{Spans, Above}
use Rattle.values.proofs.Steps.{all_by, all_snoc}
use Rattle.values.proofs.Blocks.{Rise, rise_far, equal_spans, all_at}

-- some of them
pub above_part : (s : List ℕ) (p w x i n h m : ℕ) → h + m ≤ n → Above s p w x i n → Above s p w x (i + h) m
above_part s p w x i n h m le r =
    let more : (i + h + m) * w ≤ (i + n) * w = mul-le-mul_right w (omega arith) in
    record { whole = r.whole; inside = omega (arith, r.inside); above = λ g lo hi. r.above g (omega arith) (omega arith) }

pub above_ahead : {s : List ℕ} {p w x i n h m : ℕ} → Above s p w x i n → h ≤ n → m ≤ n - h → Above s p w x (i + h) m
above_ahead r le rest = above_part _ _ _ _ _ _ _ _ (omega arith) r

-- a width of offsets is one that integers have
pub is_width_lem : (w : ℕ) → (w ≡ 4) ⊎ (w ≡ 8) → is_width w ≡ true
unfolding is_width
is_width_lem w (inl e) = rw e
is_width_lem w (inr e) = rw e

pub above_narrow : {s : List ℕ} {p w x i n : ℕ} → Above s p w x i n → w ≤ 8
above_narrow {w = w} r = cases r.whole
  where
    cases : (w ≡ 4) ⊎ (w ≡ 8) → w ≤ 8
    cases (inl e) = omega arith
    cases (inr e) = omega arith

-- number i + h of them lies inside
pub above_room : {s : List ℕ} {p w x i n : ℕ} (h : ℕ) → Above s p w x i n → h < n → p + (i + h) * w + w ≤ length s
above_room {s} {p} {w} {x} {i} {n} h r lt =
    let more : (i + h + 1) * w ≤ (i + n) * w = mul-le-mul_right w (omega arith) in
    let next : (i + h + 1) * w ≡ (i + h) * w + 1 * w = add-mul (i + h) 1 w in
    omega (arith, r.inside)

pub above_read : {s : List ℕ} {p w x i n bits u : ℕ} (h : ℕ) → Above s p w x i n → h < n → Read (number_at w s (p + (i + h) * w)) bits u → x ≤ u
above_read {s} {p} {w} {x} {i} {n} h r lt e = omega (arith, e.value, r.above (i + h) (omega arith) (omega arith))

-- rows are few
pub above_few : {s : List ℕ} {p w x i n : ℕ} → Above s p w x i n → i + n ≤ length s
above_few {s} {p} {w} {x} {i} {n} r = cases r.whole
  where
    cases : (w ≡ 4) ⊎ (w ≡ 8) → i + n ≤ length s
    cases (inl e) = let f = rw e at r.inside in omega arith
    cases (inr e) = let f = rw e at r.inside in omega arith

-- one pair more
pub distance_more : (a : List ℕ) (p : ℕ) (b : List ℕ) (q w x y i j h : ℕ) {m n u v : ℕ} {same : Bool} → same ≡ all (same_distance a p b q w x y) i j h
    → Read (number_at w a (p + (i + h) * w)) m u → Read (number_at w b (q + (j + h) * w)) n v
    → same && eqb (u - x) (v - y) ≡ all (same_distance a p b q w x y) i j (h + 1)
unfolding same_distance
distance_more a p b q w x y i j h e eu ev = ap₂ (λ (s t : Bool). s && t) e (ap₂ (λ (s t : ℕ). eqb (s - x) (t - y)) eu.value ev.value) ∙ sym (all_snoc _ i j h)

-- distances and spans of two functions that rise
module _ (f g : ℕ → ℕ) (i j n : ℕ) (rf : Rise f i n) (rg : Rise g j n) where
  spans_distances : ((h : ℕ) → h < n → f (suc (i + h)) - f (i + h) ≡ g (suc (j + h)) - g (j + h)) → (h : ℕ) → h ≤ n → f (i + h) - f i ≡ g (j + h) - g j
  spans_distances e h le =
      let far : g j + (f (i + h) - f i) ≡ g (j + h) = equal_spans f g i j h (λ m lo hi. rf m lo (omega arith)) (λ m lo hi. rg m lo (omega arith)) (λ m lt. e m (omega arith)) in
      omega arith

  distances_span : ((h : ℕ) → h ≤ n → f (i + h) - f i ≡ g (j + h) - g j) → (h : ℕ) → h < n → f (suc (i + h)) - f (i + h) ≡ g (suc (j + h)) - g (j + h)
  distances_span e h lt =
      let u : i + suc h ≡ suc (i + h) = omega arith in
      let v : j + suc h ≡ suc (j + h) = omega arith in
      let here = e h (omega arith) in
      let next : f (suc (i + h)) - f i ≡ g (suc (j + h)) - g j = rw (u, v) at (e (suc h) (omega arith)) in
      let up = rise_far f i h (λ m lo hi. rf m lo (omega arith)) in
      let vp = rise_far g j h (λ m lo hi. rg m lo (omega arith)) in
      let us = rf (i + h) (omega arith) (omega arith) in
      let vs = rg (j + h) (omega arith) (omega arith) in
      omega arith

pub narrow_width : {w v : ℕ} → (w ≡ 4) ⊎ (w ≡ 8) → v ≡ w → v ≤ 8
narrow_width (inl e) f = omega (arith, e, f)
narrow_width (inr e) f = omega (arith, e, f)

-- what was read of the two sides: the width of their offsets, where these start, and the first of each
pub record Firsts (a b : List ℕ) (k l i j w p q x y : ℕ) : Type 0 where
  pub width : w ≡ element_width a k
  pub left : p ≡ buffer_place a k 0
  pub right : q ≡ buffer_place b l 0
  pub left_first : x ≡ element_at a k i
  pub right_first : y ≡ element_at b l j

-- offsets that have not 4 bytes have 8
pub else_wide : {v w : ℕ} → (w ≡ 4) ⊎ (w ≡ 8) → v ≡ w → (v ≡ 4 → ⊥) → 8 ≡ w
else_wide (inl e) f ne = absurd (ne (f ∙ e))
else_wide (inr e) f ne = sym e

module _ {a b : List ℕ} {k l i j n : ℕ} (r : Spans a b k l i j n) {w p q x y : ℕ} (f : Firsts a b k l i j w p q x y) where
  left_number : (h : ℕ) → number_at w a (p + h * w) ≡ element_at a k h
  unfolding element_at element_place
  left_number h = rw (f.width, f.left)

  right_number : (h : ℕ) → number_at w b (q + h * w) ≡ element_at b l h
  unfolding element_at element_place
  right_number h = rw (f.width, r.same, f.right)

  left_above : Above a p w x i (n + 1)
  unfolding element_place
  left_above = record {
    whole = rw f.width r.whole;
    inside =
        let e : (i + (n + 1)) * element_width a k ≡ i * element_width a k + (n + 1) * element_width a k = add-mul i (n + 1) (element_width a k) in
        rw (f.width, f.left) (omega (arith, r.left_inside));
    above = λ h lo hi.
        let e : i + (h - i) ≡ h = omega arith in
        let up : element_at a k i ≤ element_at a k h = rw e at (rise_far (element_at a k) i (h - i) (λ m low high. r.left m low (omega arith))) in
        rw (left_number h, f.left_first) up;
  }

  right_above : Above b q w y j (n + 1)
  unfolding element_place
  right_above = record {
    whole = rw f.width r.whole;
    inside =
        let e : (j + (n + 1)) * element_width b l ≡ j * element_width b l + (n + 1) * element_width b l = add-mul j (n + 1) (element_width b l) in
        rw (f.width, r.same, f.right) (omega (arith, r.right_inside));
    above = λ h lo hi.
        let e : j + (h - j) ≡ h = omega arith in
        let up : element_at b l j ≤ element_at b l h = rw e at (rise_far (element_at b l) j (h - j) (λ m low high. r.right m low (omega arith))) in
        rw (right_number h, f.right_first) up;
  }

  pub both_above : Above a p w x i (n + 1) × Above b q w y j (n + 1)
  both_above = (left_above, right_above)

  distance_at : (h : ℕ) → same_distance a p b q w x y (i + h) (j + h) ≡ eqb (element_at a k (i + h) - element_at a k i) (element_at b l (j + h) - element_at b l j)
  unfolding same_distance
  distance_at h = rw (left_number (i + h), right_number (j + h), f.left_first, f.right_first)

  pub distances_spans : all (same_distance a p b q w x y) i j (n + 1) ≡ all (same_span a k b l) i j n
  unfolding same_span span_at
  distances_spans =
      tests_same _ _
      (λ e. all_by (same_span a k b l) i j n (λ h lt. eq-eqb _ _
      (distances_span (element_at a k) (element_at b l) i j n r.left r.right
      (λ m le. eqb-true _ _ (sym (distance_at m) ∙ all_at (same_distance a p b q w x y) i j (n + 1) e m (omega arith))) h lt)))
      (λ e. all_by (same_distance a p b q w x y) i j (n + 1) (λ h lt. distance_at h ∙ eq-eqb _ _
      (spans_distances (element_at a k) (element_at b l) i j n r.left r.right
      (λ m le. eqb-true _ _ (all_at (same_span a k b l) i j n e m le)) h (omega arith))))
