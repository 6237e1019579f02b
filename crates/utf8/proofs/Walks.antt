-- Walks of the parts of a text, side by side, end well exactly where the text is well-formed.
-- Each walk keeps how its part ends; the text is cut at places where no tail stands.
use mathlib.Core.Path.{◌≡◌, refl, sym, ap, ◌∙◌}
use mathlib.Core.Bool.{Bool, true, false, ◌&&◌, ◌||◌, and-true, and-false, false≢true}
use mathlib.Core.List.{List, [], ◌∷◌}
use Prim.Native.Nat.{ℕ, zero, suc, ◌+◌, ◌-◌, ◌<◌, ◌≤◌}
use native.Mathlib.Omega.{arith}
use native.Mathlib.Nat.{sub-zero, le_refl}
use lib.Dec.{eqb}
use lib.Seq.{drop-drop}
use lib.ListN.{length, take, drop, get_or}
use borrow.Author.Tests.{eqb-true, not-true}
use Rattle.std.specs.List.{All, AllZip, list_all, list_any}
use Rattle.std.proofs.lemmas.List.Elements.{AllZip-get_or, length_all_zip}
use Rattle.std.proofs.Common.{length-drop}
use Rattle.image.specs.Bytes.{bytes_at}
use Rattle.image.specs.Utf8.{next_state, walk, well_formed}
use Rattle.image.proofs.Bools.{and_left, and_right, or_left, or_right}
use Rattle.utf8.specs.declared.walk.Walk.{Walk}
use Rattle.utf8.specs.Ascii.{any_high}
use Rattle.utf8.specs.Cuts.{Cut}
use Rattle.utf8.specs.Walks.{Begun, Left, Further, Passed, ends_well, between, high_ahead, ill, plain}
use Rattle.utf8.proofs.Cutting.{cut_at_lem, ill_formed}
use Rattle.utf8.proofs.Plain.{plain_walk}
use Rattle.image.proofs.Slices.{bytes_taken}
use Rattle.utf8.proofs.Slices.{all_bytes}
use Rattle.utf8.proofs.Steps.{walk_step}
use Rattle.utf8.proofs.WalkAgrees.{walk_agrees}

walk_parts : (q n : ℕ) (s : List ℕ) → walk q s ≡ walk (walk q (take n s)) (drop n s)
unfolding walk
walk_parts q zero s = refl
walk_parts q (suc n) [] = refl
walk_parts q (suc n) (b ∷ s) = walk_parts (next_state q b) n s

further_none : {w : Walk} → Further 0 w w
further_none = record { left = refl; same = refl }

further_then : {m n : ℕ} {w q r : Walk} → Further m w q → Further n q r → Further (m + n) w r
further_then {m} {n} {w} f g = record { left = g.left ∙ ap (drop n) f.left ∙ drop-drop n m w.left.now; same = g.same ∙ f.same }

-- one byte
pub further_byte : {w r : Walk} → Left 1 w → r.left.now ≡ drop 1 w.left.now → r.state ≡ next_state w.state (get_or w.left.now 0 0) → Further 1 w r
unfolding ends_well
further_byte {w} l left state = record { left = left; same = ap (λ (q : ℕ). eqb q 0) (rw (state, left) (sym (walk_step w.state w.left.now 0 l.room))) }

-- bytes up to 7F, between characters
further_plain : {n : ℕ} {w r : Walk} → eqb w.state 0 ≡ true → any_high (take n w.left.now) ≡ false → Passed n w r → Further n w r
unfolding ends_well
further_plain {n} {w} {r} here low p =
    let zero_is : w.state ≡ 0 = eqb-true _ _ here in
    record { left = p.left; same = ap (λ (q : ℕ). eqb q 0) (rw (p.state, p.left, zero_is) (sym (walk_parts 0 n w.left.now ∙ rw (plain_walk (take n w.left.now) low)))) }

left_after : {k m n : ℕ} {w r : Walk} → m + n ≤ k → Left k w → Further m w r → Left n r
left_after {k} {m} {n} {w} le l f = record { room = rw f.left (omega (arith, l.room, length-drop m w.left.now)) }

-- The same for each of some walks.
pub each_none : (ws : List Walk) → AllZip (Further 0) ws ws
each_none [] = tt
each_none (w ∷ ws) = (further_none, each_none ws)

pub each_then : (m n : ℕ) (ws qs rs : List Walk) → AllZip (Further m) ws qs → AllZip (Further n) qs rs → AllZip (Further (m + n)) ws rs
each_then m n [] [] [] f g = tt
each_then m n [] [] (r ∷ rs) f g = absurd g
each_then m n [] (q ∷ qs) rs f g = absurd f
each_then m n (w ∷ ws) [] rs f g = absurd f
each_then m n (w ∷ ws) (q ∷ qs) [] f g = absurd g
each_then m n (w ∷ ws) (q ∷ qs) (r ∷ rs) f g = (further_then f.0 g.0, each_then m n ws qs rs f.1 g.1)

pub each_after : {k n : ℕ} (m : ℕ) (ws rs : List Walk) → m + n ≤ k → All (Left k) ws → AllZip (Further m) ws rs → All (Left n) rs
each_after m ws rs le l f =
    let long : length ws ≡ length rs = length_all_zip (Further m) ws rs f in
    λ i d lt. left_after le (l i d (omega arith)) (AllZip-get_or (Further m) ws rs i d d f (omega arith))

pub each_same : (m : ℕ) (ws rs : List Walk) → AllZip (Further m) ws rs → list_all ends_well rs ≡ list_all ends_well ws
each_same m [] [] f = refl
each_same m [] (r ∷ rs) f = absurd f
each_same m (w ∷ ws) [] f = absurd f
each_same m (w ∷ ws) (r ∷ rs) f = rw (f.0.same, each_same m ws rs f.1)

passed : (n : ℕ) (ws rs : List Walk) → list_all between ws ≡ true → list_any (high_ahead n) ws ≡ false → AllZip (Passed n) ws rs → AllZip (Further n) ws rs
passed n [] [] e low f = tt
passed n [] (r ∷ rs) e low f = absurd f
passed n (w ∷ ws) [] e low f = absurd f
passed n (w ∷ ws) (r ∷ rs) e low f = (
  further_plain (and_left (between w) (list_all between ws) e) (or_left (high_ahead n w) (list_any (high_ahead n) ws) low) f.0,
  passed n ws rs (and_right (between w) (list_all between ws) e) (or_right (high_ahead n w) (list_any (high_ahead n) ws) low) f.1,
)

pub each_plain : (n : ℕ) (ws rs : List Walk) → plain n ws ≡ true → AllZip (Passed n) ws rs → AllZip (Further n) ws rs
unfolding plain
each_plain n ws rs e f =
    passed n ws rs (and_left (list_all between ws) _ e) (not-true _ (and_right (list_all between ws) _ e)) f

-- a walk in state 8 ends ill
pub ill_ends : (ws : List Walk) → list_any ill ws ≡ true → list_all ends_well ws ≡ false
unfolding ends_well
ill_ends [] e = absurd (false≢true e)
ill_ends (w ∷ ws) e = cases (ill w) refl (ill_ends ws) e
  where
    cases : (t : Bool) → ill w ≡ t → (list_any ill ws ≡ true → list_all ends_well ws ≡ false) → t || list_any ill ws ≡ true → ends_well w && list_all ends_well ws ≡ false
    cases true here f h = rw (eqb-true w.state 8 here, ill_formed w.left.now)
    cases false here f h = rw (f h) (and-false (ends_well w))

-- a loop that gives walks for walks, one by one, has come to number k
pub record Upto (P : Walk → Walk → Type 0) (ws rs : List Walk) (k : ℕ) : Type 0 where
  pub sized : length rs ≡ length ws
  pub given : (d : Walk) (j : ℕ) → j < k → P (get_or ws j d) (get_or rs j d)
  pub rest : (d : Walk) (j : ℕ) → k ≤ j → get_or rs j d ≡ get_or ws j d

by_place : (P : Walk → Walk → Type 0) (ws rs : List Walk) → length rs ≡ length ws → ((d : Walk) (j : ℕ) → j < length ws → P (get_or ws j d) (get_or rs j d)) → AllZip P ws rs
by_place P [] [] e f = tt
by_place P [] (r ∷ rs) e f = absurd (omega arith)
by_place P (w ∷ ws) [] e f = absurd (omega arith)
by_place P (w ∷ ws) (r ∷ rs) e f = (f w 0 (omega arith), by_place P ws rs (omega arith) (λ d j lt. f d (suc j) (omega arith)))

pub upto_all : (P : Walk → Walk → Type 0) {ws rs : List Walk} {k : ℕ} → length ws ≤ k → Upto P ws rs k → AllZip P ws rs
upto_all P {ws} {rs} le u = by_place P ws rs u.sized (λ d j lt. u.given d j (omega arith))

-- a walk that is at the first byte of a text
pub begun_ends : {s : List ℕ} {w : Walk} → Begun s w → ends_well w ≡ well_formed s
unfolding ends_well
begun_ends {s} b = rw (b.left, b.state) (sym (walk_agrees s))

-- a part of a text, from place x to place y
part_ends : (s : List ℕ) (x y : ℕ) {w : Walk} → x ≤ y → y ≤ length s → Begun (take (y - x) (drop x s)) w → ends_well w ≡ well_formed (bytes_at s x (y - x))
part_ends s x y le inside b = begun_ends b ∙ ap well_formed (bytes_taken s x (y - x) (omega arith))

-- a text that is cut at b, c and d
pub cut_ends : (s : List ℕ) (b c d : ℕ) {w x y z : Walk} → b ≤ c → c ≤ d → d ≤ length s
    → Cut s (length s) b → Cut s (length s) c → Cut s (length s) d
    → Begun (take b s) w → Begun (take (c - b) (drop b s)) x → Begun (take (d - c) (drop c s)) y → Begun (take (length s - d) (drop d s)) z
    → list_all ends_well (w ∷ x ∷ y ∷ z ∷ []) ≡ well_formed s
cut_ends s b c d bc cd de at_b at_c at_d begun_w begun_x begun_y begun_z =
    rw (
      begun_ends begun_w,
      bytes_taken s 0 b (omega arith),
      part_ends s b c bc (omega arith) begun_x,
      part_ends s c d cd de begun_y,
      part_ends s d (length s) de (le_refl (length s)) begun_z,
      and-true (well_formed (bytes_at s d (length s - d))),
      ← cut_at_lem s c d (length s) cd de at_d,
      ← cut_at_lem s b c (length s) bc (omega arith) at_c,
    )
    (sym whole)
  where
    whole : well_formed s ≡ well_formed (bytes_at s 0 b) && well_formed (bytes_at s b (length s - b))
    whole = ap well_formed (sym (all_bytes s)) ∙ rw (sub-zero (length s), sub-zero b) at (cut_at_lem s 0 b (length s) (omega arith) (omega arith) at_b)

-- three tests of which none holds
pub none_holds : {u v w x y z : Bool} → u ≡ x → v ≡ y → w ≡ z → u || v || w ≡ false → (x ≡ false) × (y ≡ false) × (z ≡ false)
none_holds {u} {v} {w} p q r e =
    let f : u || v ≡ false = or_left (u || v) w e in
    (sym p ∙ or_left u v f, sym q ∙ or_right u v f, sym r ∙ or_right (u || v) w e)
