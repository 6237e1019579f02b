-- A text that is cut where no tail stands is well-formed exactly where both parts are.
-- Inside a character a byte that is no tail leads to state 8 for ever, so the walk of a well-formed text is in state 0 at the cut.
use mathlib.Core.Path.{◌≡◌, refl, sym, ap, ap₂, ◌∙◌}
use mathlib.Core.Bool.{Bool, true, false, cond, ◌&&◌}
use mathlib.Core.List.{List, [], ◌∷◌}
use Prim.Native.Nat.{ℕ, zero, suc, ◌+◌, ◌-◌, ◌<◌, ◌≤◌}
use native.Mathlib.Omega.{arith}
use lib.Dec.{eqb, leb, eqb-suc-zero}
use lib.ListN.{get_or}
use borrow.Author.Tests.{leb-true, leb-false, le-leb, lt-leb}
use Rattle.image.specs.Bytes.{byte_at, bytes_at}
use Rattle.image.specs.Ranges.{first}
use Rattle.image.specs.Utf8.{◌to◌, has, tail, Choice, ◌then◌, choose, steps, next_state, walk, well_formed}
use Rattle.image.proofs.Bools.{and_left, and_right, and_fails, fails_and}
use Rattle.image.proofs.Ranges.{first_from, first_within}
use Rattle.utf8.specs.Cuts.{begins, Cut}
use Rattle.utf8.proofs.Steps.{all_at, walk_split}
use Rattle.utf8.proofs.WalkAgrees.{walk_agrees}

-- every range of the choices lies among the tails
abbrev tails : List (Choice ℕ) → Bool
tails [] = true
tails (low to high then x ∷ choices) = leb 0x80 low && (leb high 0xBF && tails choices)

no_tail : (choices : List (Choice ℕ)) (b : ℕ) → tails choices ≡ true → has tail b ≡ false → choose choices 8 b ≡ 8
no_tail [] b e h = refl
no_tail (low to high then x ∷ choices) b e h =
    let rest : leb high 0xBF && tails choices ≡ true = and_right (leb 0x80 low) _ e in
    let from : 0x80 ≤ low = leb-true _ _ (and_left (leb 0x80 low) _ e) in
    let upto : high ≤ 0xBF = leb-true _ _ (and_left (leb high 0xBF) _ rest) in
    let outside : has (low to high) b ≡ false = fails_and (leb low b) (leb b high) (past from upto) in
    ap (λ (t : Bool). cond t x (choose choices 8 b)) outside ∙ no_tail choices b (and_right (leb high 0xBF) _ rest) h
  where
    past : 0x80 ≤ low → high ≤ 0xBF → leb low b ≡ true → leb b high ≡ false
    past from upto p =
        let least : low ≤ b = leb-true low b p in
        let most : 0xBF < b = leb-false b 0xBF (and_fails (leb 0x80 b) (leb b 0xBF) h (le-leb 0x80 b (omega arith))) in
        lt-leb b high (omega arith)

-- in any state but 0, a byte that is no tail
inside : (q b : ℕ) → has tail b ≡ false → next_state (suc q) b ≡ 8
unfolding next_state steps
inside q b h = no_tail (get_or (rest steps) q []) b (all_at tails refl (rest steps) refl q) h
  where
    rest : List (List (Choice ℕ)) → List (List (Choice ℕ))
    rest [] = []
    rest (x ∷ more) = more

pub ill_formed : (s : List ℕ) → walk 8 s ≡ 8
unfolding walk next_state steps
ill_formed [] = refl
ill_formed (b ∷ s) = ill_formed s

-- a walk that is inside a character at the cut ends ill
ends_ill : (s : List ℕ) (q i n : ℕ) → Cut s (i + n) i → eqb (walk (suc q) (bytes_at s i n)) 0 ≡ false
unfolding walk bytes_at
ends_ill s q i zero c = eqb-suc-zero q
ends_ill s q i (suc n) c =
    let e : next_state (suc q) (byte_at s i) ≡ 8 = inside q (byte_at s i) (c (omega arith)) in
    ap (λ (r : ℕ). eqb (walk r (bytes_at s (suc i) n)) 0) e ∙ ap (λ (r : ℕ). eqb r 0) (ill_formed (bytes_at s (suc i) n))

-- the law, for m bytes and n more
pub cut_formed : (s : List ℕ) (i m n : ℕ) → Cut s (i + m + n) (i + m)
    → well_formed (bytes_at s i (m + n)) ≡ well_formed (bytes_at s i m) && well_formed (bytes_at s (i + m) n)
cut_formed s i m n c =
    walk_agrees (bytes_at s i (m + n))
    ∙ ap (λ (q : ℕ). eqb q 0) (walk_split s 0 i m n)
    ∙ cases (walk 0 (bytes_at s i m))
    ∙ sym (ap₂ ◌&&◌ (walk_agrees (bytes_at s i m)) (walk_agrees (bytes_at s (i + m) n)))
  where
    cases : (q : ℕ) → eqb (walk q (bytes_at s (i + m) n)) 0 ≡ eqb q 0 && eqb (walk 0 (bytes_at s (i + m) n)) 0
    cases zero = refl
    cases (suc q) = ends_ill s q (i + m) n c ∙ rw (eqb-suc-zero q)

-- the law, for a text from place x to place z that is cut at place y
pub cut_at_lem : (s : List ℕ) (x y z : ℕ) → x ≤ y → y ≤ z → Cut s z y
    → well_formed (bytes_at s x (z - x)) ≡ well_formed (bytes_at s x (y - x)) && well_formed (bytes_at s y (z - y))
cut_at_lem s x y z from upto c =
    let here : x + (y - x) ≡ y = omega arith in
    let whole : z - x ≡ y - x + (z - y) = omega arith in
    rw whole (cut_formed s x (y - x) (z - y) (λ lt. rw here (c (omega arith))) ∙ rw here)

-- each part of a well-formed text between two places where it may be cut is well-formed: a look at a column's whole buffer,
-- and at the byte where each of its texts starts, answers for each of them
pub part_formed : (s : List ℕ) (a n x m : ℕ) → a ≤ x → x + m ≤ a + n → Cut s (a + n) x → Cut s (a + n) (x + m)
    → well_formed (bytes_at s a n) ≡ true → well_formed (bytes_at s x m) ≡ true
part_formed s a n x m from upto start end e =
    let whole : n ≡ a + n - a = omega arith in
    let part : x + m - x ≡ m = omega arith in
    let here = sym (cut_at_lem s a x (a + n) from (omega arith) start) ∙ rw whole at e in
    let back = sym (cut_at_lem s x (x + m) (a + n) (omega arith) upto end) ∙ and_right (well_formed (bytes_at s a (x - a))) _ here in
    ap (λ (k : ℕ). well_formed (bytes_at s x k)) (sym part)
    ∙ and_left _ (well_formed (bytes_at s (x + m) (a + n - (x + m)))) back

-- the first of three places where no tail stands is near
pub cut_near : (s : List ℕ) (x : ℕ) {r : ℕ} → r ≡ first (begins s) x 3 → (x ≤ r) × (r ≤ x + 3)
cut_near s x e = rw e (first_from (begins s) x 3, first_within (begins s) x 3)
