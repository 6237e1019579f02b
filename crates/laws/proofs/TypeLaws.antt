-- The agreement of types is reflexive, symmetric and transitive, for all images.
-- Heads and labels that agree are equations; the laws go by induction over the depth, at any two nodes, entries of a Map or not.
use mathlib.Core.Path.{◌≡◌, refl, sym, ◌∙◌}
use mathlib.Core.Bool.{Bool, true, false, not, beq, ◌&&◌, ◌||◌}
use mathlib.Core.List.{List}
use Prim.Native.Nat.{ℕ, zero, suc, ◌+◌, ◌<◌}
use lib.Dec.{eqb}
use borrow.Author.Tests.{eqb-true, eq-eqb}
use Rattle.image.specs.Record.{max_depth, code_of, id_of, p1_of, p2_of, first_child, child_count, nullable}
use Rattle.image.specs.declared.labels.Counted.{Counted}
use Rattle.image.specs.TypeCode.{is_map}
use Rattle.image.specs.Types.{counted_for, name_of, same_bytes, labels_agree, heads_agree, types_agree_at, types_agree}
use Rattle.image.proofs.Bools.{flags_same, and_left, and_right, and_true, when_true, true_when}
use Rattle.image.proofs.Ranges.{every_below, every_of_below}
use Rattle.laws.proofs.Sound.{same_bytes_is}

flag_itself : (x : Bool) → beq x x ≡ true
flag_itself true = refl
flag_itself false = refl

-- what counts of node i of s and of node j of t is the same
pub record Labels (c : Counted) (s t : List ℕ) (i j : ℕ) : Type 0 where
  pub name : c.name ≡ true → name_of s i ≡ name_of t j
  pub flag : c.flag ≡ true → nullable s i ≡ nullable t j
  pub id : c.id ≡ true → id_of s i ≡ id_of t j

pub labels_same : (c : Counted) (s t : List ℕ) (i j : ℕ) → labels_agree c s t i j ≡ true → Labels c s t i j
unfolding labels_agree
labels_same c s t i j e = record {
  name = λ on. (same_bytes_is _ _).0 (when_true _ _ (and_left _ _ (and_left _ _ e)) on);
  flag = λ on. flags_same _ _ (when_true c.flag _ (and_right (not c.name || same_bytes (name_of s i) (name_of t j)) _ (and_left _ _ e)) on);
  id = λ on. eqb-true _ _ (when_true c.id _ (and_right ((not c.name || same_bytes (name_of s i) (name_of t j)) && (not c.flag || beq (nullable s i) (nullable t j))) _ e) on);
}

pub same_labels : (c : Counted) (s t : List ℕ) (i j : ℕ) → Labels c s t i j → labels_agree c s t i j ≡ true
unfolding labels_agree
same_labels c s t i j l =
    and_true _ _ (and_true _ _
    (true_when c.name _ (λ on. (same_bytes_is _ _).1 (l.name on)))
    (true_when c.flag _ (λ on. rw (l.flag on) (flag_itself (nullable t j)))))
    (true_when c.id _ (λ on. eq-eqb _ _ (l.id on)))

labels_refl : (c : Counted) (s : List ℕ) (i : ℕ) → Labels c s s i i
labels_refl c s i = record { name = λ on. refl; flag = λ on. refl; id = λ on. refl }

labels_sym : {c : Counted} {s t : List ℕ} {i j : ℕ} → Labels c s t i j → Labels c t s j i
labels_sym l = record { name = λ on. sym (l.name on); flag = λ on. sym (l.flag on); id = λ on. sym (l.id on) }

labels_trans : {c : Counted} {s t u : List ℕ} {i j k : ℕ} → Labels c s t i j → Labels c t u j k → Labels c s u i k
labels_trans l m = record { name = λ on. l.name on ∙ m.name on; flag = λ on. l.flag on ∙ m.flag on; id = λ on. l.id on ∙ m.id on }

-- code, p1, p2 and child count of node i of s and of node j of t are the same
pub record SameHeads (s t : List ℕ) (i j : ℕ) : Type 0 where
  pub code : code_of s i ≡ code_of t j
  pub p1 : p1_of s i ≡ p1_of t j
  pub p2 : p2_of s i ≡ p2_of t j
  pub children : child_count s i ≡ child_count t j

pub heads_same : (s t : List ℕ) (i j : ℕ) → heads_agree s t i j ≡ true → SameHeads s t i j
unfolding heads_agree
heads_same s t i j e =
    let e3 = and_left _ _ e in
    let e2 = and_left _ _ e3 in
    record {
      code = eqb-true _ _ (and_left _ _ e2);
      p1 = eqb-true _ _ (and_right (eqb (code_of s i) (code_of t j)) _ e2);
      p2 = eqb-true _ _ (and_right (eqb (code_of s i) (code_of t j) && eqb (p1_of s i) (p1_of t j)) _ e3);
      children = eqb-true _ _ (and_right (eqb (code_of s i) (code_of t j) && eqb (p1_of s i) (p1_of t j) && eqb (p2_of s i) (p2_of t j)) _ e);
    }

pub same_heads : (s t : List ℕ) (i j : ℕ) → SameHeads s t i j → heads_agree s t i j ≡ true
unfolding heads_agree
same_heads s t i j h =
    and_true _ _ (and_true _ _ (and_true _ _ (eq-eqb _ _ h.code) (eq-eqb _ _ h.p1)) (eq-eqb _ _ h.p2)) (eq-eqb _ _ h.children)

heads_refl : (s : List ℕ) (i : ℕ) → SameHeads s s i i
heads_refl s i = record { code = refl; p1 = refl; p2 = refl; children = refl }

heads_sym : {s t : List ℕ} {i j : ℕ} → SameHeads s t i j → SameHeads t s j i
heads_sym h = record { code = sym h.code; p1 = sym h.p1; p2 = sym h.p2; children = sym h.children }

heads_trans : {s t u : List ℕ} {i j k : ℕ} → SameHeads s t i j → SameHeads t u j k → SameHeads s u i k
heads_trans h g = record { code = h.code ∙ g.code; p1 = h.p1 ∙ g.p1; p2 = h.p2 ∙ g.p2; children = h.children ∙ g.children }

-- one level of the agreement of types: the heads, and of the children in turn the labels and the types
pub record Level (d : ℕ) (p : Bool) (s t : List ℕ) (i j : ℕ) : Type 0 where
  pub heads : SameHeads s t i j
  pub labels : (c : ℕ) → c < child_count s i → Labels (counted_for p (code_of s i)) s t (first_child s i + c) (first_child t j + c)
  pub types : (c : ℕ) → c < child_count s i → types_agree_at d (is_map (code_of s i)) s t (first_child s i + c) (first_child t j + c) ≡ true

pub level : (d : ℕ) (p : Bool) (s t : List ℕ) (i j : ℕ) → types_agree_at (suc d) p s t i j ≡ true → Level d p s t i j
unfolding types_agree_at
level d p s t i j e = record {
  heads = heads_same s t i j (and_left _ _ e);
  labels = λ c lt. labels_same _ s t _ _ (and_left _ _ (child c lt));
  types = λ c lt. and_right (labels_agree (counted_for p (code_of s i)) s t (first_child s i + c) (first_child t j + c)) _ (child c lt);
}
  where
    child : (c : ℕ) → c < child_count s i
        → labels_agree (counted_for p (code_of s i)) s t (first_child s i + c) (first_child t j + c)
        && types_agree_at d (is_map (code_of s i)) s t (first_child s i + c) (first_child t j + c) ≡ true
    child = every_below _ (child_count s i) (and_right (heads_agree s t i j) _ e)

pub of_level : (d : ℕ) (p : Bool) (s t : List ℕ) (i j : ℕ) → Level d p s t i j → types_agree_at (suc d) p s t i j ≡ true
unfolding types_agree_at
of_level d p s t i j l =
    and_true _ _ (same_heads s t i j l.heads)
    (every_of_below _ (child_count s i) (λ c lt. and_true _ _ (same_labels _ s t _ _ (l.labels c lt)) (l.types c lt)))

at_refl : (d : ℕ) (p : Bool) (s : List ℕ) (i : ℕ) → types_agree_at d p s s i i ≡ true
unfolding types_agree_at
at_refl zero p s i = refl
at_refl (suc d) p s i = of_level d p s s i i record { heads = heads_refl s i; labels = λ c lt. labels_refl _ s _; types = λ c lt. at_refl d _ s _ }

level_sym : (d : ℕ) (p : Bool) (s t : List ℕ) (i j : ℕ)
    → ((q : Bool) (a b : ℕ) → types_agree_at d q s t a b ≡ true → types_agree_at d q t s b a ≡ true)
    → Level d p s t i j → Level d p t s j i
level_sym d p s t i j below l = record {
  heads = heads_sym l.heads;
  labels = λ c lt. rw (← l.heads.code) (labels_sym (l.labels c (rw l.heads.children lt)));
  types = λ c lt. rw (← l.heads.code) (below _ _ _ (l.types c (rw l.heads.children lt)));
}

at_sym : (d : ℕ) (p : Bool) (s t : List ℕ) (i j : ℕ) → types_agree_at d p s t i j ≡ true → types_agree_at d p t s j i ≡ true
unfolding types_agree_at
at_sym zero p s t i j e = refl
at_sym (suc d) p s t i j e = of_level d p t s j i (level_sym d p s t i j (λ q a b. at_sym d q s t a b) (level d p s t i j e))

level_trans : (d : ℕ) (p : Bool) (s t u : List ℕ) (i j k : ℕ)
    → ((q : Bool) (a b c : ℕ) → types_agree_at d q s t a b ≡ true → types_agree_at d q t u b c ≡ true → types_agree_at d q s u a c ≡ true)
    → Level d p s t i j → Level d p t u j k → Level d p s u i k
level_trans d p s t u i j k below l m = record {
  heads = heads_trans l.heads m.heads;
  labels = λ c lt. labels_trans (l.labels c lt) (rw l.heads.code (m.labels c (rw (← l.heads.children) lt)));
  types = λ c lt. below _ _ _ _ (l.types c lt) (rw l.heads.code (m.types c (rw (← l.heads.children) lt)));
}

at_trans : (d : ℕ) (p : Bool) (s t u : List ℕ) (i j k : ℕ)
    → types_agree_at d p s t i j ≡ true → types_agree_at d p t u j k ≡ true → types_agree_at d p s u i k ≡ true
unfolding types_agree_at
at_trans zero p s t u i j k e f = refl
at_trans (suc d) p s t u i j k e f =
    of_level d p s u i k (level_trans d p s t u i j k (λ q a b c. at_trans d q s t u a b c) (level d p s t i j e) (level d p t u j k f))

pub types_refl : (s : List ℕ) → types_agree s s ≡ true
unfolding types_agree
types_refl s = at_refl max_depth false s 0

pub types_sym : (s t : List ℕ) → types_agree s t ≡ true → types_agree t s ≡ true
unfolding types_agree
types_sym s t = at_sym max_depth false s t 0 0

pub types_trans : (s t u : List ℕ) → types_agree s t ≡ true → types_agree t u ≡ true → types_agree s u ≡ true
unfolding types_agree
types_trans s t u = at_trans max_depth false s t u 0 0 0
