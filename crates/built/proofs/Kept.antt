-- "Its types, p1, p2, names and nullable flags are those of the given image."
-- Field by field from the records; the types agree by induction over the depth, node for node.
use mathlib.Core.Path.{◌≡◌, refl, sym, ◌∙◌}
use mathlib.Core.Bool.{Bool, true, false, cond, not, ◌&&◌, ◌||◌}
use mathlib.Core.List.{List}
use mathlib.Core.Logic.{◌⊎◌, inl, inr}
use Prim.Native.Nat.{ℕ, zero, suc, ◌+◌, ◌%◌, ◌<◌}
use native.Mathlib.Nat.{eq-zero-or-pos}
use native.Mathlib.Omega.{arith}
use lib.Dec.{eqb}
use borrow.Author.Tests.{not-true}
use Rattle.image.specs.Ranges.{every}
use Rattle.image.specs.Bytes.{bytes_at}
use Rattle.image.specs.Record.{node_count, code_of, flags_of, id_of, name_length, name_place, first_child, child_count, nullable}
use Rattle.image.specs.TypeCode.{layout_of, takes_bitmap, is_union, is_map}
use Rattle.image.specs.Element.{child_end}
use Rattle.image.specs.Faults.{union_over, under_union}
use Rattle.image.specs.Types.{name_of, types_agree_at, types_agree}
use Rattle.image.specs.Row.{Rows}
use Rattle.image.proofs.Bools.{and_left, and_right, when_true}
use Rattle.image.proofs.Ranges.{every_below, any_none}
use Rattle.laws.specs.Accepted.{AcceptedImage}
use Rattle.laws.proofs.TypeLaws.{of_level}
use Rattle.image.specs.Parse.{readable_code, readable}
use Rattle.image.specs.Built.{built_image}
use Rattle.built.specs.Theorems.{NodeKept}
use Rattle.built.proofs.Regions.{part_whole}
use Rattle.built.proofs.Fields.{name_part, name_length_lem, code_kept, flags_built, id_zero, name_length_kept, p1_kept, p2_kept, first_child_kept, child_count_kept, name_place_built}
use Rattle.built.proofs.TypedColumns.{code_readable}
use Rattle.built.proofs.Back.{Fitting}

-- a code that can be read is no union, no Map and no run
abbrev pub plain : ℕ → Bool
plain c = not (is_union c) && not (eqb c 42) && not (eqb c 43)

plain_codes : every (λ c. not (code_readable c) || plain c) 0 44 ≡ true
unfolding every is_union
plain_codes = refl

module _ (s : List ℕ) (image : AcceptedImage s) (coded : readable s ≡ true) where
  plain_at : (k : ℕ) → k < node_count s → plain (code_of s k) ≡ true
  unfolding readable_code readable
  plain_at k lt =
      when_true (code_readable (code_of s k)) _ (every_below (λ c. not (code_readable c) || plain c) 44 plain_codes (code_of s k) (omega (arith, (image.node k lt).known.code)))
      (every_below (readable_code s) (node_count s) coded k lt)

  pub no_union : (k : ℕ) → k < node_count s → is_union (code_of s k) ≡ false
  no_union k lt = not-true _ (and_left _ _ (and_left _ _ (plain_at k lt)))

  pub no_map : (k : ℕ) → k < node_count s → eqb (code_of s k) 42 ≡ false
  no_map k lt = not-true _ (and_right (not (is_union (code_of s k))) _ (and_left _ _ (plain_at k lt)))

  pub no_run : (k : ℕ) → k < node_count s → eqb (code_of s k) 43 ≡ false
  no_run k lt = not-true _ (and_right (not (is_union (code_of s k)) && not (eqb (code_of s k) 42)) _ (plain_at k lt))

  -- no node has a type id
  pub without_id : (k : ℕ) → k < node_count s → id_of s k ≡ 0
  unfolding under_union union_over
  without_id k lt = (image.node k lt).tree.without_id (any_none (union_over s k) 0 k (λ j from end. rw (no_union j (omega arith))))

module _ (s : List ℕ) (rs : Rows) (fit : Fitting s rs) where
  name_kept : (k : ℕ) → k < node_count s → name_of (built_image s rs) k ≡ name_of s k
  unfolding name_of bytes_at
  name_kept k lt = rw (name_length_kept s rs fit.image fit.bytes fit.short k lt) (cases (eq-zero-or-pos (name_length s k)))
    where
      cases : (name_length s k ≡ 0) ⊎ (0 < name_length s k) → bytes_at (built_image s rs) (name_place (built_image s rs) k) (name_length s k) ≡ bytes_at s (name_place s k) (name_length s k)
      cases (inl none) = rw none
      cases (inr some) =
          let there = part_whole (name_part s rs fit.image k lt) in
          rw (name_place_built s rs fit.image fit.bytes fit.short k lt some) (rw (name_length_lem s k) at there)

  flag_kept : (k : ℕ) → k < node_count s → nullable (built_image s rs) k ≡ nullable s k
  unfolding nullable
  flag_kept k lt = rw (flags_built s rs fit.image fit.bytes fit.short k lt) (cases (takes_bitmap (layout_of (code_of s k))))
    where
      cases : (b : Bool) → eqb ((flags_of s k % 2 + cond b 2 0) % 2) 1 ≡ eqb (flags_of s k % 2) 1
      cases true =
          let e : (flags_of s k % 2 + 2) % 2 ≡ flags_of s k % 2 = omega arith in
          rw e
      cases false =
          let e : (flags_of s k % 2 + 0) % 2 ≡ flags_of s k % 2 = omega arith in
          rw e

  pub node_kept : (k : ℕ) → k < node_count s → NodeKept s (built_image s rs) k
  node_kept k lt =
      record {
        code = code_kept s rs fit.image fit.bytes fit.short k lt;
        p1 = p1_kept s rs fit.image fit.bytes fit.short k lt;
        p2 = p2_kept s rs fit.image fit.bytes fit.short k lt;
        name = name_kept k lt;
        flag = flag_kept k lt;
        id = id_zero s rs fit.image fit.bytes fit.short k lt ∙ sym (without_id s fit.image fit.coded k lt);
        first = first_child_kept s rs fit.image fit.bytes fit.short k lt;
        children = child_count_kept s rs fit.image fit.bytes fit.short k lt;
      }

  types_at : (d : ℕ) (p : Bool) (k : ℕ) → k < node_count s → types_agree_at d p s (built_image s rs) k k ≡ true
  unfolding types_agree_at child_end
  types_at zero p k lt = refl
  types_at (suc d) p k lt =
      let here = node_kept k lt in
      let child : (c : ℕ) → c < child_count s k → first_child s k + c < node_count s = λ c few. omega (arith, (fit.image.node k lt).tree.ends) in
      of_level d p s (built_image s rs) k k (record {
        heads = record { code = sym here.code; p1 = sym here.p1; p2 = sym here.p2; children = sym here.children };
        labels = λ c few.
            let below = node_kept (first_child s k + c) (child c few) in
            rw here.first (record { name = λ on. sym below.name; flag = λ on. sym below.flag; id = λ on. sym below.id });
        types = λ c few. rw here.first (types_at d (is_map (code_of s k)) (first_child s k + c) (child c few));
      })

  -- the types agree
  pub types_kept : types_agree s (built_image s rs) ≡ true
  unfolding types_agree
  types_kept = types_at 16 false 0 (omega (arith, fit.image.tables.some_nodes))
