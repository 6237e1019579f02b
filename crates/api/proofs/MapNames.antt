-- The query of Map names says yes exactly when the image is accepted and each Map has its names, and is refused as the check is.
-- By the answer of the check; a test over all nodes is one of each.
use mathlib.Core.Path.{◌≡◌, refl}
use mathlib.Core.Bool.{Bool, true, false, ◌&&◌}
use mathlib.Core.List.{List}
use mathlib.Core.Logic.{◌↔◌}
use Prim.Native.Nat.{ℕ}
use borrow.Author.Tests.{eqb-true, eq-eqb}
use Rattle.image.specs.declared.answer.Fault.{Fault}
use Rattle.image.specs.Faults.{Checked, check_image}
use Rattle.std.proofs.Common.{Ok, Err}
use Rattle.image.specs.Record.{node_count, code_of, first_child}
use Rattle.image.specs.TypeCode.{is_map}
use Rattle.image.specs.MapNames.{named, map_named, maps_named}
use Rattle.image.proofs.Bools.{and_left, and_right, and_true, when_true, true_when}
use Rattle.image.proofs.Ranges.{every_below, every_of_below}
use Rattle.answers.specs.Answers.{◌>>=◌, map_names_answer}
use Rattle.laws.proofs.Sound.{same_bytes_is}
use Rattle.api.specs.MapNames.{MapNamed, AllNamed}

-- a Map
module _ (s : List ℕ) (k : ℕ) where
  names_out : map_named s k ≡ true → code_of s k ≡ 42 → MapNamed s k
  unfolding map_named named
  names_out e map =
      let entries = first_child s k in
      let all = when_true (is_map (code_of s k)) _ e (eq-eqb _ _ map) in
      let two : named s entries "entries" && named s (first_child s entries) "key" ≡ true = and_left _ _ all in
      record {
        entries = (same_bytes_is _ _).0 (and_left _ _ two);
        key = (same_bytes_is _ _).0 (and_right (named s entries "entries") _ two);
        value = (same_bytes_is _ _).0 (and_right (named s entries "entries" && named s (first_child s entries) "key") _ all);
      }

  names_in : (code_of s k ≡ 42 → MapNamed s k) → map_named s k ≡ true
  unfolding map_named named
  names_in h =
      true_when (is_map (code_of s k)) _ (λ e.
      let m = h (eqb-true _ _ e) in
      and_true _ _ (and_true _ _ ((same_bytes_is _ _).1 m.entries) ((same_bytes_is _ _).1 m.key)) ((same_bytes_is _ _).1 m.value))

-- the answers of the query
said_yes : (x : Checked) (b : Bool) → (x >>= λ _. Ok b) ≡ Ok true → (x ≡ Ok tt) × (b ≡ true)
said_yes (Err f) b e = (cc, cc)
said_yes (Ok _) true e = (refl, refl)
said_yes (Ok _) false e = (refl, cc)

said_refused : (x : Checked) (b : Bool) (f : Fault) → (x >>= λ _. Ok b) ≡ Err f → x ≡ Err f
said_refused (Err g) b f e = cc
said_refused (Ok _) true f e = cc
said_refused (Ok _) false f e = cc

pub names_yes : (s : List ℕ) → (map_names_answer s ≡ Ok true) ↔ AllNamed s
unfolding map_names_answer maps_named
names_yes s = (
  λ e.
      let h = said_yes (check_image s) (maps_named s) e in
      record { accepted = h.0; maps = λ k lt map. names_out s k (every_below (map_named s) (node_count s) h.1 k lt) map },
  λ a.
      let all : maps_named s ≡ true = every_of_below (map_named s) (node_count s) (λ k lt. names_in s k (a.maps k lt)) in
      rw (a.accepted, all),
)

-- "it refuses only what the check refuses"
pub names_refused : (s : List ℕ) (f : Fault) → (map_names_answer s ≡ Err f) ↔ (check_image s ≡ Err f)
unfolding map_names_answer
names_refused s f = (said_refused (check_image s) (maps_named s) f, λ e. rw e)
