-- What is kept of each number of the table is what stands beside it.
-- One test over the whole table is computed; the test of two whole numbers is their equality, which gives each line.
use mathlib.Core.Path.{◌≡◌, refl, sym, subst}
use mathlib.Core.Bool.{Bool, true, ◌&&◌}
use mathlib.Core.List.{List, [], ◌∷◌, Memᴰ}
use Prim.Native.Nat.{◌^◌}
use Rattle.image.proofs.Bools.{and_left, and_right}
use Rattle.image.specs.TypeCode.{sign_bit}
use Rattle.image.specs.Digits.{midway, nearest, divided, whole_number, same_whole}
use Rattle.laws.proofs.Rounding.{same_whole_lem}
use Rattle.cases.specs.Kept.{Kept, kept_numbers, Keeps}

-- each number passes the test of what is kept against what stands beside it
unfoldable passes : List Kept → Bool
passes [] = true
passes (c ∷ cs) = same_whole (divided midway (10 ^ c.digits) c.number) c.kept && passes cs

each_keeps : (cs : List Kept) → passes cs ≡ true → (c : Kept) → Memᴰ c cs → Keeps c
unfolding passes
each_keeps [] e c m = elim m [ ]
each_keeps (x ∷ xs) e c (Memᴰ.head h) = subst Keeps (sym h) ((same_whole_lem _ _).0 (and_left _ (passes xs) e))
each_keeps (x ∷ xs) e c (Memᴰ.tail m) =
    each_keeps xs (and_right (same_whole (divided midway (10 ^ x.digits) x.number) x.kept) (passes xs) e) c m

all_pass : passes kept_numbers ≡ true
unfolding passes kept_numbers midway nearest divided whole_number same_whole sign_bit
all_pass = refl

pub numbers_keep : (c : Kept) → Memᴰ c kept_numbers → Keeps c
numbers_keep = each_keeps kept_numbers all_pass
