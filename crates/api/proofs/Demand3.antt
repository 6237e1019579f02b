-- Demand 3 in the answers of the calls: two writes put out the same bytes exactly when the comparison of the two ranges
-- says yes, and neither output is a proper prefix of the other.
-- A write that answers with a count has put out the range's bytes; of those the theorem over the definitions speaks.
use mathlib.Core.Path.{◌≡◌, refl}
use mathlib.Core.Bool.{Bool, true, false, cond}
use mathlib.Core.List.{List}
use mathlib.Core.Logic.{◌↔◌}
use Prim.Native.Nat.{ℕ}
use lib.ListN.{length, drop}
use lib.Seq.{take_at}
use lib.Dec.{ltb}
use borrow.Author.Tests.{ltb-false}
use Rattle.image.specs.Faults.{Checked, check_image}
use Rattle.std.proofs.Common.{Result, Ok, Err}
use Rattle.answers.specs.declared.WriteRefusal.TheVariants.{Image, OutOfRange as WriteOutOfRange, TooLong}
use Rattle.image.specs.RowBytes.{range_bytes}
use Rattle.image.specs.Equality.{ranges_equal}
use Rattle.answers.specs.declared.RangeRefusal.{RangeRefusal}
use Rattle.answers.specs.Answers.{compare_range_answer, paired_of, bounds_of, exceeds, ◌>>=◌, refused_as, refuse_if, write_range, write_answer, write_output}
use Rattle.laws.specs.Demand3.{WrittenRanges, ProperPrefix}
use Rattle.laws.proofs.Demand3.{same_bytes_lem, no_proper_prefix}
use Rattle.api.specs.Demand3.{BothWritten, put_out}

-- a write that answers v: the image is accepted, the rows are there, and v is how many bytes they take
record Wrote (s : List ℕ) (i n v : ℕ) : Type 0 where
  image : check_image s ≡ Ok tt
  inside : exceeds s i n ≡ false
  size : length (range_bytes s i n) ≡ v

wrote : (s : List ℕ) (i n : ℕ) (out : List ℕ) (v : ℕ) → write_answer s i n out ≡ Ok v → Wrote s i n v
unfolding write_answer write_range
wrote s i n out v e = cases (check_image s) (exceeds s i n) (ltb (length out) (length (range_bytes s i n))) refl refl e
  where
    cases : (c : Checked) (beyond long : Bool) → check_image s ≡ c → exceeds s i n ≡ beyond
        → (refused_as Image c >>= λ _. refuse_if beyond WriteOutOfRange >>= λ _. cond long (Err TooLong) (Ok (length (range_bytes s i n)))) ≡ Ok v → Wrote s i n v
    cases (Err f) beyond long is past e = record { image = cc; inside = cc; size = cc }
    cases (Ok _) true long is past e = record { image = is; inside = cc; size = cc }
    cases (Ok _) false true is past e = record { image = is; inside = past; size = cc }
    cases (Ok _) false false is past e = record { image = is; inside = past; size = cc }

-- what it put out is the range's bytes
put_out_lem : (s : List ℕ) (i n : ℕ) (out : List ℕ) (v : ℕ) → write_answer s i n out ≡ Ok v → put_out s i n out v ≡ range_bytes s i n
unfolding write_output
put_out_lem s i n out v e = rw e (take_at (range_bytes s i n) (drop v out) v (wrote s i n out v e).size)

-- the comparison of two ranges that were written says yes exactly when they are equal
says_yes : (b : Bool) → (b ≡ true) ↔ ◌≡◌ {A = Result Bool RangeRefusal} (Ok b) (Ok true)
says_yes true = (λ e. refl, λ e. refl)
says_yes false = (λ e. cc, λ e. cc)

module _ (s t : List ℕ) (i j n : ℕ) (out over : List ℕ) (v w : ℕ) (both : BothWritten s t i j n out over v w) where
  left : Wrote s i n v
  left = wrote s i n out v both.left

  right : Wrote t j n w
  right = wrote t j n over w both.right

  ranges : WrittenRanges s t i j n
  unfolding exceeds
  ranges = record {
    left = left.image;
    right = right.image;
    types = both.types;
    left_rows = ltb-false _ _ left.inside;
    right_rows = ltb-false _ _ right.inside;
  }

  compared : compare_range_answer s t i j n ≡ Ok (ranges_equal s t i j n)
  unfolding compare_range_answer paired_of bounds_of
  compared = rw (left.image, right.image, both.types, left.inside, right.inside)

  -- the same bytes exactly when the comparison says yes
  pub written_same : (put_out s i n out v ≡ put_out t j n over w) ↔ (compare_range_answer s t i j n ≡ Ok true)
  written_same =
      rw (put_out_lem s i n out v both.left, put_out_lem t j n over w both.right, compared)
      (λ e. (says_yes _).0 ((same_bytes_lem s t i j n ranges).0 e), λ e. (same_bytes_lem s t i j n ranges).1 ((says_yes _).1 e))

  -- neither output a proper prefix of the other
  pub written_no_prefix : ¬ ProperPrefix (put_out s i n out v) (put_out t j n over w) × ¬ ProperPrefix (put_out t j n over w) (put_out s i n out v)
  written_no_prefix = rw (put_out_lem s i n out v both.left, put_out_lem t j n over w both.right) (no_proper_prefix s t i j n ranges)
