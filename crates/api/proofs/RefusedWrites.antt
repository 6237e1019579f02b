-- A write that is refused, and a table that is not built, leave every byte of the buffer as it was. No other call is lent anything
-- that it could change.
-- By what an answer is: so many bytes, or a refusal.
use mathlib.Core.Path.{◌≡◌, refl}
use mathlib.Core.List.{List}
use Prim.Native.Nat.{ℕ}
use Rattle.std.proofs.Common.{Result, Ok, Err}
use Rattle.image.specs.RowBytes.{range_bytes}
use Rattle.image.specs.Parse.{rows_in}
use Rattle.answers.specs.Answers.{written_over, write_answer, write_output, image_of, build_answer, build_output}

unwritten : {E : Type 0} (r : Result ℕ E) (bytes out : List ℕ) → ((k : ℕ) → r ≡ Ok k → ⊥) → written_over r bytes out ≡ out
unwritten (Ok k) bytes out none = absurd (none k refl)
unwritten (Err e) bytes out none = refl

pub refused_unwritten : (s : List ℕ) (i n : ℕ) (out : List ℕ) → ((k : ℕ) → write_answer s i n out ≡ Ok k → ⊥) → write_output s i n out ≡ out
unfolding write_output
refused_unwritten s i n out refused = unwritten (write_answer s i n out) (range_bytes s i n) out refused

pub refused_unbuilt : (s : List ℕ) (n : ℕ) (b out : List ℕ) → ((k : ℕ) → build_answer s n b out ≡ Ok k → ⊥) → build_output s n b out ≡ out
unfolding build_output
refused_unbuilt s n b out refused = unwritten (build_answer s n b out) (image_of s (rows_in s n b)) out refused
