-- Steps of the answer of a call that builds a table, and of what its buffer holds afterwards.
-- By rewriting with the callees' equations.
use mathlib.Core.Path.{◌≡◌}
use mathlib.Core.Bool.{true, false}
use mathlib.Core.List.{List}
use Prim.Native.Nat.{ℕ}
use Rattle.std.proofs.Common.{Result, Ok, Err}
use Rattle.image.specs.declared.answer.Fault.{Fault}
use Rattle.image.specs.Faults.{check_image}
use Rattle.image.specs.Parse.{readable, rows_in}
use Rattle.answers.specs.declared.BuildRefusal.{BuildRefusal}
use Rattle.answers.specs.declared.BuildRefusal.TheVariants.{Image, Unreadable}
use Rattle.answers.specs.Answers.{rows_answer, build_answer, image_of, written_over, build_output}

module _ (s : List ℕ) (n : ℕ) (b out : List ℕ) where
  -- a refusal leaves the buffer as it was
  pub build_refused : {f : Fault} → check_image s ≡ Err f → (Err (Image f) ≡ build_answer s n b out) × (out ≡ build_output s n b out)
  unfolding build_answer build_output
  build_refused is = (rw is, rw is)

  module _ (image : check_image s ≡ Ok tt) where
    pub build_unreadable : readable s ≡ false → (Err Unreadable ≡ build_answer s n b out) × (out ≡ build_output s n b out)
    unfolding build_answer build_output
    build_unreadable other = (rw (image, other), rw (image, other))

    pub build_rows : {r : Result ℕ BuildRefusal} {after : List ℕ} → readable s ≡ true → (r ≡ rows_answer s (rows_in s n b) out) × (after ≡ written_over (rows_answer s (rows_in s n b) out) (image_of s (rows_in s n b)) out)
        → (r ≡ build_answer s n b out) × (after ≡ build_output s n b out)
    unfolding build_answer build_output
    build_rows coded e = (rw (image, coded) e.0, rw (image, coded) e.1)
