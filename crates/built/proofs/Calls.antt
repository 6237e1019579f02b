-- What the answer of a call that builds a table tells where it is a length: the string is rows, and their image fits.
-- The answer is taken apart test by test.
use mathlib.Core.Path.{◌≡◌, refl}
use mathlib.Core.Bool.{Bool, true, false, cond, ◌||◌}
use mathlib.Core.List.{List, [], ◌∷◌}
use Prim.Native.Nat.{ℕ, ◌≤◌, ◌<◌}
use native.Mathlib.Omega.{arith}
use lib.ListN.{length, drop}
use lib.Seq.{take_at}
use lib.Dec.{ltb}
use borrow.Author.Tests.{ltb-false}
use Rattle.image.specs.Faults.{Checked, check_image}
use Rattle.std.proofs.Common.{Result, Ok, Err}
use Rattle.image.specs.Ranges.{any}
use Rattle.image.specs.Bytes.{AllBytes}
use Rattle.image.specs.Record.{node_count}
use Rattle.image.specs.Row.{Rows}
use Rattle.image.specs.RowBytes.{count}
use Rattle.image.specs.Parse.{Parsed, failed, parsed, readable, rows_in}
use Rattle.image.specs.Built.{column, built_image}
use Rattle.image.proofs.Bools.{or_left, or_right}
use Rattle.image.proofs.Ranges.{any_below}
use Rattle.laws.proofs.Accepted.{accepted}
use Rattle.answers.specs.declared.BuildRefusal.{BuildRefusal}
use Rattle.answers.specs.declared.BuildRefusal.TheVariants.{Image, Unreadable, TooLong}
use Rattle.answers.specs.Answers.{◌>>=◌, refused_as, too_many_rows, image_answer, rows_answer, build_answer, build_output}
use Rattle.built.specs.Theorems.{built_in}
use Rattle.built.proofs.Back.{Fitting}

-- an answer that is a length is no other
after_check_lem : (c : Checked) (a : Result ℕ BuildRefusal) (m : ℕ) → (refused_as Image c >>= λ _. a) ≡ Ok m → (c ≡ Ok tt) × (a ≡ Ok m)
after_check_lem (Err f) a m e =
    let z : ◌≡◌ {A = ℕ} 0 1 = cc in
    absurd (omega arith)
after_check_lem (Ok _) a m e = (refl, e)

coded : (b : Bool) (a : Result ℕ BuildRefusal) (m : ℕ) → cond b a (Err Unreadable) ≡ Ok m → (b ≡ true) × (a ≡ Ok m)
coded true a m e = (refl, e)
coded false a m e =
    let z : ◌≡◌ {A = ℕ} 0 1 = cc in
    absurd (omega arith)

rows_told : (s : List ℕ) (p : Parsed Rows) (out : List ℕ) (m : ℕ) → rows_answer s p out ≡ Ok m → (rs : Rows) × (p ≡ parsed rs []) × (image_answer s rs out ≡ Ok m)
rows_told s failed out m e =
    let z : ◌≡◌ {A = ℕ} 0 1 = cc in
    absurd (omega arith)
rows_told s (parsed rs []) out m e = (rs, refl, e)
rows_told s (parsed rs (x ∷ b)) out m e =
    let z : ◌≡◌ {A = ℕ} 0 1 = cc in
    absurd (omega arith)

fits : (b : Bool) (n m : ℕ) → cond b (Err TooLong) (Ok n) ≡ Ok m → (b ≡ false) × (n ≡ m)
fits true n m e =
    let z : ◌≡◌ {A = ℕ} 0 1 = cc in
    absurd (omega arith)
fits false n m e = (refl, cc)

-- what an answer of m bytes tells
pub record Told (s : List ℕ) (n : ℕ) (b out : List ℕ) (m : ℕ) : Type 0 where
  pub given : check_image s ≡ Ok tt
  pub coded : readable s ≡ true
  pub rows : Rows
  pub read : rows_in s n b ≡ parsed rows []
  pub size : length (built_image s rows) ≡ m
  pub room : m ≤ length out
  pub short : m ≤ 16777216
  pub few : (k : ℕ) → k < node_count s → count (column s rows k) ≤ 1073741824

pub told : (s : List ℕ) (n : ℕ) (b out : List ℕ) (m : ℕ) → build_answer s n b out ≡ Ok m → Told s n b out m
unfolding build_answer image_answer too_many_rows
told s n b out m e =
    let c = after_check_lem (check_image s) (cond (readable s) (rows_answer s (rows_in s n b) out) (Err Unreadable)) m e in
    let r = coded (readable s) (rows_answer s (rows_in s n b) out) m c.1 in
    let p = rows_told s (rows_in s n b) out m r.1 in
    let size = length (built_image s p.0) in
    let f = fits (ltb (length out) (length (built_image s p.0)) || ltb 16777216 (length (built_image s p.0)) || any (too_many_rows s p.0) 0 (node_count s)) (length (built_image s p.0)) m p.2 in
    let lengths = or_left (ltb (length out) (length (built_image s p.0)) || ltb 16777216 (length (built_image s p.0))) _ f.0 in
    record {
      given = c.0;
      coded = r.0;
      rows = p.0;
      read = p.1;
      size = f.1;
      room = rw (← f.1) (ltb-false _ _ (or_left (ltb (length out) (length (built_image s p.0))) _ lengths));
      short = rw (← f.1) (ltb-false _ _ (or_right (ltb (length out) (length (built_image s p.0))) _ lengths));
      few = λ k lt. ltb-false _ _ (any_below (too_many_rows s p.0) (node_count s) (or_right (ltb (length out) (length (built_image s p.0)) || ltb 16777216 (length (built_image s p.0))) _ f.0) k lt);
    }

module _ (s : List ℕ) (n : ℕ) (b out : List ℕ) (m : ℕ) (small : AllBytes s) (answer : build_answer s n b out ≡ Ok m) where
  abbrev known : Told s n b out m
  known = told s n b out m answer

  pub fitting : Fitting s known.rows
  fitting = record { image = accepted s known.given; bytes = small; coded = known.coded; short = rw known.size known.short; few = known.few }

  -- the image stands in the buffer
  pub image_in : built_in s n b out m ≡ built_image s known.rows
  unfolding build_output
  image_in = rw (answer, known.read) (take_at (built_image s known.rows) (drop m out) m known.size)
