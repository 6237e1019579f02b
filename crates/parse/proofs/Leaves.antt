-- Values without a child, scanned at the front of a string.
-- The tests that the code makes are those of the definition: whether there are so many bytes, and whether they are allowed.
use mathlib.Core.Path.{◌≡◌, refl, sym, ◌∙◌}
use mathlib.Core.Bool.{Bool, true, false, cond, ◌||◌}
use mathlib.Core.List.{List, [], ◌∷◌}
use Prim.Native.Nat.{ℕ, ◌+◌, ◌≤◌, ◌<◌}
use native.Mathlib.Nat.{add-zero}
use native.Mathlib.Omega.{arith}
use lib.Dec.{eqb, leb}
use lib.ListN.{length, get_or}
use borrow.Author.Tests.{le-leb, lt-leb, lt-ltb, le-ltb}
use Rattle.std.proofs.Common.{Option, Some, None}
use Rattle.std.specs.List.{IsSplitAt}
use Rattle.image.specs.Bytes.{byte_at, number_at}
use Rattle.image.specs.Reads.{Read}
use Rattle.image.specs.Utf8.{well_formed}
use Rattle.image.specs.Parse.{Parsed, failed, parsed, bytes_in, number_in, checked_text}
use Rattle.built.specs.Typed.{text_fits}
use Rattle.parse.specs.Scan.{boolean_in, text_in, nothing, sized_adds, largest, Counted, Begun, Scans, Grown}
use Rattle.parse.proofs.Scans.{stopped, reached}

-- a scan of bytes that add nothing, whatever the spans are
abbrev Leaves : List ℕ → Parsed (List ℕ) → Option (List ℕ) → Type 0
Leaves b p answer = (spans : List ℕ) → Scans b 0 p nothing spans spans answer

-- n bytes in front, or fewer
module _ (n : ℕ) (b : List ℕ) where
  few_bytes : length b < n → bytes_in n b ≡ failed
  unfolding bytes_in
  few_bytes lt = rw (lt-ltb (length b) n lt)

  split_bytes : (front back : List ℕ) → IsSplitAt b n front back → bytes_in n b ≡ parsed front back
  unfolding bytes_in
  split_bytes front back cut = rw (le-ltb (length b) n cut.0, cut.1, cut.2)

-- w bytes
pub bytes_stop : (b : List ℕ) (w : ℕ) → length b < w → Leaves b (bytes_in w b) None
bytes_stop b w lt spans = stopped refl (few_bytes w b lt)

pub bytes_go : (b : List ℕ) (w : ℕ) (front back : List ℕ) → IsSplitAt b w front back → Leaves b (bytes_in w b) (Some back)
unfolding nothing
bytes_go b w front back cut spans =
    reached refl (record {
      what = front;
      is = split_bytes w b front back cut;
      spans = λ j lt. sym (add-zero (get_or spans j 0));
      took = λ j. omega (arith, cut.4);
    })

-- a Boolean
module _ (b : List ℕ) where
  either_fails : (t : Bool) (p : Parsed (List ℕ)) → p ≡ failed → cond t p failed ≡ failed
  either_fails true p e = e
  either_fails false p e = refl

  pub boolean_none : length b ≡ 0 → Leaves b (boolean_in b) None
  unfolding boolean_in
  boolean_none e spans = stopped refl (either_fails (leb (byte_at b 0) 1) (bytes_in 1 b) (few_bytes 1 b (omega arith)))

  module _ (x : ℕ) (rest : List ℕ) (is : b ≡ x ∷ rest) where
    pub boolean_other : 1 < x → Leaves b (boolean_in b) None
    unfolding boolean_in
    boolean_other lt spans = stopped refl (rw (is, lt-leb x 1 lt))

    pub boolean_go : x ≤ 1 → Leaves b (boolean_in b) (Some rest)
    unfolding boolean_in nothing
    boolean_go le spans =
        let long : length b ≡ length rest + 1 = rw is (omega arith) in
        reached refl (record {
          what = x ∷ [];
          is = rw (is, le-leb x 1 le) (split_bytes 1 (x ∷ rest) (x ∷ []) rest (omega arith, refl, refl, refl, omega arith));
          spans = λ j lt. sym (add-zero (get_or spans j 0));
          took = λ j. omega (arith, long);
        })

-- a length or a count
module _ (b : List ℕ) where
  pub count_none : length b < 4 → number_in b ≡ failed
  unfolding number_in
  count_none lt = rw (few_bytes 4 b lt)

  pub count_some : (front back : List ℕ) {n : ℕ} → IsSplitAt b 4 front back → Read (number_at 4 front 0) 32 n → Counted b n back
  unfolding number_in
  count_some front back {n} cut number = record { is = rw (split_bytes 4 b front back cut, ← number.value); took = cut.4 }

-- a text that was read is allowed, or the reader fails
checked_is : (code : ℕ) (x rest : List ℕ) → checked_text code x rest ≡ cond (text_fits code x) (parsed x rest) failed
checked_is code x rest = cases (eqb code 26 || eqb code 28)
  where
    cases : (t : Bool) → cond t (cond (well_formed x) (parsed x rest) failed) (parsed x rest) ≡ cond (cond t (well_formed x) true) (parsed x rest) failed
    cases true = refl
    cases false = refl

-- the text of node k in front of b
module _ (code k : ℕ) (b : List ℕ) where
  pub text_short : {before : List ℕ} → number_in b ≡ failed → Scans b 0 (text_in code b) (sized_adds k) before before None
  unfolding text_in
  text_short e = stopped refl (rw e)

  module _ {n : ℕ} {bytes : List ℕ} (number : Counted b n bytes) where
    pub text_cut : {before : List ℕ} → length bytes < n → Scans b 0 (text_in code b) (sized_adds k) before before None
    unfolding text_in
    text_cut lt = stopped refl (rw (number.is, few_bytes n bytes lt))

    module _ {x rest : List ℕ} (cut : IsSplitAt bytes n x rest) where
      text_is : text_in code b ≡ cond (text_fits code x) (parsed x rest) failed
      unfolding text_in
      text_is = rw (number.is, split_bytes n bytes x rest cut) (checked_is code x rest)

      pub text_ill : {before : List ℕ} → text_fits code x ≡ false → Scans b 0 (text_in code b) (sized_adds k) before before None
      text_ill e = stopped refl (text_is ∙ rw e)

      -- the length can be added to the span of the node
      pub text_room : {before : List ℕ} → Begun b before → k < 256 → get_or before k 0 + n + length rest ≤ largest
      text_room {before} begun few = omega (arith, begun.room k few, number.took, cut.4)

      pub text_go : {before after : List ℕ} → text_fits code x ≡ true → Grown before after k n → Scans b 0 (text_in code b) (sized_adds k) before after (Some rest)
      unfolding sized_adds
      text_go {before} {after} e grown =
          let long : length x ≡ n = cut.3 in
          reached grown.sized (record {
            what = x;
            is = text_is ∙ rw e;
            spans = λ j lt. rw long (grown.spans j);
            took = λ j. rw long (few (eqb k j));
          })
        where
          few : (t : Bool) → length rest + 0 + cond t n 0 ≤ length b
          few true = omega (arith, number.took, cut.4)
          few false = omega (arith, number.took, cut.4)
