-- What is read of a string is what it begins with: the bytes of the rows and those that follow make the string, and
-- there are as many rows as were asked for.
-- Each reader is taken apart into the readers that it is made of; a row is by induction over the depth.
use mathlib.Core.Path.{◌≡◌, refl, ap, ◌∙◌}
use mathlib.Core.Bool.{Bool, true, false, cond, ◌||◌}
use mathlib.Core.List.{List, [], ◌∷◌, ◌++◌, append_assoc}
use Prim.Native.Nat.{ℕ, zero, suc, ◌+◌, ◌*◌, ◌/◌, ◌%◌, ◌≤◌}
use native.Mathlib.Omega.{arith}
use lib.ListN.{length, take, drop, take-append-drop}
use lib.Seq.{length-take-le, get_or-append-add}
use lib.Dec.{eqb, leb, ltb}
use borrow.Author.Tests.{ltb-false}
use Rattle.image.specs.declared.type_code.Layout.{Layout}
use Rattle.image.specs.declared.type_code.Layout.TheVariants.{Null, Boolean, FixedWidth, VariableSize, View, List as Lists, ListView, FixedList, Struct, DenseUnion, SparseUnion, Dictionary, Runs}
use Rattle.image.specs.Bytes.{byte_at, AllBytes, number_at, number_bytes}
use Rattle.image.specs.Record.{code_of, first_child, child_count}
use Rattle.image.specs.TypeCode.{layout_of, takes_bitmap}
use Rattle.image.specs.Element.{element_width}
use Rattle.image.specs.Row.{Row, Rows, null, fixed, sized, joined, counted, none, more}
use Rattle.image.specs.RowBytes.{count, row_bytes, rows_bytes}
use Rattle.laws.proofs.Decode.{behind_first}
use Rattle.image.specs.Utf8.{well_formed}
use Rattle.image.specs.Parse.{Parsed, failed, parsed, made, and_then, bytes_in, number_in, row_then, rows_of, row_of_each, checked_text, marked, value_in, row_in, rows_in}

pub behind : (x y b : List ℕ) → x ++ y ≡ b → AllBytes b → AllBytes y
behind x y b e all = λ i. rw (← get_or-append-add x y i 0, e) (all (length x + i))

pub tail_bytes : (x : ℕ) (b : List ℕ) → AllBytes (x ∷ b) → AllBytes b
tail_bytes x b all = λ i. all (suc i)

-- bytes are those of the number that they make
pub number_of_bytes : (x y : List ℕ) → AllBytes (x ++ y) → number_bytes (length x) (number_at (length x) x 0) ≡ x
unfolding number_at number_bytes
number_of_bytes [] y all = refl
number_of_bytes (a ∷ x) y all =
    let n = number_at (length x) x 0 in
    let low : (a + 256 * n) % 256 ≡ a = omega (arith, all 0) in
    let high : (a + 256 * n) / 256 ≡ n = omega (arith, all 0) in
    rw (behind_first (length x) a 0 x, low, high, number_of_bytes x y (tail_bytes a (x ++ y) all))

-- a reader that fails gives nothing
pub failed_not : {A : Type 0} {x : A} {b : List ℕ} → failed ≡ parsed x b → ⊥
failed_not e =
    let z : ◌≡◌ {A = ℕ} 0 1 = cc in
    omega arith

-- Readers that are made of others.
module _ {A B : Type 0} where
  pub made_back : (g : A → B) (p : Parsed A) (y : B) (rest : List ℕ) → made g p ≡ parsed y rest → (x : A) × (p ≡ parsed x rest) × (g x ≡ y)
  made_back g failed y rest e = absurd (failed_not e)
  made_back g (parsed x b) y rest e = (x, cc, cc)

  pub then_back : (p : Parsed A) (f : A → List ℕ → Parsed B) (y : B) (rest : List ℕ) → and_then p f ≡ parsed y rest → (x : A) × (mid : List ℕ) × (p ≡ parsed x mid) × (f x mid ≡ parsed y rest)
  then_back failed f y rest e = absurd (failed_not e)
  then_back (parsed x mid) f y rest e = (x, mid, refl, e)

-- only the branch that does not fail
module _ {A : Type 0} where
  pub unless_back : (t : Bool) (p : Parsed A) (y : A) (rest : List ℕ) → cond t failed p ≡ parsed y rest → (t ≡ false) × (p ≡ parsed y rest)
  unless_back true p y rest e = absurd (failed_not e)
  unless_back false p y rest e = (refl, e)

  pub when_back : (t : Bool) (p : Parsed A) (y : A) (rest : List ℕ) → cond t p failed ≡ parsed y rest → (t ≡ true) × (p ≡ parsed y rest)
  when_back true p y rest e = (refl, e)
  when_back false p y rest e = absurd (failed_not e)

-- n bytes
pub bytes_back : (n : ℕ) (b x rest : List ℕ) → bytes_in n b ≡ parsed x rest → (x ++ rest ≡ b) × (length x ≡ n)
unfolding bytes_in
bytes_back n b x rest e =
    let u = unless_back (ltb (length b) n) (parsed (take n b) (drop n b)) x rest e in
    let le : n ≤ length b = ltb-false _ _ u.0 in
    let front : x ≡ take n b = cc in
    let back : rest ≡ drop n b = cc in
    rw (front, back) (take-append-drop n b, length-take-le n b le)

-- a u32
pub number_in_back : (b : List ℕ) (n : ℕ) (rest : List ℕ) → AllBytes b → number_in b ≡ parsed n rest → number_bytes 4 n ++ rest ≡ b
unfolding number_in
number_in_back b n rest all e =
    let m = made_back (λ x. number_at 4 x 0) (bytes_in 4 b) n rest e in
    let p = bytes_back 4 b m.0 rest m.1 in
    let whole : AllBytes (m.0 ++ rest) = rw p.0 all in
    let same : number_bytes 4 (number_at 4 m.0 0) ≡ m.0 = rw p.1 at (number_of_bytes m.0 rest whole) in
    rw (← m.2, same) p.0

-- A reader whose result, written, and the rest make the string.
pub record Writes (p : List ℕ → Parsed Row) : Type 0 where
  pub back : (b : List ℕ) → AllBytes b → (r : Row) (rest : List ℕ) → p b ≡ parsed r rest → row_bytes r ++ rest ≡ b

-- a row and then rows
then_rows : (p : Parsed Row) (f : List ℕ → Parsed Rows) (b : List ℕ) (n : ℕ) → AllBytes b
    → ((r : Row) (mid : List ℕ) → p ≡ parsed r mid → row_bytes r ++ mid ≡ b)
    → ((mid : List ℕ) → AllBytes mid → (qs : Rows) (rest : List ℕ) → f mid ≡ parsed qs rest → (rows_bytes qs ++ rest ≡ mid) × (count qs ≡ n))
    → (rs : Rows) (rest : List ℕ) → row_then p f ≡ parsed rs rest → (rows_bytes rs ++ rest ≡ b) × (count rs ≡ suc n)
unfolding row_bytes count
then_rows p f b n all row rows rs rest e =
    let t = then_back p (λ r rest. made (more r) (f rest)) rs rest e in
    let m = made_back (more t.0) (f t.1) rs rest t.3 in
    let first = row t.0 t.1 t.2 in
    let later = rows t.1 (behind (row_bytes t.0) t.1 b first all) m.0 rest m.1 in
    rw (← m.2) (append_assoc (row_bytes t.0) (rows_bytes m.0) rest ∙ ap (λ (x : List ℕ). row_bytes t.0 ++ x) later.0 ∙ first, ap suc later.1)

pub rows_of_back : (p : List ℕ → Parsed Row) → Writes p → (n : ℕ) (b : List ℕ) → AllBytes b → (rs : Rows) (rest : List ℕ) → rows_of p n b ≡ parsed rs rest → (rows_bytes rs ++ rest ≡ b) × (count rs ≡ n)
unfolding rows_of row_bytes count
rows_of_back p w zero b all rs rest e =
    let front : rs ≡ none = cc in
    let back : rest ≡ b = cc in
    rw (front, back) (refl, refl)
rows_of_back p w (suc n) b all rs rest e = then_rows (p b) (rows_of p n) b n all (w.back b all) (λ mid small. rows_of_back p w n mid small) rs rest e

pub row_of_each_back : (p : ℕ → List ℕ → Parsed Row) → ((c : ℕ) → Writes (p c)) → (c n : ℕ) (b : List ℕ) → AllBytes b → (rs : Rows) (rest : List ℕ) → row_of_each p c n b ≡ parsed rs rest → (rows_bytes rs ++ rest ≡ b) × (count rs ≡ n)
unfolding row_of_each row_bytes count
row_of_each_back p w c zero b all rs rest e =
    let front : rs ≡ none = cc in
    let back : rest ≡ b = cc in
    rw (front, back) (refl, refl)
row_of_each_back p w c (suc n) b all rs rest e =
    then_rows (p c b) (row_of_each p (suc c) n) b n all ((w c).back b all) (λ mid small. row_of_each_back p w (suc c) n mid small) rs rest e

-- a text that was checked is the text that was read
pub checked_back : (code : ℕ) (p : Parsed (List ℕ)) (x mid y rest : List ℕ) → p ≡ parsed x mid → checked_text code x mid ≡ parsed y rest → p ≡ parsed y rest
checked_back code p x mid y rest read e = read ∙ cases (eqb code 26 || eqb code 28) e
  where
    cases : (t : Bool) → cond t (cond (well_formed x) (parsed x mid) failed) (parsed x mid) ≡ parsed y rest → parsed x mid ≡ parsed y rest
    cases true h = (when_back (well_formed x) (parsed x mid) y rest h).1
    cases false h = h

-- the value behind 01
module _ (row : ℕ → List ℕ → Parsed Row) (w : (c : ℕ) → Writes (row c)) (s : List ℕ) (k : ℕ) (b : List ℕ) (all : AllBytes b) (r : Row) (rest : List ℕ) where
  fixed_back : (n : ℕ) → made fixed (bytes_in n b) ≡ parsed r rest → row_bytes r ++ rest ≡ 1 ∷ b
  unfolding row_bytes
  fixed_back n e =
      let m = made_back fixed (bytes_in n b) r rest e in
      rw (← m.2) (ap (λ (x : List ℕ). 1 ∷ x) (bytes_back n b m.0 rest m.1).0)

  text_back : (code : ℕ) → made sized (and_then (and_then (number_in b) bytes_in) (checked_text code)) ≡ parsed r rest → row_bytes r ++ rest ≡ 1 ∷ b
  unfolding row_bytes
  text_back code e =
      let m = made_back sized (and_then (and_then (number_in b) bytes_in) (checked_text code)) r rest e in
      let c = then_back (and_then (number_in b) bytes_in) (checked_text code) m.0 rest m.1 in
      let n = then_back (number_in b) bytes_in c.0 c.1 c.2 in
      let read = checked_back code (bytes_in n.0 n.1) c.0 c.1 m.0 rest n.3 c.3 in
      let number = number_in_back b n.0 n.1 all n.2 in
      let body = bytes_back n.0 n.1 m.0 rest read in
      rw (← m.2, body.1)
      (ap (λ (x : List ℕ). 1 ∷ x) (append_assoc (number_bytes 4 n.0) m.0 rest ∙ ap (λ (x : List ℕ). number_bytes 4 n.0 ++ x) body.0 ∙ number))

  list_back : (child : ℕ) → made counted (and_then (number_in b) (rows_of (row child))) ≡ parsed r rest → row_bytes r ++ rest ≡ 1 ∷ b
  unfolding row_bytes
  list_back child e =
      let m = made_back counted (and_then (number_in b) (rows_of (row child))) r rest e in
      let n = then_back (number_in b) (rows_of (row child)) m.0 rest m.1 in
      let number = number_in_back b n.0 n.1 all n.2 in
      let body = rows_of_back (row child) (w child) n.0 n.1 (behind (number_bytes 4 n.0) n.1 b number all) m.0 rest n.3 in
      rw (← m.2, body.1)
      (ap (λ (x : List ℕ). 1 ∷ x) (append_assoc (number_bytes 4 n.0) (rows_bytes m.0) rest ∙ ap (λ (x : List ℕ). number_bytes 4 n.0 ++ x) body.0 ∙ number))

  struct_back : (c n : ℕ) → made joined (row_of_each row c n b) ≡ parsed r rest → row_bytes r ++ rest ≡ 1 ∷ b
  unfolding row_bytes
  struct_back c n e =
      let m = made_back joined (row_of_each row c n b) r rest e in
      rw (← m.2) (ap (λ (x : List ℕ). 1 ∷ x) (row_of_each_back row w c n b all m.0 rest m.1).0)

  null_back : parsed (fixed []) b ≡ parsed r rest → row_bytes r ++ rest ≡ 1 ∷ b
  unfolding row_bytes
  null_back e =
      let front : r ≡ fixed [] = cc in
      let back : rest ≡ b = cc in
      rw (front, back)

  value_back : (l : Layout) → value_in l row s k b ≡ parsed r rest → row_bytes r ++ rest ≡ 1 ∷ b
  value_back Null e = null_back e
  value_back Boolean e = fixed_back 1 (when_back (leb (byte_at b 0) 1) (made fixed (bytes_in 1 b)) r rest e).1
  value_back FixedWidth e = fixed_back (element_width s k) e
  value_back VariableSize e = text_back (code_of s k) e
  value_back Lists e = list_back (first_child s k) e
  value_back Struct e = struct_back (first_child s k) (child_count s k) e
  value_back View e = cc
  value_back ListView e = cc
  value_back FixedList e = cc
  value_back DenseUnion e = cc
  value_back SparseUnion e = cc
  value_back Dictionary e = cc
  value_back Runs e = cc

-- 00, or 01 and the value
marked_back : (bitmap : Bool) (value : List ℕ → Parsed Row) (b : List ℕ) → AllBytes b
    → ((v : List ℕ) → AllBytes v → (r : Row) (rest : List ℕ) → value v ≡ parsed r rest → row_bytes r ++ rest ≡ 1 ∷ v)
    → (r : Row) (rest : List ℕ) → marked bitmap value b ≡ parsed r rest → row_bytes r ++ rest ≡ b
unfolding row_bytes
marked_back bitmap value [] all h r rest e = cc
marked_back bitmap value (zero ∷ v) all h r rest e =
    let u = when_back bitmap (parsed null v) r rest e in
    let same = u.1 in
    let front : r ≡ null = cc in
    let back : rest ≡ v = cc in
    rw (front, back)
marked_back bitmap value (suc zero ∷ v) all h r rest e = h v (tail_bytes 1 v all) r rest e
marked_back bitmap value (suc (suc x) ∷ v) all h r rest e = cc

pub row_in_back : (d : ℕ) (s : List ℕ) (k : ℕ) → Writes (row_in d s k)
unfolding row_in
row_in_back zero s k = record { back = λ b all r rest e. cc }
row_in_back (suc d) s k = record {
  back = λ b all. marked_back (takes_bitmap (layout_of (code_of s k))) (value_in (layout_of (code_of s k)) (row_in d s) s k) b all
      (λ v small r rest. value_back (row_in d s) (row_in_back d s) s k v small r rest (layout_of (code_of s k)));
}

-- a parsed string is the writing of its rows, and then what follows; there are as many rows as were asked for
pub rows_in_back : (s : List ℕ) (n : ℕ) (b : List ℕ) → AllBytes b → (rs : Rows) (rest : List ℕ) → rows_in s n b ≡ parsed rs rest → (rows_bytes rs ++ rest ≡ b) × (count rs ≡ n)
unfolding rows_in
rows_in_back s n b all rs rest e = rows_of_back (row_in 16 s 0) (row_in_back 16 s 0) n b all rs rest e
