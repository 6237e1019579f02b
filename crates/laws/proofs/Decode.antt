-- Rows of one shape are told apart by their bytes: a reader that knows the shape gets the row and what stands behind it
-- back from the row's bytes.
-- The reader follows the shape; that it reads a row back is by induction over the row.
use mathlib.Core.Path.{◌≡◌, refl, sym, ap, ◌∙◌}
use mathlib.Core.Bool.{Bool, true, false, cond}
use mathlib.Core.List.{List, [], ◌∷◌, ◌++◌, append_assoc}
use Prim.Native.Nat.{ℕ, zero, suc, ◌*◌, ◌/◌, ◌%◌, ◌<◌, ◌^◌}
use native.Mathlib.Omega.{arith}
use lib.ListN.{length, take, drop}
use lib.Seq.{take_at, drop_at}
use lib.Dec.{eqb, ltb}
use borrow.Author.Tests.{eqb-true, ltb-true}
use Rattle.image.specs.Bytes.{number_at, number_bytes}
use Rattle.image.specs.Row.{Row, Rows, null, fixed, sized, joined, counted, tagged, none, more}
use Rattle.image.specs.RowBytes.{count, row_bytes, rows_bytes}
use Rattle.image.proofs.Bools.{and_left, and_right}
use Rattle.laws.specs.Shape.{Shape, Shapes, bytes, text, in_turn, many, one_of, end, shape, shape_with, fits, fit_each, fit_all}
use Rattle.laws.proofs.Lengths.{number_length}

-- the number that is read back from its bytes
pub behind_first : (w b i : ℕ) (s : List ℕ) → number_at w (b ∷ s) (suc i) ≡ number_at w s i
unfolding number_at
behind_first zero b i s = refl
behind_first (suc w) b i s = rw (behind_first w b (suc i) s)

pub number_back : (w n : ℕ) (x : List ℕ) → n < 256 ^ w → number_at w (number_bytes w n ++ x) 0 ≡ n
unfolding number_at number_bytes
number_back zero n x lt = omega arith
number_back (suc w) n x lt =
    let p : 256 ^ suc w ≡ 256 * 256 ^ w = omega arith in
    rw (behind_first w (n % 256) 0 (number_bytes w (n / 256) ++ x), number_back w (n / 256) x (omega arith)) (omega arith)

-- The reader. What it reads is a row or rows, and the bytes that are left over.
abbrev Got : Type 0
Got = Row × List ℕ

abbrev GotAll : Type 0
GotAll = Rows × List ℕ

-- null behind a byte 0, else what the rest gives
abbrev headed : (List ℕ → Got) → List ℕ → Got
headed f [] = (null, [])
headed f (zero ∷ s) = (null, s)
headed f (suc b ∷ s) = f s

-- a row, and then rows
abbrev and_then : Got → (List ℕ → GotAll) → GotAll
and_then p f = (more p.0 (f p.1).0, (f p.1).1)

-- so many rows
unfoldable read_all : (List ℕ → Got) → ℕ → List ℕ → GotAll
read_all f zero s = (none, s)
read_all f (suc n) s = and_then (f s) (read_all f n)

abbrev read_bytes : ℕ → List ℕ → Got
read_bytes n s = (fixed (take n s), drop n s)

abbrev read_text : ℕ → List ℕ → Got
read_text n s = (sized (take n s), drop n s)

-- what follows a number of four bytes
abbrev behind_number : {A : Type 0} → (ℕ → List ℕ → A) → List ℕ → A
behind_number f s = f (number_at 4 s 0) (drop 4 s)

-- what follows an id
abbrev behind_id : (ℕ → List ℕ → Got) → List ℕ → Got
behind_id f [] = (null, [])
behind_id f (id ∷ s) = (tagged id (f id s).0, (f id s).1)

abbrev joined_of : GotAll → Got
joined_of p = (joined p.0, p.1)

abbrev counted_of : GotAll → Got
counted_of p = (counted p.0, p.1)

unfoldable mutual
  -- a row of the shape
  read_row : Shape → List ℕ → Got
  read_row (bytes n) s = headed (read_bytes n) s
  read_row text s = headed (behind_number read_text) s
  read_row (in_turn hs) s = headed (λ v. joined_of (read_each hs v)) s
  read_row (many h) s = headed (λ v. counted_of (behind_number (read_all (λ u. read_row h u)) v)) s
  read_row (one_of hs) s = headed (behind_id (λ id v. read_named hs id v)) s

  -- rows of these shapes in turn
  read_each : Shapes → List ℕ → GotAll
  read_each end s = (none, s)
  read_each (shape i h hs) s = and_then (read_row h s) (λ v. read_each hs v)

  -- a row of the shape that stands with the id
  read_named : Shapes → ℕ → List ℕ → Got
  read_named end id s = headed (read_bytes 0) s
  read_named (shape i h hs) id s = cond (eqb i id) (read_row h s) (read_named hs id s)

-- it reads by the first shape that stands with the id
named_by : (hs : Shapes) (id : ℕ) (s : List ℕ) → read_named hs id s ≡ read_row (shape_with hs id) s
unfolding read_row shape_with
named_by end id s = refl
named_by (shape i h hs) id s = cases (eqb i id) (named_by hs id s)
  where
    cases : (b : Bool) → read_named hs id s ≡ read_row (shape_with hs id) s → cond b (read_row h s) (read_named hs id s) ≡ read_row (cond b h (shape_with hs id)) s
    cases true e = refl
    cases false e = e

null_read : (h : Shape) (x : List ℕ) → read_row h (0 ∷ x) ≡ (null, x)
unfolding read_row
null_read (bytes n) x = refl
null_read text x = refl
null_read (in_turn hs) x = refl
null_read (many h) x = refl
null_read (one_of hs) x = refl

bytes_read : (b x : List ℕ) (n : ℕ) → length b ≡ n → read_bytes n (b ++ x) ≡ (fixed b, x)
bytes_read b x n e = rw (take_at b x n e, drop_at b x n e)

text_read : (b x : List ℕ) → read_text (length b) (b ++ x) ≡ (sized b, x)
text_read b x = rw (take_at b x (length b) refl, drop_at b x (length b) refl)

number_read : {A : Type 0} (f : ℕ → List ℕ → A) (n : ℕ) (b x : List ℕ) → ltb n 4294967296 ≡ true → behind_number f (number_bytes 4 n ++ b ++ x) ≡ f n (b ++ x)
number_read f n b x lt =
    let small : n < 256 ^ 4 = ltb-true n 4294967296 lt in
    rw (append_assoc (number_bytes 4 n) b x, number_back 4 n (b ++ x) small, drop_at (number_bytes 4 n) (b ++ x) 4 (number_length 4 n))

-- a row is read, and then the rows behind it
then_read : (f : List ℕ → Got) (g : List ℕ → GotAll) (r : Row) (rs : Rows) (b c x : List ℕ) → f (b ++ (c ++ x)) ≡ (r, c ++ x) → g (c ++ x) ≡ (rs, x) → and_then (f (b ++ c ++ x)) g ≡ (more r rs, x)
then_read f g r rs b c x here rest = rw (append_assoc b c x, here, rest)

mutual
  unfolding fits row_bytes read_row read_all count

  -- a row of the shape is read back
  row_read : (r : Row) (h : Shape) (x : List ℕ) → fits r h ≡ true → read_row h (row_bytes r ++ x) ≡ (r, x)
  row_read null h x e = null_read h x
  row_read (fixed b) (bytes n) x e = bytes_read b x n (eqb-true _ _ e)
  row_read (fixed b) text x e = cc
  row_read (fixed b) (in_turn hs) x e = cc
  row_read (fixed b) (many h) x e = cc
  row_read (fixed b) (one_of hs) x e = cc
  row_read (sized b) (bytes n) x e = cc
  row_read (sized b) text x e = number_read read_text (length b) b x e ∙ text_read b x
  row_read (sized b) (in_turn hs) x e = cc
  row_read (sized b) (many h) x e = cc
  row_read (sized b) (one_of hs) x e = cc
  row_read (joined rs) (bytes n) x e = cc
  row_read (joined rs) text x e = cc
  row_read (joined rs) (in_turn hs) x e = ap joined_of (each_read rs hs x e)
  row_read (joined rs) (many h) x e = cc
  row_read (joined rs) (one_of hs) x e = cc
  row_read (counted rs) (bytes n) x e = cc
  row_read (counted rs) text x e = cc
  row_read (counted rs) (in_turn hs) x e = cc
  row_read (counted rs) (many h) x e = ap counted_of (number_read (read_all (read_row h)) (count rs) (rows_bytes rs) x (and_left _ _ e) ∙ all_read rs h x (and_right (ltb (count rs) 4294967296) _ e))
  row_read (counted rs) (one_of hs) x e = cc
  row_read (tagged id r) (bytes n) x e = cc
  row_read (tagged id r) text x e = cc
  row_read (tagged id r) (in_turn hs) x e = cc
  row_read (tagged id r) (many h) x e = cc
  row_read (tagged id r) (one_of hs) x e = rw (named_by hs id (row_bytes r ++ x), row_read r (shape_with hs id) x e)

  -- rows of these shapes in turn
  each_read : (rs : Rows) (hs : Shapes) (x : List ℕ) → fit_each rs hs ≡ true → read_each hs (rows_bytes rs ++ x) ≡ (rs, x)
  each_read none end x e = refl
  each_read none (shape i h hs) x e = cc
  each_read (more r rs) end x e = cc
  each_read (more r rs) (shape i h hs) x e = then_read (read_row h) (read_each hs) r rs (row_bytes r) (rows_bytes rs) x (row_read r h (rows_bytes rs ++ x) (and_left _ _ e)) (each_read rs hs x (and_right (fits r h) _ e))

  -- rows of one shape
  all_read : (rs : Rows) (h : Shape) (x : List ℕ) → fit_all rs h ≡ true → read_all (read_row h) (count rs) (rows_bytes rs ++ x) ≡ (rs, x)
  all_read none h x e = refl
  all_read (more r rs) h x e = then_read (read_row h) (read_all (read_row h) (count rs)) r rs (row_bytes r) (rows_bytes rs) x (row_read r h (rows_bytes rs ++ x) (and_left _ _ e)) (all_read rs h x (and_right (fits r h) _ e))

-- rows of one shape whose bytes begin alike are the same, and so is what follows them
pub row_back : (r q : Row) (h : Shape) (x y : List ℕ) → fits r h ≡ true → fits q h ≡ true → row_bytes r ++ x ≡ row_bytes q ++ y → (r ≡ q) × (x ≡ y)
row_back r q h x y left right e =
    let same : ◌≡◌ {A = Got} (r, x) (q, y) = sym (row_read r h x left) ∙ ap (read_row h) e ∙ row_read q h y right in
    (ap (λ (p : Got). p.0) same, ap (λ (p : Got). p.1) same)

-- equally many rows of one shape
pub rows_back : (rs qs : Rows) (h : Shape) (x y : List ℕ) → fit_all rs h ≡ true → fit_all qs h ≡ true → count rs ≡ count qs → rows_bytes rs ++ x ≡ rows_bytes qs ++ y → (rs ≡ qs) × (x ≡ y)
rows_back rs qs h x y left right counts e =
    let same : ◌≡◌ {A = GotAll} (rs, x) (qs, y) = sym (all_read rs h x left) ∙ rw (e, counts) (all_read qs h y right) in
    (ap (λ (p : GotAll). p.0) same, ap (λ (p : GotAll). p.1) same)
