-- The rows that a string can hold: those that a node of the type can have. What is read is such a row, and such a row is
-- read back from its bytes.
-- Both by induction over the depth, a row by the layout of its node.
use mathlib.Core.Path.{◌≡◌, refl, ap, ◌∙◌}
use mathlib.Core.Bool.{Bool, true, false, cond, ◌&&◌, ◌||◌, false≢true}
use mathlib.Core.List.{List, [], ◌∷◌, ◌++◌, append_assoc, append-nil}
use Prim.Native.Nat.{ℕ, zero, suc, ◌<◌, ◌^◌}
use native.Mathlib.Omega.{arith}
use lib.ListN.{length, length-append, get_or-append}
use lib.Seq.{take_at, drop_at}
use lib.Dec.{eqb, leb, ltb}
use borrow.Author.Tests.{eqb-true, eq-eqb, ltb-true, lt-ltb, le-ltb}
use Rattle.image.specs.declared.type_code.Layout.{Layout}
use Rattle.image.specs.declared.type_code.Layout.TheVariants.{Null, Boolean, FixedWidth, VariableSize, View, List as Lists, ListView, FixedList, Struct, DenseUnion, SparseUnion, Dictionary, Runs}
use Rattle.image.specs.Bytes.{byte_at, number_at, number_bytes}
use Rattle.image.specs.Record.{code_of, first_child, child_count}
use Rattle.image.specs.TypeCode.{layout_of, takes_bitmap}
use Rattle.image.specs.Element.{element_width}
use Rattle.image.specs.Row.{Row, Rows, null, fixed, sized, joined, counted, tagged, none, more}
use Rattle.image.specs.RowBytes.{count, row_bytes, rows_bytes}
use Rattle.image.proofs.Bools.{and_left, and_right, and_true}
use Rattle.image.proofs.Numbers.{number_four}
use Rattle.laws.proofs.Decode.{number_back}
use Rattle.laws.proofs.Lengths.{number_length}
use Rattle.image.specs.Utf8.{well_formed}
use Rattle.built.specs.Typed.{all_rows, each_row, text_fits, as_fixed, as_sized, as_joined, as_counted, is_value, is_marked, is_row}
use Rattle.image.specs.Parse.{Parsed, failed, parsed, made, and_then, bytes_in, number_in, rows_of, row_of_each, checked_text, marked, value_in, row_in, rows_in}
use Rattle.built.proofs.Regions.{part_byte, part_number, left_part}
use Rattle.image.specs.Bytes.{AllBytes}
use Rattle.built.proofs.Parsed.{behind, tail_bytes, made_back, then_back, when_back, failed_not, bytes_back, number_in_back, checked_back, Writes, rows_of_back, row_of_each_back, row_in_back}

-- a row that passes such a test is of that kind
pub from_fixed : (f : List ℕ → Bool) (r : Row) → as_fixed f r ≡ true → (P : Row → Type 0) → ((b : List ℕ) → f b ≡ true → P (fixed b)) → P r
from_fixed f null e P h = absurd (false≢true e)
from_fixed f (fixed b) e P h = h b e
from_fixed f (sized b) e P h = absurd (false≢true e)
from_fixed f (joined rs) e P h = absurd (false≢true e)
from_fixed f (counted rs) e P h = absurd (false≢true e)
from_fixed f (tagged id r) e P h = absurd (false≢true e)

pub from_sized : (f : List ℕ → Bool) (r : Row) → as_sized f r ≡ true → (P : Row → Type 0) → ((b : List ℕ) → f b ≡ true → P (sized b)) → P r
from_sized f null e P h = absurd (false≢true e)
from_sized f (fixed b) e P h = absurd (false≢true e)
from_sized f (sized b) e P h = h b e
from_sized f (joined rs) e P h = absurd (false≢true e)
from_sized f (counted rs) e P h = absurd (false≢true e)
from_sized f (tagged id r) e P h = absurd (false≢true e)

pub from_joined : (f : Rows → Bool) (r : Row) → as_joined f r ≡ true → (P : Row → Type 0) → ((rs : Rows) → f rs ≡ true → P (joined rs)) → P r
from_joined f null e P h = absurd (false≢true e)
from_joined f (fixed b) e P h = absurd (false≢true e)
from_joined f (sized b) e P h = absurd (false≢true e)
from_joined f (joined rs) e P h = h rs e
from_joined f (counted rs) e P h = absurd (false≢true e)
from_joined f (tagged id r) e P h = absurd (false≢true e)

pub from_counted : (f : Rows → Bool) (r : Row) → as_counted f r ≡ true → (P : Row → Type 0) → ((rs : Rows) → f rs ≡ true → P (counted rs)) → P r
from_counted f null e P h = absurd (false≢true e)
from_counted f (fixed b) e P h = absurd (false≢true e)
from_counted f (sized b) e P h = absurd (false≢true e)
from_counted f (joined rs) e P h = absurd (false≢true e)
from_counted f (counted rs) e P h = h rs e
from_counted f (tagged id r) e P h = absurd (false≢true e)

-- What is read is such a row.

-- a u32 is below 2 ^ 32
number_small : (b : List ℕ) (n : ℕ) (rest : List ℕ) → AllBytes b → number_in b ≡ parsed n rest → ltb n 4294967296 ≡ true
unfolding number_in
number_small b n rest all e =
    let m = made_back (λ x. number_at 4 x 0) (bytes_in 4 b) n rest e in
    let p = bytes_back 4 b m.0 rest m.1 in
    let part = part_number (left_part m.0 rest) 4 0 (omega (arith, p.1)) in
    let there : number_at 4 b 0 ≡ n = rw p.0 at part ∙ m.2 in
    rw (← there) (lt-ltb (number_at 4 b 0) 4294967296 (omega (arith, number_four b 0, all 0, all 1, all 2, all 3)))

-- rows and their string, as they are read
pub record Reads (p : List ℕ → Parsed Row) (f : Row → Bool) : Type 0 where
  pub typed : (b : List ℕ) → AllBytes b → (r : Row) (rest : List ℕ) → p b ≡ parsed r rest → f r ≡ true
  pub back : (b : List ℕ) → AllBytes b → (r : Row) (rest : List ℕ) → p b ≡ parsed r rest → row_bytes r ++ rest ≡ b

rows_of_typed : (p : List ℕ → Parsed Row) (f : Row → Bool) → Reads p f → (n : ℕ) (b : List ℕ) → AllBytes b → (rs : Rows) (rest : List ℕ) → rows_of p n b ≡ parsed rs rest → all_rows f rs ≡ true
unfolding rows_of all_rows
rows_of_typed p f h zero b all rs rest e =
    let front : rs ≡ none = cc in
    rw front
rows_of_typed p f h (suc n) b all rs rest e =
    let t = then_back (p b) (λ r rest. made (more r) (rows_of p n rest)) rs rest e in
    let m = made_back (more t.0) (rows_of p n t.1) rs rest t.3 in
    let mid = behind (row_bytes t.0) t.1 b (h.back b all t.0 t.1 t.2) all in
    rw (← m.2) (and_true _ _ (h.typed b all t.0 t.1 t.2) (rows_of_typed p f h n t.1 mid m.0 rest m.1))

each_typed : (p : ℕ → List ℕ → Parsed Row) (f : ℕ → Row → Bool) → ((c : ℕ) → Reads (p c) (f c)) → (c n : ℕ) (b : List ℕ) → AllBytes b → (rs : Rows) (rest : List ℕ) → row_of_each p c n b ≡ parsed rs rest → each_row f c rs ≡ true
unfolding row_of_each each_row
each_typed p f h c zero b all rs rest e =
    let front : rs ≡ none = cc in
    rw front
each_typed p f h c (suc n) b all rs rest e =
    let t = then_back (p c b) (λ r rest. made (more r) (row_of_each p (suc c) n rest)) rs rest e in
    let m = made_back (more t.0) (row_of_each p (suc c) n t.1) rs rest t.3 in
    let mid = behind (row_bytes t.0) t.1 b ((h c).back b all t.0 t.1 t.2) all in
    rw (← m.2) (and_true _ _ ((h c).typed b all t.0 t.1 t.2) (each_typed p f h (suc c) n t.1 mid m.0 rest m.1))

-- a text that was checked is one that the code allows
checked_fits : (code : ℕ) (x mid y rest : List ℕ) → checked_text code x mid ≡ parsed y rest → text_fits code y ≡ true
checked_fits code x mid y rest e = cases (eqb code 26 || eqb code 28) e
  where
    cases : (t : Bool) → cond t (cond (well_formed x) (parsed x mid) failed) (parsed x mid) ≡ parsed y rest → cond t (well_formed y) true ≡ true
    cases true h =
        let u = when_back (well_formed x) (parsed x mid) y rest h in
        let same = u.1 in
        let text : y ≡ x = cc in
        rw text u.0
    cases false h = refl

module _ (row : ℕ → List ℕ → Parsed Row) (sub : ℕ → Row → Bool) (h : (c : ℕ) → Reads (row c) (sub c)) (s : List ℕ) (k : ℕ) (bitmap : Bool) (b : List ℕ) (all : AllBytes b) (r : Row) (rest : List ℕ) where
  value_typed : (l : Layout) → value_in l row s k b ≡ parsed r rest → is_marked bitmap (is_value l sub s k) r ≡ true
  value_typed Null e =
      let front : r ≡ fixed [] = cc in
      rw front
  value_typed Boolean e =
      let u = when_back (leb (byte_at b 0) 1) (made fixed (bytes_in 1 b)) r rest e in
      let m = made_back fixed (bytes_in 1 b) r rest u.1 in
      let p = bytes_back 1 b m.0 rest m.1 in
      let part = part_byte (left_part m.0 rest) 0 (omega (arith, p.1)) in
      let same : byte_at b 0 ≡ byte_at m.0 0 = rw p.0 at part in
      rw (← m.2) (and_true _ _ (eq-eqb _ _ p.1) (rw (← same) u.0))
  value_typed FixedWidth e =
      let m = made_back fixed (bytes_in (element_width s k) b) r rest e in
      let p = bytes_back (element_width s k) b m.0 rest m.1 in
      rw (← m.2) (eq-eqb _ _ p.1)
  value_typed VariableSize e =
      let m = made_back sized (and_then (and_then (number_in b) bytes_in) (checked_text (code_of s k))) r rest e in
      let c = then_back (and_then (number_in b) bytes_in) (checked_text (code_of s k)) m.0 rest m.1 in
      let n = then_back (number_in b) bytes_in c.0 c.1 c.2 in
      let read = checked_back (code_of s k) (bytes_in n.0 n.1) c.0 c.1 m.0 rest n.3 c.3 in
      let body = bytes_back n.0 n.1 m.0 rest read in
      let short : ltb (length m.0) 4294967296 ≡ true = rw body.1 (number_small b n.0 n.1 all n.2) in
      rw (← m.2) (and_true _ _ short (checked_fits (code_of s k) c.0 c.1 m.0 rest c.3))
  value_typed Lists e =
      let m = made_back counted (and_then (number_in b) (rows_of (row (first_child s k)))) r rest e in
      let n = then_back (number_in b) (rows_of (row (first_child s k))) m.0 rest m.1 in
      let number = number_in_back b n.0 n.1 all n.2 in
      let mid = behind (number_bytes 4 n.0) n.1 b number all in
      let w : Writes (row (first_child s k)) = record { back = (h (first_child s k)).back } in
      let body = rows_of_back (row (first_child s k)) w n.0 n.1 mid m.0 rest n.3 in
      let short : ltb (count m.0) 4294967296 ≡ true = rw body.1 (number_small b n.0 n.1 all n.2) in
      rw (← m.2) (and_true _ _ short (rows_of_typed (row (first_child s k)) (sub (first_child s k)) (h (first_child s k)) n.0 n.1 mid m.0 rest n.3))
  value_typed Struct e =
      let m = made_back joined (row_of_each row (first_child s k) (child_count s k) b) r rest e in
      let body = row_of_each_back row (λ c. record { back = (h c).back }) (first_child s k) (child_count s k) b all m.0 rest m.1 in
      rw (← m.2) (and_true _ _ (eq-eqb _ _ body.1) (each_typed row sub h (first_child s k) (child_count s k) b all m.0 rest m.1))
  value_typed View e = absurd (failed_not e)
  value_typed ListView e = absurd (failed_not e)
  value_typed FixedList e = absurd (failed_not e)
  value_typed DenseUnion e = absurd (failed_not e)
  value_typed SparseUnion e = absurd (failed_not e)
  value_typed Dictionary e = absurd (failed_not e)
  value_typed Runs e = absurd (failed_not e)

marked_typed : (bitmap : Bool) (value : List ℕ → Parsed Row) (f : Row → Bool) (b : List ℕ) → AllBytes b
    → ((v : List ℕ) → AllBytes v → (r : Row) (rest : List ℕ) → value v ≡ parsed r rest → is_marked bitmap f r ≡ true)
    → (r : Row) (rest : List ℕ) → marked bitmap value b ≡ parsed r rest → is_marked bitmap f r ≡ true
marked_typed bitmap value f [] all h r rest e = absurd (failed_not e)
marked_typed bitmap value f (zero ∷ v) all h r rest e =
    let u = when_back bitmap (parsed null v) r rest e in
    let same = u.1 in
    let front : r ≡ null = cc in
    rw front u.0
marked_typed bitmap value f (suc zero ∷ v) all h r rest e = h v (tail_bytes 1 v all) r rest e
marked_typed bitmap value f (suc (suc x) ∷ v) all h r rest e = absurd (failed_not e)

pub row_reads : (d : ℕ) (s : List ℕ) (k : ℕ) → Reads (row_in d s k) (is_row d s k)
unfolding row_in is_row
row_reads zero s k = record { typed = λ b all r rest e. absurd (failed_not e); back = (row_in_back 0 s k).back }
row_reads (suc d) s k = record {
  typed = λ b all. marked_typed (takes_bitmap (layout_of (code_of s k))) (value_in (layout_of (code_of s k)) (row_in d s) s k) (is_value (layout_of (code_of s k)) (is_row d s) s k) b all
      (λ v small r rest. value_typed (row_in d s) (is_row d s) (row_reads d s) s k (takes_bitmap (layout_of (code_of s k))) v small r rest (layout_of (code_of s k)));
  back = (row_in_back (suc d) s k).back;
}

-- rows that are read are rows of the type
pub rows_typed : (s : List ℕ) (n : ℕ) (b : List ℕ) → AllBytes b → (rs : Rows) (rest : List ℕ) → rows_in s n b ≡ parsed rs rest → all_rows (is_row 16 s 0) rs ≡ true
unfolding rows_in
rows_typed s n b all rs rest e = rows_of_typed (row_in 16 s 0) (is_row 16 s 0) (row_reads 16 s 0) n b all rs rest e

-- Such a row is read back.

bytes_read : (b x : List ℕ) (n : ℕ) → length b ≡ n → bytes_in n (b ++ x) ≡ parsed b x
unfolding bytes_in
bytes_read b x n e =
    let long : ltb (length (b ++ x)) n ≡ false = le-ltb (length (b ++ x)) n (omega (arith, length-append b x)) in
    rw (long, take_at b x n e, drop_at b x n e)

number_read : (n : ℕ) (x : List ℕ) → ltb n 4294967296 ≡ true → number_in (number_bytes 4 n ++ x) ≡ parsed n x
unfolding number_in
number_read n x lt =
    let small : n < 256 ^ 4 = ltb-true n 4294967296 lt in
    let alone : number_at 4 (number_bytes 4 n) 0 ≡ n = rw (append-nil (number_bytes 4 n)) at (number_back 4 n [] small) in
    rw (bytes_read (number_bytes 4 n) x 4 (number_length 4 n), alone)

-- rows of a kind that is read back
pub record ReadBack (p : List ℕ → Parsed Row) (f : Row → Bool) : Type 0 where
  pub read : (r : Row) (x : List ℕ) → f r ≡ true → p (row_bytes r ++ x) ≡ parsed r x

rows_of_read : (p : List ℕ → Parsed Row) (f : Row → Bool) → ReadBack p f → (rs : Rows) (x : List ℕ) → all_rows f rs ≡ true → rows_of p (count rs) (rows_bytes rs ++ x) ≡ parsed rs x
unfolding rows_of all_rows count rows_bytes
rows_of_read p f h none x e = refl
rows_of_read p f h (more r rs) x e =
    rw (append_assoc (row_bytes r) (rows_bytes rs) x, h.read r (rows_bytes rs ++ x) (and_left _ _ e), rows_of_read p f h rs x (and_right (f r) _ e))

each_read : (p : ℕ → List ℕ → Parsed Row) (f : ℕ → Row → Bool) → ((c : ℕ) → ReadBack (p c) (f c)) → (rs : Rows) (c : ℕ) (x : List ℕ) → each_row f c rs ≡ true → row_of_each p c (count rs) (rows_bytes rs ++ x) ≡ parsed rs x
unfolding row_of_each each_row count rows_bytes
each_read p f h none c x e = refl
each_read p f h (more r rs) c x e =
    rw (append_assoc (row_bytes r) (rows_bytes rs) x, (h c).read r (rows_bytes rs ++ x) (and_left _ _ e), each_read p f h rs (suc c) x (and_right (f c r) _ e))

text_passes : (code : ℕ) (b x : List ℕ) → text_fits code b ≡ true → checked_text code b x ≡ parsed b x
text_passes code b x e = cases (eqb code 26 || eqb code 28) e
  where
    cases : (t : Bool) → cond t (well_formed b) true ≡ true → cond t (cond (well_formed b) (parsed b x) failed) (parsed b x) ≡ parsed b x
    cases true h = rw h
    cases false h = refl

module _ (row : ℕ → List ℕ → Parsed Row) (sub : ℕ → Row → Bool) (h : (c : ℕ) → ReadBack (row c) (sub c)) (s : List ℕ) (k : ℕ) (bitmap : Bool) (x : List ℕ) where
  text_read : (code : ℕ) (b : List ℕ) → ltb (length b) 4294967296 && text_fits code b ≡ true
      → made sized (and_then (and_then (number_in (number_bytes 4 (length b) ++ b ++ x)) bytes_in) (checked_text code)) ≡ parsed (sized b) x
  text_read code b e =
      rw (
        append_assoc (number_bytes 4 (length b)) b x,
        number_read (length b) (b ++ x) (and_left _ _ e),
        bytes_read b x (length b) refl,
        text_passes code b x (and_right (ltb (length b) 4294967296) _ e),
      )

  list_read : (c : ℕ) (rs : Rows) → ltb (count rs) 4294967296 && all_rows (sub c) rs ≡ true
      → made counted (and_then (number_in (number_bytes 4 (count rs) ++ rows_bytes rs ++ x)) (rows_of (row c))) ≡ parsed (counted rs) x
  list_read c rs e =
      rw (
        append_assoc (number_bytes 4 (count rs)) (rows_bytes rs) x,
        number_read (count rs) (rows_bytes rs ++ x) (and_left _ _ e),
        rows_of_read (row c) (sub c) (h c) rs x (and_right (ltb (count rs) 4294967296) _ e),
      )

  struct_read : (c n : ℕ) (rs : Rows) → eqb (count rs) n && each_row sub c rs ≡ true → made joined (row_of_each row c n (rows_bytes rs ++ x)) ≡ parsed (joined rs) x
  struct_read c n rs e =
      let many : count rs ≡ n = eqb-true _ _ (and_left _ _ e) in
      rw (← many, each_read row sub h rs c x (and_right (eqb (count rs) n) _ e))

  boolean_read : (b : List ℕ) → eqb (length b) 1 && leb (byte_at b 0) 1 ≡ true → cond (leb (byte_at (b ++ x) 0) 1) (made fixed (bytes_in 1 (b ++ x))) failed ≡ parsed (fixed b) x
  boolean_read b e =
      let one : length b ≡ 1 = eqb-true _ _ (and_left _ _ e) in
      let same : byte_at (b ++ x) 0 ≡ byte_at b 0 = get_or-append b x 0 0 (omega arith) in
      rw (same, and_right (eqb (length b) 1) _ e, bytes_read b x 1 one)

  value_read : (l : Layout) (r : Row) → is_value l sub s k r ≡ true → marked bitmap (value_in l row s k) (row_bytes r ++ x) ≡ parsed r x
  unfolding row_bytes
  value_read Null r e =
      from_fixed (λ b. eqb (length b) 0) r e (λ r. marked bitmap (value_in Null row s k) (row_bytes r ++ x) ≡ parsed r x) (λ b t. no_bytes b (eqb-true _ _ t))
    where
      no_bytes : (b : List ℕ) → length b ≡ 0 → parsed (fixed []) (b ++ x) ≡ parsed (fixed b) x
      no_bytes [] n = refl
      no_bytes (a ∷ b) n = absurd (omega arith)
  value_read Boolean r e = from_fixed (λ b. eqb (length b) 1 && leb (byte_at b 0) 1) r e (λ r. marked bitmap (value_in Boolean row s k) (row_bytes r ++ x) ≡ parsed r x) boolean_read
  value_read FixedWidth r e =
      from_fixed (λ b. eqb (length b) (element_width s k)) r e (λ r. marked bitmap (value_in FixedWidth row s k) (row_bytes r ++ x) ≡ parsed r x)
      (λ b t. ap (made fixed) (bytes_read b x (element_width s k) (eqb-true _ _ t)))
  value_read VariableSize r e =
      from_sized (λ b. ltb (length b) 4294967296 && text_fits (code_of s k) b) r e (λ r. marked bitmap (value_in VariableSize row s k) (row_bytes r ++ x) ≡ parsed r x) (text_read (code_of s k))
  value_read Lists r e =
      from_counted (λ rs. ltb (count rs) 4294967296 && all_rows (sub (first_child s k)) rs) r e (λ r. marked bitmap (value_in Lists row s k) (row_bytes r ++ x) ≡ parsed r x) (list_read (first_child s k))
  value_read Struct r e =
      from_joined (λ rs. eqb (count rs) (child_count s k) && each_row sub (first_child s k) rs) r e (λ r. marked bitmap (value_in Struct row s k) (row_bytes r ++ x) ≡ parsed r x)
      (struct_read (first_child s k) (child_count s k))
  value_read View r e = cc
  value_read ListView r e = cc
  value_read FixedList r e = cc
  value_read DenseUnion r e = cc
  value_read SparseUnion r e = cc
  value_read Dictionary r e = cc
  value_read Runs r e = cc

marked_read : (bitmap : Bool) (value : List ℕ → Parsed Row) (f : Row → Bool) (r : Row) (x : List ℕ) → is_marked bitmap f r ≡ true
    → (f r ≡ true → marked bitmap value (row_bytes r ++ x) ≡ parsed r x) → marked bitmap value (row_bytes r ++ x) ≡ parsed r x
unfolding row_bytes
marked_read bitmap value f null x e h = rw e
marked_read bitmap value f (fixed b) x e h = h e
marked_read bitmap value f (sized b) x e h = h e
marked_read bitmap value f (joined rs) x e h = h e
marked_read bitmap value f (counted rs) x e h = h e
marked_read bitmap value f (tagged id r) x e h = h e

pub row_read_back : (d : ℕ) (s : List ℕ) (k : ℕ) → ReadBack (row_in d s k) (is_row d s k)
unfolding row_in is_row
row_read_back zero s k = record { read = λ r x e. absurd (false≢true e) }
row_read_back (suc d) s k = record {
  read = λ r x e.
      marked_read (takes_bitmap (layout_of (code_of s k))) (value_in (layout_of (code_of s k)) (row_in d s) s k) (is_value (layout_of (code_of s k)) (is_row d s) s k) r x e
      (value_read (row_in d s) (is_row d s) (row_read_back d s) s k (takes_bitmap (layout_of (code_of s k))) x (layout_of (code_of s k)) r);
}

-- rows of the type are read back from their bytes
pub rows_read_back : (s : List ℕ) (rs : Rows) (x : List ℕ) → all_rows (is_row 16 s 0) rs ≡ true → rows_in s (count rs) (rows_bytes rs ++ x) ≡ parsed rs x
unfolding rows_in
rows_read_back s rs x e = rows_of_read (row_in 16 s 0) (is_row 16 s 0) (row_read_back 16 s 0) rs x e
