-- Bytes put over a buffer piece by piece: what is still to be put, put at the place that is reached, gives the whole.
-- A piece that is put first leaves the rest for the place after it; nothing is left in the end.
use mathlib.Core.Path.{◌≡◌, refl, sym, ap, ◌∙◌}
use mathlib.Core.List.{List, [], ◌∷◌, ◌++◌, append_assoc, append-nil}
use Prim.Native.Nat.{ℕ, zero, suc, ◌+◌, ◌-◌, ◌/◌, ◌%◌, ◌≤◌, ◌<◌}
use native.Mathlib.Omega.{arith}
use lib.ListN.{length, take, drop, set, length-append, length-drop, take-append-drop, get_or-append}
use lib.Seq.{take-length, drop-length, length-take-le, take_at, drop_at, drop-drop, take-append_seam, get_or-take, set_split}
use borrow.Rule.Slice.PartMut.{put_mid}
use Rattle.image.specs.Ranges.{pieces}
use Rattle.image.specs.Bytes.{byte_at, number_bytes, bytes_at}
use Rattle.image.specs.Row.{row_at}
use Rattle.image.specs.RowBytes.{row_bytes}
use Rattle.image.proofs.Slices.{bytes_taken}
use Rattle.laws.proofs.Lengths.{number_length, bytes_length}
use Rattle.std.specs.Prelude.{Some, None}
use Rattle.rows.specs.declared.value.ChildRows.{ChildRows}
use Rattle.rows.specs.declared.output.Output.{Output}
use Rattle.rows.specs.Output.{over, Fits, Put}
use Rattle.rows.specs.Value.{Content, front_bytes, own_bytes}
use Rattle.rows.proofs.Joined.{joined_start, joined_next, joined_end, number_next}
use Rattle.rows.proofs.RowParts.{RowValue, nested_bytes, children_bytes, own_length}

-- nothing, one byte
pub over_none : (out : List ℕ) (at : ℕ) → over out at [] ≡ out
unfolding over
over_none out at =
    let e : at + 0 ≡ at = omega arith in
    rw e (take-append-drop at out)

pub over_one : (out : List ℕ) (at x : ℕ) → at < length out → set out at x ≡ over out at (x ∷ [])
unfolding over
over_one out at x lt =
    let e : at + 1 ≡ suc at = omega arith in
    rw e (set_split out at x lt)

module _ (out : List ℕ) (at : ℕ) (x : List ℕ) (fits : at + length x ≤ length out) where
  front_length : length (take at out ++ x) ≡ at + length x
  front_length = omega (arith, length-append (take at out) x, length-take-le at out (omega arith))

  over_front : over out at x ≡ (take at out ++ x) ++ drop (at + length x) out
  unfolding over
  over_front = sym (append_assoc (take at out) x (drop (at + length x) out))

  -- the buffer keeps its length
  pub over_length : length (over out at x) ≡ length out
  over_length =
      let a : length (over out at x) ≡ length ((take at out ++ x) ++ drop (at + length x) out) = ap length over_front in
      omega (arith, a, length-append (take at out ++ x) (drop (at + length x) out), front_length, length-drop (at + length x) out)

  -- two pieces, one after the other
  pub over_over : (y : List ℕ) → over (over out at x) (at + length x) y ≡ over out at (x ++ y)
  unfolding over
  over_over y =
      let before : List ℕ = take at out in
      let after : List ℕ = drop (at + length x) out in
      let end : ℕ = at + length x in
      let same : end + length y ≡ at + length (x ++ y) = omega (arith, length-append x y) in
      let front : take end (over out at x) ≡ before ++ x = ap (take end) over_front ∙ take_at (before ++ x) after end front_length in
      let back : drop (end + length y) (over out at x) ≡ drop (at + length (x ++ y)) out =
      sym (drop-drop (length y) end (over out at x))
      ∙ ap (drop (length y)) (ap (drop end) over_front ∙ drop_at (before ++ x) after end front_length)
      ∙ drop-drop (length y) end out
      ∙ ap (λ (n : ℕ). drop n out) same
      in
      ap (λ (f : List ℕ). f ++ (y ++ drop (end + length y) (over out at x))) front
      ∙ append_assoc before x (y ++ drop (end + length y) (over out at x))
      ∙ ap (λ (r : List ℕ). before ++ r) (sym (append_assoc x y (drop (end + length y) (over out at x))) ∙ ap (λ (r : List ℕ). (x ++ y) ++ r) back)

  -- what was put stands there, and what stood before it stays
  pub over_there : bytes_at (over out at x) at (length x) ≡ x
  unfolding over
  over_there =
      let front : length (take at out) ≡ at = length-take-le at out (omega arith) in
      let whole : length (over out at x) ≡ length out = over_length in
      sym (bytes_taken (over out at x) at (length x) (omega arith))
      ∙ ap (take (length x)) (drop_at (take at out) (x ++ drop (at + length x) out) at front)
      ∙ take-append_seam x (drop (at + length x) out)

  pub over_before : (p : ℕ) → p < at → byte_at (over out at x) p ≡ byte_at out p
  unfolding over
  over_before p lt =
      let front : length (take at out) ≡ at = length-take-le at out (omega arith) in
      get_or-append (take at out) (x ++ drop (at + length x) out) 0 p (omega arith) ∙ get_or-take at out p 0 lt

-- In the buffer out the bytes rest are still to be put from next on, so that the buffer out₀ gets the bytes whole from at on.
pub record ToPut (out₀ : List ℕ) (at : ℕ) (whole out : List ℕ) (next : ℕ) (rest : List ℕ) : Type 0 where
  pub same : over out next rest ≡ over out₀ at whole
  pub ends : next + length rest ≡ at + length whole
  pub long : length out ≡ length out₀
  pub fits : next + length rest ≤ length out

pub put_start : {out : List ℕ} {at : ℕ} {whole : List ℕ} → Fits out at whole → ToPut out at whole out at whole
put_start fits = record { same = refl; ends = refl; long = refl; fits = fits.within }

-- the same bytes, said in another way
pub put_as : {out₀ whole out rest other : List ℕ} {at next : ℕ} → ToPut out₀ at whole out next rest → rest ≡ other → ToPut out₀ at whole out next other
put_as t e = rw (← e) t

module _ {out₀ whole out : List ℕ} {at next : ℕ} where
  -- a piece, and the rest
  module _ (x rest : List ℕ) (t : ToPut out₀ at whole out next (x ++ rest)) where
    piece_fits : next + length x ≤ length out
    piece_fits = omega (arith, t.fits, length-append x rest)

    pub put_fits : Fits out next x
    put_fits = record { within = piece_fits }

    -- the piece is put
    pub put_more : {after : List ℕ} {end : ℕ} → after ≡ over out next x → end ≡ next + length x → ToPut out₀ at whole after end rest
    put_more {after} {end} e f =
        let long : length after ≡ length out = ap length e ∙ over_length out next x piece_fits in
        record {
          same = rw (e, f) (over_over out next x piece_fits rest ∙ t.same);
          ends = omega (arith, f, t.ends, length-append x rest);
          long = long ∙ t.long;
          fits = omega (arith, f, long, t.fits, length-append x rest);
        }

  -- the next byte is put
  pub put_byte : {x : ℕ} {rest : List ℕ} → ToPut out₀ at whole out next (x ∷ rest) → ToPut out₀ at whole (set out next x) (next + 1) rest
  put_byte {x} {rest} t = put_more (x ∷ []) rest t (over_one out next x (omega (arith, t.fits))) refl

  -- the last piece is put
  pub put_last : {x after : List ℕ} {end : ℕ} → ToPut out₀ at whole out next x → after ≡ over out next x → end ≡ next + length x → (end ≡ at + length whole) × (after ≡ over out₀ at whole)
  put_last t e f = (f ∙ t.ends, e ∙ t.same)

  -- all is put
  module _ (t : ToPut out₀ at whole out next []) where
    pub put_place : next ≡ at + length whole
    put_place = omega (arith, t.ends)

    pub put_done : out ≡ over out₀ at whole
    put_done = sym (over_none out next) ∙ t.same

-- what stood before the bytes that are put stays
before_kept : {out₀ whole out rest : List ℕ} {at next : ℕ} → ToPut out₀ at whole out next rest → (p : ℕ) → p < at → at ≤ next → byte_at out p ≡ byte_at out₀ p
before_kept {out₀} {whole} {out} {rest} {at} {next} t p lt le =
    sym (over_before out next rest t.fits p (omega arith))
    ∙ ap (λ (b : List ℕ). byte_at b p) t.same
    ∙ over_before out₀ at whole (omega (arith, t.ends, t.long, t.fits)) p lt

-- Of n pieces from piece i on, those from piece k on are still to be put.
pub record PiecesToPut (p : ℕ → List ℕ) (i n : ℕ) (out₀ : List ℕ) (at : ℕ) (out : List ℕ) (next k : ℕ) : Type 0 where
  pub put : ToPut out₀ at (pieces p i n) out next (pieces p (i + k) (n - k))

pub pieces_start : (p : ℕ → List ℕ) (i n : ℕ) {out : List ℕ} {at : ℕ} → Fits out at (pieces p i n) → PiecesToPut p i n out at out at 0
pieces_start p i n fits = record { put = put_as (put_start fits) (sym (joined_start p i n)) }

module _ {p : ℕ → List ℕ} {i n : ℕ} {out₀ : List ℕ} {at : ℕ} {out : List ℕ} {next k : ℕ} (t : PiecesToPut p i n out₀ at out next k) where
  module _ (lt : k < n) where
    piece_next : ToPut out₀ at (pieces p i n) out next (p (i + k) ++ pieces p (i + (k + 1)) (n - (k + 1)))
    piece_next = put_as t.put (joined_next p i n k lt)

    pub pieces_fit : Fits out next (p (i + k))
    pieces_fit = put_fits _ _ piece_next

    pub pieces_more : {after : List ℕ} {end : ℕ} → after ≡ over out next (p (i + k)) → end ≡ next + length (p (i + k)) → PiecesToPut p i n out₀ at after end (k + 1)
    pieces_more e f = record { put = put_more _ _ piece_next e f }

  module _ (le : n ≤ k) where
    none_left : ToPut out₀ at (pieces p i n) out next []
    none_left = put_as t.put (joined_end p i n k le)

    pub pieces_place : next ≡ at + length (pieces p i n)
    pieces_place = put_place none_left

    pub pieces_done : out ≡ over out₀ at (pieces p i n)
    pieces_done = put_done none_left

-- The w bytes of a number x, of which those from byte k on are still to be put; rest is what is left of the number.
pub record NumberToPut (w x : ℕ) (out₀ : List ℕ) (at : ℕ) (out : List ℕ) (rest k : ℕ) : Type 0 where
  pub put : ToPut out₀ at (number_bytes w x) out (at + k) (number_bytes (w - k) rest)

pub number_start : {w x at : ℕ} {out : List ℕ} → at + w ≤ length out → NumberToPut w x out at out x 0
number_start {w} {x} {at} {out} fits =
    let a : at + 0 ≡ at = omega arith in
    let b : w - 0 ≡ w = omega arith in
    record { put = rw (a, b) (put_start (record { within = omega (arith, number_length w x) })) }

module _ {w x : ℕ} {out₀ : List ℕ} {at : ℕ} {out : List ℕ} {rest k : ℕ} (t : NumberToPut w x out₀ at out rest k) where
  pub number_more : k < w → NumberToPut w x out₀ at (set out (at + k) (rest % 256)) (rest / 256) (k + 1)
  number_more lt =
      let e : at + (k + 1) ≡ at + k + 1 = omega arith in
      record { put = rw e (put_byte (put_as t.put (number_next w k rest lt))) }

  pub number_done : w ≤ k → out ≡ over out₀ at (number_bytes w x)
  unfolding number_bytes
  number_done le =
      let e : w - k ≡ 0 = omega arith in
      put_done (rw e at t.put)

-- The bytes of an image are pieces of one byte.
abbrev one_byte_lem : List ℕ → ℕ → List ℕ
one_byte_lem s j = byte_at s j ∷ []

pub bytes_joined : (s : List ℕ) (place n : ℕ) → bytes_at s place n ≡ pieces (one_byte_lem s) place n
unfolding pieces bytes_at
bytes_joined s place zero = refl
bytes_joined s place (suc n) = ap (λ (b : List ℕ). byte_at s place ∷ b) (bytes_joined s (suc place) n)

-- Bytes that the library copies over a part of a buffer.
pub part_over : (out : List ℕ) (at : ℕ) (bytes : List ℕ) {part : List ℕ} → part ≡ bytes → put_mid at (at + length bytes - at) out part ≡ over out at bytes
unfolding over
part_over out at bytes e =
    let a : at + length bytes - at ≡ length bytes = omega arith in
    rw (e, a, drop-drop (length bytes) at out)

-- Of n bytes of an image from a place on, those from byte k on are still to be put.
pub record BytesToPut (s : List ℕ) (place n : ℕ) (out₀ : List ℕ) (at : ℕ) (out : List ℕ) (k : ℕ) : Type 0 where
  pub put : PiecesToPut (one_byte_lem s) place n out₀ at out (at + k) k

pub bytes_start : {s : List ℕ} {place n at : ℕ} {out : List ℕ} → at + n ≤ length out → BytesToPut s place n out at out 0
bytes_start {s} {place} {n} {at} {out} fits =
    let a : at + 0 ≡ at = omega arith in
    let b : length (pieces (one_byte_lem s) place n) ≡ n = sym (ap length (bytes_joined s place n)) ∙ bytes_length s place n in
    record { put = rw a (pieces_start (one_byte_lem s) place n (record { within = omega arith })) }

module _ {s : List ℕ} {place n : ℕ} {out₀ : List ℕ} {at : ℕ} {out : List ℕ} {k : ℕ} (t : BytesToPut s place n out₀ at out k) where
  pub bytes_more : k < n → BytesToPut s place n out₀ at (set out (at + k) (byte_at s (place + k))) (k + 1)
  bytes_more lt = record { put = pieces_more t.put lt (over_one out (at + k) _ (omega (arith, (pieces_fit t.put lt).within))) (omega arith) }

  pub bytes_done : n ≤ k → out ≡ over out₀ at (bytes_at s place n)
  bytes_done le = pieces_done t.put le ∙ ap (over out₀ at) (sym (bytes_joined s place n))

-- Bytes over as many are those bytes.
pub whole_over : (out s : List ℕ) → length out ≡ length s → over out 0 (bytes_at s 0 (length s)) ≡ s
unfolding over
whole_over out s e =
    let bytes : bytes_at s 0 (length s) ≡ s = sym (bytes_taken s 0 (length s) (omega arith)) ∙ take-length s in
    let rest : drop (length s) out ≡ [] = rw e at (drop-length out) in
    let none : 0 + length s ≡ length s = omega arith in
    rw (bytes, none, rest) (append-nil s)

-- The same of bytes of the buffer itself, which stand before the place where they are put.
module _ {place n : ℕ} {out₀ : List ℕ} {at : ℕ} {out : List ℕ} {k : ℕ} (t : BytesToPut out₀ place n out₀ at out k) where
  pub again_more : k < n → place + n ≤ at → BytesToPut out₀ place n out₀ at (set out (at + k) (byte_at out (place + k))) (k + 1)
  again_more lt le = rw (before_kept t.put.put (place + k) (omega arith) (omega arith)) (bytes_more t lt)

-- the place that is reached once bytes of the buffer itself are put
pub put_reached : {x y : Output} (place n : ℕ) → Put x y (bytes_at x.bytes.now place n) → y.at ≡ x.at + n
put_reached {x} {y} place n p = omega (arith, p.at, bytes_length x.bytes.now place n)

-- a null, one byte
module _ {out bytes : List ℕ} {at : ℕ} (fits : Fits out at bytes) (e : bytes ≡ 0 ∷ []) where
  null_length : length bytes ≡ 1
  null_length = ap length e

  pub null_fits : at + 1 ≤ length out
  null_fits = omega (arith, fits.within, null_length)

  pub null_put : {end : ℕ} {after : List ℕ} → end ≡ at + length (number_bytes 1 0) → after ≡ over out at (number_bytes 1 0) → (end ≡ at + length bytes) × (after ≡ over out at bytes)
  unfolding number_bytes
  null_put f g = put_last (put_as (put_start fits) e) g f

-- the bytes that are left, as pieces
pub pieces_from : {p : ℕ → List ℕ} {i n : ℕ} {out₀ whole out : List ℕ} {at next : ℕ} → ToPut out₀ at whole out next (pieces p i n) → PiecesToPut p i n out next out next 0
pieces_from {p} {i} {n} t = pieces_start p i n (record { within = t.fits })

-- What a value has before its child rows: the byte 01, the number in front, the bytes.
module _ (v : Content) {out : List ℕ} {at : ℕ} (fits : Fits out at (own_bytes v)) where
  pub own_fits : at + 1 + v.width + length v.bytes ≤ length out
  own_fits = omega (arith, fits.within, own_length v)

  own_start : ToPut out at (own_bytes v) out at (1 ∷ (number_bytes v.width v.head ++ v.bytes))
  unfolding own_bytes front_bytes
  own_start = put_start fits

  pub own_put : {number place end : ℕ} {marked headed own : List ℕ} → (number ≡ at + length (number_bytes 1 1)) × (marked ≡ over out at (number_bytes 1 1)) → (place ≡ number + length (number_bytes v.width v.head)) × (headed ≡ over marked number (number_bytes v.width v.head)) → (end ≡ place + length v.bytes) × (own ≡ over headed place v.bytes)
      → (end ≡ at + length (own_bytes v)) × (own ≡ over out at (own_bytes v))
  unfolding number_bytes
  own_put e f g = put_last (put_more _ _ (put_more (1 ∷ []) _ own_start e.1 e.0) f.1 f.0) g.1 g.0

-- A value: its own bytes, then its child rows.
module _ {depth : ℕ} {s : List ℕ} {k i : ℕ} {v : Content} (r : RowValue depth s k i v) {out : List ℕ} {at : ℕ} (fits : Fits out at (row_bytes (row_at depth s k i))) where
  value_start : ToPut out at (row_bytes (row_at depth s k i)) out at (own_bytes v ++ children_bytes depth s v.rows)
  value_start = put_as (put_start fits) r.bytes

  pub value_fits : Fits out at (own_bytes v)
  value_fits = put_fits _ _ value_start

  pub value_put : {own : List ℕ} {next : ℕ} → own ≡ over out at (own_bytes v) → next ≡ at + length (own_bytes v) → ToPut out at (row_bytes (row_at depth s k i)) own next (children_bytes depth s v.rows)
  value_put e f = put_more _ _ value_start e f

  -- where it has none, and where it has some
  module _ {own : List ℕ} {next : ℕ} (e : own ≡ over out at (own_bytes v)) (f : next ≡ at + length (own_bytes v)) where
    pub leaf_put : v.rows ≡ None → (next ≡ at + length (row_bytes (row_at depth s k i))) × (own ≡ over out at (row_bytes (row_at depth s k i)))
    leaf_put none =
        let all : ToPut out at (row_bytes (row_at depth s k i)) own next [] = rw none at (value_put e f) in
        (put_place all, put_done all)

    pub nested_put : {c : ChildRows} → v.rows ≡ Some c → ToPut out at (row_bytes (row_at depth s k i)) own next (nested_bytes depth s c)
    nested_put some = rw some at (value_put e f)

-- A number that is put takes as many bytes as its width.
pub number_at : {x y : Output} (w n : ℕ) → Put x y (number_bytes w n) → (y.at ≡ x.at + w) × (length y.bytes.now ≡ length x.bytes.now)
number_at w n p = (omega (arith, p.at, number_length w n), p.long)
