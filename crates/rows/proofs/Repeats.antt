-- Bytes put many times over a buffer, one after the other.
-- What stands before the place that is reached are the bytes some times over; as many of them as are still to be put, or all of
-- them, are put again behind.
use mathlib.Core.Path.{◌≡◌, refl, sym, ap, ◌∙◌}
use mathlib.Core.List.{List, [], ◌∷◌, ◌++◌, append_assoc, append-nil}
use Prim.Native.Nat.{ℕ, zero, suc, ◌+◌, ◌*◌, ◌-◌, ◌≤◌, ◌<◌, min}
use native.Mathlib.Omega.{arith}
use native.Mathlib.Nat.{zero-mul, suc-mul}
use lib.ListN.{length, length-append, take}
use lib.Seq.{take_at}
use Rattle.image.specs.Bytes.{byte_at, bytes_at}
use Rattle.laws.proofs.Lengths.{bytes_length}
use Rattle.rows.specs.Output.{over, repeated, Fits}
use Rattle.rows.proofs.Over.{over_there, over_before, ToPut, put_start, put_as, put_fits, put_more, put_place, put_done}

-- bytes so many times, and more
repeated_add : (m n : ℕ) (x : List ℕ) → repeated (m + n) x ≡ repeated m x ++ repeated n x
unfolding repeated
repeated_add zero n x =
    let e : zero + n ≡ n = omega arith in
    rw e
repeated_add (suc m) n x =
    let e : suc m + n ≡ suc (m + n) = omega arith in
    rw e (ap (λ (b : List ℕ). x ++ b) (repeated_add m n x) ∙ sym (append_assoc x (repeated m x) (repeated n x)))

pub repeated_length : (n : ℕ) (x : List ℕ) → length (repeated n x) ≡ n * length x
unfolding repeated
repeated_length zero x = sym (zero-mul (length x))
repeated_length (suc n) x = omega (arith, length-append x (repeated n x), repeated_length n x, suc-mul n (length x))

-- bytes from a place on: more of them, and those of two buffers that agree there
pub bytes_add : (s : List ℕ) (i m n : ℕ) → bytes_at s i (m + n) ≡ bytes_at s i m ++ bytes_at s (i + m) n
unfolding bytes_at
bytes_add s i zero n =
    let e : zero + n ≡ n = omega arith in
    let f : i + zero ≡ i = omega arith in
    rw (e, f)
bytes_add s i (suc m) n =
    let e : suc m + n ≡ suc (m + n) = omega arith in
    let f : i + suc m ≡ suc i + m = omega arith in
    rw (e, f) (ap (λ (b : List ℕ). byte_at s i ∷ b) (bytes_add s (suc i) m n))

bytes_agree : (a b : List ℕ) (i n : ℕ) → ((p : ℕ) → p < i + n → byte_at a p ≡ byte_at b p) → bytes_at a i n ≡ bytes_at b i n
unfolding bytes_at
bytes_agree a b i zero e = refl
bytes_agree a b i (suc n) e = rw (e i (omega arith)) (ap (λ (r : List ℕ). byte_at b i ∷ r) (bytes_agree a b (suc i) n (λ p lt. e p (omega arith))))

-- Bytes stand in the buffer from one place up to another.
pub record Stands (out : List ℕ) (from next : ℕ) (bytes : List ℕ) : Type 0 where
  pub ends : next ≡ from + length bytes
  pub same : bytes_at out from (length bytes) ≡ bytes

-- those that were put do
pub stands_put : {out after bytes : List ℕ} {at end : ℕ} → Fits out at bytes → after ≡ over out at bytes → end ≡ at + length bytes → Stands after at end bytes
stands_put {out} {after} {bytes} {at} fits e f = record { ends = f; same = rw e (over_there out at bytes fits.within) }

-- the first of them
stands_front : {out : List ℕ} {from next : ℕ} (x y : List ℕ) → Stands out from next (x ++ y) → bytes_at out from (length x) ≡ x
stands_front {out} {from} x y t =
    let whole : bytes_at out from (length x) ++ bytes_at out (from + length x) (length y) ≡ x ++ y = sym (bytes_add out from (length x) (length y)) ∙ rw (length-append x y) at t.same in
    sym (take_at (bytes_at out from (length x)) (bytes_at out (from + length x) (length y)) (length x) (bytes_length out from (length x)))
    ∙ ap (take (length x)) whole
    ∙ take_at x y (length x) refl

-- bytes that are put behind them
stands_more : {out after : List ℕ} {from next end : ℕ} {x y : List ℕ} → Stands out from next x → Fits out next y → after ≡ over out next y → end ≡ next + length y → Stands after from end (x ++ y)
stands_more {out} {after} {from} {next} {end} {x} {y} t fits e f =
    let place : from + length x ≡ next = sym t.ends in
    let before : bytes_at (over out next y) from (length x) ≡ x = bytes_agree (over out next y) out from (length x) (λ p lt. over_before out next y fits.within p (omega (arith, place))) ∙ t.same in
    let behind : bytes_at (over out next y) (from + length x) (length y) ≡ y = rw place (over_there out next y fits.within) in
    record {
      ends = omega (arith, length-append x y, place);
      same = rw (e, length-append x y) (bytes_add (over out next y) from (length x) (length y) ∙ rw (before, behind));
    }

-- Of the bytes x that are to be put so many times, some are left; before the place that is reached they stand some times.
pub record Repeating (x : List ℕ) (n times : ℕ) (out₀ : List ℕ) (at from : ℕ) (out : List ℕ) (next there left : ℕ) : Type 0 where
  pub size : n ≡ length x
  pub some : 0 < there
  pub all : there + left ≡ times + 1
  pub put : ToPut out₀ at (repeated times x) out next (repeated left x)
  pub stands : Stands out from next (repeated there x)

pub repeating_start : {out : List ℕ} {at n times : ℕ} → n ≤ at → at + times * n ≤ length out → Repeating (bytes_at out (at - n) n) n times out at (at - n) out at 1 times
unfolding repeated
repeating_start {out} {at} {n} {times} le fits =
    let x : List ℕ = bytes_at out (at - n) n in
    let size : n ≡ length x = sym (bytes_length out (at - n) n) in
    record {
      size = size;
      some = omega arith;
      all = omega arith;
      put = put_start (record { within = omega (arith, repeated_length times x, rw size at fits) });
      stands = rw (append-nil x) (record { ends = omega (arith, size); same = rw (← size) });
    }

module _ {x : List ℕ} {n times : ℕ} {out₀ : List ℕ} {at from : ℕ} {out : List ℕ} {next there left : ℕ} (t : Repeating x n times out₀ at from out next there left) where
  -- some of those that stand are put
  module _ {m : ℕ} (em : m ≡ min there left) where
    length_is : length (repeated m x) ≡ m * n
    length_is = repeated_length m x ∙ ap (λ (w : ℕ). m * w) (sym t.size)

    front : repeated there x ≡ repeated m x ++ repeated (there - m) x
    front =
        let e : there ≡ m + (there - m) = omega arith in
        ap (λ (w : ℕ). repeated w x) e ∙ repeated_add m (there - m) x

    rest : ToPut out₀ at (repeated times x) out next (repeated m x ++ repeated (left - m) x)
    rest =
        let e : left ≡ m + (left - m) = omega arith in
        put_as t.put (ap (λ (w : ℕ). repeated w x) e ∙ repeated_add m (left - m) x)

    pub again_requires : (from + m * n ≤ next) × (next + m * n ≤ length out)
    again_requires =
        let whole : length (repeated there x) ≡ length (repeated m x ++ repeated (there - m) x) = ap length front in
        (omega (arith, t.stands.ends, whole, length-append (repeated m x) (repeated (there - m) x), length_is), omega (arith, (put_fits (repeated m x) (repeated (left - m) x) rest).within, length_is))

    same_bytes_lem : bytes_at out from (m * n) ≡ repeated m x
    same_bytes_lem = rw length_is at (stands_front (repeated m x) (repeated (there - m) x) (rw front at t.stands))

    pub again_more : {end : ℕ} {after : List ℕ} → (end ≡ next + m * n) × (after ≡ over out next (bytes_at out from (m * n))) → Repeating x n times out₀ at from after end (there + m) (left - m)
    again_more {end} {after} f =
        let put : after ≡ over out next (repeated m x) = f.1 ∙ ap (over out next) same_bytes_lem in
        let ends : end ≡ next + length (repeated m x) = omega (arith, f.0, length_is) in
        record {
          size = t.size;
          some = omega (arith, t.some);
          all = omega (arith, t.all);
          put = put_more _ _ rest put ends;
          stands = rw (repeated_add there m x) (stands_more t.stands (put_fits (repeated m x) (repeated (left - m) x) rest) put ends);
        }

  none_left : left ≡ 0 → repeated left x ≡ []
  unfolding repeated
  none_left e = rw e

  pub again_done : left ≡ 0 → (next ≡ at + length (repeated times x)) × (out ≡ over out₀ at (repeated times x))
  again_done e =
      let done : ToPut out₀ at (repeated times x) out next [] = put_as t.put (none_left e) in
      (put_place done, put_done done)
