-- The bytes of a reply at the front of a buffer, and the characters of bytes at the front of a text.
-- Stores one after the other are a front; each byte's two characters follow those of the bytes before it.
use mathlib.Core.Path.{◌≡◌, refl, sym, ap, ◌∙◌}
use mathlib.Core.List.{List, [], ◌∷◌, ◌++◌}
use Prim.Native.Nat.{ℕ, suc, ◌+◌, ◌-◌, ◌*◌, ◌/◌, ◌%◌, ◌≤◌, ◌<◌}
use native.Mathlib.Numerals.{add-one}
use native.Mathlib.Omega.{arith}
use lib.ListN.{length, get_or, take, drop, set, length-take, length-append, length-set}
use lib.Seq.{sets, sets-eq, take-append_seam, take_all, take-suc, length-take-le, drop-cons, set_at, append_snoc}
use Rattle.std.proofs.lemmas.Slice.{take-put_mid}
use borrow.Rule.Slice.PartMut.{put_mid}
use Rattle.image.specs.Bytes.{number_bytes}
use mathlib.Core.Bool.{Bool, true, false}
use mir.Val.{bool_byte}
use Rattle.answers.specs.Numbers.{side_number, yes_value}
use Rattle.std.proofs.Common.{Ok, Err}
use Rattle.image.specs.declared.answer.Side.{Side}
use Rattle.image.specs.declared.answer.Fault.{Fault}
use Rattle.session.specs.Replies.{Replied}
use Rattle.session.specs.declared.reply.Refusal.{Refusal}
use Rattle.session.specs.declared.reply.Reply.TheVariants.{Done, Answer, Bytes}
use Rattle.session.specs.declared.reply.Refusal.TheVariants.{NoFrame, Faulty, UnequalTypes, OutOfRange, PastStore, Closed, Open, TooLong}
use Rattle.session.specs.Replies.{refusal_rest, reply_bytes, digit_text, hex_text, line_text}

-- bytes that are stored one by one from the front on
pub puts : (bytes vs : List ℕ) → length vs ≤ length bytes → take (length vs) (sets bytes 0 vs) ≡ vs
puts bytes vs h =
    let h' : 0 + length vs ≤ length bytes = omega arith in
    rw (sets-eq vs bytes 0 h') (take-append_seam vs (drop (0 + length vs) bytes))

-- a byte, and behind it bytes that are copied
pub byte_then : (x k : ℕ) (bytes part : List ℕ) → 1 ≤ length bytes → k ≡ length part → take (1 + k) (put_mid 1 (1 + k - 1) (set bytes 0 x) part) ≡ x ∷ part
byte_then x k bytes part h e =
    let end : 1 + k ≡ 1 + length part = omega (arith, e) in
    let one : take 1 (set bytes 0 x) ≡ x ∷ [] = puts bytes (x ∷ []) h in
    take-put_mid 1 (1 + k - 1) (set bytes 0 x) part (1 + k) end (omega (arith, length-set bytes 0 x)) ∙ rw one refl

-- a number, and behind it a side's
pub number_side : (number : ℕ) (bytes : List ℕ) (side : Side) {x : ℕ} → 2 ≤ length bytes → x ≡ side_number side → take 2 (set (set bytes 0 number) 1 x) ≡ number ∷ side_number side ∷ []
number_side number bytes side h e = rw e (puts bytes (number ∷ side_number side ∷ []) h)

-- a number, and behind it two bytes that are copied
pub number_then : (number node : ℕ) (bytes part : List ℕ) → 1 ≤ length bytes → part ≡ number_bytes 2 node → take 3 (put_mid 1 2 (set bytes 0 number) part) ≡ number ∷ number_bytes 2 node
unfolding number_bytes
number_then number node bytes part h e =
    let two : 2 ≡ length part = rw e refl in
    byte_then number 2 bytes part h two ∙ rw e refl

-- a reply has at most 65 bytes
pub reply_few : (reply : Replied) (out : List ℕ) → length out ≤ 64 → length (reply_bytes reply out) ≤ 65
unfolding number_bytes
reply_few (Ok Done) out h = omega arith
reply_few (Ok (Answer agreed)) out h = omega arith
reply_few (Ok (Bytes n)) out h = omega (arith, length-take n out)
reply_few (Err (NoFrame fault)) out h = omega arith
reply_few (Err (Faulty f)) out h = omega arith
reply_few (Err UnequalTypes) out h = omega arith
reply_few (Err (OutOfRange side)) out h = omega arith
reply_few (Err PastStore) out h = omega arith
reply_few (Err Closed) out h = omega arith
reply_few (Err Open) out h = omega arith
reply_few (Err TooLong) out h = omega arith

-- a refusal that is no fault of an image and no range outside is its number alone
pub alone : (r : Refusal) → ((f : Fault) → r ≡ Faulty f → ⊥) → ((s : Side) → r ≡ OutOfRange s → ⊥) → refusal_rest r ≡ []
alone (NoFrame fault) p q = refl
alone (Faulty f) p q = absurd (p f refl)
alone UnequalTypes p q = refl
alone (OutOfRange side) p q = absurd (q side refl)
alone PastStore p q = refl
alone Closed p q = refl
alone Open p q = refl
alone TooLong p q = refl

-- the byte of a yes or no
pub yes_byte : (b : Bool) → bool_byte b ≡ yes_value b
yes_byte true = refl
yes_byte false = refl

-- the characters of bytes
hex_more : (xs : List ℕ) (x : ℕ) → hex_text (xs ++ (x ∷ [])) ≡ hex_text xs ++ (digit_text (x / 16) ∷ digit_text (x % 16) ∷ [])
unfolding hex_text
hex_more [] x = refl
hex_more (y ∷ ys) x = ap (λ (r : List ℕ). digit_text (y / 16) ∷ digit_text (y % 16) ∷ r) (hex_more ys x)

hex_length : (xs : List ℕ) → length (hex_text xs) ≡ 2 * length xs
unfolding hex_text
hex_length [] = refl
hex_length (x ∷ xs) = omega (arith, hex_length xs)

-- the text begins with the characters of the first k bytes
pub record Printed (bytes text₀ text : List ℕ) (k : ℕ) : Type 0 where
  pub within : k ≤ length bytes
  pub sized : length text ≡ length text₀
  pub same : text ≡ hex_text (take k bytes) ++ drop (2 * k) text₀

pub printed_none : (bytes text : List ℕ) → Printed bytes text text 0
unfolding hex_text
printed_none bytes text = record { within = omega arith; sized = refl; same = refl }

module _ (bytes text₀ text : List ℕ) (k : ℕ) (p : Printed bytes text₀ text k) where
  front_long : length (hex_text (take k bytes)) ≡ 2 * k
  front_long = hex_length (take k bytes) ∙ ap (λ (n : ℕ). 2 * n) (length-take-le k bytes p.within)

  -- one more character
  put : (rest : List ℕ) (n c : ℕ) → length rest ≡ n → n < length text₀ → set (rest ++ drop n text₀) n c ≡ rest ++ (c ∷ []) ++ drop (n + 1) text₀
  put rest n c e inside =
      rw (drop-cons text₀ n 0 inside, set_at rest (get_or text₀ n 0) (drop (suc n) text₀) c n e, add-one) (sym (append_snoc rest c (drop (suc n) text₀)))

  pub printed_more : (a b : ℕ) → k < length bytes → 2 * k + 1 < length text₀ → a ≡ digit_text (get_or bytes k 0 / 16) → b ≡ digit_text (get_or bytes k 0 % 16) →
      Printed bytes text₀ (set (set text (2 * k) a) (2 * k + 1) b) (k + 1)
  printed_more a b more inside ea eb =
      let front = hex_text (take k bytes) in
      let first : set text (2 * k) a ≡ front ++ (a ∷ []) ++ drop (2 * k + 1) text₀ = rw p.same (put front (2 * k) a front_long (omega arith)) in
      let long : length (front ++ (a ∷ [])) ≡ 2 * k + 1 = rw length-append (omega (arith, front_long)) in
      let second : set (set text (2 * k) a) (2 * k + 1) b ≡ front ++ (a ∷ []) ++ (b ∷ []) ++ drop (2 * k + 1 + 1) text₀ = rw first (put (front ++ (a ∷ [])) (2 * k + 1) b long inside) in
      let place : 2 * k + 1 + 1 ≡ 2 * (k + 1) = omega arith in
      let hex : hex_text (take (k + 1) bytes) ≡ front ++ (a ∷ []) ++ (b ∷ []) =
      rw (add-one, take-suc bytes k 0 more, ea, eb) (hex_more (take k bytes) (get_or bytes k 0) ∙ sym (append_snoc front (digit_text (get_or bytes k 0 / 16)) (digit_text (get_or bytes k 0 % 16) ∷ []))) in
      record {
        within = omega arith;
        sized = length-set (set text (2 * k) a) (2 * k + 1) b ∙ length-set text (2 * k) a ∙ p.sized;
        same = second ∙ rw (place, hex);
      }

  pub printed_done : length bytes ≤ k → 2 * k < length text₀ →
      (2 * k + 1 ≡ length (line_text bytes)) × (set text (2 * k) 10 ≡ line_text bytes ++ drop (2 * k + 1) text₀)
  unfolding line_text
  printed_done end inside =
      let all : take k bytes ≡ bytes = take_all k bytes end in
      let long : length (hex_text bytes) ≡ 2 * k = rw all at front_long in
      (rw length-append (omega (arith, long)), rw (p.same, all) (put (hex_text bytes) (2 * k) 10 long inside))
