-- What a line does to a side and to the state, from what the calls give.
-- By rewriting with the calls' equations.
use mathlib.Core.Path.{◌≡◌, refl, ap, ◌∙◌}
use mathlib.Core.Bool.{Bool, true, false, cond}
use mathlib.Core.List.{List}
use Prim.Native.Nat.{ℕ, ◌+◌, ◌≤◌, ◌<◌}
use lib.ListN.{length, take}
use lib.Seq.{paste}
use lib.Dec.{ltb}
use borrow.Author.Tests.{lt-ltb, le-ltb}
use Rattle.image.specs.declared.answer.Side.{Side}
use Rattle.image.specs.declared.answer.Side.TheVariants.{Left, Right}
use Rattle.image.specs.Faults.{Checked, check_image}
use Rattle.std.proofs.Common.{Result, Ok, Err, Bor}
use Rattle.image.specs.declared.answer.Fault.{Fault}
use Rattle.session.specs.Frames.{Asked, Piece, Close, Write, Empty}
use Rattle.session.specs.Replies.{Replied}
use Rattle.session.specs.declared.reply.Reply.TheVariants.{Done}
use Rattle.session.specs.declared.reply.Refusal.{Refusal}
use Rattle.session.specs.declared.reply.Refusal.TheVariants.{Faulty, PastStore, Closed, Open}
use Rattle.session.specs.Steps.{SideState, State, side_state, side_stepped, emptied, image_of, accepted_of, past_store, piece_side, piece_store, close_side, closed_both, both_closed, write_reply, write_out, piece_stepped, close_stepped, write_stepped, written_out, empty_stepped, After, obeyed}
use Rattle.session.specs.declared.store.Store.{Store}
use Rattle.session.specs.declared.step.Session.{Session}
use Rattle.session.specs.declared.step.Stores.{Stores}
use Rattle.session.proofs.Fronts.{front_same}
use Rattle.session.specs.Stores.{side_of_store, state_of, store_at, with_store, lent_of, after_of}

-- the arm that a test takes
yes : {A : Type 0} (b : Bool) (x y : A) → b ≡ true → x ≡ cond b x y
yes true x y e = refl
yes false x y e = cc

no : {A : Type 0} (b : Bool) (x y : A) → b ≡ false → y ≡ cond b x y
no true x y e = cc
no false x y e = refl

-- as many bytes as a store's image has, from the store's front on, are its image
pub front_image : (store : List ℕ) (s : SideState) (n : ℕ) → n ≡ length (image_of s store) → take n store ≡ image_of s store
unfolding image_of
front_image store s n fills = front_same n s.used store fills

-- a store's image, and a close of an open side
module _ (store : List ℕ) (s : SideState) (image : List ℕ) (is_image : image ≡ image_of s store) where
  pub close_accepts : (x : Checked) → s.closed ≡ false → x ≡ check_image image → x ≡ Ok tt → side_stepped (side_state s.used true) (Ok Done) ≡ close_side store s
  unfolding close_side
  close_accepts x was e is = rw (← is_image, ← e, is, was)

  pub close_refuses : (x : Checked) (f : Fault) → s.closed ≡ false → x ≡ check_image image → x ≡ Err f → side_stepped emptied (Err (Faulty f)) ≡ close_side store s
  unfolding close_side
  close_refuses x f was e is = rw (← is_image, ← e, is, was)

-- the image that is lent of a side that is closed, and the refusal of one that is open
module _ (store : List ℕ) (s : SideState) {r : Result (Bor (List ℕ)) Refusal} (lent : lent_of r ≡ accepted_of s store) where
  pub is_open : {e : Refusal} → r ≡ Err e → (e ≡ Open) × (s.closed ≡ false)
  is_open {e} is = cases s.closed (rw is at lent)
    where
      cases : (b : Bool) → lent_of (Err e) ≡ cond b (Ok (image_of s store)) (Err Open) → (e ≡ Open) × (b ≡ false)
      cases true h = (cc, cc)
      cases false h = (cc, refl)

  pub is_closed : {image : Bor (List ℕ)} → r ≡ Ok image → (image.now ≡ image_of s store) × (s.closed ≡ true)
  is_closed {image} is = cases s.closed (rw is at lent)
    where
      cases : (b : Bool) → lent_of (Ok image) ≡ cond b (Ok (image_of s store)) (Err Open) → (image.now ≡ image_of s store) × (b ≡ true)
      cases true h = (cc, refl)
      cases false h = (cc, cc)

-- both sides are closed, or one is not
pub left_open : (state : State) → state.left.closed ≡ false → false ≡ closed_both state
left_open state was = rw was

pub right_decides : (state : State) → state.left.closed ≡ true → state.right.closed ≡ closed_both state
right_decides state was = rw was

-- 42 comes before any comparison
pub side_open : (state : State) (reply : Replied) {both : Bool} → both ≡ closed_both state → both ≡ false → Err Open ≡ both_closed state reply
unfolding both_closed
side_open state reply e is = rw (← e, is)

pub both_closed_lem : (state : State) (reply : Replied) {both : Bool} → both ≡ closed_both state → both ≡ true → reply ≡ both_closed state reply
unfolding both_closed
both_closed_lem state reply e is = rw (← e, is)

-- a comparison: the refusal of a side that is open, and both images where both are lent
module _ (s : Stores) {x : Result (Bor (List ℕ)) Refusal} (left : lent_of x ≡ accepted_of (side_of_store s.left) s.left.bytes) where
  pub left_refused : {e : Refusal} → x ≡ Err e → (reply : Replied) → Err e ≡ both_closed (state_of s) reply
  left_refused is reply =
      let lent = is_open s.left.bytes (side_of_store s.left) left is in
      rw lent.0 (side_open (state_of s) reply (left_open (state_of s) lent.1) refl)

  module _ {image : Bor (List ℕ)} (is_left : x ≡ Ok image) {y : Result (Bor (List ℕ)) Refusal} (right : lent_of y ≡ accepted_of (side_of_store s.right) s.right.bytes) where
    pub right_refused : {e : Refusal} → y ≡ Err e → (reply : Replied) → Err e ≡ both_closed (state_of s) reply
    right_refused is reply =
        let first = is_closed s.left.bytes (side_of_store s.left) left is_left in
        let lent = is_open s.right.bytes (side_of_store s.right) right is in
        rw lent.0 (side_open (state_of s) reply (right_decides (state_of s) first.1) lent.1)

    pub both_lent : {other : Bor (List ℕ)} → y ≡ Ok other →
        (image.now ≡ image_of (side_of_store s.left) s.left.bytes) × (other.now ≡ image_of (side_of_store s.right) s.right.bytes) × ((reply : Replied) → reply ≡ both_closed (state_of s) reply)
    both_lent is =
        let first = is_closed s.left.bytes (side_of_store s.left) left is_left in
        let second = is_closed s.right.bytes (side_of_store s.right) right is in
        (first.0, second.0, λ reply. both_closed_lem (state_of s) reply (right_decides (state_of s) first.1) second.1)

-- a piece for a side
module _ (store : List ℕ) (s : SideState) (bytes : List ℕ) where
  pub piece_closed : s.closed ≡ true → (side_stepped s (Err Closed) ≡ piece_side store s bytes) × (store ≡ piece_store store s bytes)
  unfolding piece_side piece_store
  piece_closed was = (yes s.closed _ _ was, yes s.closed _ _ was)

  pub piece_past : s.closed ≡ false → length store < s.used + length bytes → (side_stepped s (Err PastStore) ≡ piece_side store s bytes) × (store ≡ piece_store store s bytes)
  unfolding piece_side piece_store past_store
  piece_past was past =
      let over : ltb (length store) (s.used + length bytes) ≡ true = lt-ltb _ _ past in
      (yes _ _ _ over ∙ no s.closed _ _ was, yes _ _ _ over ∙ no s.closed _ _ was)

  pub piece_fits : (after : List ℕ) (n : ℕ) → s.closed ≡ false → n ≡ length bytes → s.used + n ≤ length store → after ≡ paste store s.used bytes n →
      (side_stepped (side_state (s.used + n) false) (Ok Done) ≡ piece_side store s bytes) × (after ≡ piece_store store s bytes)
  unfolding piece_side piece_store past_store
  piece_fits after n was whole fits put =
      let under : ltb (length store) (s.used + length bytes) ≡ false = le-ltb (length store) (s.used + length bytes) (rw (← whole) fits) in
      (ap (λ (m : ℕ). side_stepped (side_state (s.used + m) false) (Ok Done)) whole ∙ no _ _ _ under ∙ no s.closed _ _ was, put ∙ ap (paste store s.used bytes) whole ∙ no _ _ _ under ∙ no s.closed _ _ was)

-- what is done to a side's store, in a session
module _ (s : Session) (w : Store) (r : Replied) where
  abbrev held : Side → List ℕ
  held side = (store_at side s.stores).bytes

  abbrev now : Side → SideState
  now side = side_of_store (store_at side s.stores)

  abbrev changed : Side → Session
  changed side = record s { stores = with_store side s.stores w }

  abbrev asked : Asked → After
  asked f = obeyed f s.stores.left.bytes s.stores.right.bytes (state_of s.stores) s.out

  pub piece_done : (side : Side) (b : List ℕ) → side_stepped (side_of_store w) r ≡ piece_side (held side) (now side) b → w.bytes ≡ piece_store (held side) (now side) b →
      after_of r (changed side) ≡ asked (Ok (Piece side b))
  unfolding piece_stepped
  piece_done Left b p q = rw (← p, q) refl
  piece_done Right b p q = rw (← p, q) refl

  pub close_done : (side : Side) → side_stepped (side_of_store w) r ≡ close_side (held side) (now side) → w.bytes ≡ held side → after_of r (changed side) ≡ asked (Ok (Close side))
  unfolding close_stepped
  close_done Left p q = rw (← p, q) refl
  close_done Right p q = rw (← p, q) refl

  pub empty_done : (side : Side) → r ≡ Ok Done → side_of_store w ≡ emptied → w.bytes ≡ held side → after_of r (changed side) ≡ asked (Ok (Empty side))
  unfolding empty_stepped
  empty_done Left e p q = rw (e, p, q) refl
  empty_done Right e p q = rw (e, p, q) refl

-- a write of a side's rows, which leaves the stores
pub write_done : (s : Session) (r : Replied) (out : List ℕ) (i n : ℕ) (side : Side) → r ≡ write_reply (store_at side s.stores).bytes (side_of_store (store_at side s.stores)) side i n s.out →
    out ≡ write_out (store_at side s.stores).bytes (side_of_store (store_at side s.stores)) i n s.out →
    after_of r (record { stores = with_store side s.stores (store_at side s.stores); out = out }) ≡ obeyed (Ok (Write side i n)) s.stores.left.bytes s.stores.right.bytes (state_of s.stores) s.out
unfolding write_stepped written_out
write_done s r out i n Left p q = rw (p, q) refl
write_done s r out i n Right p q = rw (p, q) refl
