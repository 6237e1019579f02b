-- A piece stands in the store after what is used, or nothing is changed.
-- What fits is the whole piece, and a part of the store that it is copied into holds it.
use Rattle.std.proofs.lemmas.Slice.{put_mid-paste}
use Rattle.session.proofs.Sides.{piece_closed, piece_past, piece_fits}
use Rattle.session.specs.Stores.{side_of_store}
use mathlib.Core.Path.{◌≡◌, refl, ◌∙◌}
use mathlib.Core.Bool.{false}
use Rattle.std.proofs.Common.{Ok}
use Rattle.session.specs.declared.reply.Reply.TheVariants.{Done}
use Rattle.session.specs.Steps.{SideStepped, side_state, side_stepped}
use Prim.Native.Nat.{◌+◌}
use lib.ListN.{length}
use native.Mathlib.Omega.{arith}
use borrow.Author.Rules.{rules}
use Rattle.session.proofs.store.Store.piece.Goals as goal

pub returns-then-self : goal.returns-then-self
returns-then-self c = let both = piece_closed _ (side_of_store c.args.self.now) _ c.if-self.true in record { side_after = both.0; bytes_after = both.1 }

pub returns-then-end-gt-STORE : goal.returns-then-end-gt-STORE
returns-then-end-gt-STORE c =
    let sized : length c.args.self.now.bytes ≡ 24576 = search rules in
    let both = piece_past _ (side_of_store c.args.self.now) _ c.if-self.false (omega (arith, sized, c.saturating_add-end.ensures, c.if-end-gt-STORE.true)) in
    record { side_after = both.0; bytes_after = both.1 }

pub returns : goal.returns
returns c =
    let sized : length c.args.self.now.bytes ≡ 24576 = search rules in
    let used = c.args.self.now.used in
    let n = length c.args.piece.now in
    let whole : c.saturating_add-end.result ≡ used + n = omega (arith, c.saturating_add-end.ensures, c.if-end-gt-STORE.false) in
    let both = piece_fits c.args.self.now.bytes (side_of_store c.args.self.now) c.args.piece.now _ n c.if-self.false refl (omega (arith, sized, whole, c.if-end-gt-STORE.false)) (put_mid-paste used _ c.args.self.now.bytes _ c.args.piece.now n c.copy_from_slice.ensures.after (omega (arith, whole)) refl) in
    let was : ◌≡◌ {A = SideStepped} (side_stepped (side_state (used + n) c.args.self.now.closed) (Ok Done)) (side_stepped (side_state (used + n) false) (Ok Done)) = rw c.if-self.false refl in
    rw whole (record { side_after = was ∙ both.0; bytes_after = both.1 })
