-- What fits of the characters stands behind those that are kept.
-- From what the parts hold that are copied.
use lib.ListN.{length, take, length-take}
use Prim.Native.Nat.{◌+◌, ◌-◌}
use mathlib.Core.Path.{◌≡◌, refl, ap}
use native.Mathlib.Omega.{arith}
use borrow.Author.Rules.{rules}
use Rattle.session.proofs.Chunks.{added, added_length}
use Rattle.session.proofs.feed.Line.add.Goals as goal

pub returns : goal.returns
returns c =
    let line = c.args.self.now in
    let at = length c.kept-at.result.now in
    let n = c.min-n.result in
    let sized : length line.chars ≡ 195 = search rules in
    let held : at ≡ length (take line.len line.chars) = ap length c.kept-at.ensures in
    let fits : n ≡ length (take (195 - at) c.args.more.now) = omega (arith, c.min-n.ensures, length-take (195 - at) c.args.more.now) in
    record {
      len = added_length line.len line.chars c.args.more.now at n sized held fits;
      chars = added line.len line.chars c.args.more.now at n sized held fits _ _ (at + n - at) (omega arith) refl c.copy_from_slice.ensures.after;
    }
