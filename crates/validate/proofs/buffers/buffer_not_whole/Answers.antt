-- `buffer_not_whole` tells whether a buffer does not hold whole elements.
use mathlib.Core.Path.{◌≡◌, refl, sym, ap}
use mathlib.Core.Bool.{Bool, true, false, not, false≢true}
use Prim.Native.Nat.{ℕ, ◌%◌}
use lib.Dec.{eqb}
use borrow.Author.Tests.{eq-eqb, ne_eqb}
use Rattle.std.specs.Bool.{IsTrue}
use Rattle.std.specs.Prelude.{◌↔◌}
use Rattle.image.specs.Faults.{whole}
use Rattle.validate.proofs.buffers.buffer_not_whole.Goals as goal

multiple : (b : Bool) (x : ℕ) → IsTrue b ↔ (x ≡ 0) → b ≡ eqb x 0
multiple true x f = sym (eq-eqb x 0 (f.0 refl))
multiple false x f = sym (ne_eqb x 0 (λ e. false≢true (f.1 e)))

pub returns : goal.returns
unfolding whole
returns c = rw (← c.buffer_length.ensures.value) (ap not (multiple _ (c.buffer_length.result % c.args.width) c.is_multiple_of.ensures))
