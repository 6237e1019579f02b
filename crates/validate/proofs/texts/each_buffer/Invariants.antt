-- Where `each_buffer` says yes, every data buffer passes the test.
-- The loop keeps that each before number j does.
use mathlib.Core.Path.{◌≡◌}
use mathlib.Core.Bool.{Bool, true}
use mathlib.Core.List.{List}
use Prim.Native.Nat.{ℕ, ◌≤◌}
use Rattle.validate.specs.Texts.{EachBuffer, TellsBytes, buffer_bytes}
use Rattle.validate.proofs.texts.each_buffer.Given as goal

abbrev pub invariant-loop-j : goal.invariant-loop-j
invariant-loop-j g l = (1 ≤ l.j) × ((p : List ℕ → Bool) → TellsBytes (λ bytes b. g.F.Fn.post l.test (bytes, tt) b) p → EachBuffer (λ j. p (buffer_bytes l.node.image.now l.node.number j) ≡ true) l.j)
