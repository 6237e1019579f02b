-- What a buffer holds after bytes were put into it, and the room that is left of a buffer.
use Rattle.std.specs.Prelude.{◌≡◌, cond, Option, Some, None, List, [], ◌++◌, ℕ, zero, suc, ◌+◌, ◌-◌, ◌≤◌, length, take, drop, ltb}
use Rattle.rows.specs.declared.output.Output.{Output}

-- a buffer with bytes put over what it held from a place on
unfoldable pub over : List ℕ → ℕ → List ℕ → List ℕ
over out at bytes = take at out ++ (bytes ++ drop (at + length bytes) out)

-- the room that is left after so many bytes, if they fit
unfoldable pub room_after : ℕ → ℕ → Option ℕ
room_after room n = cond (ltb room n) None (Some (room - n))

-- bytes so many times, one after the other
unfoldable pub repeated : ℕ → List ℕ → List ℕ
repeated zero bytes = []
repeated (suc n) bytes = bytes ++ repeated n bytes

-- so many bytes fit into a buffer from a place on
pub record Fits (out : List ℕ) (at : ℕ) (bytes : List ℕ) : Type 0 where
  pub within : at + length bytes ≤ length out

-- an output once bytes are put: over the same lent buffer, at the place behind them
pub record Put (x y : Output) (piece : List ℕ) : Type 0 where
  pub lent : y.bytes.ghost_name ≡ x.bytes.ghost_name
  pub long : length y.bytes.now ≡ length x.bytes.now
  pub at : y.at ≡ x.at + length piece
  pub bytes : y.bytes.now ≡ over x.bytes.now x.at piece
