-- `bit_bytes` answers how many bytes hold so many bits.
use native.Mathlib.Omega.{arith}
use Rattle.builder.proofs.plan.bit_bytes.Goals as goal

pub returns : goal.returns
returns c = omega arith
