-- `field::add_state` meets its contract: a byte joined with one bit. Assumes nothing.
use Prim.Native.Nat.{◌%◌}
use native.Mathlib.Omega.{arith}
use Rattle.sets.proofs.Bits.{shifted_one}
use Rattle.field.proofs.Adding.{added_one}
use Rattle.field.proofs.add_state.Goals as goal

pub returns : goal.returns
returns c = let q = c.args.q in added_one _ q _ (omega arith) (shifted_one 8 (q % 8) (omega arith))
