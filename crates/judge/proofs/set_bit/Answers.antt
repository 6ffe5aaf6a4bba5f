-- `judge::set_bit` meets its contract: a word joined with one bit.
-- Assumes nothing.
use native.Mathlib.Omega.{arith}
use Prim.Native.Nat.{◌%◌}
use Rattle.sets.proofs.Bits.{shifted_one}
use Rattle.judge.proofs.RunBits.{bit_is_set}
use Rattle.judge.proofs.set_bit.Goals as goal

pub returns : goal.returns
returns c =
    bit_is_set _ _ c.args.k (omega arith) (omega arith) _ (shifted_one 64 (c.args.k % 64) (omega arith))
