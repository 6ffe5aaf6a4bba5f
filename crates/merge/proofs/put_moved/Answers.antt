-- `merge::put_moved` meets its contract: the bytes of a node that 4 and 5 let pass are small. Assumes nothing.
use native.Mathlib.Omega.{arith}
use Rattle.formula.proofs.Checks.{left_small, right_small}
use Rattle.merge.proofs.put_moved.Goals as goal

pub moved-left-requires : goal.moved-left-requires
moved-left-requires c = omega (arith, left_small _ _ _ c.requires.1 (omega arith))

pub moved-right-requires : goal.moved-right-requires
moved-right-requires c = omega (arith, right_small _ _ _ c.requires.1 (omega arith))
