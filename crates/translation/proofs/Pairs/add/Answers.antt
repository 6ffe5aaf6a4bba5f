-- `translation::Pairs::add` meets its contract: the two stores of `number_more`.
-- Assumes nothing.
use native.Mathlib.Omega.{arith}
use Rattle.translation.proofs.Numbering.{number_more}
use Rattle.translation.proofs.Meeting.{listed_length}
use Rattle.translation.proofs.Pairs.add.Goals as goal

pub invariant_of-self : goal.invariant_of-self
invariant_of-self c =
    let size = listed_length c.self.invariant c.self.view_is in
    number_more _ _ _ c.self.invariant c.args.code c.requires.1 (omega (arith, size))
    (rw c.self.view_is (omega (arith, size)))
