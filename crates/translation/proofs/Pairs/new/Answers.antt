-- `translation::Pairs::new` meets its contract: no pair has a number.
-- Assumes nothing.
use mathlib.Core.Path.{refl}
use Rattle.translation.proofs.Numbering.{numbered_begins}
use Rattle.translation.proofs.Pairs.new.Goals as goal

pub invariant_of-result : goal.invariant_of-result
invariant_of-result c = numbered_begins _ _ refl refl
