-- `explain::part_from` meets its contract: the stem from there on, or the cycle. Assumes nothing.
use Rattle.explain.proofs.Calling.{in_stem, in_cycle_lem}
use Rattle.explain.proofs.part_from.Goals as goal

pub returns-then-from-stem : goal.returns-then-from-stem
returns-then-from-stem c = in_stem _ _ _ c.if-from-stem.true

pub returns-else-from-stem : goal.returns-else-from-stem
returns-else-from-stem c = in_cycle_lem _ _ _ c.if-from-stem.false _ c.min.ensures
