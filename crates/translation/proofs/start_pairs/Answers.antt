-- `translation::start_pairs` meets its contract: the first i codes are numbered (`starts`).
-- Assumes nothing.
use Rattle.translation.specs.Degeneralized.{numbers}
use Rattle.translation.proofs.Codes.{start_new, start_steps}
use Rattle.translation.proofs.start_pairs.Goals as goal

pub loop-i-init : goal.loop-i-init
unfolding numbers
loop-i-init c = c.requires.0

pub add-requires : goal.add-requires
add-requires c =
    start_new c.args.n c.loop-i.i _ c.loop-i-test.true c.requires.1 c.loop-i.invariant c.code_of.ensures

pub loop-i-preserved : goal.loop-i-preserved
loop-i-preserved c = start_steps _ _ c.loop-i.invariant c.code_of.ensures c.add.ensures.codes
