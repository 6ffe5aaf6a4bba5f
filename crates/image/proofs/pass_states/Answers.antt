-- `image::pass_states` meets its contract: the records before i are accepted, and the sum is what they add up to.
-- Assumes nothing.
use native.Mathlib.Omega.{arith}
use Rattle.image.proofs.Sums.{adds_few, pass_steps}
use Rattle.image.proofs.pass_states.Goals as goal

pub loop-i-preserved : goal.loop-i-preserved
loop-i-preserved c =
    let turn = pass_steps c.args.states.now c.loop-i.i c.loop-i.invariant.0 c.in_ok-sum.ensures in
    let few = adds_few c.args.states.now c.loop-i.i c.loop-i.sum c.in_ok-sum.ensures in
    (turn, omega (arith, few, c.loop-i.invariant.1))
