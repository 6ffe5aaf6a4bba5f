-- `image::check_rests` meets its contract: the last bytes before q are right, and the transition records of q begin
-- where those before them end. Assumes nothing.
use native.Mathlib.Omega.{arith}
use Rattle.image.proofs.Rests.{records_there}
use Rattle.image.proofs.check_rests.Goals as goal

pub rest_byte-rest-requires : goal.rest_byte-rest-requires
rest_byte-rest-requires c =
    let states = c.args.states.now in
    let there = records_there states c.args.transitions.now c.args.n c.loop-q.q (omega arith) c.loop-q.invariant.1
    c.requires.1 in
    (omega arith, omega (arith, there, c.number_at-count.ensures), c.loop-q.invariant.1, c.number_at-count.ensures)

pub overflow_add-at : goal.overflow_add-at
overflow_add-at c =
    let states = c.args.states.now in
    let there = records_there states c.args.transitions.now c.args.n c.loop-q.q (omega arith) c.loop-q.invariant.1
    c.requires.1 in
    omega (arith, there, c.number_at-count.ensures)
