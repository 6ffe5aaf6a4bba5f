-- `rest::take_pairs` meets its contract: the bytes for the positions of the lasso, a part of those lent, are zero when
-- the levels are taken (`Fronts`). Assumes nothing.
use native.Mathlib.Omega.{arith}
use Prim.Native.Nat.{◌+◌, ◌*◌}
use lib.ListN.{length}
use Rattle.automaton.specs.Limits.{max_states}
use lib.Seq.{length-take-le}
use Rattle.rest.proofs.Fronts.{front_marked}
use Rattle.rest.proofs.take_pairs.Goals as goal

pub returns : goal.returns
returns c =
    let (rests, pairs, marked) = c.take_levels.ensures in
    let long = length-take-le (max_states * (length c.args.lasso.now.stem.now + length c.args.lasso.now.cycle.now))
    c.args.work.now c.requires.1 in
    let works = c.take_levels.auto.work in
    let tables = c.zero.auto.table in
    (rests, pairs, λ e p lt. front_marked _ p (omega (arith, works, tables, long)) (marked e p lt))
