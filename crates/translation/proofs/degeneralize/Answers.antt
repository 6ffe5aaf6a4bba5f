-- `translation::degeneralize` meets its contract: what it has found when the walk over the pairs begins (`Begun`) says
-- what the walk comes to. Assumes nothing.
use native.Mathlib.Omega.{arith}
use mathlib.Core.Path.{◌≡◌}
use Rattle.std.specs.Prelude.{Err}
use Rattle.std.proofs.Common.{rules}
use Rattle.generalized.proofs.Passed.{initial_few}
use Rattle.translation.proofs.SecondWalk.{Begun, first_rows, walk_stopped, all_rows, written_is}
use Rattle.translation.proofs.degeneralize.Goals as goal
use Rattle.translation.proofs.degeneralize.Goals.{After-start_pairs}

-- what it has found when the walk over the pairs begins
begun : (c : After-start_pairs)
    → Begun c.args.rule.now.bytes.now c.args.first c.args.kept.now c.args.ends.now c.untils_of.result.count
    c.start_pairs.new.pairs
begun c = record {
  passed = c.requires.0;
  walked_first = c.requires.1;
  levels = c.untils_of.ensures.counted;
  start = c.start_pairs.ensures;
}

pub start_pairs-requires : goal.start_pairs-requires
start_pairs-requires c = (c.new-pairs.ensures, omega (arith, initial_few _ c.requires.0, c.requires.1.begun))

pub explore_pairs-requires : goal.explore_pairs-requires
explore_pairs-requires c =
    (first_rows (begun (goal.at.explore_pairs-requires c).After-start_pairs), c.requires.2.transitions)

pub returns-in_err-written : goal.returns-in_err-written
returns-in_err-written c =
    let same : c.from_residual.result ≡ Err c.in_err-written.field-0.0 = search rules in
    rw same (walk_stopped (begun (goal.at.returns-in_err-written c).After-start_pairs) c.in_err-written.ensures)

pub write_states-requires : goal.write_states-requires
write_states-requires c =
    let rows = all_rows (begun (goal.at.write_states-requires c).After-start_pairs) c.in_ok-written.ensures in
    rw c.codes-codes.ensures.codes (rows, omega (arith, c.codes-codes.ensures.few, c.requires.2.states))

pub write_initial-requires : goal.write_initial-requires
write_initial-requires c =
    (omega (arith, initial_few _ c.requires.0, c.requires.1.begun), c.requires.2.initial)

pub returns : goal.returns
returns c =
    written_is (begun (goal.at.returns c).After-start_pairs) c.in_ok-written.ensures c.explore_pairs.auto.table
    c.codes-codes.ensures.codes c.write_states.ensures c.zero_behind.ensures c.write_initial.ensures
