-- `translation::meet_row` meets its contract: the targets from i on, met now, come to what all come to, and the records
-- before i are written (`Meeting`). Assumes nothing.
use native.Mathlib.Omega.{arith}
use Prim.Native.Nat.{ℕ}
use Rattle.sets.proofs.Members.{at_in}
use Rattle.translation.proofs.Levels.{target_inside}
use Rattle.translation.proofs.Meeting.{meeting_begins, meeting_ends, meeting_full, meeting_steps}
use Rattle.translation.proofs.Meeting.{record_room, number_small}
use Rattle.translation.proofs.meet_row.Goals as goal

pub loop-i-init : goal.loop-i-init
loop-i-init c = meeting_begins

pub meet-requires : goal.meet-requires
meet-requires c =
    let leads = c.requires.1 _ (at_in {A = ℕ} 0 c.args.row.now _ c.loop-i-test.true) in
    rw c.target.ensures (target_inside c.args.last _ _ c.requires.0 leads)

pub returns-in_default : goal.returns-in_default
returns-in_default c = meeting_full c.loop-i.invariant c.loop-i-test.true c.target.ensures c.in_default.ensures

pub put_transition-requires : goal.put_transition-requires
put_transition-requires c =
    let inv = c.loop-i.invariant in
    let small = number_small inv c.loop-i-test.true c.target.ensures c.in-Some.ensures in
    (record_room inv c.loop-i-test.true c.requires.2, omega (arith, small))

pub loop-i-preserved : goal.loop-i-preserved
loop-i-preserved c =
    meeting_steps c.loop-i.invariant c.loop-i-test.true c.target.ensures c.in-Some.ensures _
    c.put_transition.auto.table c.requires.2 c.put_transition.ensures

pub returns : goal.returns
returns c = meeting_ends c.loop-i.invariant c.requires.2 c.loop-i-test.false
