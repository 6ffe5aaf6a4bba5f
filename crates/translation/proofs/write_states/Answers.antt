-- `translation::write_states` meets its contract: the records of the pairs before p are written (`States`).
-- Assumes nothing.
use Prim.Native.Nat.{ℕ}
use Rattle.sets.proofs.Members.{at_in}
use Rattle.translation.proofs.Within.{one_alone}
use Rattle.translation.proofs.Writing.{states_begin, state_room, states_step}
use Rattle.translation.proofs.write_states.Goals as goal

pub loop-number-init : goal.loop-number-init
loop-number-init c = states_begin _ _ _ _ _

pub write_state-requires : goal.write_state-requires
write_state-requires c = (
  one_alone _ c.requires.0 (at_in {A = ℕ} 0 c.args.codes.now _ c.loop-number-test.true),
  state_room _ _ _ _ _ _ _ c.loop-number.invariant c.loop-number-test.true c.requires.1,
)

pub loop-number-preserved : goal.loop-number-preserved
loop-number-preserved c =
    states_step _ _ _ _ _ _ _ c.loop-number.invariant c.loop-number-test.true c.requires.1 _
    c.write_state.auto.table c.write_state.ensures
