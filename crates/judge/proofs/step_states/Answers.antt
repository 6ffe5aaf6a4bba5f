-- `judge::step_states` meets its contract: each turn adds what one state adds (`Gathers`), and the records of the next
-- state follow. Assumes nothing.
use native.Mathlib.Omega.{arith}
use Rattle.image.proofs.Known.{states_known}
use Rattle.judge.proofs.Gathers.{gather_begins, gather_steps, gather_ends}
use Rattle.image.proofs.Lookup.{records_begin}
use Rattle.judge.proofs.step_states.Goals as goal

pub loop-q-init : goal.loop-q-init
loop-q-init c =
    let image = c.args.image.now in
    record { offset = records_begin image.bytes.now _ (states_known image); turns = gather_begins _ _ _ }

pub step_state-at-requires : goal.step_state-at-requires
step_state-at-requires c = (omega arith, c.loop-q.invariant.offset)

pub loop-q-preserved : goal.loop-q-preserved
loop-q-preserved c =
    record {
      offset = c.step_state-at.ensures.0;
      turns = gather_steps _ _ _ _ _ c.loop-q.q (omega arith) c.loop-q.invariant.turns c.step_state-at.ensures.1;
    }

pub returns : goal.returns
returns c = gather_ends _ _ _ _ c.loop-q.q (omega arith) c.loop-q.invariant.turns
