-- `judge::begin_passes` meets its contract: each turn begins a pass in one state, if it is marked (`Gathers`).
-- Assumes nothing.
use native.Mathlib.Omega.{arith}
use Rattle.judge.proofs.Gathers.{adds_as, adds_none, gather_begins, gather_steps, gather_ends}
use Rattle.judge.proofs.Turns.{all_states}
use Rattle.judge.proofs.begin_passes.Goals as goal
use Rattle.judge.proofs.begin_passes.Goals.{then-mark-eq1, else-mark-eq1}

pub loop-q-init : goal.loop-q-init
loop-q-init c = gather_begins _ _ _

pub loop-q-preserved : goal.loop-q-preserved
loop-q-preserved c =
    gather_steps _ _ _ _ _ c.loop-q.q (omega arith) c.loop-q.invariant
    (elim c.if-mark-eq1.branch [
      | then-mark-eq1 w ↦ rw w.rows-is (adds_as w.set_bit.ensures (λ r k h. (h.0, (w.if-mark-eq1.true, h.1)))
          (λ r k h. (h.0, h.1.1)))
      | else-mark-eq1 w ↦ rw w.rows-is (adds_none (λ r k h. w.if-mark-eq1.false h.1.0))
    ])

pub returns : goal.returns
returns c = all_states _ (gather_ends _ _ _ _ c.loop-q.q (omega arith) c.loop-q.invariant)
