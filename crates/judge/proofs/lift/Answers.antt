-- `judge::lift` meets its contract: each turn lifts one row if its state accepts (`Gathers`).
-- Assumes nothing.
use native.Mathlib.Omega.{arith}
use Rattle.image.proofs.Known.{states_known, few_known}
use Rattle.judge.proofs.Gathers.{adds_as, adds_none, adds_lifted, gather_begins, gather_steps, gather_ends}
use Rattle.judge.proofs.Turns.{turn_lifts, all_lifted}
use Rattle.judge.proofs.lift.Goals as goal
use Rattle.judge.proofs.lift.Goals.{then-accepts, else-accepts}

pub loop-q-init : goal.loop-q-init
loop-q-init c = gather_begins _ _ _

pub row_of-row-requires : goal.row_of-row-requires
row_of-row-requires c = omega (arith, few_known c.args.image.now)

pub join_lifted-requires : goal.join_lifted-requires
join_lifted-requires c = omega (arith, few_known c.args.image.now)

pub loop-q-preserved : goal.loop-q-preserved
loop-q-preserved c =
    let bytes = c.args.image.now.bytes.now in
    gather_steps _ _ _ _ _ c.loop-q.q (omega arith) c.loop-q.invariant
    (turn_lifts bytes c.loop-q.q c.loop-q.invariant (elim c.if-accepts.branch [
      | then-accepts w ↦ rw w.rows-is (adds_as (adds_lifted w.row_of-row.ensures w.join_lifted.ensures)
          (λ r k h. (h.0, (c.accepts.ensures.yes w.if-accepts.true, h.1))) (λ r k h. (h.0, h.1.1)))
      | else-accepts w ↦ rw w.rows-is (adds_none (λ r k h. c.accepts.ensures.no w.if-accepts.false h.1.0))
    ]))

pub returns : goal.returns
returns c =
    let image = c.args.image.now in
    all_lifted image.bytes.now _ (states_known image)
    (gather_ends _ _ _ _ c.loop-q.q (omega arith) c.loop-q.invariant)
