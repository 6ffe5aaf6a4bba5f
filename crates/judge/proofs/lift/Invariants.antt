-- `judge::lift` meets its contract: each turn lifts one row if its state accepts (`Gathers`).
-- Assumes nothing.
use mathlib.Core.Path.{◌≡◌}
use Rattle.judge.proofs.Gathers.{Gathering}
use Rattle.judge.proofs.Turns.{Lifts}
use Rattle.judge.proofs.lift.Given as goal

abbrev pub invariant-loop-q : goal.invariant-loop-q
invariant-loop-q l =
    Gathering l.initial.rows (λ p r k. (r ≡ p) × Lifts l.image.bytes.now l.initial.rows p k) l.image.counts.states
    l.rows l.q
