-- `judge::begin_passes` meets its contract: each turn begins a pass in one state, if it is marked (`Gathers`).
-- Assumes nothing.
use mathlib.Core.Path.{◌≡◌}
use lib.ListN.{length, get_or}
use Rattle.judge.proofs.Gathers.{Gathering}
use Rattle.judge.proofs.begin_passes.Given as goal

abbrev pub invariant-loop-q : goal.invariant-loop-q
invariant-loop-q l =
    Gathering l.initial.rows (λ p r k. (r ≡ p) × ((get_or l.marks p 0 ≡ 1) × (k ≡ p))) (length l.marks) l.rows l.q
