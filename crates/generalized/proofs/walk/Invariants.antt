-- `generalized::walk` meets its contract: the states before place are in the tables, the rest is left (`Walking`).
-- Assumes nothing.
use Prim.Native.Nat.{◌-◌}
use Rattle.generalized.specs.Limits.{max_generalized_states}
use Rattle.generalized.proofs.Walking.{Walking, Space}
use Rattle.generalized.proofs.walk.Given as goal

abbrev pub invariant-loop-state : goal.invariant-loop-state
invariant-loop-state l =
    Walking l.rule.bytes.now l.initial' l.states l.transitions l.ends l.size l.conflicts l.state.0
    × Space l.product l.next l.bytes

abbrev pub decreases-loop-state : goal.decreases-loop-state
decreases-loop-state l = max_generalized_states - l.state.0
