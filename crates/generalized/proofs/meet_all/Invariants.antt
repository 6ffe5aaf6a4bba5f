-- `generalized::meet_all` meets its contract: the transitions from i on, met now, come to what all come to (`Meeting`).
-- Assumes nothing.
use Rattle.generalized.proofs.Meeting.{Meeting}
use Rattle.generalized.proofs.meet_all.Given as goal

abbrev pub invariant-loop-i : goal.invariant-loop-i
invariant-loop-i l =
    Meeting l.ts l.bytes l.state.0 (record { states = l.initial.seen; transitions = l.total }) l.initial.states
    l.initial.transitions
    l.states l.transitions l.seen l.last l.i
