-- Counts that 10 lets pass are small, and the other way round. Assumes nothing.
use mathlib.Core.Path.{◌≡◌}
use mathlib.Core.Bool.{true, and-eq-true_iff}
use borrow.Author.Tests.{leb-true, le-leb}
use Rattle.automaton.specs.Limits.{max_states, max_transitions, max_initial}
use Rattle.automaton.specs.Tables.{Counts}
use Rattle.image.specs.Memory.{Small}
use Rattle.image.specs.Reader.{counts_fit}

pub counts_small : (c : Counts) → counts_fit c ≡ true → Small c
unfolding counts_fit
counts_small c e =
    let tests = (and-eq-true_iff _ _).0 e in
    let rest = (and-eq-true_iff _ _).0 tests.1 in
    record {
      states = leb-true c.states max_states tests.0;
      transitions = leb-true c.transitions max_transitions rest.0;
      initial = leb-true c.initial max_initial rest.1;
    }

pub small_fits : (c : Counts) → Small c → counts_fit c ≡ true
unfolding counts_fit
small_fits c small =
    rw (
      le-leb c.states max_states small.states,
      le-leb c.transitions max_transitions small.transitions,
      le-leb
          c.initial max_initial small.initial,
    )
