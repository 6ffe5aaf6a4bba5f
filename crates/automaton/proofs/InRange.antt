-- Automata whose targets and initial numbers are states; and a step begins in a state, in any automaton. Assumes
-- nothing.
use Prim.Native.Nat.{ℕ, ◌<◌}
use mathlib.Core.Path.{subst}
use native.Mathlib.Omega.{arith}
use native.Mathlib.Decide.{dec_lt}
use lib.ListN.{length, get_or-eq_default}
use Rattle.sets.specs.Sets.{In}
use Rattle.automaton.specs.Automaton.{State, Automaton, no_state, Step}

pub record InRange (a : Automaton) : Type 0 where
  pub targets : (q letter next : ℕ) → Step a q letter next → next < length a.states
  pub initial : (q : ℕ) → In q a.initial → q < length a.states

pub step_from : (a : Automaton) (q letter next : ℕ) → Step a q letter next → q < length a.states
step_from a q letter next (t, m, r, e) = go (dec_lt q (length a.states))
  where
    go : Dec (q < length a.states) → q < length a.states
    go (yes l) = l
    go (no l) =
        absurd
        (subst (λ (s : State). In t s.transitions) (get_or-eq_default a.states no_state {n = q} (omega arith)) m)
