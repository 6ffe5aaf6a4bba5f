-- An automaton within the limits, and how many transitions it then has. Assumes nothing.
use Prim.Native.Nat.{ℕ, suc, ◌*◌, ◌≤◌, ◌<◌}
use mathlib.Core.Path.{◌≡◌, refl}
use mathlib.Core.Logic.{inl, inr}
use mathlib.Core.List.{List, [], ◌∷◌}
use native.Mathlib.Omega.{arith}
use lib.ListN.{get_or, length}
use lib.Bits.{bit_and}
use Rattle.lasso.specs.Lasso.{skipped}
use Rattle.sets.specs.Sets.{In}
use Rattle.automaton.specs.Automaton.{Transition, State, Automaton}
use Rattle.automaton.specs.Limits.{max_states, max_of_state, max_initial}
use Rattle.automaton.specs.Tables.{transition_count}

-- the propositions that a transition asks for and those that it forbids: bytes with bit 7 clear and with no bit in both
pub record Label (must must_not : ℕ) : Type 0 where
  pub must_small : must < skipped
  pub not_small : must_not < skipped
  pub disjoint : bit_and must must_not ≡ 0

-- a state of an automaton that has this many states
pub record WellFormedState (states : ℕ) (s : State) : Type 0 where
  pub few : length s.transitions ≤ max_of_state
  pub labels : (t : Transition) → In t s.transitions → Label t.must t.must_not
  pub targets : (t : Transition) → In t s.transitions → t.target < states

-- an automaton within the limits of specs/Limits.antt: not too many states, transitions of each and initial numbers,
-- labels of two bytes that have bit 7 clear and share no bit, targets that are states, initial numbers that are states
-- and rise
pub record WellFormed (a : Automaton) : Type 0 where
  pub states : length a.states ≤ max_states
  pub each : (s : State) → In s a.states → WellFormedState (length a.states) s
  pub initial : length a.initial ≤ max_initial
  pub inside : (i : ℕ) → i < length a.initial → get_or a.initial i 0 < length a.states
  pub rising : (i : ℕ) → suc i < length a.initial → get_or a.initial i 0 < get_or a.initial (suc i) 0

-- so there are at most max_of_state transitions for each state
pub few_together : (n : ℕ) (ss : List State) → ((s : State) → In s ss → WellFormedState n s)
    → transition_count ss ≤ max_of_state * length ss
unfolding transition_count
few_together n [] each = omega arith
few_together n (s ∷ ss) each = omega (arith, (each s (inl refl)).few, few_together n ss (λ u m. each u (inr m)))
