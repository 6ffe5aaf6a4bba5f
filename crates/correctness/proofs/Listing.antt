-- The translation of a rule by any listing of a state's transitions: both walks and the automaton as they are defined,
-- with `listing` in the place of `transitions rule`. The translation is the one by `transitions rule`: both unfold to
-- one term. Assumes nothing.
use Prim.Native.Nat.{ℕ}
use mathlib.Core.Path.{◌≡◌, refl, subst}
use mathlib.Core.List.{List, map}
use lib.ListN.{get_or}
use lib.Dec.{eqb}
use Rattle.answer.specs.Result.{Result, accepted, and_then, fine}
use Rattle.formula.specs.Formula.{formula}
use Rattle.term.specs.Term.{Term, cover}
use Rattle.term.specs.Size.{sizes_checked}
use Rattle.generalized.specs.Explore.{Walk, walked}
use Rattle.generalized.specs.Generalized.{transitions, targets, state_walk, generalized}
use Rattle.acceptance.specs.Acceptance.{until_count}
use Rattle.automaton.specs.Automaton.{State, Automaton}
use Rattle.translation.specs.Degeneralized.{Pair, pair, initial_numbers, pair_transitions, target, pair_walk}
use Rattle.translation.specs.Degeneralized.{degeneralized, transition_of, state_of, translation}
use Rattle.sets.specs.Sets.{In}
use Rattle.answer.proofs.Results.{then_accepted}

-- t is a transition of the state by the listing
abbrev pub Listed : (ℕ → List Term) → (state : ℕ) → Term → Type 0
Listed listing state t = In t (listing state)

module _ (rule : List ℕ) (listing : ℕ → List Term) where
  abbrev pub state_walk_by : Walk ℕ
  state_walk_by = record {
    numbering = (state_walk rule).numbering;
    none = (state_walk rule).none;
    targets = λ state. map (λ t. t.obligations) (listing state);
    before = (state_walk rule).before;
  }

  abbrev pub generalized_by : Result (List ℕ)
  generalized_by = walked state_walk_by (cover (formula rule))

  module _ (states : List ℕ) where
    abbrev pub pair_transitions_by : Pair → List Term
    pair_transitions_by x = listing (get_or states x.state 0)

    abbrev pub pair_walk_by : Walk Pair
    pair_walk_by = record {
      numbering = (pair_walk rule states).numbering;
      none = (pair_walk rule states).none;
      targets = λ x. map (target rule states x) (pair_transitions_by x);
      before = (pair_walk rule states).before;
    }

    abbrev pub degeneralized_by : Result (List Pair)
    degeneralized_by = walked pair_walk_by (map (λ i. pair i 0) (initial_numbers rule))

    abbrev pub state_by : List Pair → Pair → State
    state_by pairs x = record {
      accepting = eqb x.level (until_count rule);
      transitions = map (transition_of rule states pairs x) (pair_transitions_by x);
    }

    abbrev pub automaton_by : List Pair → Automaton
    automaton_by pairs = record { states = map (state_by pairs) pairs; initial = initial_numbers rule }

  abbrev pub translation_by : Result Automaton
  translation_by =
      and_then (sizes_checked rule)
      (λ _. and_then generalized_by
      (λ states. and_then (degeneralized_by states)
      (λ pairs. accepted (automaton_by states pairs))))

  -- what the automaton of any two accepted walks has, the translation has
  pub translated : (P : Automaton → Type 0)
      → (sizes_checked rule ≡ fine → (states : List ℕ) → generalized_by ≡ accepted states
      → (pairs : List Pair) → degeneralized_by states ≡ accepted pairs → P (automaton_by states pairs))
      → (a : Automaton) → translation_by ≡ accepted a → P a
  translated P made a e =
      let (_, passed, p) = then_accepted (sizes_checked rule) _ e in
      let (states, first, q) = then_accepted generalized_by _ p in
      let (pairs, second, r) = then_accepted (degeneralized_by states) _ q in
      let same : automaton_by states pairs ≡ a = cc in
      subst P same (made passed states first pairs second)

pub translation_by_lem : (rule : List ℕ) → translation rule ≡ translation_by rule (transitions rule)
unfolding translation generalized targets degeneralized pair_transitions state_of
translation_by_lem rule = refl
