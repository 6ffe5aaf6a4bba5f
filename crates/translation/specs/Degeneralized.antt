-- The second walk: the automaton of a rule (01, First walk and second walk).
use Rattle.std.specs.Prelude.{ℕ, zero, suc, ◌-◌, List, [], ◌∷◌, ◌++◌, map, Bool, true, false, cond, ◌&&◌, get_or}
use Rattle.std.specs.Prelude.{length, eqb, ltb}
use Rattle.answer.specs.Result.{Result, accepted, and_then, fine}
use Rattle.formula.specs.Formula.{formula}
use Rattle.term.specs.Term.{Term, cover}
use Rattle.term.specs.Size.{sizes_checked}
use Rattle.generalized.specs.Explore.{find, Walk, walked}
use Rattle.generalized.specs.Generalized.{transitions, generalized}
use Rattle.acceptance.specs.Acceptance.{until_count, fulfils_next}
use Rattle.automaton.specs.Automaton.{Transition, State, Automaton}
use Rattle.automaton.specs.Limits.{max_states}

-- the level reached from j: one higher for each of the next untils that t fulfils, up to the first that it does not;
-- left untils come after j (01, First walk and second walk, sentence 13)
unfoldable pub climb : List ℕ → (left j : ℕ) → Term → ℕ
climb rule zero j t = j
climb rule (suc left) j t = elim (fulfils_next rule j t) [ true ↦ climb rule left (suc j) t | false ↦ j ]

-- the level after t: reached from j, or from 0 if j is the last, r (01, First walk and second walk, sentence 13)
unfoldable pub next_level : List ℕ → (j : ℕ) → Term → ℕ
next_level rule j t =
    cond (ltb j (until_count rule)) (climb rule (until_count rule - j) j t) (climb rule (until_count rule) 0 t)

-- a state of the second walk: the number of a state of the first, and a level, which is at most r (01, First walk and
-- second walk, sentence 11)
pub record Pair : Type 0 where
  pub state : ℕ
  pub level : ℕ

abbrev pub pair : ℕ → ℕ → Pair
pair state level = record { state = state; level = level }

abbrev pub same_pair : Pair → Pair → Bool
same_pair x y = eqb x.state y.state && eqb x.level y.level

-- 0, 1, .., n - 1
unfoldable pub numbers : ℕ → List ℕ
numbers zero = []
numbers (suc n) = numbers n ++ (n ∷ [])

-- the numbers of the initial states, the same in both walks: as many as the root's cover has sets; the second walk
-- begins with them at level 0 (01, First walk and second walk, sentence 12)
unfoldable pub initial_numbers : List ℕ → List ℕ
initial_numbers rule = numbers (length (cover (formula rule)))

-- states: the obligation sets of the first walk, by number
module _ (rule states : List ℕ) where
  unfoldable pub pair_transitions : Pair → List Term
  pair_transitions x = transitions rule (get_or states x.state 0)

  unfoldable pub target : Pair → Term → Pair
  target x t = pair (find eqb t.obligations states) (next_level rule x.level t)

  -- one more pair than an automaton has states is refused by 24, at the pair that is walked; nothing else is asked (01,
  -- First walk and second walk, sentence 16; Numbers that come from the state, 24)
  abbrev pub pair_walk : Walk Pair
  pair_walk = record {
    numbering = record { same = same_pair; limit = max_states; full = 24; each = λ _ _. fine };
    none = pair 0 0;
    targets = λ x. map (target x) (pair_transitions x);
    before = λ _ _. fine;
  }

  -- the pairs by number, as the first walk would number them (01, First walk and second walk, sentence 14)
  unfoldable pub degeneralized : Result (List Pair)
  degeneralized = walked pair_walk (map (λ i. pair i 0) (initial_numbers rule))

  -- a transition of the first walk as one of the automaton, to its target's number (01, First walk and second walk,
  -- sentence 14)
  abbrev pub transition_of : List Pair → Pair → Term → Transition
  transition_of pairs x t = record { must = t.must; must_not = t.must_not; target = find same_pair (target x t) pairs }

  -- a pair as a state of the automaton: it accepts at the last level, and has the transitions of the first walk, each
  -- to its target's number (01, First walk and second walk, sentences 14 and 15)
  unfoldable pub state_of : List Pair → Pair → State
  state_of pairs x = record {
    accepting = eqb x.level (until_count rule);
    transitions = map (transition_of pairs x) (pair_transitions x);
  }

-- the automaton of a rule, or its refusal by 1 to 7 or 20 to 24
unfoldable pub translation : List ℕ → Result Automaton
translation rule =
    and_then (sizes_checked rule)
    (λ _. and_then (generalized rule)
    (λ states. and_then (degeneralized rule states)
    (λ pairs. accepted (record { states = map (state_of rule states pairs) pairs; initial = initial_numbers rule }))))
