-- The first walk: the generalized automaton of a rule (01, First walk and second walk). Its states are obligation
-- sets, its transitions terms that no other dominates.
use Rattle.std.specs.Prelude.{ℕ, zero, suc, List, [], ◌∷◌, map, Bool, true, false, length, eqb, leb, ltb}
use Rattle.std.specs.Int.Bits.{bit_or}
use Rattle.answer.specs.Result.{Result, Check, require, lowest}
use Rattle.formula.specs.Rule.{node_count}
use Rattle.formula.specs.Formula.{tree, formula}
use Rattle.sets.specs.Bits.{has}
use Rattle.term.specs.Term.{Term, term, product, conflicts_between, cover, terms}
use Rattle.domination.specs.Domination.{dominates, undominated}
use Rattle.generalized.specs.Limits.{max_product, max_generalized_transitions, max_generalized_states}
use Rattle.generalized.specs.Explore.{Numbering, Walk, walked}

-- the product of ts and us where the obligation is there, else ts as they are
abbrev pub times : Bool → List Term → List Term → List Term
times true ts us = product ts us
times false ts us = ts

-- the product of the terms of a state's obligations, as far as these are below n: from the term that asks and owes
-- nothing, one obligation after another, the lowest first (01, First walk and second walk, sentence 4)
unfoldable pub partial_product : List ℕ → (state n : ℕ) → List Term
partial_product rule state zero = term 0 0 0 ∷ []
partial_product rule state (suc n) = times (has state n) (partial_product rule state n) (terms (tree rule n))

-- a state's terms: the product over all its obligations, in the order of terms (01, First walk and second walk,
-- sentence 5)
abbrev pub state_terms : List ℕ → ℕ → List Term
state_terms rule state = partial_product rule state (node_count rule)

-- a state's transitions: those of its terms that no other of them dominates (R-1; 01, First walk and second walk,
-- sentence 6)
unfoldable pub transitions : List ℕ → ℕ → List Term
transitions rule state = undominated (dominates rule) (state_terms rule state)

-- 21, at the state that is walked: its product, or a partial one on the way, has more than max_product terms, counted
-- before any is dropped (01, First walk and second walk, sentence 4; Numbers that come from the state, 21; R-1,
-- sentence 5)
unfoldable pub product_check : List ℕ → (place state : ℕ) → Check
product_check rule place state =
    lowest (λ n. require (leb (length (partial_product rule state (suc n))) max_product) 21 place) (node_count rule)

-- 22, at the state that is walked: a transition that has the most before it (01, Numbers that come from the state, 22)
abbrev pub transition_check : (place count : ℕ) → Check
transition_check place count = require (ltb count max_generalized_transitions) 22 place

-- where a state's transitions lead: a transition's target is its obligations (01, First walk and second walk,
-- sentence 6)
unfoldable pub targets : List ℕ → ℕ → List ℕ
targets rule state = map (λ t. t.obligations) (transitions rule state)

-- states are obligation sets; 22 at a transition, then 23 if its target would be one state too many
abbrev pub state_numbering : Numbering ℕ
state_numbering = record { same = eqb; limit = max_generalized_states; full = 23; each = transition_check }

-- the walk asks 21 as a state is taken
abbrev pub state_walk : List ℕ → Walk ℕ
state_walk rule = record {
  numbering = state_numbering;
  none = 0;
  targets = targets rule;
  before = product_check rule;
}

-- the states by number: the sets of the root's cover, then those that the walk meets; it ends at its first refusal (01,
-- First walk and second walk, sentences 1 to 3, 7 and 8; Numbers that come from the state, 21 to 23)
unfoldable pub generalized : List ℕ → Result (List ℕ)
generalized rule = walked (state_walk rule) (cover (formula rule))

-- ---- conflicts: the propositions for which joins are dropped (R-8)

-- the propositions for which a join of `times` is dropped: none where the obligation is not there (R-8, sentence 3)
abbrev pub times_conflicts : Bool → List Term → List Term → ℕ
times_conflicts true ts us = conflicts_between ts us
times_conflicts false ts us = 0

-- over the partial products of a state, as far as its obligations are below n; which of its terms are dropped
-- afterwards, since others dominate them, makes no difference (R-8, sentence 4)
unfoldable pub partial_conflicts : List ℕ → (state n : ℕ) → ℕ
partial_conflicts rule state zero = 0
partial_conflicts rule state (suc n) =
    bit_or (partial_conflicts rule state n)
    (times_conflicts (has state n) (partial_product rule state n) (terms (tree rule n)))

-- over all partial products of a state (R-8, sentence 4)
abbrev pub state_conflicts : List ℕ → ℕ → ℕ
state_conflicts rule state = partial_conflicts rule state (node_count rule)

-- over all states of a walk (R-8, sentences 3 and 4)
unfoldable pub walk_conflicts : (rule states : List ℕ) → ℕ
walk_conflicts rule [] = 0
walk_conflicts rule (x ∷ xs) = bit_or (state_conflicts rule x) (walk_conflicts rule xs)
