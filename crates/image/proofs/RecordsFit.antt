-- Records that 11 to 13 let pass, one by one: the one place that takes the order of these checks apart. Assumes
-- nothing.
use mathlib.Core.Path.{◌≡◌, sym, ◌∙◌}
use mathlib.Core.List.{List}
use Prim.Native.Nat.{ℕ, ◌<◌}
use borrow.Author.Tests.{eqb-true, eq-eqb}
use Rattle.answer.specs.Result.{Check, fine, lowest}
use Rattle.answer.proofs.Lowest.{fine_first, fine_second, lowest_each, lowest_all}
use Rattle.answer.proofs.Results.{then_accepted, require_fine}
use Rattle.automaton.specs.Tables.{Counts}
use Rattle.image.specs.Reader.{state_check, state_pass, sum_check, states_check, transition_record_check, initial_check}
use Rattle.image.specs.Reader.{count_sum, states_from, rest_check, rests_check, records_check}
use Rattle.image.proofs.Before.{passes}
use Rattle.image.proofs.OnePass.{one_pass}

-- what fine state records say, each by itself and of their counts
pub record StatesFit (c : Counts) (s : List ℕ) : Type 0 where
  pub each : (k : ℕ) → k < c.states → state_check s k ≡ fine
  pub sum : count_sum s c.states ≡ c.transitions

pub states_fit : (c : Counts) (s : List ℕ) → states_check c s ≡ fine → StatesFit c s
unfolding states_check
states_fit c s e =
    let (sum, summed, agrees) = then_accepted (state_pass s c.states) (sum_check c) e in
    let pass =
    passes (lowest (state_check s) c.states) sum (count_sum s c.states)
    (sym summed ∙ one_pass s c.states) in
    record {
      each = lowest_each (state_check s) c.states pass.passed;
      sum = sym pass.same ∙ eqb-true sum c.transitions (require_fine _ 11 c.states agrees);
    }

pub record RecordsFit (c : Counts) (s t i : List ℕ) : Type 0 where
  pub states : (k : ℕ) → k < c.states → state_check s k ≡ fine
  pub sum : count_sum s c.states ≡ c.transitions
  pub rests : (k : ℕ) → k < c.states → rest_check (states_from c.states s t) s k ≡ fine
  pub transitions : (k : ℕ) → k < c.transitions → transition_record_check c.states t k ≡ fine
  pub initial : (k : ℕ) → k < c.initial → initial_check c.states i k ≡ fine

module _ (c : Counts) (s t i : List ℕ) where
  abbrev rest : ℕ → Check
  rest = rest_check (states_from c.states s t) s

  abbrev transition : ℕ → Check
  transition = transition_record_check c.states t

  -- what fine checks say
  pub fine_fit : records_check c s t i ≡ fine → RecordsFit c s t i
  unfolding records_check rests_check
  fine_fit e =
      let fit = states_fit c s (fine_first (states_check c s) _ e) in
      let after-states = fine_second (states_check c s) _ e in
      let after-rests = fine_second (lowest rest c.states) _ after-states in
      record {
        states = fit.each;
        sum = fit.sum;
        rests = lowest_each rest c.states (fine_first _ _ after-states);
        transitions = lowest_each transition c.transitions (fine_first _ _ after-rests);
        initial = lowest_each (initial_check c.states i) c.initial
            (fine_second (lowest transition c.transitions) _ after-rests);
      }

  -- and what makes them fine
  pub fit_fine : RecordsFit c s t i → records_check c s t i ≡ fine
  unfolding records_check states_check rests_check
  fit_fine fit =
      rw (
        one_pass s c.states,
        lowest_all (state_check s) c.states fit.states,
        eq-eqb (count_sum s c.states) c.transitions fit.sum,
        lowest_all rest c.states fit.rests,
        lowest_all transition c.transitions fit.transitions,
      ) (lowest_all (initial_check c.states i) c.initial fit.initial)
