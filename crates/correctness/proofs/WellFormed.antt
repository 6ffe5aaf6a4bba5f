-- What the limits of document 01 make of the automaton of an accepted rule. Assumes nothing.
use Prim.Native.Nat.{ℕ, suc, ◌<◌}
use mathlib.Core.Path.{◌≡◌, sym, ◌∙◌, ap, subst}
use mathlib.Core.List.{List, map}
use native.Mathlib.Omega.{arith}
use lib.ListN.{get_or, length, length-map}
use Rattle.answer.specs.Result.{accepted, fine}
use Rattle.answer.proofs.Results.{then_accepted}
use Rattle.formula.specs.Formula.{formula}
use Rattle.normalform.specs.NormalForm.{normal_form}
use Rattle.term.specs.Term.{Term, cover}
use Rattle.term.specs.Size.{sizes_checked}
use Rattle.generalized.specs.Generalized.{transitions, product_check}
use Rattle.generalized.proofs.Passed.{in_range, initial_few, few_transitions}
use Rattle.automaton.specs.Automaton.{Transition, State, Automaton}
use Rattle.sets.specs.Sets.{In}
use Rattle.translation.specs.Degeneralized.{Pair, pair, initial_numbers, transition_of, translation}
use Rattle.translation.specs.Translate.{written_translation}
use Rattle.translation.proofs.Codes.{numbers_length}
use Rattle.automaton.proofs.WellFormed.{WellFormedState, WellFormed, Label}
use Rattle.sets.proofs.Members.{in_at, at_in, map_in}
use Rattle.correctness.proofs.Labels.{transitions_labelled}
use Rattle.correctness.proofs.Listing.{generalized_by, degeneralized_by, state_by, automaton_by}
use Rattle.correctness.proofs.Listing.{translated, translation_by_lem}
use Rattle.correctness.proofs.Walks.{numbers_at, Valid, first_walked, second_walked, initial_valid}
use Rattle.correctness.proofs.Walks.{pairs_known, lands}

module _ (rule : List ℕ) (accepted-rule : sizes_checked rule ≡ fine)
    (states : List ℕ) (first : generalized_by rule (transitions rule) ≡ accepted states)
    (pairs : List Pair) (second : degeneralized_by rule (transitions rule) states ≡ accepted pairs) where
  abbrev state : Pair → State
  state = state_by rule (transitions rule) states pairs

  state_formed : (k : ℕ) → k < length pairs → WellFormedState (length pairs) (state (get_or pairs k (pair 0 0)))
  state_formed k l = record {
    few = omega (arith, length-map listed transition, few_transitions rule accepted-rule here.state _ passed);
    labels = λ t m.
        let (u, n, e) = map_in transition t listed m in
        subst (λ (x : Transition). Label x.must x.must_not) (sym e)
        (transitions_labelled rule (in_range rule accepted-rule) (get_or states here.state 0) u n);
    targets = λ t m.
        let (u, n, e) = map_in transition t listed m in
        subst (λ (x : Transition). x.target < length pairs) (sym e)
        (lands rule (transitions rule) accepted-rule states first pairs second k valid u n).valid.inside;
  }
    where
      here : Pair
      here = get_or pairs k (pair 0 0)

      valid : Valid states pairs k
      valid = record {
        inside = l;
        known = pairs_known rule (transitions rule) accepted-rule states first pairs second here
            (at_in (pair 0 0) pairs k l);
      }

      passed : product_check rule here.state (get_or states here.state 0) ≡ fine
      passed =
          ((first_walked rule (transitions rule) accepted-rule states first pairs second).taken here.state (omega arith)
          valid.known).passed

      listed : List Term
      listed = transitions rule (get_or states here.state 0)

      transition : Term → Transition
      transition = transition_of rule states pairs here

  each_formed : (s : State) → In s (map state pairs) → WellFormedState (length pairs) s
  each_formed s m =
      let (x, n, e) = map_in state s pairs m in
      let (k, l, q) = in_at (pair 0 0) x pairs n in
      subst (WellFormedState (length pairs)) (ap state q ∙ sym e) (state_formed k l)

  formed : WellFormed (automaton_by rule (transitions rule) states pairs)
  unfolding initial_numbers
  formed = record {
    states = omega (arith, (second_walked rule (transitions rule) accepted-rule states first pairs second).small, size);
    each = λ s m. subst (λ (n : ℕ). WellFormedState n s) (sym size) (each_formed s m);
    initial = omega (arith, initial_few rule accepted-rule, numbers_length c);
    inside = λ i l.
        let m : i < c = omega (arith, numbers_length c) in
        let valid = initial_valid rule (transitions rule) accepted-rule states first pairs second i m in
        omega (arith, numbers_at c i m, valid.inside, size);
    rising = λ i l. omega (
      arith,
      numbers_at c i (omega (arith, numbers_length c)),
      numbers_at c (suc i)
          (omega (arith, numbers_length c)),
    );
  }
    where
      c : ℕ
      c = length (cover (formula rule))

      size : length (map state pairs) ≡ length pairs
      size = length-map pairs state

-- the automaton of a first-edition rule, as every normal form is
pub translation_well_formed : (rule : List ℕ) (a : Automaton) → translation rule ≡ accepted a → WellFormed a
translation_well_formed rule a e =
    translated rule (transitions rule) WellFormed (formed rule) a (sym (translation_by_lem rule) ∙ e)

-- what document 01's limits make of every translated automaton, that of a written rule
pub written_well_formed : (rule : List ℕ) (a : Automaton) → written_translation rule ≡ accepted a → WellFormed a
unfolding written_translation
written_well_formed rule a e =
    let (form, known, translates) = then_accepted (normal_form rule) translation e in
    translation_well_formed form a translates
