-- R-10 of an automaton: with no until in the rule that was translated, the alarm is raised at some time if and only if
-- the lasso breaks the rule; the letters of the stem, and those of the cycle once for each state, are time enough.
-- Assumes nothing.
use Prim.Native.Nat.{ℕ, zero, suc, ◌+◌, ◌*◌, ◌<◌, ◌≤◌}
use mathlib.Core.Path.{◌≡◌, refl, sym, ◌∙◌, ap, subst}
use mathlib.Core.List.{List, [], map}
use native.Mathlib.Omega.{arith}
use native.Mathlib.Nat.{mul_comm}
use native.Mathlib.Decide.{ℕ_discrete}
use lib.ListN.{length, length-map}
use borrow.Author.Tests.{le-ltb}
use Rattle.answer.specs.Result.{accepted}
use Rattle.lasso.specs.Lasso.{letter}
use Rattle.lasso.proofs.Letters.{letter_round}
use Rattle.formula.specs.Rule.{node_count, untils}
use Rattle.formula.specs.Satisfaction.{Satisfies}
use Rattle.term.specs.Term.{Term}
use Rattle.generalized.specs.Generalized.{transitions}
use Rattle.acceptance.specs.Acceptance.{until_count}
use Rattle.automaton.specs.Automaton.{Automaton, AcceptingPass}
use Rattle.automaton.proofs.Passes.{pass_iff, pass_endless, numbered}
use Rattle.translation.specs.Degeneralized.{climb, next_level, translation}
use Rattle.correctness.proofs.Counting.{Counted, counting}
use Rattle.correctness.proofs.Listing.{Listed, state_by, automaton_by, translated, translation_by_lem}
use Rattle.correctness.proofs.Walks.{numbering}
use Rattle.correctness.proofs.AcceptingPass.{form_pass_iff_satisfied}
use Rattle.field.specs.Watch.{NoneCurrent}
use Rattle.profile.proofs.Runs.{Path, current_path, path_current, long_pass}

-- the alarm is kept raised
alarm_next : (a : Automaton) (w : ℕ → ℕ) (i : ℕ) → NoneCurrent a w i → NoneCurrent a w (suc i)
alarm_next a w i none q (p, m, s) = none p m

pub alarm_stays : (a : Automaton) (w : ℕ → ℕ) (i j : ℕ) → i ≤ j → NoneCurrent a w i → NoneCurrent a w j
alarm_stays a w i zero l none = let e : i ≡ 0 = omega arith in subst (NoneCurrent a w) e none
alarm_stays a w i (suc j) l none = go (ℕ_discrete i (suc j)) (λ m. alarm_stays a w i j m none)
  where
    go : Dec (i ≡ suc j) → (i ≤ j → NoneCurrent a w j) → NoneCurrent a w (suc j)
    go (yes e) ih = subst (NoneCurrent a w) e none
    go (no e) ih = alarm_next a w j (ih (omega arith))

-- with no until every level is 0, and accepts
no_level : (rule : List ℕ) → until_count rule ≡ 0 → (j : ℕ) (t : Term) → next_level rule j t ≡ 0
unfolding next_level climb
no_level rule e j t = rw (e, le-ltb j 0 (omega arith)) refl

module _ (rule : List ℕ) (free : untils rule (node_count rule) ≡ []) where
  none : until_count rule ≡ 0
  none = ap length free

  initial_accepts : (x : Counted) → (counting rule (Listed (transitions rule))).Initial x
      → (counting rule (Listed (transitions rule))).Accepting x
  initial_accepts x (m, z) = z ∙ sym none

  step_accepts : (x : Counted) (letter : ℕ) (y : Counted) → (counting rule (Listed (transitions rule))).Step x letter y
      → (counting rule (Listed (transitions rule))).Accepting y
  step_accepts x letter y (t, l, r, o, p) = p ∙ no_level rule none x.level t ∙ sym none

  module _ (stem cycle : List ℕ) where
    -- a run over that many letters has an accepting pass
    abbrev Passes : Automaton → Type 0
    Passes a =
        (q : ℕ) → Path a (letter stem cycle) (length stem + length cycle * length a.states) q → AcceptingPass a stem
        cycle

    path_pass : (a : Automaton) → translation rule ≡ accepted a → Passes a
    path_pass a e =
        translated rule (transitions rule) Passes
        (λ passed states first pairs second q path.
        let size : length cycle * length (map (state_by rule (transitions rule) states pairs) pairs) ≡ length cycle *
        length pairs =
        ap (λ (x : ℕ). length cycle * x) (length-map pairs (state_by rule (transitions rule) states pairs)) in
        (pass_iff (automaton_by rule (transitions rule) states pairs) stem cycle).1
        (long_pass (letter stem cycle) (numbering rule (transitions rule) passed states first pairs second)
        initial_accepts step_accepts (length stem) (length cycle) path.at path.begins
        (λ i l. path.steps i (omega (arith, size, mul_comm (length cycle) (length pairs))))))
        a (sym (translation_by_lem rule) ∙ e)

    module _ (a : Automaton) (e : translation rule ≡ accepted a) (pos : 0 < length cycle) where
      -- broken: the alarm is raised after that many letters
      pub broken_alarm : (Satisfies rule stem cycle → ⊥)
          → NoneCurrent a (letter stem cycle) (length stem + length cycle * length a.states)
      broken_alarm broken q c =
          broken ((form_pass_iff_satisfied rule stem cycle a e pos).0
          (path_pass a e q (current_path a (letter stem cycle) _ q c)))

      -- raised, however late: broken, since a lasso that satisfies the rule lets some run go on for ever
      pub alarm_broken : (i : ℕ) → NoneCurrent a (letter stem cycle) i → Satisfies rule stem cycle → ⊥
      alarm_broken i raised sat = go ((form_pass_iff_satisfied rule stem cycle a e pos).1 sat)
        where
          go : AcceptingPass a stem cycle → ⊥
          go p =
              let (at, run) = pass_endless (length stem) (length cycle) pos (letter stem cycle)
              (letter_round stem cycle) (numbered a)
              ((pass_iff a stem cycle).0 p) in
              raised (at i) (path_current a (letter stem cycle) at run.begins run.steps i)
