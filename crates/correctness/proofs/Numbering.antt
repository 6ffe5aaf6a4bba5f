-- An automaton whose states are numbers has an accepting pass exactly if the one that it numbers has an endless run
-- that accepts again and again. Assumes of the word only that it repeats.
use Prim.Native.Nat.{ℕ, zero, suc, ◌+◌, ◌<◌, ◌≤◌}
use mathlib.Core.Path.{◌≡◌, sym, subst}
use mathlib.Core.Logic.{◌↔◌}
use Rattle.automaton.proofs.Passes.{AutomatonOver, Endless, Pass, endless_pass, pass_endless}

-- valid numbers stand for states of automaton: every initial state has one, every step from a state that has one leads to
-- one, and they are below N
pub record Numbering {X : Type 0} (automaton : AutomatonOver X) (numbered : AutomatonOver ℕ) (N : ℕ)
    (Valid : ℕ → Type 0) (means : ℕ → X) : Type 0 where
  pub small : (k : ℕ) → Valid k → k < N
  pub initial_valid : (k : ℕ) → numbered.Initial k → Valid k
  pub initial_means : (k : ℕ) → numbered.Initial k → automaton.Initial (means k)
  pub initial_has : (x : X) → automaton.Initial x → (k : ℕ) × numbered.Initial k × (means k ≡ x)
  pub step_valid : (k letter j : ℕ) → Valid k → numbered.Step k letter j → Valid j
  pub step_means : (k letter j : ℕ) → Valid k → numbered.Step k letter j → automaton.Step (means k) letter (means j)
  pub step_has : (k letter : ℕ) (x : X) → Valid k → automaton.Step (means k) letter x
      → (j : ℕ) × numbered.Step k letter j × (means j ≡ x)
  pub accepting_means : (k : ℕ) → Valid k → numbered.Accepting k → automaton.Accepting (means k)
  pub accepting_has : (k : ℕ) → Valid k → automaton.Accepting (means k) → numbered.Accepting k

module _ (w : ℕ → ℕ) {X : Type 0} {automaton : AutomatonOver X} {numbered : AutomatonOver ℕ} {N : ℕ}
    {Valid : ℕ → Type 0} {means : ℕ → X}
    (numbering : Numbering automaton numbered N Valid means) where
  module _ (q : ℕ → ℕ) (run : Endless w numbered q) where
    valid : (i : ℕ) → Valid (q i)
    valid zero = numbering.initial_valid (q 0) run.begins
    valid (suc i) = numbering.step_valid (q i) (w i) (q (suc i)) (valid i) (run.steps i)

    endless_means : Endless w automaton (λ i. means (q i))
    endless_means = record {
      begins = numbering.initial_means (q 0) run.begins;
      steps = λ i. numbering.step_means (q i) (w i) (q (suc i)) (valid i) (run.steps i);
      again = λ i. let (j, l, c) = run.again i in (j, l, numbering.accepting_means (q j) (valid j) c);
    }

  module _ (p : ℕ → X) (run : Endless w automaton p) where
    -- a number for the state at position i
    record Numbered (i : ℕ) : Type 0 where
      number : ℕ
      valid : Valid number
      is : means number ≡ p i

    start : (k : ℕ) × numbered.Initial k × (means k ≡ p 0)
    start = numbering.initial_has (p 0) run.begins

    on : (i : ℕ) (x : Numbered i) → (j : ℕ) × numbered.Step x.number (w i) j × (means j ≡ p (suc i))
    on i x =
        numbering.step_has x.number (w i) (p (suc i)) x.valid
        (subst (λ (y : X). automaton.Step y (w i) (p (suc i))) (sym x.is) (run.steps i))

    at : (i : ℕ) → Numbered i
    at zero = record { number = start.0; valid = numbering.initial_valid start.0 start.1; is = start.2 }
    at (suc i) =
        let x = at i in
        let (j, s, e) = on i x in
        record { number = j; valid = numbering.step_valid x.number (w i) j x.valid s; is = e }

    endless_numbered : Endless w numbered (λ i. (at i).number)
    unfolding at
    endless_numbered = record {
      begins = start.1;
      steps = λ i. (on i (at i)).1;
      again = λ i. let (j, l, c) = run.again i in
          (j, l, numbering.accepting_has (at j).number (at j).valid (subst automaton.Accepting (sym (at j).is) c));
    }

  pub pass_iff_endless : (s n : ℕ) → 0 < n → ((i : ℕ) → s ≤ i → w (i + n) ≡ w i)
      → Pass s n w numbered ↔ ((p : ℕ → X) × Endless w automaton p)
  pass_iff_endless s n pos round = (
    λ pass. let (q, run) = pass_endless s n pos w round numbered pass in (λ i. means (q i), endless_means q run),
    λ (p, run). endless_pass s n pos w numbered (λ i. (at p run i).number) (endless_numbered p run) N
        (λ i. numbering.small (at p run i).number (at p run i).valid),
  )
