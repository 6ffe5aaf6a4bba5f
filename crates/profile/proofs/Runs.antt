-- Finite runs of a numbered automaton: one that is long enough has an accepting pass, if all that it reaches accepts.
-- Assumes nothing.
use Prim.Native.Nat.{ℕ, zero, suc, ◌+◌, ◌*◌, ◌<◌, ◌≤◌}
use mathlib.Core.Path.{◌≡◌, refl, sym, ◌∙◌, ap, subst}
use mathlib.Core.Bool.{cond}
use native.Mathlib.Omega.{arith}
use native.Mathlib.Nat.{mul-le-mul_right}
use native.Mathlib.Decide.{ℕ_discrete}
use lib.Dec.{ltb}
use borrow.Author.Tests.{lt-ltb, le-ltb}
use Rattle.lasso.proofs.Positions.{pigeon}
use Rattle.automaton.proofs.Passes.{AutomatonOver, Pass}
use Rattle.correctness.proofs.Numbering.{Numbering}
use Rattle.sets.specs.Sets.{In}
use Rattle.automaton.specs.Automaton.{Automaton, Step}
use Rattle.field.specs.Watch.{Current}

-- a run over the first i letters that ends in q
pub record Path (a : Automaton) (w : ℕ → ℕ) (i q : ℕ) : Type 0 where
  pub at : ℕ → ℕ
  pub begins : In (at 0) a.initial
  pub steps : (j : ℕ) → j < i → Step a (at j) (w j) (at (suc j))
  pub ends : at i ≡ q

-- p, then q from position i + 1 on
then : (p : ℕ → ℕ) (i q j : ℕ) → ℕ
then p i q j = cond (ltb i j) q (p j)

then_before : (p : ℕ → ℕ) (i q j : ℕ) → j ≤ i → then p i q j ≡ p j
unfolding then
then_before p i q j l = rw (le-ltb i j l)

then_after : (p : ℕ → ℕ) (i q j : ℕ) → i < j → then p i q j ≡ q
unfolding then
then_after p i q j l = rw (lt-ltb i j l)

pub current_path : (a : Automaton) (w : ℕ → ℕ) (i q : ℕ) → Current a w i q → Path a w i q
current_path a w zero q m = record { at = λ j. q; begins = m; steps = λ j l. absurd (omega arith); ends = refl }
current_path a w (suc i) q (p, m, s) = longer (current_path a w i p m)
  where
    longer : Path a w i p → Path a w (suc i) q
    longer r = record {
      at = then r.at i q;
      begins = subst (λ (x : ℕ). In x a.initial) (sym (then_before r.at i q 0 (omega arith))) r.begins;
      steps = λ j l. step j l (ℕ_discrete j i);
      ends = then_after r.at i q (suc i) (omega arith);
    }
      where
        step : (j : ℕ) → j < suc i → Dec (j ≡ i) → Step a (then r.at i q j) (w j) (then r.at i q (suc j))
        step j l (yes e) =
            let x : then r.at i q j ≡ p = then_before r.at i q j (omega arith) ∙ ap r.at e ∙ r.ends in
            let y : then r.at i q (suc j) ≡ q = then_after r.at i q (suc j) (omega arith) in
            rw (x, y, e) s
        step j l (no e) =
            let x : then r.at i q j ≡ r.at j = then_before r.at i q j (omega arith) in
            let y : then r.at i q (suc j) ≡ r.at (suc j) = then_before r.at i q (suc j) (omega arith) in
            rw (x, y) (r.steps j (omega arith))

-- what the first states of an endless run are
pub path_current : (a : Automaton) (w p : ℕ → ℕ) → In (p 0) a.initial → ((j : ℕ) → Step a (p j) (w j) (p (suc j)))
    → (i : ℕ) → Current a w i (p i)
path_current a w p m s zero = m
path_current a w p m s (suc i) = (p i, path_current a w p m s i, s i)

-- an automaton of which all that it reaches accepts, and numbers for its states
module _ (w : ℕ → ℕ) {X : Type 0} {automaton : AutomatonOver X} {numbered : AutomatonOver ℕ} {N : ℕ}
    {Valid : ℕ → Type 0} {means : ℕ → X}
    (numbering : Numbering automaton numbered N Valid means)
    (first : (x : X) → automaton.Initial x → automaton.Accepting x)
    (next : (x : X) (letter : ℕ) (y : X) → automaton.Step x letter y → automaton.Accepting y)
    (s n : ℕ) (at : ℕ → ℕ) (begins : numbered.Initial (at 0))
    (steps : (i : ℕ) → i < s + N * n → numbered.Step (at i) (w i) (at (suc i))) where
  record Good (i : ℕ) : Type 0 where
    valid : Valid (at i)
    accepts : automaton.Accepting (means (at i))

  good : (i : ℕ) → i ≤ s + N * n → Good i
  good zero l = record {
    valid = numbering.initial_valid (at 0) begins;
    accepts = first (means (at 0)) (numbering.initial_means (at 0) begins);
  }
  good (suc i) l = on (good i (omega arith))
    where
      on : Good i → Good (suc i)
      on g =
          let step = steps i (omega arith) in record {
            valid = numbering.step_valid (at i) (w i) (at (suc i)) g.valid step;
            accepts = next (means (at i)) (w i) (means (at (suc i)))
                (numbering.step_means (at i) (w i) (at (suc i)) g.valid step);
          }

  inside : (k : ℕ) → k ≤ N → s + k * n ≤ s + N * n
  inside k l = omega (arith, mul-le-mul_right n l)

  -- at the beginnings of N + 1 passes it stands in one of N states
  pub long_pass : Pass s n w numbered
  long_pass =
      make (pigeon N (λ k. at (s + k * n))
      (λ k l. numbering.small (at (s + k * n)) (good (s + k * n) (inside k l)).valid))
    where
      make : (a b : ℕ) × (a < b) × (b ≤ N) × (at (s + a * n) ≡ at (s + b * n)) → Pass s n w numbered
      make (a, b, x, y, e) = record {
        at = at;
        first = a;
        second = b;
        later = x;
        begins = begins;
        steps = λ i l. steps i (omega (arith, inside b y));
        same = e;
        accepts = let g = good (s + a * n) (inside a (omega arith)) in (
          s + a * n,
          omega arith,
          omega (arith, mul-le-mul_right n (let l : a ≤ b = omega arith in l)),
          numbering.accepting_has (at (s + a * n)) g.valid g.accepts,
        );
      }
