-- An automaton with finitely many states has an accepting pass through the cycle of a lasso exactly if some endless run
-- of it accepts again and again. Assumes of the word only that it repeats.
use Prim.Native.Nat.{ℕ, zero, suc, ◌+◌, ◌-◌, ◌*◌, ◌<◌, ◌≤◌}
use mathlib.Core.Path.{◌≡◌, refl, sym, ◌∙◌, ap, subst}
use mathlib.Core.Logic.{◌⊎◌, inl, inr, ◌↔◌}
use mathlib.Core.List.{List}
use native.Mathlib.Omega.{arith}
use native.Mathlib.Nat.{add-mul, suc-mul, mul-pos, mul-le-mul_right, le-mul_of_pos_right}
use native.Mathlib.Decide.{ℕ_discrete, dec_lt}
use lib.ListN.{length}
use Rattle.lasso.specs.Lasso.{letter}
use Rattle.automaton.specs.Automaton.{Automaton, Step, Accepts, AcceptingPass}
use Rattle.sets.specs.Sets.{In}
use Rattle.lasso.proofs.Positions.{Again, pigeon}

-- an automaton over states X of any type: where it begins, what it may do on a letter, and which states accept
pub record AutomatonOver (X : Type 0) : Type 1 where
  pub Initial : X → Type 0
  pub Step : X → (letter : ℕ) → X → Type 0
  pub Accepting : X → Type 0

-- the states of an automaton as numbers
abbrev pub numbered : Automaton → AutomatonOver ℕ
numbered automaton =
    record { Initial = λ k. In k automaton.initial; Step = Step automaton; Accepting = Accepts automaton }

-- an endless run on w that accepts again and again
pub record Endless (w : ℕ → ℕ) {X : Type 0} (automaton : AutomatonOver X) (p : ℕ → X) : Type 0 where
  pub begins : automaton.Initial (p 0)
  pub steps : (i : ℕ) → automaton.Step (p i) (w i) (p (suc i))
  pub again : Again (λ i. automaton.Accepting (p i))

-- an accepting pass on w, with s letters of stem and n of cycle: a run that stands at the beginning of pass `second`
-- where it stood at the beginning of pass `first`, and has accepted meanwhile
pub record Pass (s n : ℕ) (w : ℕ → ℕ) {X : Type 0} (automaton : AutomatonOver X) : Type 0 where
  pub at : ℕ → X
  pub first : ℕ
  pub second : ℕ
  pub later : first < second
  pub begins : automaton.Initial (at 0)
  pub steps : (i : ℕ) → i < s + second * n → automaton.Step (at i) (w i) (at (suc i))
  pub same : at (s + first * n) ≡ at (s + second * n)
  pub accepts : (i : ℕ) × (s + first * n ≤ i) × (i ≤ s + second * n) × automaton.Accepting (at i)

-- an automaton's accepting passes are those of the automaton over its state numbers
pub pass_iff : (a : Automaton) (stem cycle : List ℕ)
    → AcceptingPass a stem cycle ↔ Pass (length stem) (length cycle) (letter stem cycle) (numbered a)
pass_iff a stem cycle = (
  λ p. record {
    at = p.at;
    first = p.first;
    second = p.second;
    later = p.later;
    begins = p.begins;
    steps = p.steps;
    same
        = p.same;
    accepts = p.accepts;
  },
  λ p. record {
    at = p.at;
    first = p.first;
    second = p.second;
    later = p.later;
    begins = p.begins;
    steps = p.steps;
    same
        = p.same;
    accepts = p.accepts;
  },
)

-- ---- from an endless run through states below N to a pass
module _ (s n : ℕ) (pos : 0 < n) (w : ℕ → ℕ) (automaton : AutomatonOver ℕ) (p : ℕ → ℕ) (run : Endless w automaton p)
    (N : ℕ) (few : (i : ℕ) → p i < N) where
  -- passes between whose beginnings the run accepts
  pass : ℕ → ℕ
  pass zero = 0
  pass (suc k) = suc (pass k) + (run.again (s + pass k * n)).0

  pass_next : (k : ℕ) → pass k < pass (suc k)
  unfolding pass
  pass_next k = omega arith

  pass_grows : (d k : ℕ) → pass k ≤ pass (k + d)
  pass_grows zero k = subst (λ (c : ℕ). pass k ≤ pass c) {x = k} (omega arith) (omega arith)
  pass_grows (suc d) k =
      subst (λ (c : ℕ). pass k ≤ pass c) {x = suc (k + d)} (omega arith)
      (omega (arith, pass_grows d k, pass_next (k + d)))

  between : (k : ℕ) → (j : ℕ) × (s + pass k * n ≤ j) × (j ≤ s + pass (suc k) * n) × automaton.Accepting (p j)
  unfolding pass
  between k =
      let (j, l, c) = run.again (s + pass k * n) in (j, l, omega (arith, le-mul_of_pos_right (suc (pass k) + j) pos), c)

  pub endless_pass : Pass s n w automaton
  endless_pass = make (pigeon N (λ k. p (s + pass k * n)) (λ k l. few (s + pass k * n)))
    where
      make : (a b : ℕ) × (a < b) × (b ≤ N) × (p (s + pass a * n) ≡ p (s + pass b * n)) → Pass s n w automaton
      make (a, b, x, y, e) = record {
        at = p;
        first = pass a;
        second = pass b;
        later = omega (arith, pass_next a, up);
        begins = run.begins;
        steps = λ i l. run.steps i;
        same = e;
        accepts = let (j, u, v, c) = between a in (j, u, omega (arith, mul-le-mul_right n up), c);
      }
        where
          up : pass (suc a) ≤ pass b
          up =
              subst (λ (c : ℕ). pass (suc a) ≤ pass c) {x = suc a + (b - suc a)} (omega arith)
              (pass_grows (b - suc a) (suc a))

-- ---- from a pass to an endless run, round and round
module _ (s n : ℕ) (pos : 0 < n) (w : ℕ → ℕ) (round : (i : ℕ) → s ≤ i → w (i + n) ≡ w i) {X : Type 0}
    (automaton : AutomatonOver X) (l : Pass s n w automaton) where
  abbrev turns : ℕ
  turns = l.second - l.first

  abbrev start : ℕ
  start = s + l.first * n

  abbrev end : ℕ
  end = s + l.second * n

  span : end ≡ start + turns * n
  span =
      let h = l.later in
      let e : l.first + turns ≡ l.second = omega arith in
      omega (arith, add-mul l.first turns n, ap (λ (x : ℕ). x * n) e)

  start_end : start < end
  start_end = let h = l.later in omega (arith, span, mul-pos {m = turns} {n = n} (omega arith) pos)

  round_on : (i : ℕ) → s ≤ i → (q : ℕ) → w (i + q * n) ≡ w i
  round_on i l zero = ap w (omega arith)
  round_on i l (suc q) = ap w (omega (arith, suc-mul q n)) ∙ round (i + q * n) (omega arith) ∙ round_on i l q

  -- the position of the pass that position i of the endless run goes back to
  turn : (k : ℕ) → Dec (k ≡ end) → ℕ
  turn k (yes e) = start
  turn k (no e) = k

  back : ℕ → ℕ
  back zero = 0
  back (suc i) = turn (suc (back i)) (ℕ_discrete (suc (back i)) end)

  Turned : ℕ → Type 0
  Turned i =
      ((suc (back i) ≡ end) × (back (suc i) ≡ start)) ⊎ ((suc (back i) ≡ end → ⊥) × (back (suc i) ≡ suc (back i)))

  turned : (i : ℕ) → Turned i
  unfolding back turn Turned
  turned i = go (ℕ_discrete (suc (back i)) end)
    where
      go : (d : Dec (suc (back i) ≡ end))
          → ((suc (back i) ≡ end) × (turn (suc (back i)) d ≡ start)) ⊎ ((suc (back i) ≡ end
          → ⊥) × (turn (suc (back i)) d ≡ suc (back i)))
      go (yes e) = inl (e, refl)
      go (no e) = inr (e, refl)

  back_lt : (i : ℕ) → back i < end
  unfolding Turned
  back_lt zero = unfold back in omega (arith, start_end)
  back_lt (suc i) = go (back_lt i) (turned i)
    where
      go : back i < end → Turned i → back (suc i) < end
      go ih (inl x) = omega (arith, start_end)
      go ih (inr x) = differ (ℕ_discrete (suc (back i)) end)
        where
          differ : Dec (suc (back i) ≡ end) → back (suc i) < end
          differ (yes e) = absurd (x.0 e)
          differ (no e) = omega arith

  -- whole turns lie between the two positions
  Apart : ℕ → Type 0
  Apart i = (back i ≡ i) ⊎ ((q : ℕ) × (s ≤ back i) × (i ≡ back i + q * n))

  apart : (i : ℕ) → Apart i
  unfolding Apart Turned
  apart zero = inl (unfold back in refl)
  apart (suc i) = go (apart i) (turned i)
    where
      go : Apart i → Turned i → Apart (suc i)
      go (inl e) (inl (f, g)) = inr (turns, omega arith, omega (arith, span))
      go (inr (q, a, e)) (inl (f, g)) = inr (turns + q, omega arith, omega (arith, span, add-mul turns q n))
      go (inl e) (inr (f, g)) = inl (omega arith)
      go (inr (q, a, e)) (inr (f, g)) = inr (q, omega arith, omega arith)

  same_letter : (i : ℕ) → w (back i) ≡ w i
  unfolding Apart
  same_letter i = go (apart i)
    where
      go : Apart i → w (back i) ≡ w i
      go (inl e) = ap w e
      go (inr (q, a, e)) = sym (ap w e ∙ round_on (back i) a q)

  back_step : (i : ℕ) → l.at (suc (back i)) ≡ l.at (back (suc i))
  unfolding Turned
  back_step i = go (turned i)
    where
      go : Turned i → l.at (suc (back i)) ≡ l.at (back (suc i))
      go (inl (f, g)) = ap l.at f ∙ sym l.same ∙ sym (ap l.at g)
      go (inr (f, g)) = sym (ap l.at g)

  ahead : (d i : ℕ) → back i + d < end → back (i + d) ≡ back i + d
  unfolding Turned
  ahead zero i h = let e : i + 0 ≡ i = omega arith in ap back e ∙ omega arith
  ahead (suc d) i h = go (ahead d i (omega arith)) (turned (i + d))
    where
      f : i + suc d ≡ suc (i + d)
      f = omega arith

      go : back (i + d) ≡ back i + d → Turned (i + d) → back (i + suc d) ≡ back i + suc d
      go ih (inl x) = absurd (omega arith)
      go ih (inr x) = ap back f ∙ omega arith

  come_round : Again (λ j. back j ≡ start)
  unfolding Turned
  come_round i = go (back_lt i) (turned (i + (end - suc (back i))))
    where
      d : ℕ
      d = end - suc (back i)

      go : back i < end → Turned (i + d) → (j : ℕ) × (i ≤ j) × (back j ≡ start)
      go h (inl x) = (suc (i + d), omega arith, x.1)
      go h (inr x) = absurd (x.0 (omega (arith, ahead d i (omega arith))))

  visit : (k : ℕ) → start ≤ k → k < end → Again (λ j. back j ≡ k)
  visit k a b i =
      let (j, x, e) = come_round i in (j + (k - start), omega arith, omega (arith, ahead (k - start) j (omega arith)))

  accepts_again : Again (λ j. automaton.Accepting (l.at (back j)))
  accepts_again i = let (k, a, b, c) = l.accepts in split k a b c (dec_lt k end)
    where
      put : (k : ℕ) → automaton.Accepting (l.at k) → (j : ℕ) × (i ≤ j) × (back j ≡ k)
          → (j : ℕ) × (i ≤ j) × automaton.Accepting (l.at (back j))
      put k c (j, x, e) = (j, x, subst (λ (z : ℕ). automaton.Accepting (l.at z)) (sym e) c)

      split : (k : ℕ) → start ≤ k → k ≤ end → automaton.Accepting (l.at k) → Dec (k < end)
          → (j : ℕ) × (i ≤ j) × automaton.Accepting (l.at (back j))
      split k a b c (yes h) = put k c (visit k a h i)
      split k a b c (no h) =
          let e : k ≡ end = omega arith in
          put start (subst automaton.Accepting (ap l.at e ∙ sym l.same) c)
          (visit start (omega arith) start_end i)

  pub pass_endless : (p : ℕ → X) × Endless w automaton p
  pass_endless = (
    λ i. l.at (back i),
    record {
      begins = unfold back in l.begins;
      steps = λ i.
          subst (automaton.Step (l.at (back i)) (w i)) (back_step i)
          (subst (λ (x : ℕ). automaton.Step (l.at (back i)) x (l.at (suc (back i)))) (same_letter i)
          (l.steps (back i) (back_lt i)));
      again = accepts_again;
    },
  )
