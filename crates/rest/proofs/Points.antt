-- The positions that a run goes through, letter after letter, and the points on its way: the points that follow from a
-- point are those that a step leads to. Assumes nothing, but where it is said that the cycle has a letter.
use Prim.Native.Nat.{ℕ, zero, suc, ◌+◌, ◌-◌, ◌*◌, ◌<◌}
use mathlib.Core.Path.{◌≡◌, refl, sym, ◌∙◌, ap, subst}
use mathlib.Core.Logic.{inl, inr}
use mathlib.Core.List.{List, [], ◌∷◌}
use mathlib.Core.Bool.{Bool, true, false}
use native.Mathlib.Omega.{arith}
use native.Mathlib.Nat.{suc-mul}
use native.Mathlib.Decide.{dec_lt}
use lib.ListN.{get_or, length}
use Rattle.lasso.specs.Lasso.{letter, after}
use Rattle.automaton.specs.Automaton.{Transition, Automaton, no_state, reads, Step}
use Rattle.sets.specs.Sets.{In}
use Rattle.lasso.proofs.Letters.{letter_round, after_inside, after_last, after_small}
use Rattle.sets.proofs.Members.{All}
use Rattle.automaton.proofs.InRange.{InRange}
use Rattle.rest.specs.Search.{Point, point, read_targets, onward}
use Rattle.rest.proofs.Queue.{Within}

module _ (stem cycle : List ℕ) where
  abbrev s : ℕ
  s = length stem

  abbrev n : ℕ
  n = length cycle

  -- the position after i letters
  unfoldable pub onto : ℕ → ℕ
  onto zero = 0
  onto (suc i) = after stem cycle (onto i)

  onto_early : (i : ℕ) → i < s + n → onto i ≡ i
  unfolding onto
  onto_early zero l = refl
  onto_early (suc i) l = ap (after stem cycle) (onto_early i (omega arith)) ∙ after_inside stem cycle i l

  -- the position n letters on is the same
  module _ (pos : 0 < n) where
    onto_round : (d : ℕ) → onto (s + d + n) ≡ onto (s + d)
    unfolding onto
    onto_round zero =
        let z : s + 0 + n ≡ suc (s + (n - 1)) = omega arith in
        let y : s + 0 ≡ s = omega arith in
        ap onto z ∙ ap (after stem cycle) (onto_early (s + (n - 1)) (omega arith))
        ∙ after_last stem cycle (s + (n - 1)) (omega arith) ∙ sym (ap onto y ∙ onto_early s (omega arith))
    onto_round (suc d) =
        let z : s + suc d + n ≡ suc (s + d + n) = omega arith in
        let y : s + suc d ≡ suc (s + d) = omega arith in
        ap onto z ∙ ap (after stem cycle) (onto_round d) ∙ sym (ap onto y)

    -- each pass begins at the cycle's first letter
    pub onto_pass : (k : ℕ) → onto (s + k * n) ≡ s
    onto_pass zero =
        let z : s + 0 * n ≡ s = omega arith in
        ap onto z ∙ onto_early s (omega arith)
    onto_pass (suc k) =
        let z : s + suc k * n ≡ s + k * n + n = omega (arith, suc-mul k n) in
        ap onto z ∙ onto_round (k * n) ∙ onto_pass k

    -- and the letter there is the word's
    letter_below : (b i : ℕ) → i < b → letter stem cycle (onto i) ≡ letter stem cycle i
    letter_below zero i l = absurd (omega arith)
    letter_below (suc b) i l = go (dec_lt i (s + n)) (letter_below b (i - n))
      where
        go : Dec (i < s + n) → (i - n < b → letter stem cycle (onto (i - n)) ≡ letter stem cycle (i - n))
            → letter stem cycle (onto i) ≡ letter stem cycle i
        go (yes m) ih = ap (letter stem cycle) (onto_early i m)
        go (no m) ih =
            let z : i ≡ s + (i - n - s) + n = omega arith in
            let y : s + (i - n - s) ≡ i - n = omega arith in
            let x : i ≡ i - n + n = omega arith in
            ap (letter stem cycle) (ap onto z ∙ onto_round (i - n - s) ∙ ap onto y) ∙ ih (omega arith)
            ∙ sym (letter_round stem cycle (i - n) (omega arith)) ∙ sym (ap (letter stem cycle) x)

    pub letter_onto : (i : ℕ) → letter stem cycle (onto i) ≡ letter stem cycle i
    letter_onto i = letter_below (suc i) i (omega arith)

-- ---- what follows from a point

-- the points of a list, and before them x if the test holds
abbrev pub add_if : Bool → Point → List Point → List Point
add_if b x xs = elim b [ true ↦ x ∷ xs | false ↦ xs ]

pub targets_in : (x next : ℕ) (ts : List Transition) (z : Point) → In z (read_targets x next ts)
    → (z.position ≡ next) × ((t : Transition) × In t ts × (reads t x ≡ true) × (z.state ≡ t.target))
unfolding read_targets
targets_in x next [] z h = absurd h
targets_in x next (t ∷ ts) z h = go (reads t x) refl h (targets_in x next ts z)
  where
    Led : List Transition → Type 0
    Led us = (z.position ≡ next) × ((u : Transition) × In u us × (reads u x ≡ true) × (z.state ≡ u.target))

    on : Led ts → Led (t ∷ ts)
    on (p, (u, m, r, e)) = (p, (u, inr m, r, e))

    go : (b : Bool) → reads t x ≡ b → In z (add_if b (point next t.target) (read_targets x next ts))
        → (In z (read_targets x next ts) → Led ts) → Led (t ∷ ts)
    go true q (inl e) ih = (ap (λ (y : Point). y.position) e, (t, inl refl, q, ap (λ (y : Point). y.state) e))
    go true q (inr h) ih = on (ih h)
    go false q h ih = on (ih h)

in_targets : (x next : ℕ) (ts : List Transition) (t : Transition) → In t ts → reads t x ≡ true
    → In (point next t.target) (read_targets x next ts)
unfolding read_targets
in_targets x next [] t m r = absurd m
in_targets x next (u ∷ ts) t (inl e) r =
    let read : reads u x ≡ true = subst (λ (v : Transition). reads v x ≡ true) e r in
    subst (λ (b : Bool). In (point next t.target) (add_if b (point next u.target) (read_targets x next ts)))
    (sym read) (inl (ap (λ (v : Transition). point next v.target) e))
in_targets x next (u ∷ ts) t (inr m) r = go (reads u x) (in_targets x next ts t m r)
  where
    go : (b : Bool) → In (point next t.target) (read_targets x next ts)
        → In (point next t.target) (add_if b (point next u.target) (read_targets x next ts))
    go true h = inr h
    go false h = h

module _ (a : Automaton) (stem cycle : List ℕ) where
  pub onward_step : (x z : Point) → In z (onward a stem cycle x)
      → (z.position ≡ after stem cycle x.position) × Step a x.state (letter stem cycle x.position) z.state
  unfolding onward
  onward_step x z h =
      targets_in (letter stem cycle x.position) (after stem cycle x.position)
      (get_or a.states x.state no_state).transitions z h

  pub step_onward : (p q r : ℕ) → Step a q (letter stem cycle p) r
      → In (point (after stem cycle p) r) (onward a stem cycle (point p q))
  unfolding onward
  step_onward p q r (t, m, reads-it, e) =
      subst (λ (k : ℕ). In (point (after stem cycle p) k) (onward a stem cycle (point p q))) (sym e)
      (in_targets (letter stem cycle p) (after stem cycle p) (get_or a.states q no_state).transitions t m reads-it)

-- what follows from a point is within bounds
pub onward_within : (a : Automaton) (stem cycle : List ℕ) → InRange a → 0 < length cycle → (x : Point)
    → All (Within (length a.states) (length stem + length cycle)) (onward a stem cycle x)
onward_within a stem cycle range pos x z h =
    let (p, st) = onward_step a stem cycle x z h in
    record { position = omega (arith, after_small stem cycle pos x.position); state = range.targets _ _ _ st }
