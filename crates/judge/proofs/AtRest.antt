-- A state at rest that a run reaches gives an accepting pass: the run goes there and stays. So the verdict is that of
-- the full search. Assumes that targets and initial numbers are states, and that the cycle has a letter.
use Prim.Native.Nat.{ℕ, zero, suc, ◌+◌, ◌*◌, ◌<◌, ◌≤◌}
use mathlib.Core.Path.{◌≡◌, refl, sym, ◌∙◌, ap}
use mathlib.Core.Logic.{inl, inr}
use mathlib.Core.List.{List, [], ◌∷◌}
use mathlib.Core.Bool.{Bool, true, false, cond, ◌||◌, and-eq-true_iff}
use native.Mathlib.Omega.{arith}
use native.Mathlib.Nat.{le-mul_of_pos_right, suc-mul}
use native.Mathlib.Decide.{dec_lt}
use lib.ListN.{get_or, length}
use lib.Dec.{eqb, ltb}
use lib.Bits.{bit_and, bit_or, and_zero_l, or_zero_l}
use borrow.Author.Tests.{eqb-true, eq-eqb, lt-ltb, le-ltb}
use Rattle.lasso.specs.Lasso.{letter, after}
use Rattle.sets.specs.Sets.{In}
use Rattle.sets.proofs.Members.{any_iff}
use Rattle.automaton.specs.Automaton.{Transition, Automaton, no_state, reads, free_to, at_rest, Step, Accepts}
use Rattle.automaton.specs.Automaton.{AcceptingPass}
use Rattle.automaton.proofs.InRange.{InRange}
use Rattle.rest.specs.Search.{Point, reached_from, starts}
use Rattle.rest.specs.Rest.{up_to, resting, taken, rest_taken}
use Rattle.rest.proofs.Points.{onto, letter_onto, onward_step}
use Rattle.judge.specs.Search.{has_accepting_pass}
use Rattle.judge.proofs.Runs.{same_letter}
use Rattle.judge.proofs.HasAcceptingPass.{Comes, started, from_starts, has_accepting_pass_iff}

-- ---- a state at rest

-- a free transition reads every letter
free_reads : (t : Transition) (x : ℕ) → t.must ≡ 0 → t.must_not ≡ 0 → reads t x ≡ true
free_reads t x must none = (and-eq-true_iff (eqb (bit_or t.must x) x) _).1 (
  eq-eqb (bit_or t.must x) x (ap (λ (k : ℕ). bit_or k x) must ∙ or_zero_l x),
  eq-eqb (bit_and t.must_not x) 0 (ap (λ (k : ℕ). bit_and k x) none ∙ and_zero_l x),
)

module _ (a : Automaton) (q : ℕ) (rest : at_rest q (get_or a.states q no_state) ≡ true) where
  rest_accepts : Accepts a q
  unfolding at_rest
  rest_accepts = ((and-eq-true_iff (get_or a.states q no_state).accepting _).0 rest).0

  rest_stays : (x : ℕ) → Step a q x q
  unfolding at_rest
  rest_stays x =
      let own = (get_or a.states q no_state).transitions in
      let free = ((and-eq-true_iff (get_or a.states q no_state).accepting _).0 rest).1 in
      let (t, m, e) = (any_iff (free_to q) own).0 free in
      let (must, more) = (and-eq-true_iff (eqb t.must 0) _).0 e in
      let (none, target) = (and-eq-true_iff (eqb t.must_not 0) _).0 more in (
        t,
        m,
        free_reads t x (eqb-true t.must 0 must) (eqb-true t.must_not 0 none),
        sym (eqb-true t.target q target),
      )

-- what is taken can be reached
up_to_in : (test : Point → Bool) (x : Point) (xs : List Point) → In x (up_to test xs) → In x xs
unfolding up_to
up_to_in test x [] h = h
up_to_in test x (y ∷ ys) h = go (test y) h (up_to_in test x ys)
  where
    go : (b : Bool) → In x (elim b [ true ↦ y ∷ [] | false ↦ y ∷ up_to test ys ]) → (In x (up_to test ys) → In x ys)
        → In x (y ∷ ys)
    go true (inl e) later = inl e
    go true (inr none) later = absurd none
    go false (inl e) later = inl e
    go false (inr m) later = inr (later m)

module _ (a : Automaton) (range : InRange a) (stem cycle : List ℕ) (pos : 0 < length cycle) where
  abbrev s : ℕ
  s = length stem

  abbrev n : ℕ
  n = length cycle

  -- ---- the run to a point at rest, and on from there

  module _ (x : Point) (c : Comes a range stem cycle pos (starts a stem cycle) x)
      (rest : resting a stem cycle x ≡ true) where
    abbrev d : ℕ
    d = c.count

    abbrev come : ℕ → Point
    come = c.run.at

    come_position : (i : ℕ) → i ≤ d → (come i).position ≡ onto stem cycle i
    unfolding onto
    come_position zero le =
        ap (λ (y : Point). y.position) c.run.from ∙ (started a range stem cycle pos c.start c.given).0
    come_position (suc i) le =
        (onward_step a stem cycle (come i) (come (suc i)) (c.run.steps i (omega arith))).0
        ∙ ap (after stem cycle) (come_position i (omega arith))

    -- the states of the run: up to letter d those of the run to x, then x's
    at : ℕ → ℕ
    at i = cond (ltb i d) (come i).state x.state

    at_late : (i : ℕ) → d ≤ i → at i ≡ x.state
    unfolding at
    at_late i le = rw (le-ltb i d le)

    at_early : (i : ℕ) → i ≤ d → at i ≡ (come i).state
    unfolding at
    at_early i le = pick (dec_lt i d)
      where
        pick : Dec (i < d) → cond (ltb i d) (come i).state x.state ≡ (come i).state
        pick (yes lt) = rw (lt-ltb i d lt)
        pick (no ge) =
            let last : i ≡ d = omega arith in
            rw (le-ltb i d (omega arith)) (sym (ap (λ (y : Point). y.state) (ap come last ∙ c.run.to)))

    steps : (i : ℕ) → Step a (at i) (letter stem cycle i) (at (suc i))
    steps i = pick (dec_lt i d)
      where
        pick : Dec (i < d) → Step a (at i) (letter stem cycle i) (at (suc i))
        pick (yes lt) =
            let step = (onward_step a stem cycle (come i) (come (suc i)) (c.run.steps i lt)).1 in
            let here = ap (letter stem cycle) (come_position i (omega arith)) ∙ letter_onto stem cycle pos i in
            rw (at_early i (omega arith), at_early (suc i) lt)
            (same_letter a here (come i).state (come (suc i)).state step)
        pick (no ge) =
            rw (at_late i (omega arith), at_late (suc i) (omega arith))
            (rest_stays a x.state rest (letter stem cycle i))

    -- pass d begins when the run has come to x, or later
    begun : d ≤ s + d * n
    begun = omega (arith, le-mul_of_pos_right d pos)

    rested : AcceptingPass a stem cycle
    rested = record {
      at = at;
      first = d;
      second = suc d;
      later = omega arith;
      begins = rw (at_early 0 (omega arith), c.run.from) (started a range stem cycle pos c.start c.given).1;
      steps = λ i lt. steps i;
      same = at_late (s + d * n) begun ∙ sym (at_late (s + suc d * n) (omega (arith, begun, suc-mul d n)));
      accepts = (
        s + d * n,
        omega arith,
        omega (arith, suc-mul d n),
        rw (at_late (s + d * n) begun) (rest_accepts a x.state rest),
      );
    }

  -- where a pair at rest is taken there is an accepting pass
  rest_pass : rest_taken a stem cycle ≡ true → AcceptingPass a stem cycle
  unfolding rest_taken taken
  rest_pass e =
      let reached = reached_from a stem cycle (starts a stem cycle) in
      let (x, m, rest) = (any_iff (resting a stem cycle) (up_to (resting a stem cycle) reached)).0 e in
      rested x ((from_starts a range stem cycle pos).sound x (up_to_in (resting a stem cycle) x reached m)) rest

  -- R-5, the answer equals the full search: whether a pair at rest is taken or there is an accepting pass, is whether
  -- there is one
  pub full_search : (rest_taken a stem cycle || has_accepting_pass a stem cycle) ≡ has_accepting_pass a stem cycle
  full_search = go (rest_taken a stem cycle) refl
    where
      go : (b : Bool) → rest_taken a stem cycle ≡ b
          → (b || has_accepting_pass a stem cycle) ≡ has_accepting_pass a stem cycle
      go true e = sym ((has_accepting_pass_iff a range stem cycle pos).1 (rest_pass e))
      go false e = refl
