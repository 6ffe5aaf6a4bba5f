-- The states in which a run from an initial state stands when some pass begins, as the points that can be reached at
-- the cycle's first letter: those of an accepting pass are among them, and one that comes back to itself through an
-- accepting state gives an accepting pass. Assumes that targets and initial numbers are states, and that the cycle has
-- a letter.
use Prim.Native.Nat.{ℕ, suc, ◌+◌, ◌*◌, ◌<◌, ◌≤◌}
use mathlib.Core.Path.{◌≡◌, sym, ◌∙◌, ap, subst}
use mathlib.Core.List.{List}
use native.Mathlib.Omega.{arith}
use native.Mathlib.Nat.{mul-le-mul_right, suc-mul}
use lib.ListN.{length}
use Rattle.sets.specs.Sets.{In}
use Rattle.automaton.specs.Automaton.{Automaton, AcceptingPass, pass_begin}
use Rattle.automaton.proofs.InRange.{InRange}
use Rattle.rest.specs.Search.{Point, point, onward, reached_from, starts}
use Rattle.rest.proofs.Points.{onto, onto_pass, letter_onto, step_onward}
use Rattle.judge.proofs.Runs.{Meets, same_letter}
use Rattle.judge.proofs.Passes.{round, letter_round}
use Rattle.judge.proofs.HasAcceptingPass.{from_starts, looped, met_here}

-- a run from an initial state stands in q when some pass begins
abbrev pub Begins : (a : Automaton) (stem cycle : List ℕ) (q : ℕ) → Type 0
Begins a stem cycle q = In (point (length stem) q) (reached_from a stem cycle (starts a stem cycle))

module _ (a : Automaton) (range : InRange a) (stem cycle : List ℕ) (pos : 0 < length cycle) where
  abbrev s : ℕ
  s = length stem

  abbrev n : ℕ
  n = length cycle

  pub begins_inside : (q : ℕ) → Begins a stem cycle q → q < length a.states
  begins_inside q h = ((from_starts a range stem cycle pos).sound (point s q) h).within.state

  pub pass_begins : (pass : AcceptingPass a stem cycle) (e : ℕ) → e ≤ pass.second
      → Begins a stem cycle (pass.at (pass_begin stem cycle e))
  pass_begins pass e le =
      subst (λ (p : ℕ). In (point p (pass.at (s + e * n))) (reached_from a stem cycle (starts a stem cycle)))
      (onto_pass stem cycle pos e)
      (met_here a range stem cycle pos pass (s + e * n) (omega (arith, mul-le-mul_right n le)))

  -- a run over passes from q to q, as points
  module _ (q e : ℕ) (m : Meets a (round cycle) (suc e * n) q q) where
    at : ℕ → Point
    at i = point (onto stem cycle (s + i)) (m.run.at i)

    at_pass : (k : ℕ) → m.run.at (k * n) ≡ q → at (k * n) ≡ point s q
    unfolding at
    at_pass k same =
        let p = onto_pass stem cycle pos k in
        λ i. point (p i) (same i)

    at_on : (i : ℕ) → i < suc e * n → In (at (suc i)) (onward a stem cycle (at i))
    unfolding at onto
    at_on i lt =
        let z : suc (s + i) ≡ s + suc i = omega arith in
        let letter = sym (letter_onto stem cycle pos (s + i) ∙ letter_round stem cycle i) in
        subst (λ (j : ℕ). In (point (onto stem cycle j) (m.run.at (suc i))) (onward a stem cycle (at i))) z
        (step_onward a stem cycle (onto stem cycle (s + i)) (m.run.at i) (m.run.at (suc i))
        (same_letter a letter _ _ (m.run.steps i lt)))

    pub round_pass : Begins a stem cycle q → AcceptingPass a stem cycle
    unfolding at
    round_pass h =
        let z : 0 ≡ 0 * n = omega arith in
        looped a range stem cycle pos (point s q) ((from_starts a range stem cycle pos).sound (point s q) h) (suc e * n)
        (omega (arith, suc-mul e n)) (record {
          at = at;
          from = ap at z ∙ at_pass 0 (ap m.run.at (sym z) ∙ m.run.from);
          to = at_pass (suc e) m.run.to;
          steps = at_on;
        }) m.index m.before m.accepts
