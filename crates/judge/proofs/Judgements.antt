-- The answers of judge, by the tests in their order: each is what `judged` says, with the working bytes. Assumes nothing.
use Prim.Native.Nat.{ℕ, ◌<◌}
use mathlib.Core.Path.{◌≡◌, refl, sym, ◌∙◌}
use mathlib.Core.List.{List}
use mathlib.Core.Bool.{Bool, true, false, ◌||◌}
use lib.ListN.{length}
use Rattle.answer.specs.Result.{Result, accepted, refused, fine}
use Rattle.answer.specs.Bytes.{zeros}
use Rattle.automaton.specs.Automaton.{Automaton, AcceptingPass}
use Rattle.automaton.specs.Tables.{Counts}
use Rattle.image.specs.Calls.{checks}
use Rattle.image.proofs.Contents.{read_of, checks_of, checks_refused}
use Rattle.judge.specs.Search.{has_accepting_pass}
use Rattle.judge.specs.Judge.{work_check, Verdict, kept, broken, finding, lasso_judgeable, judgeable, verdict}
use Rattle.judge.specs.Judge.{Judgement, judgement, letters_judged, judged_by, judged}
use Rattle.lasso.specs.Lasso.{remaining, lasso_check}
use Rattle.rest.specs.Rest.{rest_taken, pairs_taken}
use Rattle.judge.specs.Memory.{Tells}
use Rattle.image.specs.Lookup.{image_automaton}
use Rattle.judge.proofs.Decisions.{true_false}
use Rattle.automaton.proofs.InRange.{InRange}
use Rattle.judge.proofs.HasAcceptingPass.{has_accepting_pass_iff}

-- a test that tells whether there is an accepting pass is what is computed
pub decided_pass : (a : Automaton) (stem cycle : List ℕ) → InRange a → 0 < length cycle → {k : Bool}
    → Tells k (AcceptingPass a stem cycle) → has_accepting_pass a stem cycle ≡ k
decided_pass a stem cycle range pos {k} tells = go (has_accepting_pass a stem cycle) refl k refl
  where
    go : (b : Bool) → has_accepting_pass a stem cycle ≡ b → (d : Bool) → k ≡ d → b ≡ d
    go true e true f = refl
    go false e false f = refl
    go true e false f = absurd (tells.no f ((has_accepting_pass_iff a range stem cycle pos).0 e))
    go false e true f = true_false (sym ((has_accepting_pass_iff a range stem cycle pos).1 (tells.yes f)) ∙ e)

-- letters none of which is skipped: so many pairs were taken, and k says whether they are kept
module _ (a : Automaton) (stem cycle work : List ℕ) {rests k : Bool} {pairs : ℕ}
    (at_rest : rests ≡ rest_taken a stem cycle) (counted : pairs ≡ pairs_taken a stem cycle)
    (decided : k ≡ (rests || has_accepting_pass a stem cycle))
    {after : List ℕ} (zero : after ≡ zeros work) where
  letters_judged_lem : {v : Verdict} → v ≡ verdict a stem cycle
      → judgement (accepted (finding v pairs)) after ≡ letters_judged a stem cycle work
  letters_judged_lem e = rw (e, counted, zero)

  pub letters_kept : k ≡ true → judgement (accepted (finding kept pairs)) after ≡ letters_judged a stem cycle work
  unfolding verdict
  letters_kept e = letters_judged_lem (rw (← at_rest, ← decided, e, verdict))

  pub letters_broken : k ≡ false → judgement (accepted (finding broken pairs)) after ≡ letters_judged a stem cycle work
  unfolding verdict
  letters_broken e = letters_judged_lem (rw (← at_rest, ← decided, e, verdict))

module _ (stem cycle work : List ℕ) where
  judged_refused : {x : Result Automaton} {number place : ℕ} → refused number place ≡ x
      → judgement (refused number place) work ≡ judged_by x stem cycle work
  judged_refused e = rw (← e)

  module _ (a : Automaton) where
    pub lasso_refused : {number place : ℕ} → refused number place ≡ lasso_check stem cycle
        → judgement (refused number place) work ≡ judged_by (lasso_judgeable a stem cycle) stem cycle work
    lasso_refused e = judged_refused {x = lasso_judgeable a stem cycle} (rw (← e))

    pub lasso_judged : fine ≡ lasso_check stem cycle
        → {j : Judgement} → j ≡ letters_judged a (remaining stem) (remaining cycle) work
        → j ≡ judged_by (lasso_judgeable a stem cycle) stem cycle work
    lasso_judged passed h = rw (← passed) h

  module _ (image : List ℕ) where
    pub work_refused : {number place : ℕ} → refused number place ≡ work_check work
        → judgement (refused number place) work ≡ judged image stem cycle work
    unfolding judged judgeable
    work_refused e = judged_refused {x = judgeable image stem cycle work} (rw (← e))

    module _ (long : fine ≡ work_check work) where
      pub image_refused : {number place : ℕ} → refused number place ≡ checks image
          → judgement (refused number place) work ≡ judged image stem cycle work
      unfolding judged judgeable
      image_refused e =
          judged_refused {x = judgeable image stem cycle work} (rw (← long, checks_refused image e))

      pub image_judged : {c : Counts} → accepted c ≡ checks image → {j : Judgement}
          → j ≡ judged_by (lasso_judgeable (image_automaton image) stem cycle) stem cycle work
          → j ≡ judged image stem cycle work
      unfolding judged judgeable
      image_judged {c} e h =
          let found = checks_of image c e in
          let read = read_of image found.automaton found.read in
          let same : judgeable image stem cycle work ≡ lasso_judgeable (image_automaton image) stem cycle =
          rw (← long, found.read, read.automaton) in
          rw same h
