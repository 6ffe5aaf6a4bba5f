-- Skipped letters change nothing: a lasso that is not refused is judged as what remains of it is, and so two that are
-- not refused are judged alike, with the pairs taken and the working bytes, where the same letters remain of their
-- stems and the same of their cycles. Assumes nothing.
use Prim.Native.Nat.{ℕ}
use mathlib.Core.Path.{◌≡◌, refl, sym, ◌∙◌}
use mathlib.Core.List.{List}
use Rattle.answer.specs.Result.{Result, accepted, refused, and_then, fine}
use Rattle.lasso.specs.Lasso.{remaining, lasso_check}
use Rattle.lasso.proofs.Skipping.{remaining_again}
use Rattle.lasso.proofs.Checking.{remaining_fine}
use Rattle.automaton.specs.Automaton.{Automaton}
use Rattle.image.specs.Reader.{read_image}
use Rattle.judge.specs.Judge.{work_check, judgeable, judged_by, judged}

module _ (image work : List ℕ) where
  -- R-9: judging a lasso is judging the letters that remain, as a lasso of their own
  pub skipped_change_nothing : (stem cycle : List ℕ) → fine ≡ lasso_check stem cycle
      → judged image stem cycle work ≡ judged image (remaining stem) (remaining cycle) work
  unfolding judged judgeable
  skipped_change_nothing stem cycle fits =
      rw (← fits, ← remaining_fine stem cycle fits)
      (go (and_then (work_check work) (λ _. and_then (read_image image) (λ a. accepted a))))
    where
      go : (r : Result Automaton) → judged_by r stem cycle work ≡ judged_by r (remaining stem) (remaining cycle) work
      go (accepted a) = rw (remaining_again stem, remaining_again cycle)
      go (refused number place) = refl

  -- R-9: two lassos that differ in skipped letters alone, neither of which is refused
  pub skipped_alike : (stem cycle otherStem otherCycle : List ℕ) → fine ≡ lasso_check stem cycle
      → fine ≡ lasso_check otherStem otherCycle → remaining stem ≡ remaining otherStem
      → remaining cycle ≡ remaining otherCycle → judged image stem cycle work ≡ judged image otherStem otherCycle work
  skipped_alike stem cycle otherStem otherCycle fits fits-other same-stem same-cycle =
      skipped_change_nothing stem cycle fits
      ∙ rw (same-stem, same-cycle) (sym (skipped_change_nothing otherStem otherCycle fits-other))
