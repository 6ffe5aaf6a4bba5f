-- Demand 3 of translate, write and judge in a row: `decided` says the first refusal, else kept exactly when the letters
-- of the lasso that remain satisfy the rule and broken exactly when they do not. Assumes nothing.
use Prim.Native.Nat.{ℕ, ◌<◌}
use mathlib.Core.Path.{◌≡◌, refl, sym}
use mathlib.Core.List.{List}
use lib.ListN.{length}
use Rattle.answer.specs.Result.{Result, accepted, refused, and_then, Check, fine}
use Rattle.normalform.specs.NormalForm.{written_checked}
use Rattle.normalform.specs.Written.{SatisfiesWritten}
use Rattle.answer.proofs.Results.{then_accepted}
use Rattle.automaton.specs.Automaton.{Automaton}
use Rattle.translation.specs.Translate.{written_translation}
use Rattle.lasso.specs.Lasso.{remaining}
use Rattle.lasso.proofs.Checking.{lasso_some}
use Rattle.demands.specs.Demand.{room_check, input_check, concluded, decided_by, decided, decidable, Answers}
use Rattle.demands.specs.Demand.{Decides}
use Rattle.judge.proofs.VerdictIff.{recognized_exactly}
use Rattle.correctness.proofs.WellFormed.{written_well_formed}
use Rattle.correctness.proofs.AcceptingPass.{written_recognizes}

module _ (rule stem cycle s t i image work : List ℕ) where
  pub decided_exactly : Decides (decided rule stem cycle s t i image work).answer rule stem cycle s t i image work
  unfolding decided decidable
  decided_exactly = go (input_check rule stem cycle s t i image work) refl (written_translation rule) refl
    where
      some : input_check rule stem cycle s t i image work ≡ fine → 0 < length (remaining cycle)
      some e = unfold input_check in
          let (_, _, after-room) = then_accepted (room_check s t i image work) _ e in
          let (_, _, lasso) = then_accepted (written_checked rule) _ after-room in
          lasso_some stem cycle (sym lasso)

      go : (check : Check) → input_check rule stem cycle s t i image work ≡ check → (r : Result Automaton)
          → written_translation rule ≡ r
          → Answers (decided_by check (concluded r stem cycle s t i image work) s t i image work).answer (and_then check (λ _. and_then r (λ _. accepted tt))) (SatisfiesWritten rule (remaining stem) (remaining cycle))
      go (refused number place) e r known = refl
      go (accepted u) e (refused number place) known = refl
      go (accepted u) e (accepted a) known =
          recognized_exactly a (written_well_formed rule a known) stem cycle (written_recognizes rule a known)
          (some e)
