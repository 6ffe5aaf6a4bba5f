-- What comparing says of two lassos of which neither is refused: that they are one word exactly where their letters
-- that remain agree at each i, and that they are not exactly where these do not. Assumes nothing.
use Prim.Native.Nat.{ℕ}
use mathlib.Core.Path.{◌≡◌, refl, sym, ap}
use mathlib.Core.List.{List}
use mathlib.Core.Logic.{◌↔◌}
use mathlib.Core.Bool.{Bool, true, false}
use native.Mathlib.Omega.{arith}
use Rattle.answer.specs.Result.{accepted, refused, Check, fine}
use Rattle.answer.proofs.Lowest.{not_fine}
use Rattle.answer.proofs.Results.{then_accepted}
use Rattle.lasso.specs.Lasso.{remaining, lasso_check}
use Rattle.lasso.proofs.Checking.{lasso_some}
use Rattle.sameword.specs.Words.{of_second, SameRemaining, words_agree, lassos_check, compared}
use Rattle.sameword.proofs.Periods.{words_agree_exactly}

-- no answer says both
pub same_different : {A : Type 0} → accepted true ≡ accepted false → A
same_different e = let z : ◌≡◌ {A = ℕ} 0 1 = cc in absurd (omega arith)

-- an answer that is true exactly where P holds is false exactly where it does not
answer_exactly : (b : Bool) {P : Type 0} → ((b ≡ true) ↔ P)
    → ((accepted b ≡ accepted true) ↔ P) × ((accepted b ≡ accepted false) ↔ (P → ⊥))
answer_exactly true tells =
    let p = tells.0 refl in
    ((λ e. p, λ p. refl), (λ e. same_different e, λ none. absurd (none p)))
answer_exactly false tells = (
  (λ e. same_different (sym e), λ p. ap accepted (tells.1 p)),
  (λ e p. same_different (ap accepted (sym (tells.1 p))), λ none. refl),
)

module _ (stem cycle otherStem otherCycle : List ℕ) where
  -- R-6 and R-9, of comparing: neither lasso is refused; then the answer is yes exactly when their letters that remain
  -- agree at each i, and no exactly when they do not
  pub compared_exactly : fine ≡ lasso_check stem cycle → fine ≡ lasso_check otherStem otherCycle
      → ((compared stem cycle otherStem otherCycle ≡ accepted true) ↔ SameRemaining stem cycle otherStem otherCycle)
      × ((compared stem cycle otherStem otherCycle ≡ accepted false)
      ↔ (SameRemaining stem cycle otherStem otherCycle → ⊥))
  unfolding compared lassos_check
  compared_exactly first second =
      rw (← first, ← second)
      (answer_exactly (words_agree (remaining stem) (remaining cycle) (remaining otherStem) (remaining otherCycle))
      (words_agree_exactly (remaining stem) (remaining cycle) (remaining otherStem) (remaining otherCycle)
      (lasso_some stem cycle first) (lasso_some otherStem otherCycle second)))

  -- and where the answer is yes or no, neither is refused
  pub compared_fine : {b : Bool} → compared stem cycle otherStem otherCycle ≡ accepted b
      → (fine ≡ lasso_check stem cycle) × (fine ≡ lasso_check otherStem otherCycle)
  unfolding compared lassos_check
  compared_fine e =
      let (_, checked, _) = then_accepted (lassos_check stem cycle otherStem otherCycle) _ e in
      let (_, first, second) = then_accepted (lasso_check stem cycle) _ checked in
      (sym first, second_fine (lasso_check otherStem otherCycle) second)
    where
      second_fine : (check : Check) → of_second check ≡ fine → fine ≡ check
      second_fine (accepted u) e = refl
      second_fine (refused number place) e = not_fine e
