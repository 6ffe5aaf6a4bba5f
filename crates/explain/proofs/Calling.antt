-- The call explain: each way out is a check of `explained` or what it tells; and the part that is handed back. The call
-- satisfies: what is refused of the normal form, or told of it. Assumes nothing.
use Prim.Native.Nat.{ℕ, ◌+◌, ◌-◌, ◌<◌, ◌≤◌, min}
use native.Mathlib.Decide.{dec_lt}
use mathlib.Core.Path.{◌≡◌, refl, sym, ◌∙◌, ap}
use mathlib.Core.List.{List}
use mathlib.Core.Bool.{Bool}
use native.Mathlib.Omega.{arith}
use lib.ListN.{length, take, drop, length-drop, drop_of_length-le}
use lib.Seq.{take_all, drop-length}
use borrow.Author.Tests.{lt-ltb, le-ltb}
use Rattle.answer.specs.Result.{Result, accepted, refused, and_then, Check, fine}
use Rattle.lasso.specs.Lasso.{remaining, max_letters, lasso_check}
use Rattle.lasso.proofs.Checking.{lasso_some, lasso_few, remaining_few}
use Rattle.formula.specs.Rule.{checked, until_check}
use Rattle.normalform.specs.NormalForm.{normal_form, written_checked}
use Rattle.normalform.proofs.Passes.{normal_form_checked}
use Rattle.explain.specs.Explain.{Explanation, explanation, part_from}
use Rattle.explain.specs.Call.{explain_check, as_lent, explained}
use Rattle.explain.specs.Satisfied.{is_kept, verdict_only, satisfied}

module _ (rule stem cycle : List ℕ) where
  pub rule_refused : {number place : ℕ} → ◌≡◌ {A = Check} (refused number place) (checked rule)
      → refused number place ≡ explained rule stem cycle
  unfolding explained explain_check
  rule_refused e = rw (← e) refl

  pub lasso_refused : {number place : ℕ} → fine ≡ checked rule
      → ◌≡◌ {A = Check} (refused number place) (lasso_check stem cycle)
      → refused number place ≡ explained rule stem cycle
  unfolding explained explain_check
  lasso_refused e f = rw (← e, ← f) refl

  module _ (passed : checked rule ≡ fine) (within : lasso_check stem cycle ≡ fine) where
    told : accepted (as_lent stem cycle (explanation rule (remaining stem) (remaining cycle)))
        ≡ explained rule stem cycle
    unfolding explained explain_check
    told = rw (passed, within) refl

    -- of the letters that remain, in two lists
    pub letters_told : {first second : List ℕ} → first ≡ remaining stem → second ≡ remaining cycle
        → {found lent : Explanation} → found ≡ explanation rule first second → lent ≡ as_lent stem cycle found
        → accepted lent ≡ explained rule stem cycle
    letters_told stem-kept cycle-kept e f =
        ap accepted (f ∙ ap (as_lent stem cycle) (e ∙ rw (stem-kept, cycle-kept) refl)) ∙ told

-- those letters are as many as the searches allow
pub letters_fit : (stem cycle : List ℕ) → lasso_check stem cycle ≡ fine → {first second : List ℕ}
    → first ≡ remaining stem → second ≡ remaining cycle
    → (0 < length second) × (length first + length second ≤ max_letters)
letters_fit stem cycle within stem-kept cycle-kept = (
  rw cycle-kept (lasso_some stem cycle (sym within)),
  rw (stem-kept, cycle-kept) (remaining_few stem cycle (lasso_few stem cycle (sym within))),
)

-- ---- the part

-- all of a slice from an index on
whole : (from : ℕ) (xs : List ℕ) → take (length xs - from) (drop from xs) ≡ drop from xs
whole from xs = take_all (length xs - from) (drop from xs) (omega (arith, length-drop from xs))

module _ (stem cycle : List ℕ) (from : ℕ) where
  pub in_stem : from < length stem → take (length stem - from) (drop from stem) ≡ part_from stem cycle from
  unfolding part_from
  in_stem l = whole from stem ∙ sym (rw (lt-ltb from (length stem) l) refl)

  pub in_cycle_lem : length stem ≤ from → (at : ℕ) → at ≡ min (from - length stem) (length cycle)
      → take (length cycle - at) (drop at cycle) ≡ part_from stem cycle from
  unfolding part_from
  in_cycle_lem l at e =
      whole at cycle ∙ go (dec_lt (from - length stem) (length cycle))
      ∙ sym (rw (le-ltb from (length stem) l) refl)
    where
      go : Dec (from - length stem < length cycle) → drop at cycle ≡ drop (from - length stem) cycle
      go (yes m) =
          let same : at ≡ from - length stem = omega arith in
          ap (λ (k : ℕ). drop k cycle) same
      go (no m) =
          let same : at ≡ length cycle = omega arith in
          ap (λ (k : ℕ). drop k cycle) same ∙ drop-length cycle
          ∙ sym (drop_of_length-le cycle {i = from - length stem} (omega arith))

-- ---- the call satisfies

module _ (rule stem cycle : List ℕ) where
  pub form_refused : {number place : ℕ} → written_checked rule ≡ refused number place
      → refused number place ≡ satisfied rule stem cycle
  unfolding satisfied written_checked
  form_refused {number} {place} e = go (normal_form rule) refl e
    where
      late : (form : List ℕ) → normal_form rule ≡ accepted form → until_check form ≡ refused number place
          → refused number place ≡ verdict_only (explained form stem cycle)
      late form normal f = unfold explained explain_check in
          let c : checked form ≡ refused number place = normal_form_checked rule form normal ∙ f in
          rw c refl

      go : (r : Result (List ℕ)) → normal_form rule ≡ r → and_then r until_check ≡ refused number place
          → refused number place ≡ and_then r (λ form. verdict_only (explained form stem cycle))
      go (accepted form) normal e = late form normal e
      go (refused n p) normal e = let q : ◌≡◌ {A = Result Bool} (refused number place) (refused n p) = cc in q

  module _ (form : List ℕ) (normal : normal_form rule ≡ accepted form) where
    pub form_unexplained : {number place : ℕ} → refused number place ≡ explained form stem cycle
        → refused number place ≡ satisfied rule stem cycle
    unfolding satisfied
    form_unexplained e = rw (normal, ← e) refl

    pub form_told : (e : Explanation) {b : Bool} → accepted e ≡ explained form stem cycle → b ≡ is_kept e
        → accepted b ≡ satisfied rule stem cycle
    unfolding satisfied
    form_told e told is = rw (normal, ← told, is) refl
