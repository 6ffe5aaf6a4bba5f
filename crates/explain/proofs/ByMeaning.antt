-- The call satisfies says whether the lasso satisfies the rule as it is written, of the letters that remain. Assumes
-- nothing.
use Prim.Native.Nat.{ℕ, ◌+◌, ◌<◌, ◌≤◌}
use mathlib.Core.Path.{◌≡◌, refl, sym, ◌∙◌, ap}
use mathlib.Core.Logic.{◌↔◌}
use mathlib.Core.List.{List}
use mathlib.Core.Bool.{Bool, true, false≢true}
use lib.ListN.{length}
use Rattle.answer.specs.Result.{accepted}
use Rattle.answer.proofs.Results.{then_accepted}
use Rattle.lasso.specs.Lasso.{remaining, max_letters}
use Rattle.normalform.specs.NormalForm.{normal_form}
use Rattle.normalform.specs.Written.{SatisfiesWritten}
use Rattle.normalform.proofs.Holds.{normal_form_holds}
use Rattle.explain.specs.declared.Explanation.TheVariants.{Kept, Broken, NeverComes}
use Rattle.explain.specs.Explain.{Explanation, kept}
use Rattle.explain.specs.Call.{explained}
use Rattle.explain.specs.Satisfied.{is_kept, satisfied}
use Rattle.explain.proofs.Answered.{some, few, passes, kept_iff_satisfied}

module _ (rule stem cycle : List ℕ) where
  -- an answer that is no refusal tells whether the lasso satisfies the rule
  pub satisfied_iff : (b : Bool) → satisfied rule stem cycle ≡ accepted b
      → b ≡ true ↔ SatisfiesWritten rule (remaining stem) (remaining cycle)
  unfolding satisfied
  satisfied_iff b e =
      let (form, normal, verdict) = then_accepted (normal_form rule) _ e in
      let (x, told, same) = then_accepted (explained form stem cycle) _ verdict in
      go form normal x told same
    where
      is_kept_lem : (x : Explanation) → is_kept x ≡ true → x ≡ kept
      is_kept_lem Kept e = refl
      is_kept_lem (Broken c i) e = absurd (false≢true e)
      is_kept_lem (NeverComes c) e = absurd (false≢true e)

      go : (form : List ℕ) → normal_form rule ≡ accepted form → (x : Explanation)
          → explained form stem cycle ≡ accepted x
          → accepted (is_kept x) ≡ accepted b → b ≡ true ↔ SatisfiesWritten rule (remaining stem) (remaining cycle)
      go form normal x told same =
          let is : is_kept x ≡ b = cc in
          let passed = passes form stem cycle x told in
          let none_named = kept_iff_satisfied form stem cycle passed in
          let holds =
          normal_form_holds rule form (remaining stem) (remaining cycle) normal (some form stem cycle passed) in (
            λ t. holds.0 (none_named.0 (told ∙ ap (λ (y : Explanation). accepted y) (is_kept_lem x (is ∙ t)))),
            λ sat.
                let y : accepted x ≡ accepted kept = sym told ∙ none_named.1 (holds.1 sat) in
                let z : x ≡ kept = cc in
                sym is ∙ ap is_kept z,
          )

  -- and then the lasso is within the limits
  pub satisfied_within : (b : Bool) → satisfied rule stem cycle ≡ accepted b
      → (0 < length (remaining cycle)) × (length stem + length cycle ≤ max_letters)
  unfolding satisfied
  satisfied_within b e =
      let (form, normal, verdict) = then_accepted (normal_form rule) _ e in
      let (x, told, same) = then_accepted (explained form stem cycle) _ verdict in
      let passed = passes form stem cycle x told in
      (some form stem cycle passed, few form stem cycle passed)
