-- R-11 of the call: what explain tells of a lasso is so by the meaning of rules, of the letters that remain, and no
-- clause is named exactly where the lasso satisfies the rule. Assumes nothing.
use Prim.Native.Nat.{ℕ, ◌+◌, ◌<◌, ◌≤◌}
use mathlib.Core.Path.{◌≡◌, refl, sym, ◌∙◌, ap, subst}
use mathlib.Core.List.{List, ◌∷◌}
use mathlib.Core.Logic.{inl, inr, ◌↔◌}
use native.Mathlib.Omega.{arith}
use lib.ListN.{length}
use Rattle.answer.specs.Result.{accepted, fine}
use Rattle.answer.proofs.Lowest.{fine_first, fine_second}
use Rattle.answer.proofs.Results.{then_accepted}
use Rattle.lasso.specs.Lasso.{remaining, max_letters}
use Rattle.lasso.proofs.Checking.{lasso_some, lasso_few}
use Rattle.sets.specs.Sets.{In}
use Rattle.sets.proofs.Members.{in_append}
use Rattle.place.proofs.Standing.{place_within}
use Rattle.formula.specs.Limits.{max_nodes}
use Rattle.formula.specs.Rule.{checked}
use Rattle.formula.proofs.Accepted.{accepted_few}
use Rattle.formula.specs.Satisfaction.{Satisfies}
use Rattle.explain.specs.declared.Explanation.TheVariants.{Kept, Broken, NeverComes}
use Rattle.explain.specs.Explain.{Explanation, kept, broken, never_comes, explanation}
use Rattle.explain.specs.Meaning.{FirstBroken, Meant, Shown, Told}
use Rattle.explain.specs.Call.{explain_check, as_lent, explained}
use Rattle.explain.proofs.Clauses.{clause_node}
use Rattle.explain.proofs.Named.{explanation_meant, kept_iff}
use Rattle.explain.proofs.Parts.{part_shows}

module _ (rule stem cycle : List ℕ) where
  abbrev letters : Explanation
  letters = explanation rule (remaining stem) (remaining cycle)

  -- what is meant of the letters that remain is told of the lasso as lent
  lent_told : (x : Explanation) → Meant rule (remaining stem) (remaining cycle) x
      → Told rule stem cycle (as_lent stem cycle x)
  lent_told Kept m = m
  lent_told (Broken c i) (first, shown) =
      record { i = i; at = refl; first = first; shown_at = shown; shows = part_shows stem cycle i shown.inside }
  lent_told (NeverComes c) m = m

  module _ (passed : explain_check rule stem cycle ≡ fine) where
    pub rule_fine : checked rule ≡ fine
    unfolding explain_check
    rule_fine = fine_first (checked rule) _ passed

    pub some : 0 < length (remaining cycle)
    unfolding explain_check
    some = lasso_some stem cycle (sym (fine_second (checked rule) _ passed))

    pub few : length stem + length cycle ≤ max_letters
    unfolding explain_check
    few = lasso_few stem cycle (sym (fine_second (checked rule) _ passed))

    tells : explained rule stem cycle ≡ accepted (as_lent stem cycle letters)
    unfolding explained
    tells = rw passed refl

  pub passes : (x : Explanation) → explained rule stem cycle ≡ accepted x → explain_check rule stem cycle ≡ fine
  unfolding explained
  passes x e = (then_accepted (explain_check rule stem cycle) _ e).1

  -- R-11, sentences 3 to 8: what an answer tells is so
  pub explained_told : (x : Explanation) → explained rule stem cycle ≡ accepted x → Told rule stem cycle x
  explained_told x e =
      let passed = passes x e in
      let told : accepted (as_lent stem cycle letters) ≡ accepted x = sym (tells passed) ∙ e in
      let same : as_lent stem cycle letters ≡ x = cc in
      subst (Told rule stem cycle) same
      (lent_told letters (explanation_meant rule (remaining stem) (remaining cycle) (rule_fine passed) (some passed)))

  -- R-11, sentence 9: no clause is named exactly where the lasso satisfies the rule
  pub kept_iff_satisfied : explain_check rule stem cycle ≡ fine
      → explained rule stem cycle ≡ accepted kept ↔ Satisfies rule (remaining stem) (remaining cycle)
  kept_iff_satisfied passed = (
    explained_told kept,
    λ sat.
        tells passed
        ∙ ap (λ (x : Explanation). accepted (as_lent stem cycle x))
        ((kept_iff rule (remaining stem) (remaining cycle) (rule_fine passed) (some passed)).1 sat),
  )

  -- ---- small numbers: a clause is a node, an index is one of the lasso

  clause_small : (c : ℕ) → explain_check rule stem cycle ≡ fine → FirstBroken rule (remaining stem) (remaining cycle) c
      → c < max_nodes
  clause_small c passed b =
      let own = in_append c b.earlier (c ∷ b.later) (inr (inl refl)) in
      accepted_few rule (rule_fine passed) c
      (clause_node rule (rule_fine passed) c (subst (In c) (sym b.parts) own)).0

  pub told_small : (c from : ℕ) → explained rule stem cycle ≡ accepted (broken c from)
      → (c < max_nodes) × (from ≤ max_letters)
  told_small c from e = go (passes (broken c from) e) (explained_told (broken c from) e)
    where
      go : explain_check rule stem cycle ≡ fine → Shown rule stem cycle c from → (c < max_nodes) × (from ≤ max_letters)
      go passed t = (clause_small c passed t.first, omega (arith, t.at, place_within stem cycle t.i, few passed))

  pub never_small : (c : ℕ) → explained rule stem cycle ≡ accepted (never_comes c) → c < max_nodes
  never_small c e = clause_small c (passes (never_comes c) e) (explained_told (never_comes c) e).0
