-- R-7 with R-3: translate takes a merged rule as a written one and puts it into normal form again. That refuses
-- nothing, and the normal form has no more nodes and is satisfied by the same lassos. Assumes nothing.
use Prim.Native.Nat.{ℕ, ◌≤◌, ◌<◌}
use mathlib.Core.Path.{◌≡◌}
use mathlib.Core.Logic.Iff
use mathlib.Core.Logic.{◌↔◌}
use mathlib.Core.List.{List}
use lib.ListN.{length}
use Rattle.answer.specs.Result.{accepted, fine}
use Rattle.formula.specs.Rule.{node_count, kind_at, release_kind, checked}
use Rattle.formula.specs.Satisfaction.{Satisfies}
use Rattle.formula.proofs.Accepted.{kind_known, formed_fine}
use Rattle.normalform.specs.Written.{SatisfiesWritten}
use Rattle.normalform.specs.NormalForm.{size, normal_form, written_checked}
use Rattle.normalform.proofs.FirstEdition.{first_edition_same, first_edition_kept}
use Rattle.normalform.proofs.FirstEditionChecked.{first_edition_size, first_edition_checked}
use Rattle.merge.specs.Merge.{conjoined, merged_count}
use Rattle.merge.proofs.Merging.{Mergeable}
use Rattle.merge.proofs.Conjoined.{merged_count_lem, merged_passes}
use Rattle.merge.proofs.Both.{merged_satisfied}

module _ (first second : List ℕ) (may : Mergeable first second) where
  abbrev all : List ℕ
  all = conjoined first second

  low : (n : ℕ) → n < node_count all → kind_at all n ≤ release_kind
  low n lt =
      let passes = merged_passes first second may.passes may.passes_too may.few in
      kind_known release_kind all n ((formed_fine release_kind all passes).each n lt)

  -- 1 to 7 let the merged rule pass as a first-edition rule
  pub merged_checked : checked all ≡ fine
  unfolding checked
  merged_checked = rw (merged_passes first second may.passes may.passes_too may.few) may.untils_few

  -- and so do 1 to 6, 26 and 7 as a written one: translate can refuse it by 20 to 24 alone
  pub merged_translatable : written_checked all ≡ fine
  merged_translatable = first_edition_checked all merged_checked

  -- the normal form has no more nodes
  pub merged_size : size all ≤ merged_count first second
  merged_size =
      rw (← merged_count_lem first second may.passes may.passes_too)
      (first_edition_size all (merged_passes first second may.passes may.passes_too may.few))

  -- a lasso satisfies the normal form exactly when it satisfies both rules
  pub normal_form_both : (out stem cycle : List ℕ) → normal_form all ≡ accepted out → 0 < length cycle
      → Satisfies out stem cycle ↔ (Satisfies first stem cycle × Satisfies second stem cycle)
  normal_form_both out stem cycle e pos =
      Iff.trans (first_edition_kept all out stem cycle low e pos)
      (merged_satisfied first second may.passes may.passes_too stem cycle)

  -- and the merged rule as a written one too
  pub written_both : (stem cycle : List ℕ)
      → SatisfiesWritten all stem cycle ↔ (Satisfies first stem cycle × Satisfies second stem cycle)
  written_both stem cycle =
      Iff.trans (Iff.symm (first_edition_same all stem cycle low))
      (merged_satisfied first second may.passes may.passes_too stem cycle)
