-- Two lassos that are one word get one verdict: each verdict says whether the letters of its lasso that remain satisfy
-- the rule, and that is said of the letters alone. Assumes nothing.
use Prim.Native.Nat.{ℕ, ◌+◌, ◌≤◌, ◌<◌}
use mathlib.Core.Path.{◌≡◌, refl, sym, ◌∙◌, ap, subst, fun_ext}
use mathlib.Core.List.{List}
use mathlib.Core.Bool.{true}
use lib.ListN.{length}
use Rattle.answer.specs.Result.{Result, accepted, refused}
use Rattle.answer.proofs.Results.{never_both}
use Rattle.lasso.specs.Lasso.{remaining, max_letters}
use Rattle.lasso.proofs.Checking.{lasso_some, lasso_few}
use Rattle.automaton.specs.Automaton.{Automaton}
use Rattle.normalform.specs.Written.{written_tree, HoldsWritten, SatisfiesWritten}
use Rattle.formula.specs.Rule.{root}
use Rattle.translation.specs.Translate.{written_translation}
use Rattle.image.specs.Image.{image_bytes}
use Rattle.sameword.specs.Words.{SameWord, SameRemaining, compared}
use Rattle.sameword.proofs.Exactly.{compared_exactly, compared_fine}
use Rattle.judge.specs.declared.Verdict.TheVariants.{Kept, Broken}
use Rattle.judge.specs.Judge.{work_bytes, Verdict, Finding, verdict_of, Exactly, judged}
use Rattle.demands.proofs.Verdict.{verdict_iff_satisfied}

-- one word satisfies the same rules
same_word_satisfies : (rule stem cycle otherStem otherCycle : List ℕ) → SameWord stem cycle otherStem otherCycle
    → SatisfiesWritten rule stem cycle ≡ SatisfiesWritten rule otherStem otherCycle
unfolding SatisfiesWritten
same_word_satisfies rule stem cycle otherStem otherCycle same =
    ap (λ (word : ℕ → ℕ). HoldsWritten word (written_tree rule (root rule)) 0) (fun_ext same)

-- two answers that say exactly one thing have one verdict
one_verdict : (r s : Result Finding) (P : Type 0) → Exactly r P → Exactly s P → verdict_of r ≡ verdict_of s
one_verdict r s P e f = go (verdict_of r) refl
  where
    go : (v : Result Verdict) → verdict_of r ≡ v → v ≡ verdict_of s
    go (accepted Kept) said = sym (f.0.1 (e.0.0 said))
    go (accepted Broken) said = sym (f.1.1 (e.1.0 said))
    go (refused number place) said = absurd (not_none (λ p. never_both (sym said ∙ e.0.1 p)))
      where
        not_none : (P → ⊥) → ⊥
        not_none none = never_both (sym said ∙ e.1.1 none)

module _ (rule : List ℕ) (a : Automaton) (known : written_translation rule ≡ accepted a)
    (stem cycle otherStem otherCycle work otherWork : List ℕ) (enough : work_bytes ≤ length work)
    (enough-other : work_bytes ≤ length otherWork) where
  -- R-6 and R-9: the written rule is accepted, and a is its automaton; both lassos are within judge's limits, and their
  -- letters that remain agree at each i; each is judged by the rule's image with working bytes of its own. Then the
  -- verdicts are the same.
  pub same_word_same_verdict : 0 < length (remaining cycle) → length stem + length cycle ≤ max_letters
      → 0 < length (remaining otherCycle) → length otherStem + length otherCycle ≤ max_letters
      → SameRemaining stem cycle otherStem otherCycle
      → verdict_of (judged (image_bytes a) stem cycle work).answer
      ≡ verdict_of (judged (image_bytes a) otherStem otherCycle otherWork).answer
  same_word_same_verdict some few some-other few-other same =
      let first = (judged (image_bytes a) stem cycle work).answer in
      let second = (judged (image_bytes a) otherStem otherCycle otherWork).answer in
      one_verdict first second (SatisfiesWritten rule (remaining otherStem) (remaining otherCycle))
      (subst (Exactly first)
      (same_word_satisfies rule (remaining stem) (remaining cycle) (remaining otherStem) (remaining otherCycle) same)
      (verdict_iff_satisfied rule stem cycle a known work some few enough))
      (verdict_iff_satisfied rule otherStem otherCycle a known otherWork some-other few-other enough-other)

  -- the same where compare has told that they are one word: then both are within the limits
  pub told_same_verdict : compared stem cycle otherStem otherCycle ≡ accepted true
      → verdict_of (judged (image_bytes a) stem cycle work).answer
      ≡ verdict_of (judged (image_bytes a) otherStem otherCycle otherWork).answer
  told_same_verdict told =
      let (first, second) = compared_fine stem cycle otherStem otherCycle told in
      same_word_same_verdict (lasso_some stem cycle first) (lasso_few stem cycle first)
      (lasso_some otherStem otherCycle second) (lasso_few otherStem otherCycle second)
      ((compared_exactly stem cycle otherStem otherCycle first second).0.0 told)
