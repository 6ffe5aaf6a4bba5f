-- Judging and the meaning of rules agree: where the call satisfies answers, and the rule has an automaton, judging its
-- image says the same. Assumes nothing.
use Prim.Native.Nat.{ℕ, ◌≤◌}
use mathlib.Core.Path.{◌≡◌, refl, sym, ◌∙◌}
use mathlib.Core.Logic.{◌↔◌}
use mathlib.Core.List.{List}
use mathlib.Core.Bool.{Bool, true, false, false≢true}
use lib.ListN.{length}
use Rattle.answer.specs.Result.{accepted}
use Rattle.lasso.specs.Lasso.{remaining}
use Rattle.automaton.specs.Automaton.{Automaton}
use Rattle.normalform.specs.Written.{SatisfiesWritten}
use Rattle.translation.specs.Translate.{written_translation}
use Rattle.image.specs.Image.{image_bytes}
use Rattle.judge.specs.Judge.{work_bytes, Verdict, kept, broken, verdict_of, judged}
use Rattle.explain.specs.Satisfied.{satisfied}
use Rattle.explain.proofs.ByMeaning.{satisfied_iff, satisfied_within}
use Rattle.demands.proofs.Verdict.{verdict_iff_satisfied}

-- the verdict that says whether a rule is kept
abbrev pub verdict_for : Bool → Verdict
verdict_for true = kept
verdict_for false = broken

pub judged_as_meant : (rule stem cycle : List ℕ) (b : Bool) → satisfied rule stem cycle ≡ accepted b
    → (a : Automaton) → written_translation rule ≡ accepted a
    → (work : List ℕ) → work_bytes ≤ length work
    → verdict_of (judged (image_bytes a) stem cycle work).answer ≡ accepted (verdict_for b)
judged_as_meant rule stem cycle b told a known work enough = go b refl (satisfied_iff rule stem cycle b told)
  where
    go : (d : Bool) → b ≡ d → b ≡ true ↔ SatisfiesWritten rule (remaining stem) (remaining cycle)
        → verdict_of (judged (image_bytes a) stem cycle work).answer ≡ accepted (verdict_for d)
    go true e sat =
        let (some, few) = satisfied_within rule stem cycle b told in
        (verdict_iff_satisfied rule stem cycle a known work some few enough).0.1 (sat.0 e)
    go false e sat =
        let (some, few) = satisfied_within rule stem cycle b told in
        (verdict_iff_satisfied rule stem cycle a known work some few enough).1.1
        (λ kept. false≢true (sym e ∙ sat.1 kept))
