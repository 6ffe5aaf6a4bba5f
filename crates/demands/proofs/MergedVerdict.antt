-- R-7: merge, translate, write and judge in a row say whether the letters of a lasso that remain satisfy both rules,
-- and so do merge and decide. Assumes nothing.
use Prim.Native.Nat.{ℕ, ◌+◌, ◌≤◌, ◌<◌}
use mathlib.Core.Path.{◌≡◌, sym}
use mathlib.Core.Logic.Iff
use mathlib.Core.Logic.{◌↔◌}
use mathlib.Core.List.{List}
use lib.ListN.{length, take}
use Rattle.answer.specs.Result.{Result, accepted, refused, Check}
use Rattle.answer.specs.Buffer.{buffer}
use Rattle.lasso.specs.Lasso.{remaining, max_letters}
use Rattle.automaton.specs.Tables.{Counts, outcome}
use Rattle.formula.specs.Satisfaction.{Satisfies}
use Rattle.normalform.specs.Written.{SatisfiesWritten}
use Rattle.translation.specs.Translate.{translated}
use Rattle.image.specs.Calls.{writes}
use Rattle.judge.specs.Judge.{work_bytes, Finding, Exactly, judged}
use Rattle.merge.specs.Merge.{merges}
use Rattle.merge.proofs.Merging.{merged_at}
use Rattle.merge.proofs.Translatable.{written_both}
use Rattle.demands.specs.Demand.{decided, decidable, Answers}
use Rattle.demands.proofs.Decided.{decided_exactly}
use Rattle.demands.proofs.ThreeCalls.{three_calls_exactly}

-- an answer that says exactly one thing says whatever is the same, and so does one with refusals besides
exactly_same : (r : Result Finding) (P Q : Type 0) → P ↔ Q → Exactly r P → Exactly r Q
exactly_same r P Q same e = (Iff.trans e.0 same, Iff.trans e.1 (Iff.not same))

answers_same : (r : Result Finding) (check : Check) (P Q : Type 0) → P ↔ Q → Answers r check P → Answers r check Q
answers_same r (accepted u) P Q same e = exactly_same r P Q same e
answers_same r (refused number place) P Q same e = e

module _ (first second lent merged : List ℕ) (m : ℕ) (merging : buffer (accepted m) merged ≡ merges first second lent)
  where
    -- a lasso satisfies the bytes that merge left, as a written rule, exactly when it satisfies both rules
    both : (stem cycle : List ℕ)
        → SatisfiesWritten (take m merged) stem cycle ↔ (Satisfies first stem cycle × Satisfies second stem cycle)
    both stem cycle =
        let made = merged_at first second lent m merged (sym merging) in
        rw made.is (written_both first second made.may stem cycle)

    -- merge has accepted two first-edition rules, translate what merge left, and write what translate left. Then judging
    -- the image that write left says kept exactly when the letters of the lasso that remain satisfy both rules, and
    -- broken exactly when they do not.
    pub merged_verdict : (s t i s' t' i' image image' : List ℕ) (c : Counts) (n : ℕ)
        → outcome (accepted c) s' t' i' ≡ translated (take m merged) s t i
        → buffer (accepted n) image' ≡ writes c s' t' i' image
        → (stem cycle work : List ℕ) → 0 < length (remaining cycle) → length stem + length cycle ≤ max_letters
        → work_bytes ≤ length work
        → Exactly (judged (take n image') stem cycle work).answer
        (Satisfies first (remaining stem) (remaining cycle) × Satisfies second (remaining stem) (remaining cycle))
    merged_verdict s t i s' t' i' image image' c n translating writing stem cycle work some few enough =
        exactly_same (judged (take n image') stem cycle work).answer _ _ (both (remaining stem) (remaining cycle))
        (three_calls_exactly (take m merged) s t i s' t' i' image image' c n translating writing stem cycle work some few
        enough)

    -- the same of merge and decide: the first refusal in decide's order, else kept exactly when the letters of the lasso
    -- that remain satisfy both rules, and broken exactly when they do not
    pub merged_decided : (stem cycle s t i image work : List ℕ)
        → Answers (decided (take m merged) stem cycle s t i image work).answer
        (decidable (take m merged) stem cycle s t i image work)
        (Satisfies first (remaining stem) (remaining cycle) × Satisfies second (remaining stem) (remaining cycle))
    merged_decided stem cycle s t i image work =
        answers_same (decided (take m merged) stem cycle s t i image work).answer
        (decidable (take m merged) stem cycle s t i image work) _ _ (both (remaining stem) (remaining cycle))
        (decided_exactly (take m merged) stem cycle s t i image work)
