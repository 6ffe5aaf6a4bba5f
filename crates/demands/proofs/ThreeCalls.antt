-- Demand 3 of translate, write and judge where a caller makes them one by one: what each accepted call has left goes to
-- the next. Assumes nothing.
use Prim.Native.Nat.{ℕ, ◌+◌, ◌≤◌, ◌<◌}
use mathlib.Core.Path.{◌≡◌}
use mathlib.Core.List.{List}
use lib.ListN.{length, take}
use Rattle.answer.specs.Result.{accepted}
use Rattle.answer.specs.Buffer.{buffer}
use Rattle.lasso.specs.Lasso.{remaining, max_letters}
use Rattle.automaton.specs.Tables.{Counts, outcome}
use Rattle.normalform.specs.Written.{SatisfiesWritten}
use Rattle.translation.specs.Translate.{translated}
use Rattle.image.specs.Calls.{writes}
use Rattle.judge.specs.Judge.{work_bytes, Exactly, judged}
use Rattle.demands.proofs.TwoCalls.{two_calls}
use Rattle.demands.proofs.Verdict.{verdict_iff_satisfied}

module _ (rule s t i s' t' i' image image' : List ℕ) (c : Counts) (n : ℕ)
    (translating : outcome (accepted c) s' t' i' ≡ translated rule s t i)
    (writing : buffer (accepted n) image' ≡ writes c s' t' i' image) where
  -- translate has accepted the written rule, write the tables and counts that translate left; then judging the image
  -- that write left says kept exactly when the letters of the lasso that remain satisfy the rule, and broken exactly
  -- when they do not
  pub three_calls_exactly : (stem cycle work : List ℕ) → 0 < length (remaining cycle)
      → length stem + length cycle ≤ max_letters → work_bytes ≤ length work
      → Exactly (judged (take n image') stem cycle work).answer
      (SatisfiesWritten rule (remaining stem) (remaining cycle))
  three_calls_exactly stem cycle work some few enough =
      let made = two_calls rule s t i s' t' i' image image' c n translating writing in
      rw made.is_image
      (verdict_iff_satisfied rule stem cycle made.automaton made.translated_to work some few enough)
