-- What is sent of a verdict (02, R-12): 32 bytes with the number under which a rule is known and the verdict, from
-- which neither the number and place of a refusal nor the pairs taken can be read.
use Rattle.std.specs.Prelude.{ℕ, List, ◌∷◌, ◌++◌, replicate}
use Rattle.answer.specs.Result.{Result, accepted, refused}
use Rattle.answer.specs.Bytes.{two_bytes}
use Rattle.judge.specs.declared.Verdict.TheVariants.{Kept, Broken}
use Rattle.judge.specs.Judge.{Verdict, Finding, finding, verdict_of, Judgement, judged}

-- how many bytes a report has (R-12, sentence 1)
abbrev pub report_bytes : ℕ
report_bytes = 32

-- the byte of a verdict: 1 for kept, 0 for broken, 2 for refused, whatever refuses (R-12, sentence 1)
unfoldable pub verdict_byte : Result Verdict → ℕ
verdict_byte (accepted Kept) = 1
verdict_byte (accepted Broken) = 0
verdict_byte (refused number place) = 2

-- the number of the rule in two bytes, the low one first, the byte of the verdict, and 29 zeros (R-12, sentence 1)
unfoldable pub composed : (number byte : ℕ) → List ℕ
composed number byte = two_bytes number ++ (byte ∷ replicate 29 0)

-- a report, and the lent working bytes afterwards
pub record Reporting : Type 0 where
  pub bytes : List ℕ
  pub work : List ℕ

abbrev pub reporting : (bytes work : List ℕ) → Reporting
reporting bytes work = record { bytes = bytes; work = work }

-- of what judging says its verdict alone is sent; the working bytes are as judging leaves them
abbrev pub report_of : (number : ℕ) → Judgement → Reporting
report_of number j = reporting (composed number (verdict_byte (verdict_of j.answer))) j.work

unfoldable pub reported : (number : ℕ) (image stem cycle work : List ℕ) → Reporting
reported number image stem cycle work = report_of number (judged image stem cycle work)

-- two answers of judging with the same verdict: it does not count how many pairs were taken for either, nor which
-- number and place a refusal has (R-12, sentence 2)
pub data SameVerdict : Result Finding → Result Finding → Type 0 where
  same : (v : Verdict) (pairs otherPairs : ℕ)
      → SameVerdict (accepted (finding v pairs)) (accepted (finding v otherPairs))
  refusals : (number place otherNumber otherPlace : ℕ)
      → SameVerdict (refused number place) (refused otherNumber otherPlace)
