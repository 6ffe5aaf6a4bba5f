-- A report tells the number of a rule and the verdict, and nothing else; and what is left in the working bytes tells no
-- more. Assumes nothing.
use Prim.Native.Nat.{ℕ, ◌≤◌}
use mathlib.Core.Path.{◌≡◌, refl, ap, ap₂}
use mathlib.Core.List.{List}
use native.Mathlib.Omega.{arith}
use lib.ListN.{length, get_or}
use Rattle.answer.specs.Result.{Result, accepted, refused}
use Rattle.answer.specs.Bytes.{two_bytes}
use Rattle.automaton.specs.Automaton.{Automaton}
use Rattle.judge.specs.declared.Verdict.TheVariants.{Kept, Broken}
use Rattle.judge.specs.Judge.{Verdict, Finding, finding, verdict_of, judgeable, judged_by, judged}
use Rattle.report.specs.Report.{verdict_byte, report_bytes, composed, reporting, reported}
use Rattle.report.specs.Report.{SameVerdict, same, refusals}

-- the same verdict has one byte
byte_alike : {a b : Result Finding} → SameVerdict a b → verdict_byte (verdict_of a) ≡ verdict_byte (verdict_of b)
unfolding verdict_byte
byte_alike (same v pairs otherPairs) = refl
byte_alike (refusals number place otherNumber otherPlace) = refl

-- no verdict has the byte of a refusal
byte_small : (v : Verdict) → verdict_byte (accepted v) ≤ 1
unfolding verdict_byte
byte_small Kept = omega arith
byte_small Broken = omega arith

-- one byte is of the same verdict
byte_tells : (a b : Result Finding) → verdict_byte (verdict_of a) ≡ verdict_byte (verdict_of b) → SameVerdict a b
unfolding verdict_byte
byte_tells (accepted f) (accepted g) e = go f.verdict g.verdict e
  where
    go : (v w : Verdict) → verdict_byte (accepted v) ≡ verdict_byte (accepted w)
        → SameVerdict (accepted (finding v f.pairs)) (accepted (finding w g.pairs))
    go Kept Kept e = same Kept _ _
    go Broken Broken e = same Broken _ _
    go Kept Broken e = absurd (omega (arith, e))
    go Broken Kept e = absurd (omega (arith, e))
byte_tells (refused number place) (refused otherNumber otherPlace) e = refusals number place otherNumber otherPlace
byte_tells (accepted f) (refused number place) e = absurd (omega (arith, e, byte_small f.verdict))
byte_tells (refused number place) (accepted f) e = absurd (omega (arith, e, byte_small f.verdict))

-- a finding and a refusal never have the same verdict
never_refused : (f : Finding) {number place : ℕ} {A : Type 0} → SameVerdict (accepted f) (refused number place) → A
unfolding verdict_byte
never_refused f alike = absurd (omega (arith, byte_alike alike, byte_small f.verdict))

never_found : (f : Finding) {number place : ℕ} {A : Type 0} → SameVerdict (refused number place) (accepted f) → A
unfolding verdict_byte
never_found f alike = absurd (omega (arith, byte_alike alike, byte_small f.verdict))

-- where the verdict is the same, the same working bytes are left: zeros, or those that were there
left_alike : (stem cycle otherStem otherCycle work : List ℕ) (x y : Result Automaton)
    → SameVerdict (judged_by x stem cycle work).answer (judged_by y otherStem otherCycle work).answer
    → (judged_by x stem cycle work).work ≡ (judged_by y otherStem otherCycle work).work
left_alike stem cycle otherStem otherCycle work (accepted a) (accepted b) alike = refl
left_alike stem cycle otherStem otherCycle work (refused number place) (refused otherNumber otherPlace) alike = refl
left_alike stem cycle otherStem otherCycle work (accepted a) (refused number place) alike =
    never_refused _ alike
left_alike stem cycle otherStem otherCycle work (refused number place) (accepted b) alike =
    never_found _ alike

module _ (number : ℕ) (image stem cycle work otherImage otherStem otherCycle : List ℕ) where
  -- R-12, sentence 2: images, lassos and working bytes with the same verdict from judging give the same 32 bytes
  pub same_verdict_same_report : (otherWork : List ℕ)
      → SameVerdict (judged image stem cycle work).answer (judged otherImage otherStem otherCycle otherWork).answer
      → (reported number image stem cycle work).bytes
      ≡ (reported number otherImage otherStem otherCycle otherWork).bytes
  unfolding reported
  same_verdict_same_report otherWork alike = ap (composed number) (byte_alike alike)

  -- and where the same working bytes are lent, these are left the same as well
  pub same_verdict_all_same :
      SameVerdict (judged image stem cycle work).answer (judged otherImage otherStem otherCycle work).answer
      → reported number image stem cycle work ≡ reported number otherImage otherStem otherCycle work
  unfolding reported judged
  same_verdict_all_same alike =
      ap₂ reporting (same_verdict_same_report work alike)
      (left_alike stem cycle otherStem otherCycle work (judgeable image stem cycle work)
      (judgeable otherImage otherStem otherCycle work) alike)

  -- R-12, sentence 1: what two reports with the same bytes are about has one number and the same verdict
  pub report_tells : (otherNumber : ℕ) (otherWork : List ℕ)
      → (reported number image stem cycle work).bytes
      ≡ (reported otherNumber otherImage otherStem otherCycle otherWork).bytes
      → (number ≡ otherNumber)
      × SameVerdict (judged image stem cycle work).answer (judged otherImage otherStem otherCycle otherWork).answer
  unfolding reported composed two_bytes
  report_tells otherNumber otherWork e = (
    omega (arith, ap (λ (bytes : List ℕ). get_or bytes 0 0) e, ap (λ (bytes : List ℕ). get_or bytes 1 0) e),
    byte_tells _ _ (ap (λ (bytes : List ℕ). get_or bytes 2 0) e),
  )

-- a report has 32 bytes
pub report_length : (number : ℕ) (image stem cycle work : List ℕ)
    → length (reported number image stem cycle work).bytes ≡ report_bytes
unfolding reported composed two_bytes
report_length number image stem cycle work = refl
