-- What the call report leaves, and that neither its answer nor its bytes tell more than the number of the rule and the
-- verdict. Assumes nothing.
use Prim.Native.Nat.{ℕ, ◌<◌, ◌≤◌}
use mathlib.Core.Path.{◌≡◌, ap, sym, ◌∙◌}
use mathlib.Core.List.{List, ◌++◌}
use mathlib.Core.Bool.{true}
use lib.ListN.{length, take, drop}
use lib.Dec.{leb}
use lib.Seq.{take_at}
use borrow.Author.Tests.{le-leb, lt-leb}
use Rattle.judge.specs.Judge.{judged}
use Rattle.report.specs.Report.{report_bytes, Reporting, reporting, reported, SameVerdict}
use Rattle.report.proofs.SameReport.{report_length, same_verdict_same_report, same_verdict_all_same}
use Rattle.office.specs.Packing.{pack_refusal, packed_result}
use Rattle.office.specs.Sending.{pack_report, sent}

module _ (number : ℕ) (image stem cycle work lent : List ℕ) where
  pub sent_short : length lent < report_bytes → {r : ℕ} → r ≡ pack_refusal 25 0
      → packed_result r work lent ≡ sent number image stem cycle work lent
  unfolding sent
  sent_short lt e = rw (lt-leb report_bytes (length lent) lt, e)

  -- a report where there is room for it
  sent_report : report_bytes ≤ length lent
      → sent number image stem cycle work lent ≡ pack_report true (reported number image stem cycle work) work lent
  unfolding sent
  sent_report le = rw (le-leb report_bytes (length lent) le)

  pub sent_bytes : report_bytes ≤ length lent
      → {bytes after stored : List ℕ} → reporting bytes after ≡ reported number image stem cycle work
      → stored ≡ bytes ++ drop (length bytes) lent → {r : ℕ} → r ≡ 0
      → packed_result r after stored ≡ sent number image stem cycle work lent
  sent_bytes le {bytes} says e none =
      let long : length bytes ≡ report_bytes =
      ap (λ (r : Reporting). length r.bytes) says ∙ report_length number image stem cycle work in
      rw (sent_report le, none, e, long)
      (ap (λ (r : Reporting). pack_report true r work lent) says)

  -- the answer is 0, whatever judging says
  sent_answer : report_bytes ≤ length lent → (sent number image stem cycle work lent).answer ≡ 0
  sent_answer le = rw (sent_report le)

  -- the bytes of the report come first
  sent_first : report_bytes ≤ length lent
      → take report_bytes (sent number image stem cycle work lent).result ≡ (reported number image stem cycle work).bytes
  sent_first le =
      rw (sent_report le)
      (take_at (reported number image stem cycle work).bytes (drop report_bytes lent) report_bytes
      (report_length number image stem cycle work))

module _ (number : ℕ) (image stem cycle work lent otherImage otherStem otherCycle : List ℕ) where
  -- R-12, sentence 2, of the call: the same verdict from judging gives the same answer, 0, and the same 32 bytes
  pub same_verdict_same_sent : (otherWork otherLent : List ℕ)
      → report_bytes ≤ length lent → report_bytes ≤ length otherLent
      → SameVerdict (judged image stem cycle work).answer (judged otherImage otherStem otherCycle otherWork).answer
      → let one = sent number image stem cycle work lent in
      let other = sent number otherImage otherStem otherCycle otherWork otherLent in
      (one.answer ≡ 0) × (other.answer ≡ 0) × (take report_bytes one.result ≡ take report_bytes other.result)
  same_verdict_same_sent otherWork otherLent le otherLe alike = (
    sent_answer number image stem cycle work lent le,
    sent_answer number otherImage otherStem otherCycle otherWork otherLent otherLe,
    sent_first number image stem cycle work lent le
        ∙ same_verdict_same_report number image stem cycle work otherImage otherStem otherCycle otherWork alike
        ∙ sym (sent_first number otherImage otherStem otherCycle otherWork otherLent otherLe),
  )

  -- and where the same bytes are lent, so many or so few, every one of them is left the same
  pub same_verdict_all_sent_same :
      SameVerdict (judged image stem cycle work).answer (judged otherImage otherStem otherCycle work).answer
      → sent number image stem cycle work lent ≡ sent number otherImage otherStem otherCycle work lent
  unfolding sent
  same_verdict_all_sent_same alike =
      ap (λ (r : Reporting). pack_report (leb report_bytes (length lent)) r work lent)
      (same_verdict_all_same number image stem cycle work otherImage otherStem otherCycle alike)
