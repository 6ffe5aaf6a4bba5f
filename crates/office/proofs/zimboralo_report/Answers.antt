-- `office::zimboralo_report` meets its contract: 25, or the bytes of `report`. Assumes nothing.
use mathlib.Core.Path.{refl}
use native.Mathlib.Omega.{arith}
use Rattle.office.proofs.Sent.{sent_short, sent_bytes}
use Rattle.office.proofs.zimboralo_report.Goals as goal

pub returns-then-report-lt-REPORT_BYTES : goal.returns-then-report-lt-REPORT_BYTES
returns-then-report-lt-REPORT_BYTES c = sent_short _ _ _ _ _ _ (omega arith) c.pack_refusal.ensures

pub returns : goal.returns
returns c = sent_bytes _ _ _ _ _ _ (omega arith) c.report-bytes.ensures c.copy.ensures refl
