-- What the call report leaves for C. Its answer tells nothing of the verdict, which is in the bytes alone (02, R-12).
use Rattle.std.specs.Prelude.{ℕ, List, ◌++◌, Bool, true, false, length, drop, leb}
use Rattle.report.specs.Report.{report_bytes, Reporting, reported}
use Rattle.office.specs.Packing.{pack_refusal, PackedResult, packed_result}

-- where there is room, 0, with the bytes of the report at the start of those lent and the others as they were; else 25,
-- by which every byte is as it was, the working bytes too
abbrev pub pack_report : (fits : Bool) → Reporting → (work lent : List ℕ) → PackedResult
pack_report true r work lent = packed_result 0 r.work (r.bytes ++ drop report_bytes lent)
pack_report false r work lent = packed_result (pack_refusal 25 0) work lent

-- no other refusal is in the answer
unfoldable pub sent : (number : ℕ) (image stem cycle work lent : List ℕ) → PackedResult
sent number image stem cycle work lent =
    pack_report (leb report_bytes (length lent)) (reported number image stem cycle work) work lent
