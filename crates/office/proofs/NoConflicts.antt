-- R-8: bits 40 to 47 are 0 in an answer that carries no conflicts: that of a refused translate or field translate, and
-- those of read, judge and decide. Assumes nothing.
use Prim.Native.Nat.{ℕ, ◌+◌}
use mathlib.Core.Path.{◌≡◌, refl, sym}
use mathlib.Core.List.{List}
use native.Mathlib.Omega.{arith}
use Rattle.answer.specs.Result.{Result, accepted, refused}
use Rattle.answer.proofs.Results.{never_both}
use Rattle.automaton.specs.Tables.{Counts}
use Rattle.translation.specs.Translate.{translated}
use Rattle.translation.specs.Conflicts.{translated_conflicts, translates}
use Rattle.image.specs.Calls.{read_into}
use Rattle.judge.specs.declared.Verdict.TheVariants.{Kept, Broken}
use Rattle.judge.specs.Judge.{Verdict, Finding, judged}
use Rattle.profile.specs.Profile.{profile_translated, profile_conflicts, profile_translates}
use Rattle.demands.specs.Demand.{decided}
use Rattle.office.specs.Packing.{pack_counts, pack_conflicts, pack_translated, pack_finding, pack_verdict}
use Rattle.office.proofs.Refusals.{Proper, translated_proper, profile_translated_proper, reads_proper}
use Rattle.office.proofs.Refusals.{judged_proper, decided_proper}
use Rattle.office.proofs.Unpacking.{conflicts_of, Alike, both, neither, translated_alike, profile_alike}

-- ---- the packings

refused_none : (r : Result Counts) (f : Result ℕ) → Alike r f → Proper r → (number place : ℕ) → r ≡ refused number place
    → conflicts_of (pack_counts r + pack_conflicts f) ≡ 0
unfolding pack_counts pack_conflicts
refused_none r f (both c set) p number place e = never_both (sym e)
refused_none r f (neither n q) p number place e = omega (arith, (p.refusal n q refl).byte)

counts_none : (r : Result Counts) → Proper r → conflicts_of (pack_counts r) ≡ 0
unfolding pack_counts
counts_none (accepted c) p = omega arith
counts_none (refused number place) p = omega (arith, (p.refusal number place refl).byte)

finding_none : (v : Verdict) (pairs : ℕ) → conflicts_of (pack_finding v pairs) ≡ 0
finding_none Kept pairs = omega arith
finding_none Broken pairs = omega arith

verdict_none : (r : Result Finding) → Proper r → conflicts_of (pack_verdict r) ≡ 0
unfolding pack_verdict
verdict_none (accepted f) p = finding_none f.verdict f.pairs
verdict_none (refused number place) p = omega (arith, (p.refusal number place refl).byte)

-- ---- the calls

-- zimboralo_translate, where it refuses
pub refused_tells_none : (rule s t i : List ℕ) (number place : ℕ)
    → (translated rule s t i).answer ≡ refused number place
    → conflicts_of (pack_translated (translates rule s t i)).answer ≡ 0
refused_tells_none rule s t i =
    refused_none (translated rule s t i).answer (translated_conflicts rule s t i) (translated_alike rule s t i)
    (translated_proper rule s t i)

-- zimboralo_field_translate, where it refuses
pub field_refused_tells_none : (rule s t i : List ℕ) (number place : ℕ)
    → (profile_translated rule s t i).answer ≡ refused number place
    → conflicts_of (pack_translated (profile_translates rule s t i)).answer ≡ 0
field_refused_tells_none rule s t i =
    refused_none (profile_translated rule s t i).answer (profile_conflicts rule s t i) (profile_alike rule s t i)
    (profile_translated_proper rule s t i)

-- zimboralo_read, _judge and _decide
pub read_tells_none : (image s t i : List ℕ) → conflicts_of (pack_counts (read_into image s t i).answer) ≡ 0
read_tells_none image s t i = counts_none (read_into image s t i).answer (reads_proper image s t i)

pub judge_tells_none : (image stem cycle work : List ℕ)
    → conflicts_of (pack_verdict (judged image stem cycle work).answer) ≡ 0
judge_tells_none image stem cycle work =
    verdict_none (judged image stem cycle work).answer (judged_proper image stem cycle work)

pub decide_tells_none : (rule stem cycle s t i image work : List ℕ)
    → conflicts_of (pack_verdict (decided rule stem cycle s t i image work).answer) ≡ 0
decide_tells_none rule stem cycle s t i image work =
    verdict_none (decided rule stem cycle s t i image work).answer (decided_proper rule stem cycle s t i image work)
