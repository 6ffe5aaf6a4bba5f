-- An answer as one number of 64 bits. The lowest byte is the refusal's number, 0 where there is none. Above it stands
-- the refusal's place, or the values: the three counts, with the conflicts where a rule was translated, the length of
-- what is stored, 1 for kept and 0 for broken with the number of pairs taken, 1 for yes and 0 for no, or a
-- clause with the part that shows where it is broken.
use Rattle.std.specs.Prelude.{ℕ, ◌+◌, ◌-◌, ◌*◌, ◌%◌, ◌^◌, List, Bool, true, false, cond, ltb}
use Rattle.answer.specs.Result.{Result, accepted, refused}
use Rattle.automaton.specs.Tables.{Counts, Outcome}
use Rattle.translation.specs.Conflicts.{Carried}
use Rattle.answer.specs.Buffer.{Buffer}
use Rattle.field.specs.Calls.{Watch}
use Rattle.judge.specs.declared.Verdict.TheVariants.{Kept, Broken}
use Rattle.judge.specs.Judge.{Verdict, Finding, Judgement}
use Rattle.explain.specs.declared.Explanation.TheVariants.{Kept as Holds, Broken as Breaks, NeverComes}
use Rattle.explain.specs.Explain.{Explanation}
use Rattle.demands.specs.Demand.{Decision}

-- number in bits 0 to 7, place in bits 8 to 39
abbrev pub pack_refusal : (number place : ℕ) → ℕ
pack_refusal number place = number + 256 * (place % 2 ^ 32)

-- states in bits 8 to 15, transitions in bits 16 to 31, initial in bits 32 to 39
abbrev pub pack_three : Counts → ℕ
pack_three c = 256 * (c.states % 256) + 65536 * (c.transitions % 65536) + 2 ^ 32 * (c.initial % 256)

-- the length in bits 8 to 39
abbrev pub pack_size : ℕ → ℕ
pack_size n = 256 * (n % 2 ^ 32)

unfoldable pub pack_counts : Result Counts → ℕ
pack_counts (accepted c) = pack_three c
pack_counts (refused number place) = pack_refusal number place

-- the conflicts in bits 40 to 47, proposition p in bit 40 + p; a refusal carries none (R-8)
unfoldable pub pack_conflicts : Result ℕ → ℕ
pack_conflicts (accepted conflicts) = 2 ^ 40 * conflicts
pack_conflicts (refused number place) = 0

unfoldable pub pack_length : Result ℕ → ℕ
pack_length (accepted n) = pack_size n
pack_length (refused number place) = pack_refusal number place

-- the number of pairs taken in bits 16 to 31
abbrev pub pack_pairs : ℕ → ℕ
pack_pairs n = 65536 * (n % 65536)

-- and the verdict in bit 8
abbrev pub pack_finding : Verdict → (pairs : ℕ) → ℕ
pack_finding Kept pairs = 256 + pack_pairs pairs
pack_finding Broken pairs = pack_pairs pairs

unfoldable pub pack_verdict : Result Finding → ℕ
pack_verdict (accepted f) = pack_finding f.verdict f.pairs
pack_verdict (refused number place) = pack_refusal number place

-- yes or no in bit 8: whether two lassos are one word (R-6), whether the alarm is raised (R-10), whether
-- a rule is satisfied
unfoldable pub pack_bit : Result Bool → ℕ
pack_bit (accepted true) = 256
pack_bit (accepted false) = 0
pack_bit (refused number place) = pack_refusal number place

-- a clause, one higher, in bits 8 to 15 (R-11)
abbrev pub pack_clause : ℕ → ℕ
pack_clause clause = 256 * (clause % 255 + 1)

-- the part that shows where it is broken: 1 for one of the stem, whose length is given, or 2 for one of the cycle in
-- bits 16 and 17, and the index at which it begins there in bits 24 to 39
abbrev pub pack_part : (stem from : ℕ) → ℕ
pack_part stem from =
    cond (ltb from stem) (65536 + 2 ^ 24 * (from % 65536)) (131072 + 2 ^ 24 * ((from - stem) % 65536))

-- 0 where the rule is kept; a clause alone where its right side never comes
unfoldable pub pack_explained : (stem : ℕ) → Result Explanation → ℕ
pack_explained stem (accepted Holds) = 0
pack_explained stem (accepted (Breaks clause from)) = pack_clause clause + pack_part stem from
pack_explained stem (accepted (NeverComes clause)) = pack_clause clause
pack_explained stem (refused number place) = pack_refusal number place

-- a packed answer with the three tables afterwards
pub record PackedTables : Type 0 where
  pub answer : ℕ
  pub states : List ℕ
  pub transitions : List ℕ
  pub initial : List ℕ

abbrev pub packed_tables : ℕ → (states transitions initial : List ℕ) → PackedTables
packed_tables a s t i = record { answer = a; states = s; transitions = t; initial = i }

abbrev pub pack_outcome : Outcome → PackedTables
pack_outcome o = packed_tables (pack_counts o.answer) o.states o.transitions o.initial

abbrev pub pack_translated : Carried → PackedTables
pack_translated x =
    packed_tables (pack_counts x.tables.answer + pack_conflicts x.conflicts) x.tables.states
    x.tables.transitions x.tables.initial

-- the counts that C hands to write, one by one
abbrev pub counts_of : (states transitions initial : ℕ) → Counts
counts_of states transitions initial = record { states = states; transitions = transitions; initial = initial }

-- a packed answer with one lent slice afterwards: the buffer of normalize, merge or write, judge's working bytes,
-- the field unit's set
pub record PackedSlice : Type 0 where
  pub answer : ℕ
  pub slice : List ℕ

abbrev pub packed_slice : ℕ → List ℕ → PackedSlice
packed_slice a slice = record { answer = a; slice = slice }

abbrev pub pack_buffer : Buffer → PackedSlice
pack_buffer b = packed_slice (pack_length b.answer) b.bytes

abbrev pub pack_judgement : Judgement → PackedSlice
pack_judgement j = packed_slice (pack_verdict j.answer) j.work

abbrev pub pack_watch : Watch → PackedSlice
pack_watch w = packed_slice (pack_bit w.answer) w.set

-- a packed answer with two lent slices afterwards: the working bytes, and the one in which the result is stored
pub record PackedResult : Type 0 where
  pub answer : ℕ
  pub work : List ℕ
  pub result : List ℕ

abbrev pub packed_result : ℕ → (work result : List ℕ) → PackedResult
packed_result answer work result = record { answer = answer; work = work; result = result }

-- a packed answer with decide's five buffers afterwards
pub record PackedDecision : Type 0 where
  pub answer : ℕ
  pub states : List ℕ
  pub transitions : List ℕ
  pub initial : List ℕ
  pub image : List ℕ
  pub work : List ℕ

abbrev pub packed_decision : ℕ → (states transitions initial image work : List ℕ) → PackedDecision
packed_decision a s t i image work =
    record { answer = a; states = s; transitions = t; initial = i; image = image; work = work }

abbrev pub pack_decision : Decision → PackedDecision
pack_decision d =
    packed_decision (pack_verdict d.answer) d.states d.transitions d.initial d.image d.work
