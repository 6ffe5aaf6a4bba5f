-- A packed answer beside what was lent: the call's own equation, carried through the packing.
-- Assumes nothing.
use Prim.Native.Nat.{ℕ, ◌+◌, ◌-◌, ◌*◌, ◌%◌, ◌^◌, ◌<◌}
use mathlib.Core.Path.{◌≡◌, ap, ◌∙◌}
use mathlib.Core.List.{List}
use mathlib.Core.Bool.{Bool, true, false, cond}
use native.Mathlib.Omega.{arith}
use lib.Dec.{ltb}
use Rattle.answer.specs.Result.{Result}
use Rattle.automaton.specs.Tables.{Counts, Outcome, outcome}
use Rattle.translation.specs.Conflicts.{Carried, carried}
use Rattle.answer.specs.Buffer.{Buffer, buffer}
use Rattle.field.specs.Calls.{Watch, watch}
use Rattle.judge.specs.Judge.{Finding, Judgement, judgement}
use Rattle.demands.specs.Demand.{Decision, decision}
use Rattle.office.specs.Packing.{pack_counts, pack_length, pack_verdict, packed_tables, pack_outcome, packed_slice}
use Rattle.office.specs.Packing.{pack_buffer, pack_judgement, packed_decision, pack_decision, pack_conflicts}
use Rattle.office.specs.Packing.{pack_translated}
use Rattle.office.specs.Packing.{pack_bit, pack_watch, pack_part}

-- of a call that fills three tables
pub packed_tables_lem : (a : Result Counts) (s t i : List ℕ) (o : Outcome) (r : ℕ) → r ≡ pack_counts a
    → outcome a s t i ≡ o
    → packed_tables r s t i ≡ pack_outcome o
packed_tables_lem a s t i o r packs says = ap (λ (n : ℕ). packed_tables n s t i) packs ∙ ap pack_outcome says

-- of translate, with its conflicts
pub packed_translated : (a : Result Counts) (f : Result ℕ) (s t i : List ℕ) (x : Carried) (r : ℕ)
    → r ≡ pack_counts a + pack_conflicts f → carried (outcome a s t i) f ≡ x → packed_tables r s t i ≡ pack_translated x
packed_translated a f s t i x r packs says = ap (λ (n : ℕ). packed_tables n s t i) packs ∙ ap pack_translated says

-- of write
pub packed_buffer : (a : Result ℕ) (image : List ℕ) (b : Buffer) (r : ℕ) → r ≡ pack_length a → buffer a image ≡ b
    → packed_slice r image ≡ pack_buffer b
packed_buffer a image b r packs says = ap (λ (n : ℕ). packed_slice n image) packs ∙ ap pack_buffer says

-- of judge
pub packed_judgement : (a : Result Finding) (work : List ℕ) (j : Judgement) (r : ℕ) → r ≡ pack_verdict a
    → judgement a work ≡ j → packed_slice r work ≡ pack_judgement j
packed_judgement a work j r packs says = ap (λ (n : ℕ). packed_slice n work) packs ∙ ap pack_judgement says

-- of start and step
pub packed_watch : (a : Result Bool) (set : List ℕ) (w : Watch) (r : ℕ) → r ≡ pack_bit a → watch a set ≡ w
    → packed_slice r set ≡ pack_watch w
packed_watch a set w r packs says = ap (λ (n : ℕ). packed_slice n set) packs ∙ ap pack_watch says

-- of decide
pub packed_decision_lem : (a : Result Finding) (s t i image work : List ℕ) (d : Decision) (r : ℕ) → r ≡ pack_verdict a
    → decision a s t i image work ≡ d → packed_decision r s t i image work ≡ pack_decision d
packed_decision_lem a s t i image work d r packs says =
    ap (λ (n : ℕ). packed_decision n s t i image work) packs ∙ ap pack_decision says

-- a part that shows where a clause is broken fits 40 bits
pub part_fits : (stem from : ℕ) → pack_part stem from < 2 ^ 40
part_fits stem from = go (ltb from stem)
  where
    go : (b : Bool)
        → cond b (65536 + 2 ^ 24 * (from % 65536)) (131072 + 2 ^ 24 * ((from - stem) % 65536)) < 2 ^ 40
    go true = omega arith
    go false = omega arith
