-- What showwatch shows of the records of a table: numbers of two bytes, and bytes in hexadecimal (01, Watchers to hold
-- against the definitions, the paragraph after P4's lines).
use Rattle.std.specs.Prelude.{ℕ, ◌+◌, ◌-◌, ◌*◌, ◌/◌, ◌%◌, cond, List, [], ◌∷◌, length, ltb, leb}
use Rattle.answer.specs.Bytes.{number_at}
use Rattle.automaton.specs.Limits.{max_transitions}

-- a hexadecimal digit in ASCII: 0 stands at 48, A at 65
abbrev pub digit : ℕ → ℕ
digit n = cond (ltb n 10) (48 + n) (65 + (n - 10))

-- a label in two digits for must and two for must_not, a space (32) after each
abbrev pub label : (must must_not : ℕ) → List ℕ
label must must_not =
    digit (must / 16) ∷ (digit (must % 16) ∷ (32 ∷
    (digit (must_not / 16) ∷ (digit (must_not % 16) ∷ (32 ∷ [])))))

-- where the transitions of state i end that begin at from: after as many as its record says. Past the most
-- transitions that an automaton has, and past the last record, nothing is shown.
unfoldable pub row_end : (states : List ℕ) (i from : ℕ) → ℕ
row_end states i from =
    cond (ltb max_transitions from) from (cond (leb (length states / 4) i) from (from + number_at states (i * 4)))
