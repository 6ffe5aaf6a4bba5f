-- The call normalize: its answer, its place and every lent byte, for every input (R-3).
use Rattle.std.specs.Prelude.{List, ℕ, leb, length}
use Rattle.answer.specs.Result.{Result, accepted, refused, and_then, Check, require}
use Rattle.answer.specs.Bytes.{filled}
use Rattle.answer.specs.Buffer.{Buffer, buffer}
use Rattle.formula.specs.Limits.{rule_bytes}
use Rattle.normalform.specs.NormalForm.{normal_form}

-- 25, at place 0: a buffer too short for the longest first-edition rule
abbrev pub rule_room : List ℕ → Check
rule_room lent = require (leb rule_bytes (length lent)) 25 0

-- a first-edition rule at the buffer's start, and zeros behind it to its end; a refusal changes no byte
abbrev pub rule_stored : Result (List ℕ) → (lent : List ℕ) → Buffer
rule_stored (accepted bytes) lent = buffer (accepted (length bytes)) (filled lent bytes)
rule_stored (refused number place) lent = buffer (refused number place) lent

-- 25, then 1 to 6, then 26
unfoldable pub normalizes : (rule form : List ℕ) → Buffer
normalizes rule form = rule_stored (and_then (rule_room form) (λ _. normal_form rule)) form
