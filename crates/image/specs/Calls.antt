-- The calls write and read: answer, place and every lent byte, for every input.
use Rattle.std.specs.Prelude.{ℕ, List, ◌++◌, length, drop, leb}
use Rattle.answer.specs.Result.{Result, accepted, refused, and_then, Check, require}
use Rattle.answer.specs.Buffer.{Buffer, buffer}
use Rattle.automaton.specs.Automaton.{Automaton}
use Rattle.automaton.specs.Tables.{Counts, counts, Outcome, outcome, tabled, table_check}
use Rattle.image.specs.Image.{image_bytes, largest_image}
use Rattle.image.specs.Reader.{counts_fit, read_tables, read_image}

-- 25, at place 0: a buffer too small for the largest image (01, Numbers that come from the state, 25)
abbrev pub buffer_check : List ℕ → Check
buffer_check image = require (leb largest_image (length image)) 25 0

-- the buffer with the image at its start, and behind it what was there before; a refusal changes no byte (01, Numbers
-- that come from the state, last paragraph, sentence 4)
abbrev pub written : Result Automaton → (image : List ℕ) → Buffer
written (accepted a) image =
    buffer (accepted (length (image_bytes a))) (image_bytes a ++ drop (length (image_bytes a)) image)
written (refused number place) image = buffer (refused number place) image

-- 10 of the counts, then 11 to 13 of the tables
abbrev pub read_counted : Counts → (states transitions initial : List ℕ) → Result Automaton
read_counted c s t i = and_then (require (counts_fit c) 10 0) (λ _. read_tables c s t i)

-- 25 of the tables and the buffer, then 10 of the counts, then 11 to 13 of the tables (01, Numbers that come from the
-- input, the sentence on the writer)
unfoldable pub writes : Counts → (states transitions initial image : List ℕ) → Buffer
writes c s t i image =
    written (and_then (table_check s t i) (λ _. and_then (buffer_check image) (λ _. read_counted c s t i))) image

-- the automaton in the tables; a refusal leaves all as it was
abbrev pub loaded : Result Automaton → (states transitions initial : List ℕ) → Outcome
loaded (accepted a) s t i = tabled a s t i
loaded (refused number place) s t i = outcome (refused number place) s t i

-- 25, then 10 to 13
unfoldable pub read_into : (image states transitions initial : List ℕ) → Outcome
read_into image s t i = loaded (and_then (table_check s t i) (λ _. read_image image)) s t i

-- what the call check says of an image: its counts, or its refusal by 10 to 13
unfoldable pub checks : List ℕ → Result Counts
checks image = and_then (read_image image) (λ a. accepted (counts a))
