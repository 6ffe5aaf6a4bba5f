-- Deciding a lasso by a written rule, translate, write and judge in a row: answer, place and every lent byte, for every
-- input; and what such an answer is to say (demand 3).
use Rattle.std.specs.Prelude.{ℕ, ◌≡◌, List, ◌++◌, length, drop}
use Rattle.answer.specs.Result.{Result, accepted, refused, and_then, Check}
use Rattle.normalform.specs.Written.{SatisfiesWritten}
use Rattle.normalform.specs.NormalForm.{written_checked}
use Rattle.automaton.specs.Automaton.{Automaton}
use Rattle.translation.specs.Translate.{written_translation}
use Rattle.automaton.specs.Records.{state_records, transition_records, initial_records}
use Rattle.automaton.specs.Tables.{table_check}
use Rattle.answer.specs.Bytes.{zeros, filled}
use Rattle.image.specs.Image.{image_bytes}
use Rattle.image.specs.Calls.{buffer_check}
use Rattle.judge.specs.Judge.{Finding, Exactly, work_check, found}
use Rattle.lasso.specs.Lasso.{remaining, lasso_check}

-- 25: one of the three tables, the image's buffer or the working bytes is too short for its call
unfoldable pub room_check : (states transitions initial image work : List ℕ) → Check
room_check states transitions initial image work =
    and_then (table_check states transitions initial) (λ _. and_then (buffer_check image) (λ _. work_check work))

-- what is refused before anything is stored: 25, the rule's 1 to 6, 26 and 7, the lasso's 8, 9 and 28
unfoldable pub input_check : (rule stem cycle states transitions initial image work : List ℕ) → Check
input_check rule stem cycle states transitions initial image work =
    and_then (room_check states transitions initial image work)
    (λ _. and_then (written_checked rule) (λ _. lasso_check stem cycle))

-- an answer, and the five lent buffers afterwards
pub record Decision : Type 0 where
  pub answer : Result Finding
  pub states : List ℕ
  pub transitions : List ℕ
  pub initial : List ℕ
  pub image : List ℕ
  pub work : List ℕ

abbrev pub decision : Result Finding → (states transitions initial image work : List ℕ) → Decision
decision answer s t i image work =
    record { answer = answer; states = s; transitions = t; initial = i; image = image; work = work }

-- Each buffer as the last call that stores in it leaves it: the automaton in the tables, its image at the start of the
-- buffer, the working bytes zero. After 20 to 24 the tables are zero, and the rest is as it was.
abbrev pub concluded : Result Automaton → (stem cycle states transitions initial image work : List ℕ) → Decision
concluded (accepted a) stem cycle s t i image work =
    decision (accepted (found a (remaining stem) (remaining cycle)))
    (filled s (state_records a)) (filled t (transition_records a)) (filled i (initial_records a))
    (image_bytes a ++ drop (length (image_bytes a)) image) (zeros work)
concluded (refused number place) stem cycle s t i image work =
    decision (refused number place) (zeros s) (zeros t) (zeros i) image work

-- a refusal of the input leaves every byte as it was
abbrev pub decided_by : Check → Decision → (states transitions initial image work : List ℕ) → Decision
decided_by (accepted u) rest s t i image work = rest
decided_by (refused number place) rest s t i image work = decision (refused number place) s t i image work

unfoldable pub decided : (rule stem cycle states transitions initial image work : List ℕ) → Decision
decided rule stem cycle s t i image work =
    decided_by (input_check rule stem cycle s t i image work)
    (concluded (written_translation rule) stem cycle s t i image work) s t i image work

-- ---- what the answer says

-- every refusal in its order: 25, 1 to 6, 26 and 7, 8, 9 and 28, then the rule's 20 to 24
unfoldable pub decidable : (rule stem cycle states transitions initial image work : List ℕ) → Check
decidable rule stem cycle s t i image work =
    and_then (input_check rule stem cycle s t i image work)
    (λ _. and_then (written_translation rule) (λ _. accepted tt))

-- the first refusal where there is one, else kept exactly where P holds and broken exactly where it does not
abbrev pub Answers : Result Finding → Check → Type 0 → Type 0
Answers r (accepted _) P = Exactly r P
Answers r (refused number place) P = r ≡ refused number place

-- demand 3 of one answer: P is that the letters of the lasso that remain satisfy the rule (02, R-9)
abbrev pub Decides : Result Finding → (rule stem cycle states transitions initial image work : List ℕ) → Type 0
Decides r rule stem cycle s t i image work =
    Answers r (decidable rule stem cycle s t i image work) (SatisfiesWritten rule (remaining stem) (remaining cycle))
