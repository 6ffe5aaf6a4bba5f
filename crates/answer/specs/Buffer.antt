-- What a call that stores bytes in a lent buffer comes to: how many, or a refusal, and the buffer.
use Rattle.std.specs.Prelude.{ℕ, List}
use Rattle.answer.specs.Result.{Result}

-- an answer, and the lent buffer afterwards
pub record Buffer : Type 0 where
  pub answer : Result ℕ
  pub bytes : List ℕ

abbrev pub buffer : Result ℕ → List ℕ → Buffer
buffer a bytes = record { answer = a; bytes = bytes }
