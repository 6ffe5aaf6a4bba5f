-- What the functions under the calls write and read say.
use Rattle.std.specs.Prelude.{ℕ, ◌+◌, ◌*◌, ◌≤◌, ◌≡◌, List, ◌++◌, get_or, length, take, drop, eqb}
use Rattle.answer.specs.Result.{accepted}
use Rattle.automaton.specs.Automaton.{State}
use Rattle.automaton.specs.Limits.{max_states, max_transitions, max_initial}
use Rattle.automaton.specs.Tables.{Counts}
use Rattle.answer.specs.Bytes.{number_at, filled}
use Rattle.image.specs.Image.{image_length, contents, states_body, transitions_body, initial_body}
use Rattle.image.specs.Reader.{transitions_from, count_sum}
use Rattle.answer.specs.Buffer.{Buffer, buffer}

-- the bytes of a written image: the contents, then the used bytes of three tables
abbrev pub joined_bodies : Counts → (states transitions initial : List ℕ) → List ℕ
joined_bodies c s t i =
    contents c ++ (take (4 * c.states) s ++ (take (4 * c.transitions) t ++ take (2 * c.initial) i))

-- and the buffer that has them at its start
abbrev pub joined_over : Counts → (states transitions initial image : List ℕ) → Buffer
joined_over c s t i image = buffer (accepted (image_length c)) (joined_bodies c s t i ++ drop (image_length c) image)

-- tables that have as many records as are counted, and no more states than there may be
abbrev pub HasRecords : Counts → (states transitions initial : List ℕ) → Type 0
HasRecords c s t i =
    (c.states ≤ max_states) × (4 * c.states ≤ length s) × (4 * c.transitions ≤ length t) × (2 * c.initial ≤ length i)

-- counts that 10 lets pass
pub record Small (c : Counts) : Type 0 where
  pub states : c.states ≤ max_states
  pub transitions : c.transitions ≤ max_transitions
  pub initial : c.initial ≤ max_initial

-- and an image with such counts, as long as they say
pub record Sized (c : Counts) (image : List ℕ) : Type 0 where
  pub small : Small c
  pub size : length image ≡ image_length c

-- three tables before and after an image's bodies are stored in them
pub record Loads (image : List ℕ) (c : Counts) (s t i states transitions initial : List ℕ) : Type 0 where
  pub states_are : states ≡ filled s (take (4 * c.states) (states_body image))
  pub transitions_are : transitions ≡ filled t (take (4 * c.transitions) (transitions_body c image))
  pub initial_are : initial ≡ filled i (take (2 * c.initial) (initial_body c image))

-- state q by itself, as its record and those of its transitions tell it
abbrev pub state_at : (states transitions : List ℕ) → ℕ → State
state_at states transitions q = record {
  accepting = eqb (get_or states (4 * q + 2) 0) 1;
  transitions = transitions_from (number_at states (4 * q)) (drop (4 * count_sum states q) transitions);
}
