-- Looking up the records of an image that is not refused.
use Rattle.std.specs.Prelude.{ℕ, ◌+◌, ◌*◌, ◌<◌, ◌≤◌, ◌≡◌, List, cond, get_or, length}
use Rattle.answer.specs.Bytes.{number_at}
use Rattle.automaton.specs.Automaton.{Transition, Automaton, no_state, at_rest}
use Rattle.automaton.specs.Limits.{max_states}
use Rattle.image.specs.Image.{transitions_at, image_length, contents_bytes, accepting_at, rest_at}
use Rattle.image.specs.Image.{states_body, transitions_body, initial_body}
use Rattle.image.specs.Reader.{counts_at, count_sum, automaton_from}

-- the automaton of the image
abbrev pub image_automaton : List ℕ → Automaton
image_automaton image =
    automaton_from (counts_at image)
    (states_body image) (transitions_body (counts_at image) image) (initial_body (counts_at image) image)

-- the transition record at a byte of the image
abbrev pub record_at : List ℕ → ℕ → Transition
record_at image at =
    record { must = get_or image at 0; must_not = get_or image (at + 1) 0; target = number_at image (at + 2) }

-- the accepting byte of state q is 1
abbrev pub AcceptingByte : List ℕ → ℕ → Type 0
AcceptingByte image q = get_or image (accepting_at + 4 * q) 0 ≡ 1

-- the last byte of state q is 1 if the state is at rest and 0 if it is not (02, R-5)
abbrev pub RestByte : List ℕ → ℕ → Type 0
RestByte image q =
    get_or image (rest_at + 4 * q) 0 ≡ cond (at_rest q (get_or (image_automaton image).states q no_state)) 1 0

-- how many transitions state q has
abbrev pub transition_count_of : List ℕ → ℕ → ℕ
transition_count_of image q = number_at image (contents_bytes + 4 * q)

-- where the transition records of state q begin
abbrev pub records_at : List ℕ → ℕ → ℕ
records_at image q = transitions_at (counts_at image) + 4 * count_sum (states_body image) q

-- what is known of an image that is not refused by 10 to 13
pub record Readable (image : List ℕ) : Type 0 where
  pub few : (counts_at image).states ≤ max_states
  pub size : length image ≡ image_length (counts_at image)
  pub sum : count_sum (states_body image) (counts_at image).states ≡ (counts_at image).transitions
  pub rests : (q : ℕ) → q < (counts_at image).states → RestByte image q
  pub targets : (i : ℕ) → i < (counts_at image).transitions
      → number_at (transitions_body (counts_at image) image) (4 * i + 2) < (counts_at image).states
  pub starts : (i : ℕ) → i < (counts_at image).initial
      → number_at (initial_body (counts_at image) image) (2 * i) < (counts_at image).states
