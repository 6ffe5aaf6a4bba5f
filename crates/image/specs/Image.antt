-- The image of an automaton: the one byte string that stands for it (01, The image).
use Rattle.std.specs.Prelude.{ℕ, ◌+◌, ◌*◌, List, ◌++◌, drop}
use Rattle.automaton.specs.Automaton.{Automaton}
use Rattle.answer.specs.Bytes.{two_bytes}
use Rattle.automaton.specs.Limits.{states_bytes, transitions_bytes, initial_bytes}
use Rattle.automaton.specs.Records.{state_records, transition_records, initial_records}
use Rattle.automaton.specs.Tables.{Counts, counts}

-- an entry of the table of contents, in 6 bytes: of what kind a body's records are, how many it has and where it
-- begins (01, The image, sentences 2 and 3)
unfoldable pub entry : (kind count offset : ℕ) → List ℕ
entry kind count offset = two_bytes kind ++ (two_bytes count ++ two_bytes offset)

-- the bytes of an entry, and of the table of contents, three entries: where the states begin (01, The image, sentences
-- 3 and 4)
abbrev pub entry_bytes : ℕ
entry_bytes = 6

abbrev pub contents_bytes : ℕ
contents_bytes = 3 * entry_bytes

-- where the second number of each entry stands, the count of the states, the transitions and the initial numbers (01,
-- The image, sentence 3)
abbrev pub state_count_at : ℕ
state_count_at = 2

abbrev pub transition_count_at : ℕ
transition_count_at = entry_bytes + 2

abbrev pub initial_count_at : ℕ
initial_count_at = 2 * entry_bytes + 2

-- where the accepting byte of the first state stands (01, The image, sentence 5)
abbrev pub accepting_at : ℕ
accepting_at = contents_bytes + 2

-- and its last byte
abbrev pub rest_at : ℕ
rest_at = contents_bytes + 3

-- where the transitions begin, where the initial numbers begin and where the image ends: the states begin behind the
-- contents, and each body begins where the one before it ends; a state or a transition takes 4 bytes, an initial
-- number 2 (01, The image, sentence 4)
abbrev pub transitions_at : Counts → ℕ
transitions_at c = contents_bytes + 4 * c.states

abbrev pub initial_at : Counts → ℕ
initial_at c = transitions_at c + 4 * c.transitions

abbrev pub image_length : Counts → ℕ
image_length c = initial_at c + 2 * c.initial

-- the bytes of an image from each of its three bodies on
abbrev pub states_body : List ℕ → List ℕ
states_body image = drop contents_bytes image

abbrev pub transitions_body : Counts → List ℕ → List ℕ
transitions_body c image = drop (transitions_at c) image

abbrev pub initial_body : Counts → List ℕ → List ℕ
initial_body c image = drop (initial_at c) image

-- the bytes of an image with the most records of each kind: 49,746 (01, Numbers that come from the state, 25)
abbrev pub largest_image : ℕ
largest_image = contents_bytes + states_bytes + transitions_bytes + initial_bytes

-- the table of contents: kind 1 for the states, kind 2 for the transitions, kind 3 for the initial numbers (01, The
-- image, sentence 3)
unfoldable pub contents : Counts → List ℕ
contents c =
    entry 1 c.states contents_bytes
    ++ (entry 2 c.transitions (transitions_at c) ++ entry 3 c.initial (initial_at c))

-- an image: its table of contents, and behind it the three bodies (01, The image, sentences 1 and 4)
unfoldable pub image_bytes : Automaton → List ℕ
image_bytes a = contents (counts a) ++ (state_records a ++ (transition_records a ++ initial_records a))
