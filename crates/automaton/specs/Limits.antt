-- How large an automaton may be, and how many bytes a lent table has for it.
use Rattle.std.specs.Prelude.{ℕ, ◌*◌}

-- the most states (01, First walk and second walk, the last paragraph; Numbers that come from the input, 10)
abbrev pub max_states : ℕ
max_states = 96

-- the most transitions of one state (01, Numbers that come from the input, 11)
abbrev pub max_of_state : ℕ
max_of_state = 128

-- the most transitions, every state having its most: 12,288 (01, First walk and second walk, the last paragraph;
-- Numbers that come from the input, 10)
abbrev pub max_transitions : ℕ
max_transitions = max_states * max_of_state

-- the most initial numbers (01, Numbers that come from the input, 10)
abbrev pub max_initial : ℕ
max_initial = 96

-- the bytes of a table with room for the most states, each a record of 4 (01, Numbers that come from the state, 25;
-- The image, sentence 5)
abbrev pub states_bytes : ℕ
states_bytes = 4 * max_states

-- and for the most transitions, each a record of 4 (01, Numbers that come from the state, 25; The image, sentence 6)
abbrev pub transitions_bytes : ℕ
transitions_bytes = 4 * max_transitions

-- and for the most initial numbers, each a record of 2 (01, Numbers that come from the state, 25; The image,
-- sentence 7)
abbrev pub initial_bytes : ℕ
initial_bytes = 2 * max_initial
