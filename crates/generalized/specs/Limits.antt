-- How large the first walk may become.
use Rattle.std.specs.Prelude.{ℕ}

-- the most terms of a product, a partial one too (01, Numbers that come from the state, 21)
abbrev pub max_product : ℕ
max_product = 128

-- the most transitions of the first walk (01, Numbers that come from the state, 22)
abbrev pub max_generalized_transitions : ℕ
max_generalized_transitions = 1024

-- the most states of the first walk (01, Numbers that come from the state, 23)
abbrev pub max_generalized_states : ℕ
max_generalized_states = 128
