-- How many bits and words the rows have by which a lasso is judged.
use Rattle.std.specs.Prelude.{ℕ, ◌*◌, ◌/◌}
use Rattle.automaton.specs.Limits.{max_states}

-- the bits of a row, four words of 64
abbrev pub row_bits : ℕ
row_bits = 4 * 64

-- how far above a bit the one lies that says the same of runs that have met an accepting state: half a row
abbrev pub met_bit : ℕ
met_bit = row_bits / 2

-- the words of the rows of all states
abbrev pub rows_words : ℕ
rows_words = 4 * max_states
