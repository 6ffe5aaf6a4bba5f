-- How many terms a node may have, and how many places a table has for them.
use Rattle.std.specs.Prelude.{ℕ, suc}

-- the most terms of a node, and the most sets of its cover (01, Numbers that come from the state, 20)
abbrev pub max_terms : ℕ
max_terms = 64

-- a node's row in a table: how many terms it has, then these
abbrev pub row_places : ℕ
row_places = suc max_terms
