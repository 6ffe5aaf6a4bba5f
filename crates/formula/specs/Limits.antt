-- How large a rule may be.
use Rattle.std.specs.Prelude.{ℕ, ◌*◌}

-- the most nodes, each of three bytes (01, Rules and when a plan keeps one, sentence 1)
abbrev pub max_nodes : ℕ
max_nodes = 32

-- the most bytes (01, Numbers that come from the input, 1)
abbrev pub rule_bytes : ℕ
rule_bytes = 3 * max_nodes

-- the most untils (01, Numbers that come from the input, 7)
abbrev pub max_untils : ℕ
max_untils = 8

-- how many propositions there are, 0 to 6: bit 7 of a letter says that it is skipped (01, Numbers that come from the
-- input, 4, with 02, R-9)
abbrev pub propositions : ℕ
propositions = 7
