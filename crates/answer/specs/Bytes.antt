-- Numbers in two bytes, and lent bytes that are set to zero or filled from their front.
use Rattle.std.specs.Prelude.{ℕ, ◌+◌, ◌-◌, ◌*◌, ◌/◌, ◌%◌, List, [], ◌∷◌, ◌++◌, get_or, length, replicate}

-- a number in two bytes, the low one before the high one (01, The image, sentence 2)
unfoldable pub two_bytes : ℕ → List ℕ
two_bytes n = n % 256 ∷ (n / 256 ∷ [])

-- the number in two bytes, the low one before the high one (01, The image, sentence 2)
abbrev pub number : (low high : ℕ) → ℕ
number low high = low + 256 * high

-- the number in the two bytes from index i on
abbrev pub number_at : List ℕ → ℕ → ℕ
number_at bytes i = number (get_or bytes i 0) (get_or bytes (i + 1) 0)

-- a table as 20 to 24 leave it: nothing but zeros (01, Numbers that come from the state, last paragraph, sentence 1)
abbrev pub zeros : List ℕ → List ℕ
zeros table = replicate (length table) 0

-- a table as acceptance leaves it: these bytes, and zeros behind them to its end (01, Numbers that come from the
-- state, last paragraph, sentence 3)
abbrev pub filled : (table bytes : List ℕ) → List ℕ
filled table bytes = bytes ++ replicate (length table - length bytes) 0
