-- Sets of small numbers as the bits of one number.
use Rattle.std.specs.Prelude.{ℕ, ◌/◌, ◌%◌, ◌^◌, ◌≡◌, Bool, eqb}

-- whether n is in the set d: bit n stands for n (01, Duties, covers and terms, sentence 2, of the nodes that are owed)
abbrev pub has : (d n : ℕ) → Bool
has d n = eqb (d / 2 ^ n % 2) 1

-- the same as a type: bit n of d is set
pub record Has (d n : ℕ) : Type 0 where
  pub set : d / 2 ^ n % 2 ≡ 1
