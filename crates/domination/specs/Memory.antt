-- Domination among packed terms, each with a byte that tells which untils it fulfils, and what sifting them in place
-- comes to.
use Rattle.std.specs.Prelude.{ℕ, ◌≤◌, ◌<◌, ◌≡◌, List, map, Bool, not, ◌&&◌, length, get_or, take, eqb}
use Rattle.acceptance.specs.Acceptance.{within}
use Rattle.domination.specs.Domination.{undominated}

-- u, which fulfils the untils in more, dominates t, which fulfils those in byte
abbrev pub dominates_byte : (u more t byte : ℕ) → Bool
dominates_byte u more t byte = not (eqb u t) && (within u t && within byte more)

-- the same where untils says which untils a packed term fulfils
abbrev pub dominates_n : (untils : ℕ → ℕ) (u t : ℕ) → Bool
dominates_n untils u t = dominates_byte u (untils u) t (untils t)

-- the first count of ts rise, and each has its byte
pub record Sorted (ts bytes : List ℕ) (count : ℕ) : Type 0 where
  pub inside : count ≤ length ts
  pub bytes_inside : count ≤ length bytes
  pub rising : (i j : ℕ) → i < j → j < count → get_or ts i 0 < get_or ts j 0

-- the first n of ts are those of xs that none of xs dominates, and the first n of bytes are theirs
pub record Sifted (untils : ℕ → ℕ) (xs ts bytes : List ℕ) (n : ℕ) : Type 0 where
  pub are : take n ts ≡ undominated (dominates_n untils) xs
  pub told : take n bytes ≡ map untils (take n ts)

-- what is left of the first count of ts, whatever the untils are that their bytes tell
pub record Drops (ts bytes : List ℕ) (count : ℕ) (ts' bytes' : List ℕ) (n : ℕ) : Type 0 where
  pub few : n ≤ count
  pub sifted : (untils : ℕ → ℕ) → take count bytes ≡ map untils (take count ts)
      → Sifted untils (take count ts) ts' bytes' n
