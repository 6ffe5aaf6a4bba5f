-- What the rows of bits hold while a lasso is judged, and what each step of judging makes of them. For every state
-- there is a row of `row_bits` in four words of 64. Bit p of row q, p being a state: a run that stood in p when the pass
-- began stands in q now. Passes begin in those states alone in which a run from an initial state stands when some pass
-- begins. Bit `met_bit` + p: the same as bit p, of a run that has stood in an accepting state since the pass began, now
-- included and then not: a run that comes back to where it stood then is there now.
use Rattle.std.specs.Prelude.{ℕ, zero, suc, ◌+◌, ◌*◌, ◌/◌, ◌%◌, ◌<◌, ◌≡◌, List, Bool, true, false, ◌⊎◌, get_or}
use Rattle.std.specs.Prelude.{length}
use Rattle.std.specs.Int.Bits.{bit_or}
use Rattle.answer.specs.Bytes.{number_at}
use Rattle.sets.specs.Bits.{Has}
use Rattle.automaton.specs.Automaton.{Automaton, reads, Step, Accepts}
use Rattle.image.specs.Lookup.{record_at}
use Rattle.judge.specs.Limits.{row_bits, met_bit}

-- ---- rows

-- row q has bit k
pub record Token (rows : List ℕ) (q k : ℕ) : Type 0 where
  pub within : k < row_bits
  pub bit : Has (get_or rows (4 * q + k / 64) 0) (k % 64)

-- bit k is one of the upper half, and row q has the bit `met_bit` below it
pub record Lifted (Held : (q k : ℕ) → Type 0) (q k : ℕ) : Type 0 where
  pub low : ℕ
  pub half : low < met_bit
  pub high : k ≡ met_bit + low
  pub held : Held q low

-- the rows have these bits and no others
pub record Is (rows : List ℕ) (Held : (q k : ℕ) → Type 0) : Type 0 where
  pub only : (q k : ℕ) → Token rows q k → Held q k
  pub all : (q k : ℕ) → Held q k → Token rows q k

-- the rows have these bits more than before
abbrev pub Gains : (before after : List ℕ) (New : (q k : ℕ) → Type 0) → Type 0
Gains before after New = Is after (λ q k. Token before q k ⊎ New q k)

-- no row behind the first n has a bit: with n states no others are read or cleared
abbrev pub Confined : (n : ℕ) (rows : List ℕ) → Type 0
Confined n rows = (q k : ℕ) → Token rows q k → q < n

-- each word of a list has been joined with the one at its place in another
abbrev pub Ored : (before from after : List ℕ) → Type 0
Ored before from after = (i : ℕ) → i < length from → get_or after i 0 ≡ bit_or (get_or before i 0) (get_or from i 0)

-- a test tells whether something holds
pub record Tells (r : Bool) (P : Type 0) : Type 0 where
  pub yes : r ≡ true → P
  pub no : r ≡ false → P → ⊥

-- ---- one letter, several letters, several passes

-- the runs of row p in row q, by a transition of state p to q at letter x
abbrev pub Onward : (a : Automaton) (x : ℕ) (Held : (q k : ℕ) → Type 0) (p q k : ℕ) → Type 0
Onward a x Held p q k = Step a p x q × Held p k

-- the runs of a row by itself in row q, by the transition record at a byte of the image
abbrev pub ByRecord : (image : List ℕ) (at x : ℕ) (row : List ℕ) (q k : ℕ) → Type 0
ByRecord image at x row q k = (reads (record_at image at) x ≡ true) × ((q ≡ number_at image (at + 2)) × Token row 0 k)

-- after letter x: the runs that take a transition, and again those of them that now stand in an accepting state
pub data Moved (a : Automaton) (x : ℕ) (Held : (q k : ℕ) → Type 0) : (q k : ℕ) → Type 0 where
  moved : (p q k : ℕ) → Held p k → Step a p x q → Moved a x Held q k
  lifted : (p q k : ℕ) → k < met_bit → Held p k → Step a p x q → Accepts a q → Moved a x Held q (met_bit + k)

-- after the first i letters of w
abbrev pub After : (a : Automaton) (w : ℕ → ℕ) (Held : (q k : ℕ) → Type 0) (i q k : ℕ) → Type 0
After a w Held zero q k = Held q k
After a w Held (suc i) q k = Moved a (w i) (After a w Held i) q k

-- after all letters of a word
abbrev pub AfterAll : (a : Automaton) (word : List ℕ) (Held : (q k : ℕ) → Type 0) (q k : ℕ) → Type 0
AfterAll a word Held q k = After a (λ i. get_or word i 0) Held (length word) q k

-- the letters of a word have been read and the rows hold this; or, where the answer is false, no run is left
pub record Ran (r : Bool) (rows : List ℕ) (Held : (q k : ℕ) → Type 0) : Type 0 where
  pub on : r ≡ true → Is rows Held
  pub lost : r ≡ false → (q k : ℕ) → Held q k → ⊥

-- the runs to m, and those of the lower half lifted if m comes back to itself
abbrev pub Through : (rows : List ℕ) (m k : ℕ) → Type 0
Through rows m k = Token rows m k ⊎ (Token rows m (met_bit + m) × Lifted (Token rows) m k)

-- what is joined to row q when its bits m and `met_bit` + m are looked at
abbrev pub Via : (rows via : List ℕ) (m q k : ℕ) → Type 0
Via rows via m q k = (Token rows q m × Token via 0 k) ⊎ (Token rows q (met_bit + m) × Lifted (Token via) 0 k)

-- runs of which one leads to state m and one on from there to q; `round` goes from m to m in between
pub data Joined (Held : (q k : ℕ) → Type 0) (m q k : ℕ) : Type 0 where
  both : Held q m → Held m k → Joined Held m q k
  met : Held q (met_bit + m) → Lifted Held m k → Joined Held m q k
  round : Held q m → Held m (met_bit + m) → Lifted Held m k → Joined Held m q k

-- runs that have met an accepting state are runs
abbrev pub Covered : (rows : List ℕ) → Type 0
Covered rows = (q k : ℕ) → k < met_bit → Token rows q (met_bit + k) → Token rows q k

-- what holds of one pass, put together through the n states: of runs over one or more passes
pub data Linked (n : ℕ) (Held : (q k : ℕ) → Type 0) : (q k : ℕ) → Type 0 where
  one : (q k : ℕ) → Held q k → Linked n Held q k
  join : (m q k : ℕ) → m < n → q < n → Linked n Held q m → Linked n Held m k → Linked n Held q k
  join_met : (m q k : ℕ) → m < n → q < n → k < met_bit → Linked n Held q (met_bit + m) → Linked n Held m k
      → Linked n Held q (met_bit + k)
