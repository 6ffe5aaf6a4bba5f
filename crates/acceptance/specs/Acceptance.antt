-- The untils of a rule by number, and which of them a term fulfils: the acceptance of the generalized automaton, whose
-- transitions are terms.
use Rattle.std.specs.Prelude.{ℕ, zero, suc, ◌+◌, ◌^◌, List, Bool, cond, not, ◌&&◌, ◌||◌, get_or, length, eqb}
use Rattle.std.specs.Int.Bits.{bit_or}
use Rattle.sets.specs.Sets.{any}
use Rattle.sets.specs.Bits.{has}
use Rattle.formula.specs.Rule.{node_count, untils}
use Rattle.formula.specs.Formula.{tree}
use Rattle.term.specs.Term.{Term, terms}

-- x is within y, as sets
abbrev pub within : ℕ → ℕ → Bool
within x y = eqb (bit_or x y) y

-- u, a term of the until f, shows that t fulfils f: part by part u is within t, and u does not owe f again (01, First
-- walk and second walk, sentence 10)
unfoldable pub shows : (f : ℕ) (t u : Term) → Bool
shows f t u =
    within u.must t.must && (within u.must_not t.must_not &&
    (within u.obligations t.obligations && not (has u.obligations f)))

-- whether t fulfils the until f (document 01: is good for it): t does not owe f, or a term of f shows that it does
-- fulfil it (01, First walk and second walk, sentence 10)
unfoldable pub fulfils : List ℕ → (f : ℕ) → Term → Bool
fulfils rule f t = not (has t.obligations f) || any (shows f t) (terms (tree rule f))

-- r, the count of a rule's untils; the lowest until node has number 1, the highest has r (01, First walk and second
-- walk, sentence 9)
abbrev pub until_count : List ℕ → ℕ
until_count rule = length (untils rule (node_count rule))

-- whether t fulfils until k + 1
abbrev pub fulfils_next : List ℕ → (k : ℕ) → Term → Bool
fulfils_next rule k t = fulfils rule (get_or (untils rule (node_count rule)) k 0) t

-- the set of the numbers below n of which a test holds, a bit each
unfoldable pub bits_of : (ℕ → Bool) → ℕ → ℕ
bits_of test zero = 0
bits_of test (suc n) = bits_of test n + cond (test n) (2 ^ n) 0

-- which untils t fulfils, in one byte: bit k stands for until k + 1
unfoldable pub fulfilment : List ℕ → Term → ℕ
fulfilment rule t = bits_of (λ k. fulfils_next rule k t) (until_count rule)
