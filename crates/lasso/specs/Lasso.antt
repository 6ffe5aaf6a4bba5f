-- A lasso: a stem, and a cycle that is taken round and round (document 01: a plan, its stem and its loop). A letter is
-- one byte, in which bit p is proposition p (a slot with its marks); bit 7 says that it is skipped (02, R-9). A lasso
-- is lent with its skipped letters; its word is that of the letters that remain.
use Rattle.std.specs.Prelude.{ℕ, zero, suc, ◌+◌, ◌-◌, ◌%◌, ◌≡◌, List, [], ◌∷◌, Bool, true, false, cond, get_or, length}
use Rattle.std.specs.Prelude.{leb, ltb}
use Rattle.answer.specs.Result.{and_then, Check, require}

-- bit 7 of a letter, which is set where it is skipped (02, R-9, sentence 1)
abbrev pub skipped : ℕ
skipped = 128

-- whether a letter remains: it is below 128, and so, being a byte, has bit 7 clear (02, R-9, sentences 2 and 3;
-- `remains_exactly`, proofs/RemainingLetters.antt)
abbrev pub remains : ℕ → Bool
remains x = ltb x skipped

-- the letters of a stem or of a cycle that remain, in their order (02, R-9, sentence 3)
unfoldable pub remaining : List ℕ → List ℕ
remaining [] = []
remaining (x ∷ xs) = elim (remains x) [ true ↦ x ∷ remaining xs | false ↦ remaining xs ]

-- letter i of the word of two lists: the stem's as far as it reaches, and behind it the cycle's, again and again (01,
-- Rules and when a plan keeps one, sentence 8). The word of a lasso is this one of what remains of its stem and of its
-- cycle, `letter (remaining stem) (remaining cycle)`: `remaining_letters` (proofs/RemainingLetters.antt) says what its
-- letter i is.
unfoldable pub letter : (stem cycle : List ℕ) → ℕ → ℕ
letter stem cycle i =
    cond (ltb i (length stem)) (get_or stem i 0) (get_or cycle ((i - length stem) % length cycle) 0)

-- positions run over stem and cycle; after the last comes the cycle's first
unfoldable pub after : (stem cycle : List ℕ) (position : ℕ) → ℕ
after stem cycle p = cond (ltb (suc p) (length stem + length cycle)) (suc p) (length stem)

-- the most letters that a lasso may have, stem and cycle together: one for each half hour of a week (01, Numbers that
-- come from the input, 9, with the figure of 02, R-2)
abbrev pub max_letters : ℕ
max_letters = 336

-- 8: the cycle has no letter; then 9: stem and cycle have over the limit together, skipped ones counted; then 28: no
-- letter of the cycle remains (02, R-9, sentences 5 and 7)
unfoldable pub lasso_check : (stem cycle : List ℕ) → Check
lasso_check stem cycle =
    and_then (require (ltb 0 (length cycle)) 8 0)
    (λ _. and_then (require (leb (length stem + length cycle) max_letters) 9 0)
    (λ _. require (ltb 0 (length (remaining cycle))) 28 0))

-- ---- which letter of the word as it is lent letter i is

-- how many of the first n letters of a word remain
unfoldable pub remaining_before : (word : ℕ → ℕ) (n : ℕ) → ℕ
remaining_before word zero = 0
remaining_before word (suc n) = remaining_before word n + cond (remains (word n)) 1 0

-- x is the i-th letter of a word that remains, counted from 0: it stands at a place where the letter remains, with i
-- such places before it (02, R-9, sentence 3)
pub record IthRemaining (word : ℕ → ℕ) (i x : ℕ) : Type 0 where
  pub place : ℕ
  pub there : word place ≡ x
  pub stays : remains x ≡ true
  pub before : remaining_before word place ≡ i
