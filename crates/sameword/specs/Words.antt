-- Whether two lassos are one word, and so one plan that is written in two ways (02, R-6).
use Rattle.std.specs.Prelude.{ℕ, zero, suc, ◌+◌, max, ◌≡◌, List, Bool, true, ◌&&◌, length, eqb}
use Rattle.answer.specs.Result.{Result, accepted, refused, and_then, Check, fine}
use Rattle.lasso.specs.Lasso.{remaining, letter, lasso_check}

-- the words of two lassos without skipped letters are one: their letters agree at each i (R-6, sentence 2)
abbrev pub SameWord : (stem cycle otherStem otherCycle : List ℕ) → Type 0
SameWord stem cycle otherStem otherCycle = (i : ℕ) → letter stem cycle i ≡ letter otherStem otherCycle i

-- whether the first n letters of two words agree
unfoldable pub agree : (word other : ℕ → ℕ) (n : ℕ) → Bool
agree word other zero = true
agree word other (suc n) = agree word other n && eqb (word n) (other n)

-- 8, 9 or 28 of the second of two lassos: its place is 1
abbrev pub of_second : Check → Check
of_second (accepted u) = fine
of_second (refused number place) = refused number 1

module _ (stem cycle otherStem otherCycle : List ℕ) where
  -- so many letters tell: those of the longer stem, and behind it as many as both cycles have together
  abbrev pub telling : ℕ
  telling = max (length stem) (length otherStem) + length cycle + length otherCycle

  -- whether the words of lassos without skipped letters are one: the letters that tell agree, and then all do
  -- (`words_agree_exactly`, proofs/Periods.antt)
  unfoldable pub words_agree : Bool
  words_agree = agree (letter stem cycle) (letter otherStem otherCycle) telling

-- ---- two lassos as they are lent

module _ (stem cycle otherStem otherCycle : List ℕ) where
  -- the letters that remain of the two lassos are one word (R-6, sentence 2, with R-9)
  abbrev pub SameRemaining : Type 0
  SameRemaining = SameWord (remaining stem) (remaining cycle) (remaining otherStem) (remaining otherCycle)

  -- 8, 9 and 28 of the first lasso, at place 0, then of the second, at place 1
  unfoldable pub lassos_check : Check
  lassos_check = and_then (lasso_check stem cycle) (λ _. of_second (lasso_check otherStem otherCycle))

  -- the call compare: the first refusal, else whether the words are one, of the letters that remain
  unfoldable pub compared : Result Bool
  compared =
      and_then lassos_check
      (λ _. accepted (words_agree (remaining stem) (remaining cycle) (remaining otherStem) (remaining otherCycle)))
