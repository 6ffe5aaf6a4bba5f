-- Where a letter that remains stands among the letters as they are lent (02, R-11, sentences 4 and 7).
use Rattle.std.specs.Prelude.{ℕ, zero, suc, ◌+◌, ◌-◌, List, [], ◌∷◌, cond, length, ltb}
use Rattle.lasso.specs.Lasso.{remains, remaining}

-- at which index of the letters as lent remaining letter i stands
unfoldable pub place_in : List ℕ → (i : ℕ) → ℕ
place_in [] i = 0
place_in (x ∷ xs) zero = cond (remains x) zero (suc (place_in xs zero))
place_in (x ∷ xs) (suc i) = suc (place_in xs (cond (remains x) i (suc i)))

-- the same of a lasso, whose cycle's indices follow on those of the stem
unfoldable pub place_of : (stem cycle : List ℕ) (i : ℕ) → ℕ
place_of stem cycle i =
    cond (ltb i (length (remaining stem))) (place_in stem i)
    (length stem + place_in cycle (i - length (remaining stem)))
