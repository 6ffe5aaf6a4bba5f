-- Two words that repeat agree for ever as soon as they agree on what neither repeats and on as many letters behind it
-- as both periods have together; so the letters that are looked at tell. Assumes nothing.
use Prim.Native.Nat.{ℕ, zero, suc, ◌+◌, ◌-◌, ◌<◌, ◌≤◌, max}
use mathlib.Core.Path.{◌≡◌, sym, ◌∙◌, ap}
use mathlib.Core.List.{List}
use mathlib.Core.Logic.{◌↔◌}
use mathlib.Core.Bool.{true}
use native.Mathlib.Omega.{arith}
use native.Mathlib.Decide.{dec_lt}
use lib.ListN.{length}
use Rattle.lasso.specs.Lasso.{letter}
use Rattle.lasso.proofs.Letters.{letter_round}
use Rattle.sameword.specs.Words.{SameWord, telling, words_agree}
use Rattle.sameword.proofs.Agreement.{agree_each, each_agree}

-- the words repeat from s on, with the periods p and q, and agree on the first s + p + q letters
module _ (word other : ℕ → ℕ) (s p q : ℕ) (some : 0 < p) (some-other : 0 < q)
    (round : (i : ℕ) → s ≤ i → word (i + p) ≡ word i) (round-other : (i : ℕ) → s ≤ i → other (i + q) ≡ other i)
    (first : (i : ℕ) → i < s + p + q → word i ≡ other i) where
  -- a later letter of one word is the one p before it, that of the other word there, the one q before that; and back
  -- in the other order
  agree_below : (b i : ℕ) → i < b → word i ≡ other i
  agree_below zero i lt = absurd (omega arith)
  agree_below (suc b) i lt =
      go (dec_lt i (s + p + q)) (agree_below b (i - p)) (agree_below b (i - p - q)) (agree_below b (i - q))
    where
      go : Dec (i < s + p + q) → (i - p < b → word (i - p) ≡ other (i - p))
          → (i - p - q < b → word (i - p - q) ≡ other (i - p - q)) → (i - q < b → word (i - q) ≡ other (i - q))
          → word i ≡ other i
      go (yes early) less-p less_both less-q = first i early
      go (no late) less-p less_both less-q =
          let back_p : i ≡ i - p + p = omega arith in
          let back_q : i ≡ i - q + q = omega arith in
          let p_then_q : i - p ≡ i - p - q + q = omega arith in
          let q_then_p : i - q ≡ i - p - q + p = omega arith in
          ap word back_p ∙ round (i - p) (omega arith)
          ∙ less-p (omega arith)
          ∙ ap other p_then_q ∙ round-other (i - p - q) (omega arith)
          ∙ sym (less_both (omega arith))
          ∙ sym (ap word q_then_p ∙ round (i - p - q) (omega arith))
          ∙ less-q (omega arith)
          ∙ sym (ap other back_q ∙ round-other (i - q) (omega arith))

  periods_agree : (i : ℕ) → word i ≡ other i
  periods_agree i = agree_below (suc i) i (omega arith)

module _ (stem cycle otherStem otherCycle : List ℕ) (some : 0 < length cycle) (some-other : 0 < length otherCycle) where
  -- R-6: the letters agree for ever as soon as they agree on the longer stem and on as many behind it as both cycles
  -- have together
  pub agree_for_ever : ((i : ℕ) → i < telling stem cycle otherStem otherCycle
      → letter stem cycle i ≡ letter otherStem otherCycle i)
      → SameWord stem cycle otherStem otherCycle
  agree_for_ever first =
      periods_agree (letter stem cycle) (letter otherStem otherCycle) (max (length stem) (length otherStem))
      (length cycle) (length otherCycle) some some-other (λ i le. letter_round stem cycle i (omega arith))
      (λ i le. letter_round otherStem otherCycle i (omega arith)) first

  -- so those that are looked at agree exactly where all do
  pub words_agree_exactly : (words_agree stem cycle otherStem otherCycle ≡ true)
      ↔ SameWord stem cycle otherStem otherCycle
  unfolding words_agree
  words_agree_exactly =
      let n = telling stem cycle otherStem otherCycle in
      (λ e. agree_for_ever (agree_each _ _ n e), λ same. each_agree _ _ n (λ i lt. same i))
