-- The codes of the initial pairs: each state's at level 0, none twice, so that they take the first numbers.
-- Assumes nothing.
use mathlib.Core.Path.{◌≡◌, refl, ◌∙◌}
use mathlib.Core.List.{List, [], ◌∷◌, ◌++◌, map, map-append}
use Prim.Native.Nat.{ℕ, zero, suc, ◌+◌, ◌/◌, ◌≤◌, ◌<◌}
use native.Mathlib.Numerals.{add-one}
use native.Mathlib.Omega.{arith}
use lib.ListN.{length, length-append, length-map}
use lib.Dec.{eqb}
use borrow.Author.Tests.{eq-eqb}
use Rattle.sets.proofs.Members.{all_last}
use Rattle.term.specs.Limits.{max_terms}
use Rattle.generalized.specs.Explore.{find}
use Rattle.generalized.proofs.Explored.{Once, once_more}
use Rattle.automaton.specs.Limits.{max_states}
use Rattle.translation.specs.Degeneralized.{numbers}
use Rattle.translation.specs.Memory.{code_of, level_places, code_places, Within}
use Rattle.translation.proofs.Numbering.{find_none}

pub numbers_length : (n : ℕ) → length (numbers n) ≡ n
unfolding numbers
numbers_length zero = refl
numbers_length (suc n) = rw length-append (omega (arith, numbers_length n))

-- the first n states at level 0
abbrev pub starts : ℕ → List ℕ
starts n = map (λ i. code_of i 0) (numbers n)

pub starts_within : (n k : ℕ) → n ≤ k → Within k (starts n)
unfolding numbers
starts_within zero k le = λ c h. absurd h
starts_within (suc n) k le =
    rw (map-append (λ i. code_of i 0) (numbers n) (n ∷ []))
    (all_last (λ c. c / level_places < k) (starts n) (code_of n 0) (starts_within n k (omega arith)) (omega arith))

-- a code of a state from n on is not among them
beyond : (n code : ℕ) → n ≤ code / level_places → n ≤ find eqb code (starts n)
beyond n code le =
    omega (
      arith,
      find_none code (starts n) (λ y h same. omega (arith, starts_within n n (omega arith) y h)),
      length-map (numbers n) (λ k. code_of k 0),
      numbers_length n,
    )

pub starts_once : (n : ℕ) → Once eqb 0 (starts n)
unfolding numbers
starts_once zero i lt = absurd (omega arith)
starts_once (suc n) i lt =
    let many = length-map (numbers n) (λ k. code_of k 0) ∙ numbers_length n in
    let more =
    once_more eqb 0 (code_of n 0) (starts n) (eq-eqb (code_of n 0) (code_of n 0) refl)
    (omega (arith, many, beyond n (code_of n 0) (omega arith))) (starts_once n) in
    (rw (← map-append (λ i. code_of i 0) (numbers n) (n ∷ [])) at more) i lt

-- a loop that numbers the first n states at level 0 and stands at i: the next has no number
pub start_new : (n i code : ℕ) {xs : List ℕ} → i < n → n ≤ max_terms → xs ≡ starts i → code ≡ code_of i 0
    → (length xs < max_states) × (code < code_places) × (length xs ≤ find eqb code xs)
start_new n i code lt most listed e =
    let many : length (starts i) ≡ i = length-map (numbers i) (λ k. code_of k 0) ∙ numbers_length i in
    rw (listed, many) (omega arith, omega arith, beyond i code (omega arith))

pub start_steps : (i code : ℕ) {xs ys : List ℕ} → xs ≡ starts i → code ≡ code_of i 0 → ys ≡ xs ++ (code ∷ [])
    → ys ≡ starts (i + 1)
unfolding numbers
start_steps i code listed e added =
    added ∙ rw (listed, e, add-one, numbers, map-append (λ k. code_of k 0) (numbers i) (i ∷ []))
