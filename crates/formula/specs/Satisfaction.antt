-- When a formula holds, and when a lasso satisfies a rule. A lasso is document 01's plan: a stem, and a cycle (its
-- loop) that is repeated for ever. A letter is its slot: one byte, in which bit p is proposition (mark) p. Where
-- letters are skipped, stem and cycle are what remains of them (02, R-9).
use Rattle.std.specs.Prelude.{ℕ, suc, ◌/◌, ◌%◌, ◌^◌, ◌≤◌, ◌<◌, ◌≡◌, List, ◌⊎◌}
use Rattle.lasso.specs.Lasso.{letter}
use Rattle.formula.specs.Formula.{Formula, bottom, top, proposition, negated_proposition, conjunction, disjunction}
use Rattle.formula.specs.Formula.{next, until, release, formula}

-- whether a formula holds at letter i of a word: a proposition where its bit is 1, a negated proposition where it is
-- 0, next where its operand holds one letter on, constants and connectives as usual. An until needs its right side
-- at some letter from i on, and its left side at all from i to just before that one. A release needs its right side
-- at every letter from i on, save those behind a letter, itself from i on, that has its left side (01, Rules and
-- when a plan keeps one, sentences 7 and 9 to 14)
abbrev pub Holds : (word : ℕ → ℕ) → Formula → ℕ → Type 0
Holds word bottom i = ⊥
Holds word top i = Unit {0}
Holds word (proposition n p) i = word i / 2 ^ p % 2 ≡ 1
Holds word (negated_proposition n p) i = word i / 2 ^ p % 2 ≡ 0
Holds word (conjunction a b) i = Holds word a i × Holds word b i
Holds word (disjunction a b) i = Holds word a i ⊎ Holds word b i
Holds word (next n a) i = Holds word a (suc i)
Holds word (until n a b) i = (k : ℕ) × (i ≤ k) × Holds word b k × ((j : ℕ) → i ≤ j → j < k → Holds word a j)
Holds word (release n a b) i =
    (k : ℕ) → i ≤ k → (Holds word b k ⊎ ((j : ℕ) × (i ≤ j) × (j < k) × Holds word a j))

-- a lasso satisfies a rule (document 01: keeps it): the rule's formula holds at letter 0 (01, Rules and when a plan
-- keeps one, sentence 15)
unfoldable pub Satisfies : (rule stem cycle : List ℕ) → Type 0
Satisfies rule stem cycle = Holds (letter stem cycle) (formula rule) 0
