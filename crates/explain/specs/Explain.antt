-- What is named when a lasso breaks a rule (02, R-11): a clause, and where it is broken. Here every letter of the lasso
-- is one that remains. proofs/Named.antt says what is named by the meaning of rules.
use Rattle.std.specs.Prelude.{ℕ, zero, suc, ◌+◌, ◌-◌, List, [], ◌∷◌, ◌++◌, Bool, cond, not, ◌&&◌, get_or, length, drop}
use Rattle.std.specs.Prelude.{eqb, ltb}
use Rattle.std.specs.Prelude.{Option, None as none, Some as some}
use Rattle.sets.specs.Sets.{any_below}
use Rattle.formula.specs.Rule.{root, kind_at, left_at, right_at}
use Rattle.formula.specs.Formula.{trees}
use Rattle.evaluate.specs.Truth.{true_at}
use Rattle.explain.specs.declared.Explanation.{Explanation as Enum}
use Rattle.explain.specs.declared.Explanation.TheVariants.{Kept, Broken, NeverComes}

-- the clauses of node n of that kind, where a and b are those of its children: of an "and" those of its left side and
-- then those of its right side, of any other node the node alone (R-11, sentence 2)
abbrev pub taken_apart : (kind n left : ℕ) (a b : List ℕ) → List ℕ
taken_apart kind n left a b = cond (eqb kind 4) (a ++ b) (n ∷ [])

-- the clauses of node n, found as the trees of nodes are
unfoldable pub clauses_of : (rule : List ℕ) (n : ℕ) → List ℕ
clauses_of rule n = get_or (trees [] taken_apart [] rule) n []

-- the clauses of a rule: its root's
unfoldable pub clauses : List ℕ → List ℕ
clauses rule = clauses_of rule (root rule)

-- the first of the nodes at which the test fails
unfoldable pub first_failing : (ℕ → Bool) → List ℕ → Option ℕ
first_failing test [] = none
first_failing test (c ∷ cs) = cond (test c) (first_failing test cs) (some c)

-- the first clause that does not hold at letter 0 (R-11, sentence 3)
unfoldable pub first_broken : (rule stem cycle : List ℕ) → Option ℕ
first_broken rule stem cycle = first_failing (λ c. true_at rule stem cycle c 0) (clauses rule)

-- the first of `count` positions from i on at which the test succeeds
unfoldable pub first_from : (ℕ → Bool) → (i count : ℕ) → Option ℕ
first_from test i zero = none
first_from test i (suc count) = cond (test i) (some i) (first_from test (suc i) count)

module _ (rule stem cycle : List ℕ) (c : ℕ) where
  -- whether the left side, or the right side, of clause c holds at a position
  abbrev pub left : ℕ → Bool
  left i = true_at rule stem cycle (left_at rule c) i

  abbrev pub right : ℕ → Bool
  right i = true_at rule stem cycle (right_at rule c) i

  -- a release: the first position where the right side does not hold, and the left side has held at none before (R-11,
  -- sentence 4)
  unfoldable pub release_break : Option ℕ
  release_break = first_from (λ i. not (right i) && not (any_below left i)) 0 (length stem + length cycle)

  -- an until: the first position where neither side holds; where there is none the right side never comes (R-11,
  -- sentence 5)
  unfoldable pub until_break : Option ℕ
  until_break = first_from (λ i. not (left i) && not (right i)) 0 (length stem + length cycle)

  -- where clause c is broken; any other clause from the first letter on (R-11, sentences 4 to 6)
  unfoldable pub break_at : Option ℕ
  break_at = cond (eqb (kind_at rule c) 8) release_break (cond (eqb (kind_at rule c) 7) until_break (some 0))

-- what is told of a lasso: it keeps the rule; it breaks a clause, shown from a letter on; it breaks a clause whose
-- right side never comes
abbrev pub Explanation : Type 0
Explanation = Enum

abbrev pub kept : Explanation
kept = Kept

abbrev pub broken : (clause from : ℕ) → Explanation
broken clause from = Broken clause from

abbrev pub never_comes : (clause : ℕ) → Explanation
never_comes clause = NeverComes clause

abbrev pub shown_from : (clause : ℕ) → Option ℕ → Explanation
shown_from c none = never_comes c
shown_from c (some i) = broken c i

abbrev pub named : (rule stem cycle : List ℕ) → Option ℕ → Explanation
named rule stem cycle none = kept
named rule stem cycle (some c) = shown_from c (break_at rule stem cycle c)

-- the first clause that is broken, and from which position it is shown
unfoldable pub explanation : (rule stem cycle : List ℕ) → Explanation
explanation rule stem cycle = named rule stem cycle (first_broken rule stem cycle)

-- the letters from index i of stem and cycle on, to the end of that of the two in which it lies (R-11, sentences 4 and
-- 7)
unfoldable pub part_from : (stem cycle : List ℕ) (i : ℕ) → List ℕ
part_from stem cycle i = cond (ltb i (length stem)) (drop i stem) (drop (i - length stem) cycle)
