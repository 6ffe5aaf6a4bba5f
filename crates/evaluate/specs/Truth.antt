-- Where each node of a rule holds on a lasso: a row of flags for each node, one for each position of stem and cycle.
-- `true_iff_holds` (proofs/Rows.antt) says that flag i of row k is whether the tree of node k holds at letter i.
use Rattle.std.specs.Prelude.{ℕ, zero, suc, ◌+◌, ◌/◌, ◌%◌, ◌^◌, List, [], ◌∷◌, Bool, true, false, ◌&&◌, ◌||◌, get_or}
use Rattle.std.specs.Prelude.{length, eqb}
use Rattle.lasso.specs.Lasso.{letter, after}
use Rattle.formula.specs.Formula.{trees}

-- a flag before the others, made from the first of them, or from v where there is none
abbrev pub in_front : (Bool → Bool) → Bool → List Bool → List Bool
in_front f v flags = f (get_or flags 0 v) ∷ flags

-- one pass backwards over `count` positions from i on: the flag at each by the flag at the next, v behind the last
unfoldable pub sweep : (f : ℕ → Bool → Bool) (i count : ℕ) → Bool → List Bool
sweep f i zero v = []
sweep f i (suc count) v = in_front (f i) v (sweep f (suc i) count v)

-- the flag at i
abbrev pub at : List Bool → ℕ → Bool
at flags i = get_or flags i false

module _ (stem cycle : List ℕ) where
  -- a row whose flags do not depend on the next ones
  abbrev pub plain : (ℕ → Bool) → List Bool
  plain f = sweep (λ i _. f i) 0 (length stem + length cycle) false

  -- two rounds: over the cycle, with v behind its last position; then over all, with what was found for the cycle's
  -- first position behind the last
  abbrev pub rounds : (ℕ → Bool → Bool) → Bool → List Bool
  rounds f v = sweep f 0 (length stem + length cycle) (get_or (sweep f (length stem) (length cycle) v) 0 v)

  -- the row of a node of that kind, as `Holds` has it (01, Rules and when a plan keeps one, sentences 9 to 14): left is
  -- the byte, a and b are the rows of the children; an until or a release goes by itself at the next position
  abbrev pub row : (kind left : ℕ) (a b : List Bool) → List Bool
  row zero left a b = plain (λ i. false)
  row (suc zero) left a b = plain (λ i. true)
  row (suc (suc zero)) left a b = plain (λ i. eqb (letter stem cycle i / 2 ^ left % 2) 1)
  row (suc (suc (suc zero))) left a b = plain (λ i. eqb (letter stem cycle i / 2 ^ left % 2) 0)
  row (suc (suc (suc (suc zero)))) left a b = plain (λ i. at a i && at b i)
  row (suc (suc (suc (suc (suc zero))))) left a b = plain (λ i. at a i || at b i)
  row (suc (suc (suc (suc (suc (suc zero)))))) left a b = plain (λ i. at a (after stem cycle i))
  row (suc (suc (suc (suc (suc (suc (suc zero))))))) left a b = rounds (λ i next. at b i || (at a i && next)) false
  row (suc (suc (suc (suc (suc (suc (suc (suc zero)))))))) left a b = rounds (λ i next. at b i && (at a i || next)) true
  row (suc (suc (suc (suc (suc (suc (suc (suc (suc kind))))))))) left a b = plain (λ i. false)

  -- the same beside the node's number, which no row shows
  abbrev pub row_of : (kind n left : ℕ) (a b : List Bool) → List Bool
  row_of kind n left a b = row kind left a b

-- the rows of all nodes, built as their trees are
unfoldable pub truth : (rule stem cycle : List ℕ) → List (List Bool)
truth rule stem cycle = trees [] (row_of stem cycle) [] rule

-- whether node k holds at position i
unfoldable pub true_at : (rule stem cycle : List ℕ) (k i : ℕ) → Bool
true_at rule stem cycle k i = at (get_or (truth rule stem cycle) k []) i
