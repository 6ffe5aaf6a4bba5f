-- A written rule, document 02's second edition of the rule: refusals 1 to 6 of its bytes, the formula that they encode,
-- and when a lasso satisfies it (R-3). The first edition's kinds 0 to 8 mean what they meant.
use Rattle.std.specs.Prelude.{ℕ, zero, suc, ◌/◌, ◌%◌, ◌^◌, ◌≤◌, ◌<◌, ◌≡◌, Bool, true, false, List, [], ◌⊎◌, get_or}
use Rattle.answer.specs.Result.{Check}
use Rattle.lasso.specs.Lasso.{letter}
use Rattle.formula.specs.Rule.{root, eventually_kind, syntax_check}
use Rattle.formula.specs.Formula.{trees}

-- 1 to 6, as of a first-edition rule but that the kinds go up to 12 (R-3, sentences 2 and 9)
unfoldable pub written_check : List ℕ → Check
written_check rule = syntax_check eventually_kind rule

-- what joins two nodes: the kinds 4, 5, 7, 8 and 10
pub data Connective : Type 0 where
  and or until release implies : Connective

-- a written formula, with the numbers of its nodes: false and true (kinds 0 and 1); a proposition (positive, kind 2)
-- and its negation (kind 3); not (kind 9); next (kind 6); two sides joined; always (all, kind 11) and eventually (kind
-- 12)
pub data Written : Type 0 where
  constant : (value : Bool) → Written
  literal : (node : ℕ) (positive : Bool) (p : ℕ) → Written
  negation next : (node : ℕ) → Written → Written
  binary : (node : ℕ) → Connective → Written → Written → Written
  future : (node : ℕ) (all : Bool) → Written → Written

-- node n of that kind: left is the byte, a and b are the trees of the children; 3 refuses a kind above 12
abbrev pub build_written : (kind n left : ℕ) (a b : Written) → Written
build_written zero n left a b = constant false
build_written (suc zero) n left a b = constant true
build_written (suc (suc zero)) n left a b = literal n true left
build_written (suc (suc (suc zero))) n left a b = literal n false left
build_written (suc (suc (suc (suc zero)))) n left a b = binary n and a b
build_written (suc (suc (suc (suc (suc zero))))) n left a b = binary n or a b
build_written (suc (suc (suc (suc (suc (suc zero)))))) n left a b = next n a
build_written (suc (suc (suc (suc (suc (suc (suc zero))))))) n left a b = binary n until a b
build_written (suc (suc (suc (suc (suc (suc (suc (suc zero)))))))) n left a b = binary n release a b
build_written (suc (suc (suc (suc (suc (suc (suc (suc (suc zero))))))))) n left a b = negation n a
build_written (suc (suc (suc (suc (suc (suc (suc (suc (suc (suc zero)))))))))) n left a b = binary n implies a b
build_written (suc (suc (suc (suc (suc (suc (suc (suc (suc (suc (suc zero))))))))))) n left a b = future n true a
build_written (suc (suc (suc (suc (suc (suc (suc (suc (suc (suc (suc (suc kind)))))))))))) n left a b = future n false a

-- the tree of node n
unfoldable pub written_tree : List ℕ → ℕ → Written
written_tree rule n = get_or (trees (constant false) build_written [] rule) n (constant false)

-- whether a written formula holds at letter i of a word: not where its operand does not; implies where the left side
-- does not or the right side does; always where its operand holds at each letter from i on, eventually where it does at
-- some; all others as in the first edition (R-3, sentence 3)
abbrev pub HoldsWritten : (word : ℕ → ℕ) → Written → ℕ → Type 0
HoldsWritten word (constant false) i = ⊥
HoldsWritten word (constant true) i = Unit {0}
HoldsWritten word (literal n true p) i = word i / 2 ^ p % 2 ≡ 1
HoldsWritten word (literal n false p) i = word i / 2 ^ p % 2 ≡ 0
HoldsWritten word (negation n a) i = HoldsWritten word a i → ⊥
HoldsWritten word (next n a) i = HoldsWritten word a (suc i)
HoldsWritten word (binary n and a b) i = HoldsWritten word a i × HoldsWritten word b i
HoldsWritten word (binary n or a b) i = HoldsWritten word a i ⊎ HoldsWritten word b i
HoldsWritten word (binary n until a b) i =
    (k : ℕ) × (i ≤ k) × HoldsWritten word b k × ((j : ℕ) → i ≤ j → j < k → HoldsWritten word a j)
HoldsWritten word (binary n release a b) i =
    (k : ℕ) → i ≤ k → (HoldsWritten word b k ⊎ ((j : ℕ) × (i ≤ j) × (j < k) × HoldsWritten word a j))
HoldsWritten word (binary n implies a b) i = (HoldsWritten word a i → ⊥) ⊎ HoldsWritten word b i
HoldsWritten word (future n true a) i = (k : ℕ) → i ≤ k → HoldsWritten word a k
HoldsWritten word (future n false a) i = (k : ℕ) × (i ≤ k) × HoldsWritten word a k

-- a lasso satisfies a written rule: its root's tree holds at letter 0; where letters are skipped, stem and cycle are
-- what remains of them (02, R-9)
unfoldable pub SatisfiesWritten : (rule stem cycle : List ℕ) → Type 0
SatisfiesWritten rule stem cycle = HoldsWritten (letter stem cycle) (written_tree rule (root rule)) 0
