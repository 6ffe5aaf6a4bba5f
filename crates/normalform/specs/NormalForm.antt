-- The negation normal form of a written rule, document 02's first-edition form (R-3). A sense is plain (false) or
-- negated (true). A node of the result has a code: 0 is false, 1 is true, 2 n + 2 is node n as it stands and 2 n + 3 its
-- negation. Rising codes are then the order that is asked for: a false and a true first, then by rising node, plain
-- before negated (R-3, sentence 5).
use Rattle.std.specs.Prelude.{ℕ, zero, suc, ◌+◌, ◌-◌, ◌*◌, ◌/◌, ◌%◌, Bool, true, false, cond, not, ◌||◌, List, [], ◌∷◌}
use Rattle.std.specs.Prelude.{◌++◌, eqb, leb, ltb}
use Rattle.answer.specs.Result.{Result, accepted, and_then, Check, require}
use Rattle.formula.specs.Limits.{max_nodes}
use Rattle.formula.specs.Rule.{node_count, root, until_check}
use Rattle.normalform.specs.Written.{Connective, and, or, until, release, implies, Written, constant, literal}
use Rattle.normalform.specs.Written.{negation, next, binary, future, written_tree, written_check}

-- a truth value in a sense: negation trades false with true, a proposition with its negation (R-3, sentence 7)
abbrev pub turned : (value negated : Bool) → Bool
turned value true = not value
turned value false = value

abbrev pub bit : Bool → ℕ
bit true = 1
bit false = 0

-- the sense of the left side: the left side of implies is negated (R-3, sentence 6)
abbrev pub left_sense : Connective → Bool → Bool
left_sense implies s = not s
left_sense and s = s
left_sense or s = s
left_sense until s = s
left_sense release s = s

-- the kind that a connective becomes: implies an or; under negation and and or change places, and until and release
-- (R-3, sentences 6 and 7)
abbrev pub connective_kind : Connective → Bool → ℕ
connective_kind and s = cond s 5 4
connective_kind or s = cond s 4 5
connective_kind until s = cond s 8 7
connective_kind release s = cond s 7 8
connective_kind implies s = cond s 4 5

-- always is false release, eventually true until, so the constant on the left tells the kind; negation trades both
-- (R-3, sentences 6 and 7)
abbrev pub left_constant : (all negated : Bool) → Bool
left_constant all s = turned (not all) s

abbrev pub future_kind : Bool → ℕ
future_kind value = cond value 7 8

-- the code of node n in a sense
abbrev pub pair_code : ℕ → Bool → ℕ
pair_code n s = n * 2 + 2 + bit s

-- the code of what stands for a tree in a sense: constants and nots have no place of their own (R-3, sentence 5)
unfoldable pub code : Written → Bool → ℕ
code (constant v) s = bit (turned v s)
code (literal n v p) s = pair_code n s
code (negation n a) s = code a (not s)
code (next n a) s = pair_code n s
code (binary n o a b) s = pair_code n s
code (future n all a) s = pair_code n s

-- the walk of a tree in a sense, below its own code: every code that it comes to, as often as it is a child there (R-3,
-- sentence 4)
unfoldable pub below : Written → Bool → List ℕ
below (constant v) s = []
below (literal n v p) s = []
below (negation n a) s = below a (not s)
below (next n a) s = code a s ∷ below a s
below (binary n o a b) s = (code a (left_sense o s) ∷ below a (left_sense o s)) ++ (code b s ∷ below b s)
below (future n all a) s = bit (left_constant all s) ∷ (code a s ∷ below a s)

abbrev pub walk : Written → Bool → List ℕ
walk t s = code t s ∷ below t s

-- the three bytes of a tree in a sense, where at has the numbers of the codes (R-3, sentences 5 to 7)
unfoldable pub entry : (at : ℕ → ℕ) → Written → Bool → List ℕ
entry at (constant v) s = bit (turned v s) ∷ (0 ∷ (0 ∷ []))
entry at (literal n v p) s = cond (turned v s) 2 3 ∷ (p ∷ (0 ∷ []))
entry at (negation n a) s = entry at a (not s)
entry at (next n a) s = 6 ∷ (at (code a s) ∷ (0 ∷ []))
entry at (binary n o a b) s = connective_kind o s ∷ (at (code a (left_sense o s)) ∷ (at (code b s) ∷ []))
entry at (future n all a) s =
    future_kind (left_constant all s) ∷ (at (bit (left_constant all s)) ∷ (at (code a s) ∷ []))

-- the tree that a code speaks of, and in which sense: true is false negated
abbrev pub subject : (look : ℕ → Written) → ℕ → Written
subject look c = cond (ltb c 2) (constant false) (look ((c - 2) / 2))

abbrev pub sense : ℕ → Bool
sense c = eqb (c % 2) 1

unfoldable pub member : ℕ → List ℕ → Bool
member c [] = false
member c (x ∷ xs) = eqb x c || member c xs

-- how many codes below c are needed
unfoldable pub rank : (needed : ℕ → Bool) → ℕ → ℕ
rank needed zero = 0
rank needed (suc c) = rank needed c + bit (needed c)

-- their bytes, by rising codes
unfoldable pub emit : (needed : ℕ → Bool) (entries : ℕ → List ℕ) → ℕ → List ℕ
emit needed entries zero = []
emit needed entries (suc c) = emit needed entries c ++ cond (needed c) (entries c) []

-- of a walk's codes, each is needed once and numbered in their order (R-3, sentence 5)
module _ (codes : List ℕ) where
  abbrev pub is_needed : ℕ → Bool
  is_needed c = member c codes

  abbrev pub number : ℕ → ℕ
  number c = rank is_needed c

  -- the three bytes under a code, where look has the trees
  abbrev pub entry_of : (look : ℕ → Written) → ℕ → List ℕ
  entry_of look c = entry number (subject look c) (sense c)

-- the codes of a rule: those of the walk from the root as it stands, all below code_end
abbrev pub codes_of : List ℕ → List ℕ
codes_of rule = walk (written_tree rule (root rule)) false

abbrev pub code_end : List ℕ → ℕ
code_end rule = node_count rule * 2 + 2

-- how many nodes the result has, and its bytes
unfoldable pub size : List ℕ → ℕ
size rule = number (codes_of rule) (code_end rule)

unfoldable pub normal_bytes : List ℕ → List ℕ
normal_bytes rule =
    emit (is_needed (codes_of rule)) (entry_of (codes_of rule) (written_tree rule)) (code_end rule)

-- the result, or 26, at place 0: it needs over the most nodes (R-3, sentence 10)
abbrev pub sized : List ℕ → Result (List ℕ)
sized rule = and_then (require (leb (size rule) max_nodes) 26 0) (λ _. accepted (normal_bytes rule))

-- 1 to 6 of the written rule, then 26 (R-3, sentences 9 and 10)
unfoldable pub normal_form : List ℕ → Result (List ℕ)
normal_form rule = and_then (written_check rule) (λ _. sized rule)

-- 1 to 6 and 26, then 7 of the result: what is refused before anything is stored (R-3, sentences 9 and 10)
unfoldable pub written_checked : List ℕ → Check
written_checked rule = and_then (normal_form rule) until_check
