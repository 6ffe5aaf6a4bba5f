-- The bytes of a rule, and refusals 1 to 7. A rule is here the byte string, and a formula is what it encodes.
use Rattle.std.specs.Prelude.{ℕ, zero, suc, ◌+◌, ◌-◌, ◌*◌, ◌/◌, ◌%◌, ◌<◌, ◌≡◌, Bool, true, cond, not, ◌&&◌, ◌||◌, List}
use Rattle.std.specs.Prelude.{[], ◌∷◌, ◌++◌, get_or, length, eqb, leb, ltb}
use Rattle.formula.specs.declared.Operand.{Operand}
use Rattle.formula.specs.declared.Operand.TheVariants.{Unused, Proposition, Child}
use Rattle.answer.specs.Result.{and_then, Check, require, lowest}
use Rattle.formula.specs.Limits.{rule_bytes, propositions, max_untils}

-- how many nodes a rule has: every three bytes are one (01, Rules and when a plan keeps one, sentence 1)
abbrev pub node_count : List ℕ → ℕ
node_count rule = length rule / 3

-- the bytes of node n, the first node being 0: its kind, then its two operands (01, Rules and when a plan keeps one,
-- sentences 1 and 2)
abbrev pub kind_at : List ℕ → ℕ → ℕ
kind_at rule n = get_or rule (n * 3) 0

abbrev pub left_at : List ℕ → ℕ → ℕ
left_at rule n = get_or rule (n * 3 + 1) 0

abbrev pub right_at : List ℕ → ℕ → ℕ
right_at rule n = get_or rule (n * 3 + 2) 0

-- the root: the node with the highest number (01, Rules and when a plan keeps one, sentence 3)
abbrev pub root : List ℕ → ℕ
root rule = node_count rule - 1

-- what the left and the right byte of a node are, by its kind: unused and so 0, a proposition (document 01: mark) or a
-- child (01, Rules and when a plan keeps one, the table of kinds)
unfoldable pub left_operand : ℕ → Operand
left_operand kind = cond (ltb kind 2) Unused (cond (ltb kind 4) Proposition Child)

-- the kinds whose one child is on the left: next, and of the second edition not, always and eventually (01, Rules and
-- when a plan keeps one, the table of kinds; R-3)
unfoldable pub one_child : ℕ → Bool
one_child kind = eqb kind 6 || eqb kind 9 || eqb kind 11 || eqb kind 12

unfoldable pub right_operand : ℕ → Operand
right_operand kind = cond (ltb kind 4) Unused (cond (one_child kind) Unused Child)

-- 1: a rule over the most bytes; 2: one with no bytes, or whose bytes do not come in threes; both at place 0 (01,
-- Numbers that come from the input, 1 and 2)
unfoldable pub length_check : List ℕ → Check
length_check rule =
    and_then (require (leb (length rule) rule_bytes) 1 0)
    (λ _. require (ltb 0 (length rule) && eqb (length rule % 3) 0) 2 0)

-- whether 4 lets a byte pass: it is 0 where it is unused, and as a proposition one of those that there are (01,
-- Numbers that come from the input, 4)
abbrev pub byte_fits : Operand → ℕ → Bool
byte_fits Unused byte = eqb byte 0
byte_fits Proposition byte = ltb byte propositions
byte_fits Child byte = true

-- whether 5 lets a byte pass: a child has a lower number than its parent (01, Numbers that come from the input, 5)
abbrev pub child_fits : Operand → (byte parent : ℕ) → Bool
child_fits Unused byte parent = true
child_fits Proposition byte parent = true
child_fits Child byte parent = ltb byte parent

-- whether 4 and 5 let the left and the right byte of node n pass
abbrev pub left_byte_fits : List ℕ → ℕ → Bool
left_byte_fits rule n = byte_fits (left_operand (kind_at rule n)) (left_at rule n)

abbrev pub right_byte_fits : List ℕ → ℕ → Bool
right_byte_fits rule n = byte_fits (right_operand (kind_at rule n)) (right_at rule n)

abbrev pub left_child_fits : List ℕ → ℕ → Bool
left_child_fits rule n = child_fits (left_operand (kind_at rule n)) (left_at rule n) n

abbrev pub right_child_fits : List ℕ → ℕ → Bool
right_child_fits rule n = child_fits (right_operand (kind_at rule n)) (right_at rule n) n

-- the highest kind of a first-edition rule (01, Rules and when a plan keeps one, the table of kinds) and of a written
-- rule, one of the second edition (R-3)
abbrev pub release_kind : ℕ
release_kind = 8

abbrev pub eventually_kind : ℕ
eventually_kind = 12

-- node n against 3, a kind above the highest that is allowed, then against 4, then against 5; the place is n (01,
-- Numbers that come from the input, 3 to 5)
unfoldable pub node_check : (highest : ℕ) → List ℕ → ℕ → Check
node_check highest rule n =
    and_then (require (leb (kind_at rule n) highest) 3 n)
    (λ _. and_then (require (left_byte_fits rule n && right_byte_fits rule n) 4 n)
    (λ _. require (left_child_fits rule n && right_child_fits rule n) 5 n))

-- 5 lets the first n nodes pass
pub record ChildrenBelow (rule : List ℕ) (n : ℕ) : Type 0 where
  pub lefts : (i : ℕ) → i < n → left_child_fits rule i ≡ true
  pub rights : (i : ℕ) → i < n → right_child_fits rule i ≡ true

-- how often a byte is the child k: once or not
abbrev pub is_child : Operand → (byte k : ℕ) → ℕ
is_child Unused byte k = 0
is_child Proposition byte k = 0
is_child Child byte k = cond (eqb byte k) 1 0

-- at how many places of the first n nodes node k is a child
unfoldable pub places : List ℕ → (n k : ℕ) → ℕ
places rule zero k = 0
places rule (suc n) k =
    places rule n k + is_child (left_operand (kind_at rule n)) (left_at rule n) k
    + is_child (right_operand (kind_at rule n)) (right_at rule n) k

-- node k is nobody's child although it is not the root
abbrev pub orphan : List ℕ → ℕ → Bool
orphan rule k = not (eqb k (root rule)) && eqb (places rule (node_count rule) k) 0

-- node k is an operator (kind 4 or above) and a child more than once
abbrev pub shared : List ℕ → ℕ → Bool
shared rule k = ltb 3 (kind_at rule k) && leb 2 (places rule (node_count rule) k)

-- 6, at place k, in these two cases (01, Numbers that come from the input, 6)
unfoldable pub place_check : List ℕ → ℕ → Check
place_check rule k =
    require (not (orphan rule k) && not (shared rule k)) 6 k

-- 1 to 6 in their order, where 3 to 5 are one pass over the nodes and 6 another; a pass stops at the lowest node that
-- it refuses (01, Numbers that come from the input, 1 to 6)
unfoldable pub syntax_check : (highest : ℕ) → List ℕ → Check
syntax_check highest rule =
    and_then (length_check rule)
    (λ _. and_then (lowest (node_check highest rule) (node_count rule))
    (λ _. lowest (place_check rule) (node_count rule)))

-- those of the first n nodes that are untils, from the lowest up
unfoldable pub untils : List ℕ → ℕ → List ℕ
untils rule zero = []
untils rule (suc n) = untils rule n ++ cond (eqb (kind_at rule n) 7) (n ∷ []) []

-- 7, at place 0: there are over the most untils (01, Numbers that come from the input, 7)
unfoldable pub until_check : List ℕ → Check
until_check rule = require (leb (length (untils rule (node_count rule))) max_untils) 7 0

-- 1 to 7 of a first-edition rule, in their order
unfoldable pub checked : List ℕ → Check
checked rule = and_then (syntax_check release_kind rule) (λ _. until_check rule)
