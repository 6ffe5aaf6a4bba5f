-- Two first-edition rules merged into one: its bytes, what is refused, and the call merge with its answer, its place and
-- every lent byte, for every input (R-7).
use Rattle.std.specs.Prelude.{ℕ, zero, suc, ◌+◌, List, [], ◌∷◌, ◌++◌, leb}
use Rattle.answer.specs.Result.{accepted, and_then, Check, require}
use Rattle.answer.specs.Buffer.{Buffer}
use Rattle.formula.specs.declared.Operand.{Operand}
use Rattle.formula.specs.declared.Operand.TheVariants.{Unused, Proposition, Child}
use Rattle.formula.specs.Limits.{max_nodes}
use Rattle.formula.specs.Rule.{node_count, kind_at, left_at, right_at, root, left_operand, right_operand, release_kind}
use Rattle.formula.specs.Rule.{syntax_check, until_check}
use Rattle.normalform.specs.Normalize.{rule_room, rule_stored}

-- a byte of a node that is moved up by so many nodes: the number of a child is moved too, and nothing else is (R-7,
-- sentence 2)
abbrev pub moved : Operand → (up byte : ℕ) → ℕ
moved Unused up byte = byte
moved Proposition up byte = byte
moved Child up byte = up + byte

-- the bytes of node n of a rule, moved up
abbrev pub moved_node : (rule : List ℕ) (up n : ℕ) → List ℕ
moved_node rule up n =
    kind_at rule n ∷ (moved (left_operand (kind_at rule n)) up (left_at rule n)
    ∷ (moved (right_operand (kind_at rule n)) up (right_at rule n) ∷ []))

-- those of its first n nodes
unfoldable pub moved_nodes : (rule : List ℕ) (up n : ℕ) → List ℕ
moved_nodes rule up zero = []
moved_nodes rule up (suc n) = moved_nodes rule up n ++ moved_node rule up n

-- the merged rule: the nodes of the first, those of the second moved up behind them, and as root an and (kind 4) of both
-- roots (R-7, sentence 2)
unfoldable pub conjoined : (first second : List ℕ) → List ℕ
conjoined first second =
    first ++ (moved_nodes second (node_count first) (node_count second)
    ++ (4 ∷ (root first ∷ ((node_count first + root second) ∷ []))))

-- how many nodes it has
abbrev pub merged_count : (first second : List ℕ) → ℕ
merged_count first second = node_count first + node_count second + 1

-- 1 to 6 of the first rule, then of the second, each at the rule's own node, with 3 for a kind above 8; 27 for over the
-- most nodes, then 7 for over the most untils, both of the merged rule and at place 0 (R-7, sentences 3, 5 and 6)
unfoldable pub merge_check : (first second : List ℕ) → Check
merge_check first second =
    and_then (syntax_check release_kind first)
    (λ _. and_then (syntax_check release_kind second)
    (λ _. and_then (require (leb (merged_count first second) max_nodes) 27 0)
    (λ _. until_check (conjoined first second))))

-- 25 first; the merged rule at the buffer's start, and zeros behind it (R-7, sentence 2)
unfoldable pub merges : (first second merged : List ℕ) → Buffer
merges first second merged =
    rule_stored (and_then (rule_room merged)
    (λ _. and_then (merge_check first second) (λ _. accepted (conjoined first second)))) merged
