-- What the code stores of a merged rule: nodes that are moved up, whose bytes stay small, in a loop over the second
-- rule, and the root behind them. Assumes nothing.
use Prim.Native.Nat.{ℕ, suc, ◌+◌, ◌-◌, ◌*◌, ◌≤◌}
use mathlib.Core.Path.{◌≡◌, ◌∙◌}
use mathlib.Core.List.{List, [], ◌∷◌, ◌++◌, append-nil, append_assoc}
use native.Mathlib.Numerals.{add-one}
use native.Mathlib.Omega.{arith}
use lib.ListN.{length, take, drop}
use lib.Seq.{sets, take_at}
use Rattle.answer.specs.Result.{fine}
use Rattle.answer.proofs.Filling.{front_more}
use Rattle.formula.specs.Rule.{node_count}
use Rattle.formula.specs.Rule.{release_kind, syntax_check}
use Rattle.formula.proofs.Accepted.{formed_fine}
use Rattle.merge.specs.Merge.{moved_node, moved_nodes, conjoined, merged_count}

-- ---- all nodes

-- a loop over the nodes that stands at i: behind the first up nodes of the buffer stand i nodes of the rule
module _ (rule : List ℕ) (up : ℕ) (before : List ℕ) where
  abbrev Moving : (merged : List ℕ) (i : ℕ) → Type 0
  Moving merged i = take ((up + i) * 3) merged ≡ take (up * 3) before ++ moved_nodes rule up i

  pub moving_begins : Moving before 0
  unfolding moved_nodes
  moving_begins =
      let same : (up + 0) * 3 ≡ up * 3 = omega arith in
      rw (same, append-nil)

  pub moving_steps : (merged after : List ℕ) (i : ℕ) → Moving merged i → (up + i) * 3 + 3 ≤ length merged
      → after ≡ sets merged ((up + i) * 3) (moved_node rule up i) → Moving after (i + 1)
  unfolding moved_nodes
  moving_steps merged after i inv room put =
      rw (add-one i)
      (front_more merged after ((up + i) * 3) ((up + suc i) * 3) (moved_node rule up i) (omega arith) (omega arith) put
      ∙ rw inv (append_assoc (take (up * 3) before) (moved_nodes rule up i) (moved_node rule up i)))

-- ---- both rules and the root

-- what the code has stored after the first rule, after the second, and after the root
pub conjoins : (first second before copied behind after : List ℕ) → syntax_check release_kind first ≡ fine
    → syntax_check release_kind second ≡ fine → (node_count first + node_count second) * 3 + 3 ≤ length behind
    → copied ≡ first ++ drop (length first) before
    → take ((node_count first + node_count second) * 3) behind
    ≡ take (node_count first * 3) copied ++ moved_nodes second (node_count first) (node_count second)
    → after ≡ sets behind ((node_count first + node_count second) * 3)
    (4 ∷ ((node_count first - 1) ∷ ((node_count first + node_count second - 1) ∷ [])))
    → take (merged_count first second * 3) after ≡ conjoined first second
unfolding conjoined
conjoins first second before copied behind after passes passes_too room one both root =
    let m = node_count first in
    let n = node_count second in
    let whole : length first ≡ m * 3 = omega (arith, (formed_fine release_kind first passes).whole) in
    let some = (formed_fine release_kind second passes_too).some in
    let right : m + n - 1 ≡ m + (n - 1) = omega arith in
    let front : take (m * 3) copied ≡ first =
    rw one (take_at first (drop (length first) before) (m * 3) whole) in
    let node : List ℕ = 4 ∷ ((m - 1) ∷ ((m + n - 1) ∷ [])) in
    front_more behind after ((m + n) * 3) ((m + n + 1) * 3) node (omega arith) (omega arith) root
    ∙ rw (both, front, right) (append_assoc first (moved_nodes second m n) _)
