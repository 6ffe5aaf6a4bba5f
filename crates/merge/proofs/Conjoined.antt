-- R-7: the merged rule of two first-edition rules is one too. Byte by byte it has the nodes of both, moved up, and the
-- root behind them; so 1 to 6 let it pass, and its untils are those of both. Assumes nothing.
use Prim.Native.Nat.{ℕ, zero, suc, ◌+◌, ◌-◌, ◌*◌, ◌%◌, ◌≤◌, ◌<◌}
use mathlib.Core.Path.{◌≡◌, refl, sym, ◌∙◌, ap, subst}
use mathlib.Core.Bool.{cond}
use mathlib.Core.List.{List, [], ◌∷◌, ◌++◌}
use native.Mathlib.Decide.{ℕ_discrete, dec_lt}
use native.Mathlib.Nat.{zero-add}
use native.Mathlib.Numerals.{add-one}
use native.Mathlib.Omega.{arith}
use lib.Dec.{eqb}
use lib.ListN.{get_or, length, length-append, get_or-append}
use lib.Seq.{get_or-append-add}
use borrow.Author.Tests.{le-leb, lt-ltb, eq-eqb, ne_eqb}
use Rattle.answer.specs.Result.{fine}
use Rattle.answer.proofs.Lowest.{lowest_all}
use Rattle.formula.specs.declared.Operand.{Operand}
use Rattle.formula.specs.declared.Operand.TheVariants.{Unused, Proposition, Child}
use Rattle.formula.specs.Limits.{max_nodes, rule_bytes}
use Rattle.formula.specs.Rule.{node_count, kind_at, left_at, right_at, root, left_operand, one_child, right_operand}
use Rattle.formula.specs.Rule.{release_kind, length_check, node_check, ChildrenBelow, places, place_check, syntax_check}
use Rattle.formula.specs.Rule.{untils}
use Rattle.formula.proofs.Accepted.{formed_fine}
use Rattle.formula.proofs.Checks.{children_below, place_root}
use Rattle.formula.proofs.Untils.{untils_more, untils_most}
use Rattle.merge.specs.Merge.{moved, moved_node, moved_nodes, conjoined, merged_count}
use Rattle.merge.proofs.Copied.{Copied, moved_child, no_places, copied_node, copied_places, places_before}
use Rattle.merge.proofs.Copied.{copied_place, copied_untils}

-- ---- nodes that are moved up

moved_length : (rule : List ℕ) (up n : ℕ) → length (moved_nodes rule up n) ≡ n * 3
unfolding moved_nodes
moved_length rule up zero = refl
moved_length rule up (suc n) =
    omega (arith, moved_length rule up n, length-append (moved_nodes rule up n) (moved_node rule up n))

moved_byte : (rule : List ℕ) (up n k j : ℕ) → k < n → j < 3
    → get_or (moved_nodes rule up n) (k * 3 + j) 0 ≡ get_or (moved_node rule up k) j 0
unfolding moved_nodes
moved_byte rule up zero k j lt small = absurd (omega arith)
moved_byte rule up (suc n) k j lt small = go (ℕ_discrete k n) (λ lt. moved_byte rule up n k j lt small)
  where
    go : Dec (k ≡ n) → (k < n → get_or (moved_nodes rule up n) (k * 3 + j) 0 ≡ get_or (moved_node rule up k) j 0)
        → get_or (moved_nodes rule up n ++ moved_node rule up n) (k * 3 + j) 0 ≡ get_or (moved_node rule up k) j 0
    go (yes same) ih =
        let place : k * 3 + j ≡ length (moved_nodes rule up n) + j = omega (arith, moved_length rule up n) in
        rw place (get_or-append-add (moved_nodes rule up n) (moved_node rule up n) j 0)
        ∙ ap (λ (i : ℕ). get_or (moved_node rule up i) j 0) (sym same)
    go (no other) ih =
        get_or-append (moved_nodes rule up n) (moved_node rule up n) 0 (k * 3 + j)
        (omega (arith, moved_length rule up n))
        ∙ ih (omega arith)

not_moved : (operand : Operand) (byte : ℕ) → byte ≡ moved operand 0 byte
not_moved Unused byte = refl
not_moved Proposition byte = refl
not_moved Child byte = sym (zero-add byte)

-- ---- the merged rule, byte by byte

module _ (first second : List ℕ) (passes : syntax_check release_kind first ≡ fine)
    (passes_too : syntax_check release_kind second ≡ fine) where
  abbrev m : ℕ
  m = node_count first

  abbrev n : ℕ
  n = node_count second

  abbrev all : List ℕ
  all = conjoined first second

  abbrev nodes : List ℕ
  nodes = moved_nodes second m n

  abbrev root_node : List ℕ
  root_node = 4 ∷ (root first ∷ ((m + root second) ∷ []))

  whole : length first ≡ m * 3
  whole = omega (arith, (formed_fine release_kind first passes).whole)

  some : 0 < m
  some = (formed_fine release_kind first passes).some

  some_too : 0 < n
  some_too = (formed_fine release_kind second passes_too).some

  pub merged_length : length all ≡ merged_count first second * 3
  unfolding conjoined
  merged_length =
      omega (
        arith,
        whole,
        moved_length second m n,
        length-append first (nodes ++ root_node),
        length-append nodes
            root_node,
      )

  pub merged_count_lem : node_count all ≡ merged_count first second
  merged_count_lem = omega (arith, merged_length)

  first_byte : (i : ℕ) → i < length first → get_or all i 0 ≡ get_or first i 0
  unfolding conjoined
  first_byte i lt = get_or-append first (nodes ++ root_node) 0 i lt

  second_byte : (k j : ℕ) → k < n → j < 3 → get_or all ((m + k) * 3 + j) 0 ≡ get_or (moved_node second m k) j 0
  unfolding conjoined
  second_byte k j lt small =
      let place : (m + k) * 3 + j ≡ length first + (k * 3 + j) = omega (arith, whole) in
      rw place
      (get_or-append-add first (nodes ++ root_node) (k * 3 + j) 0
      ∙ get_or-append nodes root_node 0 (k * 3 + j) (omega (arith, moved_length second m n))
      ∙ moved_byte second m n k j lt small)

  root_byte : (j : ℕ) → get_or all ((m + n) * 3 + j) 0 ≡ get_or root_node j 0
  unfolding conjoined
  root_byte j =
      let place : (m + n) * 3 + j ≡ length first + (length nodes + j) = omega (arith, whole, moved_length second m n) in
      rw place
      (get_or-append-add first (nodes ++ root_node) (length nodes + j) 0 ∙ get_or-append-add nodes root_node j 0)

  -- the first byte of node k is at k * 3 + 0
  first_of_three : (rule : List ℕ) (k : ℕ) → kind_at rule k ≡ get_or rule (k * 3 + 0) 0
  first_of_three rule k = let same : k * 3 ≡ k * 3 + 0 = omega arith in ap (λ (i : ℕ). get_or rule i 0) same

  pub first_copied : Copied all first 0
  first_copied = record {
    inside = omega (arith, merged_count_lem);
    kinds = λ k lt. rw (zero-add k) (first_byte (k * 3) (omega (arith, whole)));
    lefts = λ k lt. rw (zero-add k)
        (first_byte (k * 3 + 1) (omega (arith, whole)) ∙ not_moved (left_operand (kind_at first k)) (left_at first k));
    rights = λ k lt. rw (zero-add k)
        (first_byte (k * 3 + 2) (omega (arith, whole)) ∙ not_moved (right_operand (kind_at first k))
        (right_at first k));
  }

  pub second_copied : Copied all second m
  second_copied = record {
    inside = omega (arith, merged_count_lem);
    kinds = λ k lt. first_of_three all (m + k) ∙ second_byte k 0 lt (omega arith);
    lefts = λ k lt. second_byte k 1 lt (omega arith);
    rights = λ k lt. second_byte k 2 lt (omega arith);
  }

  -- the root is an and of both roots
  pub root_kind : kind_at all (m + n) ≡ 4
  root_kind = first_of_three all (m + n) ∙ root_byte 0

  pub root_left : left_at all (m + n) ≡ root first
  root_left = root_byte 1

  pub root_right : right_at all (m + n) ≡ m + root second
  root_right = root_byte 2

  -- ---- 3 to 5

  -- what is said of both rules' nodes and of the root is said of all nodes
  each_node : (P : ℕ → Type 0) → ((k : ℕ) → k < m → P (0 + k)) → ((k : ℕ) → k < n → P (m + k)) → P (m + n)
      → (k : ℕ) → k < node_count all → P k
  each_node P h h-too last k lt = go (dec_lt k m) (dec_lt k (m + n))
    where
      go : Dec (k < m) → Dec (k < m + n) → P k
      go (yes low) d = subst P (zero-add k) (h k low)
      go (no high) (yes low) =
          let same : m + (k - m) ≡ k = omega arith in
          subst P same (h-too (k - m) (omega arith))
      go (no high) (no past) =
          let same : m + n ≡ k = omega (arith, merged_count_lem) in
          subst P same last

  pub root_node_lem : node_check release_kind all (m + n) ≡ fine
  unfolding node_check left_operand one_child right_operand
  root_node_lem =
      rw (
        root_kind,
        root_left,
        root_right,
        lt-ltb (root first) (m + n) (omega (arith, some)),
        lt-ltb (m + root second) (m + n) (omega (arith, some_too)),
      ) refl

  merged_nodes : (k : ℕ) → k < node_count all → node_check release_kind all k ≡ fine
  merged_nodes =
      each_node (λ k. node_check release_kind all k ≡ fine)
      (λ k lt. copied_node all first 0 first_copied release_kind k lt
      ((formed_fine release_kind first passes).each k lt))
      (λ k lt. copied_node all second m second_copied release_kind k lt
      ((formed_fine release_kind second passes_too).each k lt))
      root_node_lem

  -- ---- 6

  below_in : (rule : List ℕ) → ((k : ℕ) → k < node_count rule → node_check release_kind rule k ≡ fine)
      → ChildrenBelow rule (node_count rule)
  below_in rule each =
      children_below release_kind rule (node_count rule)
      (lowest_all (node_check release_kind rule) (node_count rule) each)

  -- both roots are children of the root besides
  all_places : (k : ℕ) → places all (node_count all) k
      ≡ places all (m + n) k + cond (eqb (root first) k) 1 0 + cond (eqb (m + root second) k) 1 0
  unfolding places left_operand one_child right_operand
  all_places k = rw (merged_count_lem, add-one (m + n), root_kind, root_left, root_right)

  first_places : (k : ℕ) → places all m k ≡ places first m k
  unfolding places
  first_places k =
      let e : places all (0 + m) (0 + k) ≡ places first m k =
      copied_places all first 0 first_copied m k (omega arith) ∙ zero-add (places first m k) in
      rw (zero-add m, zero-add k) at e

  place_of_first : (k : ℕ) → k < m → place_check all (0 + k) ≡ fine
  place_of_first k lt =
      copied_place all first 0 first_copied k lt (below_in first (formed_fine release_kind first passes).each)
      ((formed_fine release_kind first passes).places k lt)
      (rw (zero-add k)
      (all_places k
      ∙ rw (ne_eqb (m + root second) k (λ e. omega arith))
      (omega (arith, places_before all second m second_copied n k (omega arith) lt, first_places k))))

  place_of_second : (k : ℕ) → k < n → place_check all (m + k) ≡ fine
  place_of_second k lt =
      let none =
      no_places first m (m + k) (below_in first (formed_fine release_kind first passes).each) (omega arith) in
      copied_place all second m second_copied k lt (below_in second (formed_fine release_kind second passes_too).each)
      ((formed_fine release_kind second passes_too).places k lt)
      (all_places (m + k)
      ∙ rw (ne_eqb (root first) (m + k) (λ e. omega (arith, some)))
      (omega (
        arith,
        copied_places all second m second_copied n k (omega arith),
        first_places (m + k),
        none,
        moved_child Child m (root second) k,
      )))

  -- the root is no child
  place_of_root : place_check all (m + n) ≡ fine
  place_of_root =
      let none = no_places all (node_count all) (m + n) (below_in all merged_nodes) (omega (arith, merged_count_lem)) in
      sym (place_root all (m + n) none (omega (arith, merged_count_lem)))

  -- ---- the theorem

  -- R-7: where the merged rule has no more than the most nodes, 1 to 6 let its bytes pass
  pub merged_passes : merged_count first second ≤ max_nodes → syntax_check release_kind all ≡ fine
  unfolding syntax_check length_check
  merged_passes most =
      rw (
        le-leb (length all) rule_bytes (omega (arith, merged_length)),
        lt-ltb 0 (length all) (omega (arith, merged_length)),
        eq-eqb (length all % 3) 0 (omega (arith, merged_length)),
        lowest_all (node_check release_kind all) (node_count all) merged_nodes,
      )
      (lowest_all (place_check all) (node_count all)
      (each_node (λ k. place_check all k ≡ fine) place_of_first place_of_second place_of_root))

  -- its untils are those of both rules
  pub merged_untils : length (untils all (node_count all)) ≡ length (untils first m) + length (untils second n)
  merged_untils =
      let first_count = rw (zero-add m) at (copied_untils all first 0 first_copied m (omega arith)) in
      let last = rw root_kind at (untils_more all (m + n)) in
      rw (merged_count_lem, add-one (m + n))
      (omega (arith, copied_untils all second m second_copied n (omega arith), first_count, untils_most all 0, last))
