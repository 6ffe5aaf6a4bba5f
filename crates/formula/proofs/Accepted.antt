-- What it says of a rule that no check refuses it, node by node. Assumes nothing.
use mathlib.Core.Path.{◌≡◌, refl}
use mathlib.Core.Bool.{Bool, true, false, and-eq-true_iff}
use mathlib.Core.List.{List}
use Prim.Native.Nat.{ℕ, ◌%◌, ◌≤◌, ◌<◌}
use native.Mathlib.Omega.{arith}
use lib.Dec.{leb, ltb}
use lib.ListN.{length}
use borrow.Author.Tests.{leb-true, le-leb, ltb-true, eqb-true}
use Rattle.answer.specs.Result.{passes, fine, lowest}
use Rattle.formula.specs.Limits.{max_nodes, rule_bytes, max_untils, propositions}
use Rattle.formula.specs.Rule.{node_count, kind_at, left_at, right_at, one_child, release_kind, length_check}
use Rattle.formula.specs.Rule.{node_check, place_check, syntax_check, until_check, checked, untils as untilsOf}
use Rattle.answer.proofs.Lowest.{fine_first, fine_second, lowest_each, lowest_all, passes_fine}
use Rattle.formula.proofs.Operands.{left_proposition, left_child, right_absent, right_child}
use Rattle.formula.proofs.Checks.{Tested, tested, left_small, right_small}
use Rattle.answer.proofs.Results.{required, require_fine}

-- node n is as 4 and 5 want it: its proposition is one, its children are below it
pub record Node (rule : List ℕ) (n : ℕ) : Type 0 where
  pub proposition : 1 < kind_at rule n → kind_at rule n < 4 → left_at rule n < propositions
  pub left : 3 < kind_at rule n → left_at rule n < n
  pub right : 3 < kind_at rule n → right_at rule n < n

module _ (rule : List ℕ) (n : ℕ) (node : Tested rule n) where
  proposition_small : 1 < kind_at rule n → kind_at rule n < 4 → left_at rule n < propositions
  proposition_small low high =
      let fits : ltb (left_at rule n) propositions ≡ true =
      rw (← left_proposition (kind_at rule n) (omega arith) (omega arith)) at node.left_fits in
      omega (arith, ltb-true)

  left_below : 3 < kind_at rule n → left_at rule n < n
  left_below inner = ltb-true (left_at rule n) n (rw (← left_child (kind_at rule n) (omega arith)) at node.left_below)

  -- where there is one child, the right byte is 0
  right_below : 3 < kind_at rule n → right_at rule n < n
  right_below inner = pick (one_child (kind_at rule n)) refl
    where
      pick : (one : Bool) → one_child (kind_at rule n) ≡ one → right_at rule n < n
      pick true one =
          let zero : right_at rule n ≡ 0 =
          eqb-true (right_at rule n) 0 (rw (← right_absent (kind_at rule n) (omega arith) one) at node.right_fits) in
          omega (arith, left_below inner)
      pick false two =
          ltb-true (right_at rule n) n (rw (← right_child (kind_at rule n) (omega arith) two) at node.right_below)

pub node_fine : (highest : ℕ) (rule : List ℕ) (n : ℕ) → node_check highest rule n ≡ fine → Node rule n
node_fine highest rule n e =
    let node = tested highest rule n e in
    record {
      proposition = proposition_small rule n node;
      left = left_below rule n node;
      right = right_below rule n node;
    }

-- the kind is one of the edition's
pub kind_known : (highest : ℕ) (rule : List ℕ) (n : ℕ) → node_check highest rule n ≡ fine → kind_at rule n ≤ highest
unfolding node_check
kind_known highest rule n e =
    leb-true (kind_at rule n) highest (required (leb (kind_at rule n) highest) 3 n _ e).0

-- what is let pass still is where kinds go higher
module _ (low high : ℕ) (le : low ≤ high) (rule : List ℕ) where
  pub node_widens : (n : ℕ) → node_check low rule n ≡ fine → node_check high rule n ≡ fine
  unfolding node_check
  node_widens n e =
      let (known, rest) = required (leb (kind_at rule n) low) 3 n _ e in
      rw (le-leb (kind_at rule n) high (omega (arith, leb-true (kind_at rule n) low known))) rest

  pub syntax_widens : syntax_check low rule ≡ fine → syntax_check high rule ≡ fine
  unfolding syntax_check
  syntax_widens e =
      let rest = fine_second (length_check rule) _ e in
      let nodes = lowest (node_check low rule) (node_count rule) in
      let each = lowest_each (node_check low rule) (node_count rule) (fine_first nodes _ rest) in
      let all : lowest (node_check high rule) (node_count rule) ≡ fine =
      lowest_all (node_check high rule) (node_count rule) (λ n l. node_widens n (each n l)) in
      rw (fine_first (length_check rule) _ e, all) (fine_second nodes _ rest)

-- a rule that 1 to 6 let pass, where kinds go up to highest
pub record Formed (highest : ℕ) (rule : List ℕ) : Type 0 where
  pub most : length rule ≤ rule_bytes
  pub some : 0 < node_count rule
  pub whole : length rule % 3 ≡ 0
  pub each : (n : ℕ) → n < node_count rule → node_check highest rule n ≡ fine
  pub places : (n : ℕ) → n < node_count rule → place_check rule n ≡ fine

pub formed_fine : (highest : ℕ) (rule : List ℕ) → syntax_check highest rule ≡ fine → Formed highest rule
unfolding syntax_check length_check
formed_fine highest rule e =
    let size = required _ 1 0 _ (fine_first (length_check rule) _ e) in
    let parts = (and-eq-true_iff _ _).0 (require_fine _ 2 0 size.1) in
    let rest = fine_second (length_check rule) _ e in
    let nodes = lowest (node_check highest rule) (node_count rule) in
    let some : 0 < length rule = ltb-true 0 (length rule) parts.0 in
    let whole : length rule % 3 ≡ 0 = eqb-true (length rule % 3) 0 parts.1 in
    record {
      most = leb-true (length rule) rule_bytes size.0;
      some = omega arith;
      whole = whole;
      each = lowest_each (node_check highest rule) (node_count rule) (fine_first nodes _ rest);
      places = lowest_each (place_check rule) (node_count rule) (fine_second nodes _ rest);
    }

-- a rule that `check` accepts
pub record Accepted (rule : List ℕ) : Type 0 where
  pub most : length rule ≤ rule_bytes
  pub some : 0 < node_count rule
  pub whole : length rule % 3 ≡ 0
  pub nodes : (n : ℕ) → n < node_count rule → Node rule n
  pub places : (n : ℕ) → n < node_count rule → place_check rule n ≡ fine
  pub untils : length (untilsOf rule (node_count rule)) ≤ max_untils

pub accepted_fine : (rule : List ℕ) → checked rule ≡ fine → Accepted rule
unfolding checked until_check
accepted_fine rule e =
    let formed = formed_fine release_kind rule (fine_first (syntax_check release_kind rule) _ e) in
    record {
      most = formed.most;
      some = formed.some;
      whole = formed.whole;
      nodes = λ n lt. node_fine release_kind rule n (formed.each n lt);
      places = formed.places;
      untils = leb-true (length (untilsOf rule (node_count rule))) max_untils
          (require_fine _ 7 0 (fine_second (syntax_check release_kind rule) _ e));
    }

-- and its kinds are those of the first edition
pub accepted_kind : (rule : List ℕ) → checked rule ≡ fine → (n : ℕ) → n < node_count rule
    → kind_at rule n ≤ release_kind
unfolding checked
accepted_kind rule e n lt =
    kind_known release_kind rule n
    ((formed_fine release_kind rule (fine_first (syntax_check release_kind rule) _ e)).each n lt)

-- and its nodes' numbers are below the limit
pub accepted_few : (rule : List ℕ) → checked rule ≡ fine → (n : ℕ) → n < node_count rule → n < max_nodes
accepted_few rule e n lt = let m = (accepted_fine rule e).most in omega arith

-- the same of a rule that is known to pass, as `Rule` has it; and its bytes are small
module _ (rule : List ℕ) (passed : passes (checked rule) ≡ true) (n : ℕ) (inside : n < node_count rule) where
  accepted : checked rule ≡ fine
  accepted = passes_fine (checked rule) passed

  node : node_check release_kind rule n ≡ fine
  unfolding checked
  node = (formed_fine release_kind rule (fine_first (syntax_check release_kind rule) _ accepted)).each n inside

  pub passed_kind : kind_at rule n ≤ release_kind
  passed_kind = kind_known release_kind rule n node

  pub passed_left : left_at rule n < max_nodes
  passed_left = left_small release_kind rule n node (accepted_few rule accepted n inside)

  pub passed_right : right_at rule n < max_nodes
  passed_right = right_small release_kind rule n node (accepted_few rule accepted n inside)
