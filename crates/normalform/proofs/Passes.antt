-- R-3: the result is a first-edition rule. Node by node it passes 3 to 6, and its bytes come in threes and are few
-- enough for 1 and 2; so of its checks only 7 is left. Assumes nothing.
use Prim.Native.Nat.{ℕ, ◌*◌, ◌%◌, ◌<◌, ◌≤◌}
use mathlib.Core.Path.{◌≡◌, subst}
use mathlib.Core.Bool.{false}
use mathlib.Core.List.{List}
use native.Mathlib.Omega.{arith}
use lib.ListN.{length}
use borrow.Author.Tests.{le-leb, lt-ltb, eq-eqb}
use Rattle.answer.specs.Result.{accepted, fine}
use Rattle.answer.proofs.Lowest.{lowest_all}
use Rattle.formula.specs.Limits.{max_nodes, rule_bytes}
use Rattle.formula.specs.Rule.{node_count, root, release_kind, length_check, node_check, place_check}
use Rattle.formula.specs.Rule.{syntax_check, until_check, checked}
use Rattle.normalform.specs.Written.{Written, written_tree}
use Rattle.normalform.specs.NormalForm.{code_end, size, normal_bytes, normal_form}
use Rattle.normalform.proofs.Ranks.{rank_below}
use Rattle.normalform.proofs.Shape.{code_low}
use Rattle.normalform.proofs.Fitting.{Made, made_constant, made_literal, made_negation, made_next, made_binary}
use Rattle.normalform.proofs.Fitting.{made_future, leaf_made, WellWritten}
use Rattle.normalform.proofs.Counts.{nodes, node_once}
use Rattle.normalform.proofs.Sums.{count}
use Rattle.normalform.proofs.Nodes.{needs, out_length, root_within, own}
use Rattle.normalform.proofs.Placed.{Inner, each_node, each_place}
use Rattle.normalform.proofs.Holds.{normal}

-- a tree with children is of a kind above 3
inner_high : {k n l : ℕ} {a b t : Written} → Made n l a b k t → Inner t → 3 < k
inner_high (made_constant k v h) i = absurd i
inner_high (made_literal k v low high) i = absurd i
inner_high (made_negation k h) i = omega arith
inner_high (made_next k h) i = omega arith
inner_high (made_binary k o h two) i = h
inner_high (made_future k all h) i = omega arith

module _ (rule : List ℕ) (formed : WellWritten rule) where
  abbrev look : ℕ → Written
  look = written_tree rule

  abbrev start : Written
  start = look (root rule)

  once : (n : ℕ) → n < node_count rule → Inner (look n) → count n (nodes start) ≤ 1
  once n h i =
      let (a, b, made) = leaf_made rule n (formed.nodes n h) in
      node_once rule formed n h (inner_high made i)

  pub result_length : length (normal_bytes rule) ≡ size rule * 3
  unfolding normal_bytes size
  result_length = out_length look start (node_count rule) formed.fits

  result_some : 0 < size rule
  unfolding size
  result_some =
      let m = node_count rule in
      let f = formed.fits in
      let first = own look start m f start false (root_within look start m f) in
      let l = rank_below (needs look start m f) _ (code_end rule) first (code_low look start m false f) in
      omega (arith, l)

  pub result_node : (i : ℕ) → i < node_count (normal_bytes rule) → node_check release_kind (normal_bytes rule) i ≡ fine
  unfolding normal_bytes
  result_node i l = each_node look start (node_count rule) formed.fits i l

  result_place : (i : ℕ) → i < node_count (normal_bytes rule) → place_check (normal_bytes rule) i ≡ fine
  unfolding normal_bytes
  result_place i l = each_place look start (node_count rule) formed.fits once i l

  pub result_form : size rule ≤ max_nodes → syntax_check release_kind (normal_bytes rule) ≡ fine
  unfolding syntax_check length_check
  result_form most =
      let r = normal_bytes rule in
      rw (
        le-leb (length r) rule_bytes (omega (arith, result_length)),
        lt-ltb 0 (length r) (omega (arith, result_length, result_some)),
        eq-eqb (length r % 3) 0 (omega (arith, result_length)),
        lowest_all (node_check release_kind r) (node_count r) result_node,
      ) (lowest_all (place_check r) (node_count r) result_place)

-- ---- the theorem
-- 1 to 6 let the normal form pass, as a first-edition rule
pub normal_form_passes : (rule out : List ℕ) → normal_form rule ≡ accepted out → syntax_check release_kind out ≡ fine
normal_form_passes rule out e =
    let n = normal rule out e in
    subst (λ (x : List ℕ). syntax_check release_kind x ≡ fine) n.same (result_form rule n.formed n.few)

-- so of 1 to 7 only 7 is left
pub normal_form_checked : (rule out : List ℕ) → normal_form rule ≡ accepted out → checked out ≡ until_check out
unfolding checked
normal_form_checked rule out e = rw (normal_form_passes rule out e)
