-- A rule that 1 to 7 and 20 let pass: how many nodes it has, what each of them is, and how many initial states and
-- transitions of a state there are. Assumes that it passes.
use mathlib.Core.Path.{◌≡◌}
use mathlib.Core.List.{List}
use Prim.Native.Nat.{ℕ, suc, ◌≤◌, ◌<◌}
use native.Mathlib.Omega.{arith}
use lib.ListN.{length}
use borrow.Author.Tests.{leb-true}
use Rattle.answer.specs.Result.{fine}
use Rattle.answer.proofs.Lowest.{lowest_each}
use Rattle.answer.proofs.Results.{require_fine}
use Rattle.formula.specs.Limits.{max_nodes}
use Rattle.formula.specs.Rule.{node_count, root}
use Rattle.formula.specs.Formula.{tree, formula, InRange}
use Rattle.formula.proofs.Accepted.{accepted_fine}
use Rattle.formula.proofs.Trees.{accepted_in_range}
use Rattle.term.specs.Limits.{max_terms}
use Rattle.term.specs.Term.{cover}
use Rattle.term.specs.Size.{size_check, sizes_checked}
use Rattle.term.proofs.Sizes.{Few, few_fine, bytes_fine, sizes_fine}
use Rattle.domination.specs.Domination.{dominates, stays}
use Rattle.domination.proofs.Undominated.{sift_short}
use Rattle.generalized.specs.Limits.{max_product}
use Rattle.generalized.specs.Generalized.{partial_product, state_terms, transitions, product_check}

module _ (rule : List ℕ) (passed : sizes_checked rule ≡ fine) where
  pub some_nodes : 0 < node_count rule
  some_nodes = (accepted_fine rule (bytes_fine rule passed)).some

  pub most_nodes : node_count rule ≤ max_nodes
  most_nodes = omega (arith, (accepted_fine rule (bytes_fine rule passed)).most)

  module _ (k : ℕ) (lt : k < node_count rule) where
    pub few : Few rule k
    few = few_fine rule k (lowest_each (size_check rule) (node_count rule) (sizes_fine rule passed) k lt)

    pub in_range : InRange (tree rule k)
    in_range = accepted_in_range rule (bytes_fine rule passed) k lt

  -- the root's cover, with which the walk begins
  pub initial_few : length (cover (formula rule)) ≤ max_terms
  unfolding formula
  initial_few = (few (root rule) (omega (arith, some_nodes))).cover

  -- a state that 21 lets pass has no more transitions than a product may have terms
  pub few_transitions : (place state : ℕ) → product_check rule place state ≡ fine
      → length (transitions rule state) ≤ max_product
  unfolding product_check transitions
  few_transitions place state e =
      let last : suc (root rule) ≡ node_count rule = omega (arith, some_nodes) in
      let fits = require_fine _ 21 place (lowest_each _ (node_count rule) e (root rule) (omega (arith, some_nodes))) in
      let terms : length (state_terms rule state) ≤ max_product =
      rw (← last) (leb-true (length (partial_product rule state (suc (root rule)))) max_product fits) in
      omega (arith, sift_short (stays (dominates rule) (state_terms rule state)) (state_terms rule state))
