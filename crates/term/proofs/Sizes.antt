-- A node that a descent may begin at, and number 20 by the sizes of its terms and of its cover.
-- Assumes nothing.
use mathlib.Core.Path.{◌≡◌, refl, ◌∙◌}
use mathlib.Core.List.{List}
use mathlib.Core.Bool.{Bool, true, false, ◌&&◌}
use Prim.Native.Nat.{ℕ, suc, ◌≤◌, ◌<◌}
use native.Mathlib.Omega.{arith}
use lib.ListN.{length}
use lib.Dec.{leb}
use borrow.Author.Tests.{leb-true, le-leb}
use Rattle.answer.specs.Result.{passes, fine, refused, require, lowest}
use Rattle.formula.specs.Limits.{max_nodes}
use Rattle.formula.specs.Rule.{node_count, root, kind_at, left_at, right_at}
use Rattle.formula.specs.Rule
use Rattle.formula.specs.Formula.{Formula, build, tree, InRange}
use Rattle.answer.proofs.Lowest.{not_fine, fine_first, fine_second, lowest_each, lowest_below, passes_fine}
use Rattle.formula.proofs.Accepted.{Node, accepted_fine}
use Rattle.formula.proofs.Trees.{left_below, right_below, leaf_in, pair_in, tree_in_range}
use Rattle.term.specs.Limits.{max_terms}
use Rattle.term.specs.Term.{terms, cover}
use Rattle.term.specs.Size.{size_check, sizes_checked}
use Rattle.term.specs.Memory.{Over}

pub record Few (rule : List ℕ) (k : ℕ) : Type 0 where
  pub terms : length (terms (tree rule k)) ≤ max_terms
  pub cover : length (cover (tree rule k)) ≤ max_terms

-- the tests of 20 at node k
abbrev few_terms : List ℕ → ℕ → Bool
few_terms rule k = leb (length (terms (tree rule k))) max_terms

abbrev few_sets : List ℕ → ℕ → Bool
few_sets rule k = leb (length (cover (tree rule k))) max_terms

pub few_fine : (rule : List ℕ) (k : ℕ) → size_check rule k ≡ fine → Few rule k
unfolding size_check
few_fine rule k e = go (few_terms rule k) (few_sets rule k) refl refl e
  where
    go : (b c : Bool) → few_terms rule k ≡ b → few_sets rule k ≡ c → require (b && c) 20 k ≡ fine → Few rule k
    go true true p q e = record { terms = leb-true _ _ p; cover = leb-true _ _ q }
    go true false p q e = not_fine e
    go false c p q e = not_fine e

pub fine_few : (rule : List ℕ) (k : ℕ) → Few rule k → fine ≡ size_check rule k
unfolding size_check
fine_few rule k few =
    rw (
      le-leb (length (terms (tree rule k))) max_terms few.terms,
      le-leb (length (cover (tree rule k))) max_terms
          few.cover,
    )

-- node n of a rule that 1 to 7 let pass
pub record Ready (rule : List ℕ) (n : ℕ) : Type 0 where
  pub accepted : Rule.checked rule ≡ fine
  pub inside : n < node_count rule

-- of a rule that is known to pass, as `Rule` has it
pub ready_node : {rule : List ℕ} {n : ℕ} → passes (Rule.checked rule) ≡ true → n < node_count rule → Ready rule n
ready_node passed inside = record { accepted = passes_fine _ passed; inside = inside }

module _ {rule : List ℕ} {n : ℕ} (ready : Ready rule n) where
  node_below : (k : ℕ) → k ≤ n → Node rule k
  node_below k le = (accepted_fine rule ready.accepted).nodes k (omega (arith, ready.inside))

  pub own_node : Node rule n
  own_node = node_below n (omega arith)

  pub ready_small : n < max_nodes
  ready_small = omega (arith, ready.inside, (accepted_fine rule ready.accepted).most)

  pub inside_below : {k : ℕ} → k < n → k < node_count rule
  inside_below lt = omega (arith, ready.inside)

  pub ready_in_range : (k : ℕ) → k ≤ n → InRange (tree rule k)
  ready_in_range k le = tree_in_range rule k (omega (arith, ready.inside)) (λ j l. node_below j (omega arith))

  -- its children stand below it, and its tree is made of theirs
  module _ {k : ℕ} (ek : k ≡ kind_at rule n) where
    pub left_lower : {l : ℕ} → l ≡ left_at rule n → 3 < k → l < n
    left_lower el inner = left_below rule n ready.inside own_node k ek inner _ el

    pub right_lower : {r : ℕ} → r ≡ right_at rule n → 3 < k → r < n
    right_lower er inner = right_below rule n ready.inside own_node k ek inner _ er

    pub of_leaf : (P : Formula → Type 0) {l : ℕ} → l ≡ left_at rule n → ((f g : Formula) → P (build k n l f g))
        → P (tree rule n)
    of_leaf P el = leaf_in rule n ready.inside own_node P k ek _ el

    pub of_pair : (P : Formula → Type 0) {l r : ℕ} → l ≡ left_at rule n → r ≡ right_at rule n → 3 < k
        → P (build k n l (tree rule l) (tree rule r)) → P (tree rule n)
    of_pair P el er = pair_in rule n ready.inside own_node P k ek _ _ el er

-- a rule that 1 to 7 and 20 let pass
module _ (rule : List ℕ) (passed : sizes_checked rule ≡ fine) where
  pub bytes_fine : Rule.checked rule ≡ fine
  unfolding sizes_checked
  bytes_fine = fine_first (Rule.checked rule) _ passed

  pub sizes_fine : lowest (size_check rule) (node_count rule) ≡ fine
  unfolding sizes_checked
  sizes_fine = fine_second (Rule.checked rule) _ passed

-- the root of a rule that is known to pass
module _ (rule : List ℕ) (passed : passes (Rule.checked rule) ≡ true) where
  pub some_node : 1 ≤ node_count rule
  some_node = (accepted_fine rule (passes_fine _ passed)).some

  pub root_inside : root rule < node_count rule
  root_inside = omega (arith, some_node)

-- a node up to n that is a 20
module _ (rule : List ℕ) (n : ℕ) where
  pub over_above : (k : ℕ) → k ≤ n → Over rule k → Over rule n
  over_above k le over e = over (lowest_below (size_check rule) (suc n) e (suc k) (omega arith))

  pub over_many : (Few rule n → ⊥) → Over rule n
  over_many many e = many (few_fine rule n (lowest_each (size_check rule) (suc n) e n (omega arith)))

  -- it is n, if none below n is one
  pub over_own : lowest (size_check rule) n ≡ fine → Over rule n → refused 20 n ≡ size_check rule n
  unfolding size_check lowest
  over_own below over = go (few_terms rule n && few_sets rule n) refl
    where
      go : (b : Bool) → (few_terms rule n && few_sets rule n) ≡ b → refused 20 n ≡ require b 20 n
      go true e = absurd (over (rw (below, e) refl))
      go false e = refl

  -- so a test that fails only where n is one refuses as the check does
  pub size_fails : lowest (size_check rule) n ≡ fine → (b : Bool) → (b ≡ false → Over rule n) → {number place : ℕ}
      → refused number place ≡ require b 20 n → refused number place ≡ size_check rule n
  size_fails below true over e = not_fine e
  size_fails below false over e = e ∙ over_own below (over refl)

  -- and one that also holds only where there are few is the check
  pub size_is : lowest (size_check rule) n ≡ fine → (b : Bool) → (b ≡ true → Few rule n) → (b ≡ false → Over rule n)
      → require b 20 n ≡ size_check rule n
  size_is below true few over = fine_few rule n (few refl)
  size_is below false few over = over_own below (over refl)
