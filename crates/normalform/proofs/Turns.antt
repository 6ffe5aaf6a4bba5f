-- The walk from a node by its kind, as code that descends from node to node takes it: by the node's tree it computes.
-- Assumes nothing.
use Prim.Native.Nat.{ℕ, ◌<◌}
use mathlib.Core.Path.{◌≡◌, refl}
use mathlib.Core.Bool.{Bool, true, false, not}
use mathlib.Core.List.{List, [], ◌∷◌, ◌++◌}
use native.Mathlib.Omega.{arith}
use Rattle.formula.specs.Rule.{kind_at, left_at, right_at}
use Rattle.normalform.specs.Written.{Written, constant, literal, build_written, written_tree}
use Rattle.normalform.specs.NormalForm.{turned, bit, left_constant, pair_code, code, below}
use Rattle.normalform.specs.Memory.{node_walk}
use Rattle.normalform.proofs.Nodes.{Pair, four, five, seven, eight}
use Rattle.normalform.proofs.Fitting.{WrittenNode, leaf_built, inner_built}

module _ (rule : List ℕ) (n : ℕ) (node : WrittenNode rule n) (s : Bool) where
  abbrev l : ℕ
  l = left_at rule n

  abbrev r : ℕ
  r = right_at rule n

  leaf : (k : ℕ) → kind_at rule n ≡ k → (t : Written) → ((a b : Written) → build_written k n l a b ≡ t)
      → written_tree rule n ≡ t
  leaf k ek t h = leaf_built rule n node k l ek refl t h

  inner : (k : ℕ) → kind_at rule n ≡ k → 3 < k
      → written_tree rule n ≡ build_written k n l (written_tree rule l) (written_tree rule r)
  inner k ek h = inner_built rule n node k l ek refl r refl h

  pub walk_false : kind_at rule n ≡ 0 → node_walk rule n s ≡ bit s ∷ []
  unfolding code below
  walk_false ek = rw (leaf 0 ek (constant false) (λ a b. refl)) (go s)
    where
      go : (s : Bool) → bit (turned false s) ∷ [] ≡ bit s ∷ []
      go true = refl
      go false = refl

  pub walk_true : kind_at rule n ≡ 1 → node_walk rule n s ≡ bit (not s) ∷ []
  unfolding code below
  walk_true ek = rw (leaf 1 ek (constant true) (λ a b. refl)) (go s)
    where
      go : (s : Bool) → bit (turned true s) ∷ [] ≡ bit (not s) ∷ []
      go true = refl
      go false = refl

  pub walk_positive : kind_at rule n ≡ 2 → node_walk rule n s ≡ pair_code n s ∷ []
  unfolding code below
  walk_positive ek = rw (leaf 2 ek (literal n true l) (λ a b. refl)) refl

  pub walk_negative : kind_at rule n ≡ 3 → node_walk rule n s ≡ pair_code n s ∷ []
  unfolding code below
  walk_negative ek = rw (leaf 3 ek (literal n false l) (λ a b. refl)) refl

  -- and, or, until, release
  pub walk_pair : (k : ℕ) → kind_at rule n ≡ k → Pair k
      → node_walk rule n s ≡ pair_code n s ∷ (node_walk rule l s ++ node_walk rule r s)
  unfolding code below
  walk_pair k ek four = rw (inner 4 ek (omega arith)) refl
  walk_pair k ek five = rw (inner 5 ek (omega arith)) refl
  walk_pair k ek seven = rw (inner 7 ek (omega arith)) refl
  walk_pair k ek eight = rw (inner 8 ek (omega arith)) refl

  pub walk_next : kind_at rule n ≡ 6 → node_walk rule n s ≡ pair_code n s ∷ node_walk rule l s
  unfolding code below
  walk_next ek = rw (inner 6 ek (omega arith)) refl

  -- the walk in the other sense
  pub walk_not : kind_at rule n ≡ 9 → node_walk rule n s ≡ node_walk rule l (not s)
  unfolding code below
  walk_not ek = rw (inner 9 ek (omega arith)) refl

  pub walk_implies : kind_at rule n ≡ 10
      → node_walk rule n s ≡ pair_code n s ∷ (node_walk rule l (not s) ++ node_walk rule r s)
  unfolding code below
  walk_implies ek = rw (inner 10 ek (omega arith)) refl

  pub walk_always : kind_at rule n ≡ 11
      → node_walk rule n s ≡ pair_code n s ∷ (bit (left_constant true s) ∷ node_walk rule l s)
  unfolding code below
  walk_always ek = rw (inner 11 ek (omega arith)) refl

  pub walk_eventually : kind_at rule n ≡ 12
      → node_walk rule n s ≡ pair_code n s ∷ (bit (left_constant false s) ∷ node_walk rule l s)
  unfolding code below
  walk_eventually ek = rw (inner 12 ek (omega arith)) refl
