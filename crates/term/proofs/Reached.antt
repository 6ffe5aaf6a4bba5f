-- A rule that 6 lets pass is reached whole from its root: from each node upwards, parent by parent.
-- Assumes nothing.
use mathlib.Core.Path.{◌≡◌, refl}
use mathlib.Core.Logic.{◌⊎◌, inl, inr}
use mathlib.Core.List.{List}
use Prim.Native.Nat.{ℕ, zero, suc, ◌+◌, ◌≤◌, ◌<◌}
use native.Mathlib.Decide.{ℕ_discrete}
use native.Mathlib.Omega.{arith}
use Rattle.answer.specs.Result.{fine}
use Rattle.formula.specs.Rule.{node_count, root, kind_at, left_at, right_at, checked}
use Rattle.formula.proofs.Parents.{Parent, by_left, by_right, parent_of}
use Rattle.term.specs.Memory.{Reaches, here, left, right}

-- what stands below a node, by its kind
pub below_leaf : (rule : List ℕ) (n k : ℕ) → kind_at rule n ≤ 3 → Reaches rule n k → k ≡ n
below_leaf rule n k leaf (here m) = refl
below_leaf rule n k leaf (left m j inner r) = absurd (omega arith)
below_leaf rule n k leaf (right m j inner pair r) = absurd (omega arith)

pub below_next : (rule : List ℕ) (n k l : ℕ) → l ≡ left_at rule n → kind_at rule n ≡ 6 → Reaches rule n k → (k ≡ n → ⊥)
    → Reaches rule l k
below_next rule n k l e next (here m) other = absurd (other refl)
below_next rule n k l e next (left m j inner r) other = rw e r
below_next rule n k l e next (right m j inner pair r) other = absurd (pair next)

pub below_pair : (rule : List ℕ) (n k l r : ℕ) → l ≡ left_at rule n → r ≡ right_at rule n → Reaches rule n k
    → (k ≡ n → ⊥) → Reaches rule l k ⊎ Reaches rule r k
below_pair rule n k l r e f (here m) other = absurd (other refl)
below_pair rule n k l r e f (left m j inner s) other = inl (rw e s)
below_pair rule n k l r e f (right m j inner pair s) other = inr (rw f s)

-- a child of a node that is reached
step : (rule : List ℕ) {n p : ℕ} (k : ℕ) → Reaches rule n p → Parent rule p k → Reaches rule n k
step rule k (here n) (by_left inner e) = left n k inner (rw e (here k))
step rule k (here n) (by_right inner pair e) = right n k inner pair (rw e (here k))
step rule k (left n p inner r) is = left n k inner (step rule k r is)
step rule k (right n p inner pair r) is = right n k inner pair (step rule k r is)

module _ (rule : List ℕ) (passed : checked rule ≡ fine) where
  -- by the distance from the root
  reached_within : (distance k : ℕ) → k < node_count rule → root rule ≤ k + distance → Reaches rule (root rule) k
  reached_within zero k lt near =
      let e : k ≡ root rule = omega arith in
      rw e (here (root rule))
  reached_within (suc distance) k lt near = pick (ℕ_discrete k (root rule)) (reached_within distance)
    where
      pick : Dec (k ≡ root rule) → ((p : ℕ) → p < node_count rule → root rule ≤ p + distance
          → Reaches rule (root rule) p) → Reaches rule (root rule) k
      pick (yes e) ih = rw e (here (root rule))
      pick (no other) ih =
          let (p, inside, above, is) = parent_of rule passed k lt other in step rule k (ih p inside (omega arith)) is

  pub reached_whole : (k : ℕ) → k < node_count rule → Reaches rule (root rule) k
  reached_whole k lt = reached_within (root rule) k lt (omega arith)
