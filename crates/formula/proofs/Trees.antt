-- The tree of a node by those of its children, and what holds of every tree of a rule that is accepted. Assumes nothing
-- but that 4 and 5 let the nodes pass.
use mathlib.Core.Path.{◌≡◌, refl, sym, ap, ◌∙◌}
use mathlib.Core.List.{List, [], ◌∷◌, ◌++◌}
use Prim.Native.Nat.{ℕ, zero, suc, ◌+◌, ◌*◌, ◌≤◌, ◌<◌}
use native.Mathlib.Decide.{dec_lt}
use native.Mathlib.Omega.{arith}
use lib.ListN.{length, get_or, take, length-append}
use lib.Seq.{get_or-take, take-append-le, take-take, take_all, get_or-append_seam}
use Rattle.answer.specs.Result.{fine}
use Rattle.formula.specs.Limits.{propositions}
use Rattle.formula.specs.Rule.{node_count, kind_at, left_at, right_at, checked}
use Rattle.formula.specs.Formula.{Formula, bottom, build, trees, tree, InRange}
use Rattle.formula.proofs.Accepted.{Node, accepted_fine}

-- trees of any type, as `trees` makes them
module _ {A : Type 0} (none : A) (builds : (kind n left : ℕ) (a b : A) → A) where
  abbrev all : List A → List ℕ → List A
  all = trees none builds

  abbrev next : List A → (kind left right : ℕ) → A
  next below kind left right = builds kind (length below) left (get_or below left none) (get_or below right none)

  -- the trees below stay
  kept : (rest : List ℕ) (below : List A) → take (length below) (all below rest) ≡ below
  unfolding trees
  kept [] below = take_all (length below) below (omega arith)
  kept (kind ∷ []) below = take_all (length below) below (omega arith)
  kept (kind ∷ (left ∷ [])) below = take_all (length below) below (omega arith)
  kept (kind ∷ (left ∷ (right ∷ rest))) below =
      let f = next below kind left right in
      sym (take-take (length below) (length (below ++ (f ∷ []))) (all (below ++ (f ∷ [])) rest)
      (omega (arith, length-append below (f ∷ []))))
      ∙ ap (take (length below)) (kept rest (below ++ (f ∷ [])))
      ∙ take-append-le (length below) below (f ∷ []) (omega arith)
      ∙ take_all (length below) below (omega arith)

  -- node m of all, if it is number n of the rest
  abbrev Built : List A → List ℕ → (m n : ℕ) → Type 0
  Built ts rest m n =
      get_or ts m none ≡ builds (kind_at rest n) m (left_at rest n) (get_or (take m ts) (left_at rest n) none)
      (get_or (take m ts) (right_at rest n) none)

  built : (n m : ℕ) (rest : List ℕ) (below : List A) → m ≡ length below + n → n * 3 + 2 < length rest
      → Built (all below rest) rest m n
  unfolding trees
  built n m [] below e lt = absurd (omega arith)
  built n m (kind ∷ []) below e lt = absurd (omega arith)
  built n m (kind ∷ (left ∷ [])) below e lt = absurd (omega arith)
  built zero m (kind ∷ (left ∷ (right ∷ rest))) below e lt =
      let f = next below kind left right in
      let ts : List A = all (below ++ (f ∷ [])) rest in
      let q : m ≡ length below = omega arith in
      let s : take (length below) ts ≡ below = kept (kind ∷ (left ∷ (right ∷ rest))) below in
      rw (q, s)
      (sym (get_or-take (length (below ++ (f ∷ []))) ts (length below) none
      (omega (arith, length-append below (f ∷ []))))
      ∙ ap (λ (xs : List A). get_or xs (length below) none) (kept rest (below ++ (f ∷ [])))
      ∙ get_or-append_seam below f [] none)
  built (suc n) m (kind ∷ (left ∷ (right ∷ rest))) below e lt =
      let f = next below kind left right in
      let a : suc n * 3 ≡ suc (suc (suc (n * 3))) = omega arith in
      let b : suc n * 3 + 1 ≡ suc (suc (suc (n * 3 + 1))) = omega arith in
      let d : suc n * 3 + 2 ≡ suc (suc (suc (n * 3 + 2))) = omega arith in
      rw (b, d, a) (built n m rest (below ++ (f ∷ [])) (omega (arith, length-append below (f ∷ []))) (omega arith))

  module _ (rule : List ℕ) (n : ℕ) (inside : n < node_count rule) where
    abbrev lookup : ℕ → A
    lookup k = get_or (all [] rule) k none

    -- the tree of node n, by what its children are among the trees below it
    pub of_parts : lookup n
        ≡ builds (kind_at rule n) n (left_at rule n) (get_or (take n (all [] rule)) (left_at rule n) none)
        (get_or (take n (all [] rule)) (right_at rule n) none)
    of_parts = built n n rule [] (omega arith) (omega arith)

    -- and by its children's trees
    pub of_children : left_at rule n < n → right_at rule n < n
        → lookup n ≡ builds (kind_at rule n) n (left_at rule n) (lookup (left_at rule n)) (lookup (right_at rule n))
    of_children l r =
        of_parts
        ∙ rw (get_or-take n (all [] rule) (left_at rule n) none l, get_or-take n (all [] rule) (right_at rule n) none r)

module _ (rule : List ℕ) (n : ℕ) (inside : n < node_count rule) (node : Node rule n) where
  module _ (k : ℕ) (ek : k ≡ kind_at rule n) (inner : 3 < k) where
    pub left_below : (l : ℕ) → l ≡ left_at rule n → l < n
    left_below l e = omega (arith, node.left (omega arith))

    pub right_below : (r : ℕ) → r ≡ right_at rule n → r < n
    right_below r e = omega (arith, node.right (omega arith))

  -- P is what is said of a node's tree
  module _ (P : Formula → Type 0) (k : ℕ) (ek : k ≡ kind_at rule n) where
    pub leaf_in : (l : ℕ) → l ≡ left_at rule n → ((f g : Formula) → P (build k n l f g)) → P (tree rule n)
    unfolding tree
    leaf_in l el h = rw (of_parts bottom build rule n inside, ← ek, ← el) (h _ _)

    pub pair_in : (l r : ℕ) → l ≡ left_at rule n → r ≡ right_at rule n → 3 < k
        → P (build k n l (tree rule l) (tree rule r)) → P (tree rule n)
    unfolding tree
    pair_in l r el er inner h =
        rw (
          of_children bottom build rule n inside (node.left (omega arith)) (node.right (omega arith)),
          ← el,
          ← er,
          ←
              ek,
        ) h

in_range_build : (k n l : ℕ) (f g : Formula) → (1 < k → k < 4 → l < propositions) → (3 < k → InRange f)
    → (3 < k → InRange g) → InRange (build k n l f g)
unfolding InRange
in_range_build zero n l f g p a b = tt
in_range_build (suc zero) n l f g p a b = tt
in_range_build (suc (suc zero)) n l f g p a b = p (omega arith) (omega arith)
in_range_build (suc (suc (suc zero))) n l f g p a b = p (omega arith) (omega arith)
in_range_build (suc (suc (suc (suc zero)))) n l f g p a b = (a (omega arith), b (omega arith))
in_range_build (suc (suc (suc (suc (suc zero))))) n l f g p a b = (a (omega arith), b (omega arith))
in_range_build (suc (suc (suc (suc (suc (suc zero)))))) n l f g p a b = a (omega arith)
in_range_build (suc (suc (suc (suc (suc (suc (suc zero))))))) n l f g p a b = (a (omega arith), b (omega arith))
in_range_build (suc (suc (suc (suc (suc (suc (suc (suc zero)))))))) n l f g p a b = (a (omega arith), b (omega arith))
in_range_build (suc (suc (suc (suc (suc (suc (suc (suc (suc k))))))))) n l f g p a b = tt

in_range_step : (rule : List ℕ) (n : ℕ) → n < node_count rule → Node rule n → ((k : ℕ) → k < n → InRange (tree rule k))
    → InRange (tree rule n)
in_range_step rule n inside node below = pick (dec_lt 3 (kind_at rule n))
  where
    pick : Dec (3 < kind_at rule n) → InRange (tree rule n)
    pick (yes inner) =
        pair_in rule n inside node InRange (kind_at rule n) refl (left_at rule n) (right_at rule n) refl refl inner
        (in_range_build (kind_at rule n) n (left_at rule n) _ _ node.proposition
        (λ _. below (left_at rule n) (node.left inner)) (λ _. below (right_at rule n) (node.right inner)))
    pick (no leaf) =
        leaf_in rule n inside node InRange (kind_at rule n) refl (left_at rule n) refl
        (λ f g. in_range_build (kind_at rule n) n (left_at rule n) f g node.proposition (λ inner. absurd (leaf inner))
        (λ inner. absurd (leaf inner)))

in_range_to : (rule : List ℕ) (bound n : ℕ) → n < bound → n < node_count rule → ((k : ℕ) → k ≤ n → Node rule k)
    → InRange (tree rule n)
in_range_to rule zero n lt inside nodes = absurd (omega arith)
in_range_to rule (suc bound) n lt inside nodes =
    in_range_step rule n inside (nodes n (omega arith))
    (λ k l. in_range_to rule bound k (omega arith) (omega arith) (λ j le. nodes j (omega arith)))

-- the tree of node n has no other propositions than there are, if 3 to 5 let all nodes up to n pass
pub tree_in_range : (rule : List ℕ) (n : ℕ) → n < node_count rule → ((k : ℕ) → k ≤ n → Node rule k)
    → InRange (tree rule n)
tree_in_range rule n inside nodes = in_range_to rule (suc n) n (omega arith) inside nodes

pub accepted_in_range : (rule : List ℕ) → checked rule ≡ fine → (n : ℕ) → n < node_count rule → InRange (tree rule n)
accepted_in_range rule passed n inside =
    tree_in_range rule n inside (λ k le. (accepted_fine rule passed).nodes k (omega arith))
