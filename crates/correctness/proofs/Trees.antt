-- The tree of a node is built from the node's bytes and from the trees of its children, so that all trees of a rule
-- fit its node table, and the untils are the nodes of kind 7. Assumes nothing, not even that the rule is accepted.
use Prim.Native.Nat.{ℕ, zero, suc, ◌+◌, ◌*◌, ◌/◌, ◌<◌, ◌≤◌}
use mathlib.Core.Path.{◌≡◌, refl, sym, ◌∙◌, ap, ap₂, subst}
use mathlib.Core.List.{List, [], ◌∷◌, ◌++◌}
use mathlib.Core.Bool.{Bool, true, false, cond}
use native.Mathlib.Omega.{arith}
use native.Mathlib.Decide.{dec_lt}
use lib.ListN.{get_or, length, length-append, get_or-append, get_or-eq_default}
use lib.Seq.{get_or-append_seam}
use lib.Dec.{ltb}
use borrow.Author.Tests.{ltb-true, ltb-false}
use Rattle.formula.specs.Rule.{node_count, kind_at, left_at, right_at}
use Rattle.formula.specs.Formula.{Formula, bottom, top, proposition, negated_proposition, conjunction, disjunction}
use Rattle.formula.specs.Formula.{next}
use Rattle.formula.specs.Formula.{until, release, build, trees, tree}
use Rattle.correctness.proofs.Runs.{Below, Known, Fits}

-- node number left among the trees fs, as a child of node n
abbrev child : List Formula → (n left : ℕ) → Formula
child fs n left = cond (ltb left n) (get_or fs left bottom) bottom

-- node n of the trees fs is built from these bytes
abbrev Built : List Formula → (kind left right n : ℕ) → Type 0
Built fs kind left right n = get_or fs n bottom ≡ build kind n left (child fs n left) (child fs n right)

trees_length : (below : List Formula) (rest : List ℕ)
    → length (trees bottom build below rest) ≡ length below + length rest / 3
unfolding trees
trees_length below [] = omega arith
trees_length below (kind ∷ []) = omega arith
trees_length below (kind ∷ (left ∷ [])) = omega arith
trees_length below (kind ∷ (left ∷ (right ∷ rest))) =
    let f = build kind (length below) left (get_or below left bottom) (get_or below right bottom) in
    omega (arith, trees_length (below ++ (f ∷ [])) rest, length-append below (f ∷ []))

-- what is there stays there
trees_keep : (below : List Formula) (rest : List ℕ) (i : ℕ) → i < length below
    → get_or (trees bottom build below rest) i bottom ≡ get_or below i bottom
unfolding trees
trees_keep below [] i h = refl
trees_keep below (kind ∷ []) i h = refl
trees_keep below (kind ∷ (left ∷ [])) i h = refl
trees_keep below (kind ∷ (left ∷ (right ∷ rest))) i h =
    let f = build kind (length below) left (get_or below left bottom) (get_or below right bottom) in
    trees_keep (below ++ (f ∷ [])) rest i (omega (arith, length-append below (f ∷ []))) ∙ get_or-append below (f ∷ [])
    bottom i h

child_keep : (below : List Formula) (rest : List ℕ) (left : ℕ)
    → child (trees bottom build below rest) (length below) left ≡ get_or below left bottom
child_keep below rest left = go (ltb left (length below)) refl
  where
    go : (b : Bool) → ltb left (length below) ≡ b
        → cond b (get_or (trees bottom build below rest) left bottom) bottom ≡ get_or below left bottom
    go true q = trees_keep below rest left (ltb-true left (length below) q)
    go false q = sym (get_or-eq_default below bottom (ltb-false left (length below) q))

trees_built : (below : List Formula) (rest : List ℕ) (i : ℕ) → i < length rest / 3
    → Built (trees bottom build below rest) (get_or rest (i * 3) 0) (get_or rest (i * 3 + 1) 0) (get_or rest (i * 3 + 2) 0) (length below + i)
unfolding trees
trees_built below [] i h = absurd (omega arith)
trees_built below (kind ∷ []) i h = absurd (omega arith)
trees_built below (kind ∷ (left ∷ [])) i h = absurd (omega arith)
trees_built below (kind ∷ (left ∷ (right ∷ rest))) zero h =
    subst (Built fs kind left right) {x = length below} (omega arith) here
  where
    f : Formula
    f = build kind (length below) left (get_or below left bottom) (get_or below right bottom)

    fs : List Formula
    fs = trees bottom build below (kind ∷ (left ∷ (right ∷ rest)))

    here : Built fs kind left right (length below)
    here =
        trees_keep (below ++ (f ∷ [])) rest (length below) (omega (arith, length-append below (f ∷ [])))
        ∙ get_or-append_seam below f [] bottom
        ∙ sym (ap₂ (build kind (length below) left) (child_keep below (kind ∷ (left ∷ (right ∷ rest))) left)
        (child_keep below (kind ∷ (left ∷ (right ∷ rest))) right))
trees_built below (kind ∷ (left ∷ (right ∷ rest))) (suc i) h =
    let f = build kind (length below) left (get_or below left bottom) (get_or below right bottom) in
    let n : length below + suc i ≡ length (below ++ (f ∷ [])) + i = omega (arith, length-append below (f ∷ [])) in
    let k : suc i * 3 ≡ suc (suc (suc (i * 3))) = omega arith in
    let l : suc i * 3 + 1 ≡ suc (suc (suc (i * 3 + 1))) = omega arith in
    let r : suc i * 3 + 2 ≡ suc (suc (suc (i * 3 + 2))) = omega arith in
    rw (n, l, r, k) (trees_built (below ++ (f ∷ [])) rest i (omega arith))

-- a node's tree is built from its bytes and the trees of its children
tree_built : (rule : List ℕ) (n : ℕ) → n < node_count rule
    → Built (trees bottom build [] rule) (kind_at rule n) (left_at rule n) (right_at rule n) n
tree_built rule n h =
    subst (Built (trees bottom build [] rule) (kind_at rule n) (left_at rule n) (right_at rule n)) {x = 0 + n}
    (omega arith) (trees_built [] rule n h)

-- ---- the trees fit the node table
below_more : (j k : ℕ) → j ≤ k → (g : Formula) → Below j g → Below k g
below_more j k l bottom b = tt
below_more j k l top b = tt
below_more j k l (proposition n p) b = omega arith
below_more j k l (negated_proposition n p) b = omega arith
below_more j k l (conjunction f g) (p, q) = (below_more j k l f p, below_more j k l g q)
below_more j k l (disjunction f g) (p, q) = (below_more j k l f p, below_more j k l g q)
below_more j k l (next n f) (b, p) = (omega arith, below_more j k l f p)
below_more j k l (until n f g) (b, p, q) = (omega arith, below_more j k l f p, below_more j k l g q)
below_more j k l (release n f g) (b, p, q) = (omega arith, below_more j k l f p, below_more j k l g q)

module _ (rule : List ℕ) where
  -- f fits the table, with numbers below k
  record Placed (k : ℕ) (f : Formula) : Type 0 where
    fits : Fits rule f
    low : Below k f

  placed_more : (j k : ℕ) → j ≤ k → (f : Formula) → Placed j f → Placed k f
  placed_more j k l f p = record { fits = p.fits; low = below_more j k l f p.low }

  built_placed : (kind n left : ℕ) (a b : Formula) → Known rule n (build kind n left a b) → Placed n a → Placed n b
      → Placed (suc n) (build kind n left a b)
  built_placed kind n left a b kn pa pb =
      go kind kn (placed_more n (suc n) (omega arith) a pa) (placed_more n (suc n) (omega arith) b pb)
    where
      go : (kind : ℕ) → Known rule n (build kind n left a b) → Placed (suc n) a → Placed (suc n) b
          → Placed (suc n) (build kind n left a b)
      go zero kn pa' pb' = record { fits = tt; low = tt }
      go (suc zero) kn pa' pb' = record { fits = tt; low = tt }
      go (suc (suc zero)) kn pa' pb' = record { fits = kn; low = omega arith }
      go (suc (suc (suc zero))) kn pa' pb' = record { fits = kn; low = omega arith }
      go (suc (suc (suc (suc zero)))) kn pa' pb' = record { fits = (pa.fits, pb.fits); low = (pa'.low, pb'.low) }
      go (suc (suc (suc (suc (suc zero))))) kn pa' pb' = record { fits = (pa.fits, pb.fits); low = (pa'.low, pb'.low) }
      go (suc (suc (suc (suc (suc (suc zero)))))) kn pa' pb' =
          record { fits = (kn, pa.fits); low = (omega arith, pa'.low) }
      go (suc (suc (suc (suc (suc (suc (suc zero))))))) kn pa' pb' =
          record { fits = (kn, pb.low, pa.fits, pb.fits); low = (omega arith, pa'.low, pb'.low) }
      go (suc (suc (suc (suc (suc (suc (suc (suc zero)))))))) kn pa' pb' =
          record { fits = (kn, pa.fits, pb.fits); low = (omega arith, pa'.low, pb'.low) }
      go (suc (suc (suc (suc (suc (suc (suc (suc (suc kind))))))))) kn pa' pb' = record { fits = tt; low = tt }

  -- all trees below node k, by induction on k
  trees_placed : (k n : ℕ) → n < k → n < node_count rule → Placed (suc n) (tree rule n)
  unfolding tree
  trees_placed zero n l h = absurd (omega arith)
  trees_placed (suc k) n l h =
      subst (Placed (suc n)) (sym (tree_built rule n h))
      (built_placed (kind_at rule n) n (left_at rule n) _ _ (h, tree_built rule n h)
      (children (trees_placed k) (left_at rule n)) (children (trees_placed k) (right_at rule n)))
    where
      children : ((m : ℕ) → m < k → m < node_count rule → Placed (suc m) (tree rule m)) → (m : ℕ)
          → Placed n (child (trees bottom build [] rule) n m)
      children ih m = go (ltb m n) refl
        where
          go : (b : Bool) → ltb m n ≡ b → Placed n (cond b (get_or (trees bottom build [] rule) m bottom) bottom)
          go true q = let i = ltb-true m n q in placed_more (suc m) n i (tree rule m) (ih m (omega arith) (omega arith))
          go false q = record { fits = tt; low = tt }

  pub tree_fits : (n : ℕ) → Fits rule (tree rule n)
  unfolding tree
  tree_fits n = go (dec_lt n (node_count rule))
    where
      go : Dec (n < node_count rule) → Fits rule (tree rule n)
      go (yes h) = (trees_placed (suc n) n (omega arith) h).fits
      go (no h) =
          subst (Fits rule) (sym (get_or-eq_default (trees bottom build [] rule) bottom {n = n}
          (omega (arith, trees_length [] rule)))) tt

  -- ---- the untils are the nodes of kind 7
  pub kind_until : (n : ℕ) → n < node_count rule → kind_at rule n ≡ 7 → (a b : Formula) × Known rule n (until n a b)
  unfolding tree
  kind_until n h e = (
    _,
    _,
    (
      h,
      tree_built rule n h ∙ ap
          (λ (kind : ℕ). build kind n (left_at rule n) (child (trees bottom build [] rule) n (left_at rule n))
          (child (trees bottom build [] rule) n (right_at rule n))) e,
    ),
  )

  pub until_kind : (n : ℕ) (a b : Formula) → Known rule n (until n a b) → kind_at rule n ≡ 7
  unfolding tree
  until_kind n a b (h, e) = go (kind_at rule n) _ _ (sym (tree_built rule n h) ∙ e)
    where
      go : (kind : ℕ) (f g : Formula) → build kind n (left_at rule n) f g ≡ until n a b → kind ≡ 7
      go zero f g q = cc
      go (suc zero) f g q = cc
      go (suc (suc zero)) f g q = cc
      go (suc (suc (suc zero))) f g q = cc
      go (suc (suc (suc (suc zero)))) f g q = cc
      go (suc (suc (suc (suc (suc zero))))) f g q = cc
      go (suc (suc (suc (suc (suc (suc zero)))))) f g q = cc
      go (suc (suc (suc (suc (suc (suc (suc zero))))))) f g q = refl
      go (suc (suc (suc (suc (suc (suc (suc (suc zero)))))))) f g q = cc
      go (suc (suc (suc (suc (suc (suc (suc (suc (suc kind))))))))) f g q = cc
