-- A written rule that 1 to 6 let pass: the tree of each node by its kind and its children's trees, and, from the lowest
-- node up, that it fits the table of the rule's trees. Assumes nothing.
use Prim.Native.Nat.{ℕ, zero, suc, ◌<◌, ◌≤◌}
use mathlib.Core.Path.{◌≡◌, refl, sym, ◌∙◌, subst}
use mathlib.Core.Bool.{Bool, true, false}
use mathlib.Core.List.{List}
use native.Mathlib.Omega.{arith}
use native.Mathlib.Decide.{dec_lt}
use Rattle.answer.specs.Result.{passes, fine}
use Rattle.answer.proofs.Lowest.{passes_fine}
use Rattle.formula.specs.Limits.{propositions}
use Rattle.formula.specs.Rule.{node_count, kind_at, left_at, right_at, root, one_child, eventually_kind, node_check}
use Rattle.formula.specs.Rule.{place_check}
use Rattle.formula.proofs.Accepted.{Node, node_fine, kind_known, formed_fine}
use Rattle.formula.proofs.Trees.{of_parts, of_children}
use Rattle.normalform.specs.Written.{Connective, and, or, until, release, implies, Written, constant, literal}
use Rattle.normalform.specs.Written.{negation, next, binary, future, build_written, written_tree, written_check}
use Rattle.normalform.proofs.Shape.{Fits}

-- what the checks say of node n of a written rule
pub record WrittenNode (rule : List ℕ) (n : ℕ) : Type 0 where
  pub inside : n < node_count rule
  pub kind : kind_at rule n ≤ eventually_kind
  pub node : Node rule n

pub written_node : (rule : List ℕ) (n : ℕ) → n < node_count rule → node_check eventually_kind rule n ≡ fine
    → WrittenNode rule n
written_node rule n lt e =
    record { inside = lt; kind = kind_known eventually_kind rule n e; node = node_fine eventually_kind rule n e }

-- ---- node n of kind k, with the left byte l and the children a and b, by the form of its tree
pub data Made (n l : ℕ) (a b : Written) : (k : ℕ) → Written → Type 0 where
  made_constant : (k : ℕ) (v : Bool) → k < 2 → Made n l a b k (constant v)
  made_literal : (k : ℕ) (v : Bool) → 1 < k → k < 4 → Made n l a b k (literal n v l)
  made_negation : (k : ℕ) → k ≡ 9 → Made n l a b k (negation n a)
  made_next : (k : ℕ) → k ≡ 6 → Made n l a b k (next n a)
  made_binary : (k : ℕ) (o : Connective) → 3 < k → one_child k ≡ false → Made n l a b k (binary n o a b)
  made_future : (k : ℕ) (all : Bool) → 10 < k → Made n l a b k (future n all a)

made : (k n l : ℕ) (a b : Written) → Made n l a b k (build_written k n l a b)
unfolding one_child
made zero n l a b = made_constant 0 false (omega arith)
made (suc zero) n l a b = made_constant 1 true (omega arith)
made (suc (suc zero)) n l a b = made_literal 2 true (omega arith) (omega arith)
made (suc (suc (suc zero))) n l a b = made_literal 3 false (omega arith) (omega arith)
made (suc (suc (suc (suc zero)))) n l a b = made_binary 4 and (omega arith) refl
made (suc (suc (suc (suc (suc zero))))) n l a b = made_binary 5 or (omega arith) refl
made (suc (suc (suc (suc (suc (suc zero)))))) n l a b = made_next 6 refl
made (suc (suc (suc (suc (suc (suc (suc zero))))))) n l a b = made_binary 7 until (omega arith) refl
made (suc (suc (suc (suc (suc (suc (suc (suc zero)))))))) n l a b = made_binary 8 release (omega arith) refl
made (suc (suc (suc (suc (suc (suc (suc (suc (suc zero))))))))) n l a b = made_negation 9 refl
made (suc (suc (suc (suc (suc (suc (suc (suc (suc (suc zero)))))))))) n l a b =
    made_binary 10 implies (omega arith) refl
made (suc (suc (suc (suc (suc (suc (suc (suc (suc (suc (suc zero))))))))))) n l a b =
    made_future 11 true (omega arith)
made (suc (suc (suc (suc (suc (suc (suc (suc (suc (suc (suc (suc k)))))))))))) n l a b =
    made_future (suc (suc (suc (suc (suc (suc (suc (suc (suc (suc (suc (suc k)))))))))))) false (omega arith)

-- ---- the tree of a node, by the trees of its children where it has any
module _ (rule : List ℕ) (n : ℕ) (w : WrittenNode rule n) where
  abbrev left_tree : Written
  left_tree = written_tree rule (left_at rule n)

  abbrev right_tree : Written
  right_tree = written_tree rule (right_at rule n)

  pub leaf_tree : (a b : Written) × (written_tree rule n ≡ build_written (kind_at rule n) n (left_at rule n) a b)
  unfolding written_tree
  leaf_tree = (_, _, of_parts (constant false) build_written rule n w.inside)

  pub inner_tree : 3 < kind_at rule n
      → written_tree rule n ≡ build_written (kind_at rule n) n (left_at rule n) left_tree right_tree
  unfolding written_tree
  inner_tree inner =
      of_children (constant false) build_written rule n w.inside (w.node.left inner) (w.node.right inner)

  -- the same, where the bytes are known
  module _ (k l : ℕ) (ek : kind_at rule n ≡ k) (el : left_at rule n ≡ l) where
    pub leaf_built : (t : Written) → ((a b : Written) → build_written k n l a b ≡ t) → written_tree rule n ≡ t
    leaf_built t h =
        let (a, b, e) = leaf_tree in
        e ∙ rw (ek, el) (h a b)

    pub inner_built : (r : ℕ) → right_at rule n ≡ r → 3 < k
        → written_tree rule n ≡ build_written k n l (written_tree rule l) (written_tree rule r)
    inner_built r er inner = inner_tree (rw ek inner) ∙ rw (ek, el, er)

  -- the same, by the form
  pub leaf_made : (a b : Written) × Made n (left_at rule n) a b (kind_at rule n) (written_tree rule n)
  leaf_made =
      let (a, b, e) = leaf_tree in
      (a, b, rw e (made (kind_at rule n) n (left_at rule n) a b))

  pub inner_made : 3 < kind_at rule n
      → Made n (left_at rule n) left_tree right_tree (kind_at rule n) (written_tree rule n)
  inner_made inner = subst (Made _ _ _ _ _) (sym (inner_tree inner)) (made (kind_at rule n) n (left_at rule n) _ _)

-- ---- every tree fits the table
module _ (look : ℕ → Written) where
  fits_made : {k n l : ℕ} {a b t : Written} → Made n l a b k t → look n ≡ t → (1 < k → k < 4 → l < propositions)
      → (3 < k → Fits look a n) → (3 < k → Fits look b n) → Fits look t (suc n)
  fits_made (made_constant k v h) e p f g = tt
  fits_made (made_literal k v low high) e p f g = (omega arith, e, p low high)
  fits_made (made_negation k h) e p f g = (omega arith, e, f (omega arith))
  fits_made (made_next k h) e p f g = (omega arith, e, f (omega arith))
  fits_made (made_binary k o h two) e p f g = (omega arith, e, f h, g h)
  fits_made (made_future k all h) e p f g = (omega arith, e, f (omega arith))

  fits_more : (t : Written) (m k : ℕ) → m ≤ k → Fits look t m → Fits look t k
  fits_more (constant v) m k l f = tt
  fits_more (literal n v p) m k l f = (omega (arith, f.0), f.1, f.2)
  fits_more (negation n a) m k l f = (omega (arith, f.0), f.1, f.2)
  fits_more (next n a) m k l f = (omega (arith, f.0), f.1, f.2)
  fits_more (binary n o a b) m k l f = (omega (arith, f.0), f.1, f.2, f.3)
  fits_more (future n all a) m k l f = (omega (arith, f.0), f.1, f.2)

module _ (rule : List ℕ) where
  abbrev FitsAt : (n m : ℕ) → Type 0
  FitsAt n m = Fits (written_tree rule) (written_tree rule n) m

  fits_step : (n : ℕ) → WrittenNode rule n → ((k : ℕ) → k < n → FitsAt k n) → FitsAt n (suc n)
  fits_step n w ih = go (dec_lt 3 (kind_at rule n)) (leaf_made rule n w)
    where
      go : Dec (3 < kind_at rule n)
          → (a b : Written) × Made n (left_at rule n) a b (kind_at rule n) (written_tree rule n)
          → FitsAt n (suc n)
      go (yes inner) x =
          fits_made (written_tree rule) (inner_made rule n w inner) refl w.node.proposition
          (λ _. ih (left_at rule n) (w.node.left inner)) (λ _. ih (right_at rule n) (w.node.right inner))
      go (no leaf) (a, b, x) =
          fits_made (written_tree rule) x refl w.node.proposition (λ i. absurd (leaf i)) (λ i. absurd (leaf i))

  fits_to : (bound n : ℕ) → n < bound → ((k : ℕ) → k ≤ n → WrittenNode rule k) → FitsAt n (suc n)
  fits_to zero n lt nodes = absurd (omega arith)
  fits_to (suc bound) n lt nodes =
      let below : (k : ℕ) → k < n → FitsAt k (suc k) =
      λ k l. fits_to bound k (omega arith) (λ j le. nodes j (omega arith)) in
      fits_step n (nodes n (omega arith))
      (λ k l. fits_more (written_tree rule) (written_tree rule k) (suc k) n (omega arith) (below k l))

-- the tree of each node fits
pub fits_node : (rule : List ℕ) → ((k : ℕ) → k < node_count rule → WrittenNode rule k) → (n : ℕ) → n < node_count rule
    → Fits (written_tree rule) (written_tree rule n) (suc n)
fits_node rule nodes n h = fits_to rule (suc n) n (omega arith) (λ k l. nodes k (omega arith))

-- a written rule that 1 to 6 let pass
pub record WellWritten (rule : List ℕ) : Type 0 where
  pub some : 0 < node_count rule
  pub nodes : (n : ℕ) → n < node_count rule → WrittenNode rule n
  pub places : (n : ℕ) → n < node_count rule → place_check rule n ≡ fine
  pub fits : Fits (written_tree rule) (written_tree rule (root rule)) (node_count rule)

pub well_written : (rule : List ℕ) → written_check rule ≡ fine → WellWritten rule
unfolding written_check
well_written rule e =
    let formed = formed_fine eventually_kind rule e in
    let nodes : (n : ℕ) → n < node_count rule → WrittenNode rule n =
    λ n l. written_node rule n l (formed.each n l) in
    let last : suc (root rule) ≡ node_count rule = omega (arith, formed.some) in
    record {
      some = formed.some;
      nodes = nodes;
      places = formed.places;
      fits = subst (Fits (written_tree rule) (written_tree rule (root rule))) last
          (fits_node rule nodes (root rule) (omega (arith, formed.some)));
    }

-- the same of a rule that is known to pass, as `Written` has it, and of its nodes
module _ (rule : List ℕ) (passed : passes (written_check rule) ≡ true) where
  pub passed_rule : WellWritten rule
  passed_rule = well_written rule (passes_fine (written_check rule) passed)

  module _ (n : ℕ) (inside : n < node_count rule) where
    pub passed_node : WrittenNode rule n
    passed_node = passed_rule.nodes n inside

    pub passed_kind : kind_at rule n ≤ eventually_kind
    passed_kind = passed_node.kind
