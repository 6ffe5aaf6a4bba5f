-- An operator of a written rule that 6 lets pass stands once in the root's tree: it is a child at one place, and, from
-- the root down, so is each node above it. So the walk comes to it once, in one sense. Assumes nothing.
use Prim.Native.Nat.{ℕ, zero, suc, ◌+◌, ◌<◌, ◌≤◌}
use mathlib.Core.Path.{◌≡◌, refl, sym, ◌∙◌, ap}
use mathlib.Core.Bool.{Bool, not}
use mathlib.Core.Logic.{◌⊎◌, inl, inr}
use mathlib.Core.List.{List, [], ◌∷◌, ◌++◌}
use native.Mathlib.Omega.{arith}
use native.Mathlib.Decide.{ℕ_discrete, dec_le, dec_lt}
use borrow.Author.Tests.{eq-eqb}
use Rattle.answer.specs.Result.{fine}
use Rattle.answer.proofs.Lowest.{not_fine}
use Rattle.formula.specs.Rule.{node_count, kind_at, left_at, right_at, root, left_operand, right_operand, is_child}
use Rattle.formula.specs.Rule.{places}
use Rattle.formula.specs.Rule.{place_check}
use Rattle.formula.proofs.Operands.{left_child, right_child}
use Rattle.formula.proofs.Checks.{place_twice}
use Rattle.normalform.specs.Written.{Written, constant, literal, negation, next, binary, future, written_tree}
use Rattle.normalform.specs.NormalForm.{turned, bit, left_sense, left_constant, pair_code, code, below, walk}
use Rattle.normalform.proofs.Sums.{sum, over, one, count, one_other, one_most, over_append, sum_most, sum_none}
use Rattle.normalform.proofs.Sums.{AllBelow, all_append, all_more, once_sum}
use Rattle.normalform.proofs.Shape.{Fits, bit_small}
use Rattle.normalform.proofs.Fitting.{WrittenNode, Made, made_constant, made_literal, made_negation, made_next}
use Rattle.normalform.proofs.Fitting.{made_binary, made_future, leaf_made, inner_made, WellWritten}

-- 1 where a tree is node n
unfoldable heads : ℕ → Written → ℕ
heads n (constant v) = 0
heads n (literal m v p) = one n m
heads n (negation m a) = one n m
heads n (next m a) = one n m
heads n (binary m o a b) = one n m
heads n (future m all a) = one n m

-- how often its root has node n as a child
unfoldable kids : ℕ → Written → ℕ
kids n (constant v) = 0
kids n (literal m v p) = 0
kids n (negation m a) = heads n a
kids n (next m a) = heads n a
kids n (binary m o a b) = heads n a + heads n b
kids n (future m all a) = heads n a

-- the numbers of all its nodes
unfoldable pub nodes : Written → List ℕ
nodes (constant v) = []
nodes (literal m v p) = m ∷ []
nodes (negation m a) = m ∷ nodes a
nodes (next m a) = m ∷ nodes a
nodes (binary m o a b) = m ∷ (nodes a ++ nodes b)
nodes (future m all a) = m ∷ nodes a

module _ (look : ℕ → Written) where
  -- a node is the root or a child of some node
  count_nodes : (n : ℕ) (t : Written) (m : ℕ) → Fits look t m
      → count n (nodes t) ≡ heads n t + over (λ p. kids n (look p)) (nodes t)
  unfolding over nodes heads kids
  count_nodes n (constant v) m f = refl
  count_nodes n (literal c v p) m f = omega (arith, ap (kids n) f.1)
  count_nodes n (negation c a) m f = omega (arith, ap (kids n) f.1, count_nodes n a c f.2)
  count_nodes n (next c a) m f = omega (arith, ap (kids n) f.1, count_nodes n a c f.2)
  count_nodes n (binary c o a b) m f =
      omega (
        arith,
        ap (kids n) f.1,
        count_nodes n a c f.2,
        count_nodes n b c f.3,
        over_append (one n) (nodes a) (nodes b),
        over_append (λ p. kids n (look p)) (nodes a) (nodes b),
      )
  count_nodes n (future c all a) m f = omega (arith, ap (kids n) f.1, count_nodes n a c f.2)

  nodes_below : (t : Written) (m : ℕ) → Fits look t m → AllBelow m (nodes t)
  unfolding nodes
  nodes_below (constant v) m f = tt
  nodes_below (literal c v p) m f = (f.0, tt)
  nodes_below (negation c a) m f = (f.0, all_more c m (nodes a) (omega (arith, f.0)) (nodes_below a c f.2))
  nodes_below (next c a) m f = (f.0, all_more c m (nodes a) (omega (arith, f.0)) (nodes_below a c f.2))
  nodes_below (binary c o a b) m f =
      let all = all_append c (nodes a) (nodes b) (nodes_below a c f.2) (nodes_below b c f.3) in
      (f.0, all_more c m (nodes a ++ nodes b) (omega (arith, f.0)) all)
  nodes_below (future c all a) m f = (f.0, all_more c m (nodes a) (omega (arith, f.0)) (nodes_below a c f.2))

-- ---- a node by its bytes
-- how often a node of kind k with the bytes l and r has node n as a child
abbrev pub byte_kids : (k l r n : ℕ) → ℕ
byte_kids k l r n = is_child (left_operand k) l n + is_child (right_operand k) r n

module _ (n : ℕ) {p l : ℕ} {a b : Written} where
  heads_made : {k : ℕ} {t : Written} → Made p l a b k t → heads n t ≤ one n p
  unfolding heads
  heads_made (made_constant k v h) = omega arith
  heads_made (made_literal k v low high) = omega arith
  heads_made (made_negation k h) = omega arith
  heads_made (made_next k h) = omega arith
  heads_made (made_binary k o h two) = omega arith
  heads_made (made_future k all h) = omega arith

  kids_leaf : {k : ℕ} {t : Written} → Made p l a b k t → k < 4 → kids n t ≡ 0
  unfolding kids
  kids_leaf (made_constant k v h) leaf = refl
  kids_leaf (made_literal k v low high) leaf = refl
  kids_leaf (made_negation k h) leaf = absurd (omega arith)
  kids_leaf (made_next k h) leaf = absurd (omega arith)
  kids_leaf (made_binary k o h two) leaf = absurd (omega arith)
  kids_leaf (made_future k all h) leaf = absurd (omega arith)

  kids_parts : {k : ℕ} {t : Written} → Made p l a b k t → kids n t ≤ heads n a + heads n b
  unfolding kids
  kids_parts (made_constant k v h) = omega arith
  kids_parts (made_literal k v low high) = omega arith
  kids_parts (made_negation k h) = omega arith
  kids_parts (made_next k h) = omega arith
  kids_parts (made_binary k o h two) = omega arith
  kids_parts (made_future k all h) = omega arith

  kids_made : (r : ℕ) → heads n a ≤ one n l → heads n b ≤ one n r → {k : ℕ} {t : Written} → Made p l a b k t
      → kids n t ≤ byte_kids k l r n
  unfolding kids
  kids_made r ha hb (made_constant k v h) = omega arith
  kids_made r ha hb (made_literal k v low high) = omega arith
  kids_made r ha hb (made_negation k h) = rw (← left_child k (omega arith)) (omega arith)
  kids_made r ha hb (made_next k h) = rw (← left_child k (omega arith)) (omega arith)
  kids_made r ha hb (made_binary k o h two) = rw (← left_child k h, ← right_child k h two) (omega arith)
  kids_made r ha hb (made_future k all h) = rw (← left_child k (omega arith)) (omega arith)

-- ---- a rule that 1 to 6 let pass
module _ (rule : List ℕ) where
  abbrev kids_at : (n p : ℕ) → ℕ
  kids_at n p = byte_kids (kind_at rule p) (left_at rule p) (right_at rule p) n

  places_sum : (m n : ℕ) → places rule m n ≡ sum (kids_at n) m
  unfolding places sum
  places_sum zero n = refl
  places_sum (suc m) n = omega (arith, places_sum m n)

  places_few : (n : ℕ) → place_check rule n ≡ fine → 3 < kind_at rule n → places rule (node_count rule) n ≤ 1
  places_few n e inner = go (dec_le (places rule (node_count rule) n) 1)
    where
      go : Dec (places rule (node_count rule) n ≤ 1) → places rule (node_count rule) n ≤ 1
      go (yes few) = few
      go (no more) = absurd (not_fine (place_twice rule n (λ z. omega arith) (λ z. omega arith) inner ∙ e))

module _ (rule : List ℕ) (formed : WellWritten rule) where
  abbrev look : ℕ → Written
  look = written_tree rule

  abbrev kids_of : (n p : ℕ) → ℕ
  kids_of n p = kids n (look p)

  heads_look : (n l : ℕ) → l < node_count rule → heads n (look l) ≤ one n l
  heads_look n l h =
      let (a, b, made) = leaf_made rule l (formed.nodes l h) in
      heads_made n made

  module _ (n p : ℕ) (h : p < node_count rule) where
    abbrev node : WrittenNode rule p
    node = formed.nodes p h

    kids_outer : kind_at rule p < 4 → kids_of n p ≡ 0
    kids_outer leaf =
        let (a, b, made) = leaf_made rule p node in
        kids_leaf n made leaf

    module _ (inner : 3 < kind_at rule p) where
      heads_left : heads n (look (left_at rule p)) ≤ one n (left_at rule p)
      heads_left = heads_look n (left_at rule p) (omega (arith, node.node.left inner))

      heads_right : heads n (look (right_at rule p)) ≤ one n (right_at rule p)
      heads_right = heads_look n (right_at rule p) (omega (arith, node.node.right inner))

      kids_inner : kids_of n p ≤ kids_at rule n p
      kids_inner = kids_made n (right_at rule p) heads_left heads_right (inner_made rule p node inner)

    -- its children are below it
    kids_low : p ≤ n → kids_of n p ≡ 0
    kids_low le = go (dec_lt 3 (kind_at rule p))
      where
        go : Dec (3 < kind_at rule p) → kids_of n p ≡ 0
        go (yes inner) =
            omega (
              arith,
              kids_parts n (inner_made rule p node inner),
              heads_left inner,
              heads_right inner,
              one_other n (left_at rule p) (λ e. omega (arith, node.node.left inner)),
              one_other n (right_at rule p) (λ e. omega (arith, node.node.right inner)),
            )
        go (no leaf) = kids_outer (omega arith)

    kids_place : kids_of n p ≤ kids_at rule n p
    kids_place = go (dec_lt 3 (kind_at rule p))
      where
        go : Dec (3 < kind_at rule p) → kids_of n p ≤ kids_at rule n p
        go (yes inner) = kids_inner inner
        go (no leaf) = omega (arith, kids_outer (omega arith))

  kids_sum : (n : ℕ) → n < node_count rule → 3 < kind_at rule n → sum (kids_of n) (node_count rule) ≤ 1
  kids_sum n h inner =
      omega (
        arith,
        places_few rule n (formed.places n h) inner,
        sum_most (kids_of n) (kids_at rule n) (node_count rule) (λ p l. kids_place n p l),
        places_sum rule (node_count rule) n,
      )

  abbrev start : Written
  start = look (root rule)

  abbrev whole : List ℕ
  whole = nodes start

  -- by how far n is from the end
  once_from : (d n : ℕ) → node_count rule ≤ n + d → n < node_count rule → 3 < kind_at rule n → count n whole ≤ 1
  once_from zero n far h inner = absurd (omega arith)
  once_from (suc d) n far h inner =
      last (ℕ_discrete n (root rule))
      (once_sum (kids_of n) (node_count rule) whole (nodes_below look start (node_count rule) formed.fits)
      (λ p l. pick (λ p far l i. once_from d p far l i) p l (dec_le p n) (dec_lt 3 (kind_at rule p))))
    where
      pick : ((p : ℕ) → node_count rule ≤ p + d → p < node_count rule → 3 < kind_at rule p → count p whole ≤ 1)
          → (p : ℕ) → p < node_count rule → Dec (p ≤ n) → Dec (3 < kind_at rule p)
          → (kids_of n p ≡ 0) ⊎ (count p whole ≤ 1)
      pick ih p l (yes low) i = inl (kids_low n p l low)
      pick ih p l (no high) (yes i) = inr (ih p (omega arith) l i)
      pick ih p l (no high) (no i) = inl (kids_outer n p l (omega arith))

      total : count n whole ≡ heads n start + over (kids_of n) whole
      total = count_nodes look n start (node_count rule) formed.fits

      head : heads n start ≤ one n (root rule)
      head = heads_look n (root rule) (omega (arith, formed.some))

      last : Dec (n ≡ root rule) → over (kids_of n) whole ≤ sum (kids_of n) (node_count rule) → count n whole ≤ 1
      last (yes e) bound =
          let none = sum_none (kids_of n) (node_count rule) (λ p l. kids_low n p l (omega arith)) in
          omega (arith, total, head, none, one_most n (root rule))
      last (no e) bound =
          omega (arith, total, head, kids_sum n h inner, one_other n (root rule) (λ f. e (sym f)))

  -- an operator stands once in the root's tree
  pub node_once : (n : ℕ) → n < node_count rule → 3 < kind_at rule n → count n whole ≤ 1
  node_once n h inner = once_from (node_count rule) n (omega arith) h inner

-- ---- the walk comes to a node at most as often as it stands in the tree
bit_other : (n : ℕ) (s v : Bool) → one (pair_code n s) (bit v) ≡ 0
bit_other n s v = one_other (pair_code n s) (bit v) (λ e. omega (arith, bit_small v))

pair_node : (n m : ℕ) (s r : Bool) → pair_code m r ≡ pair_code n s → m ≡ n
pair_node n m s r e = omega (arith, bit_small s, bit_small r)

pair_one : (n m : ℕ) (s r : Bool) → one (pair_code n s) (pair_code m r) ≤ one n m
pair_one n m s r = go (ℕ_discrete m n)
  where
    go : Dec (m ≡ n) → one (pair_code n s) (pair_code m r) ≤ one n m
    go (yes e) = rw (eq-eqb m n e) (one_most (pair_code n s) (pair_code m r))
    go (no e) = omega (arith, one_other (pair_code n s) (pair_code m r) (λ f. e (pair_node n m s r f)))

pub walk_count : (n : ℕ) (s : Bool) (t : Written) (r : Bool) → count (pair_code n s) (walk t r) ≤ count n (nodes t)
unfolding over code below nodes
walk_count n s (constant v) r = omega (arith, bit_other n s (turned v r))
walk_count n s (literal m v p) r = omega (arith, pair_one n m s r)
walk_count n s (negation m a) r = omega (arith, walk_count n s a (not r))
walk_count n s (next m a) r = omega (arith, pair_one n m s r, walk_count n s a r)
walk_count n s (binary m o a b) r =
    omega (
      arith,
      pair_one n m s r,
      walk_count n s a (left_sense o r),
      walk_count n s b r,
      over_append (one (pair_code n s)) (walk a (left_sense o r)) (walk b r),
      over_append (one n) (nodes a) (nodes b),
    )
walk_count n s (future m all a) r =
    omega (arith, pair_one n m s r, bit_other n s (left_constant all r), walk_count n s a r)
