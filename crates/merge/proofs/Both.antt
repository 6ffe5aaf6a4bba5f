-- R-7: a lasso satisfies the merged rule exactly when it satisfies both. A node that is moved up holds where it did, by
-- induction on the nodes, and the root is an and of both roots. Assumes nothing.
use Prim.Native.Nat.{ℕ, zero, suc, ◌+◌, ◌≤◌, ◌<◌}
use mathlib.Core.Path.{◌≡◌, refl, sym}
use mathlib.Core.Bool.{false}
use mathlib.Core.Logic.Iff
use mathlib.Core.Logic.{◌↔◌}
use mathlib.Core.List.{List}
use native.Mathlib.Decide.{dec_lt}
use native.Mathlib.Nat.{zero-add}
use native.Mathlib.Omega.{arith}
use Rattle.answer.specs.Result.{fine}
use Rattle.lasso.specs.Lasso.{letter}
use Rattle.formula.specs.Rule.{node_count, kind_at, left_at, right_at, root, left_operand, one_child, right_operand}
use Rattle.formula.specs.Rule.{release_kind, node_check, syntax_check}
use Rattle.formula.specs.Formula.{Formula, conjunction, build, tree, formula}
use Rattle.formula.specs.Satisfaction.{Holds, Satisfies}
use Rattle.formula.proofs.Accepted.{Node, node_fine, kind_known, formed_fine}
use Rattle.formula.proofs.Operands.{left_proposition, left_child, right_child}
use Rattle.formula.proofs.Trees.{leaf_in, pair_in}
use Rattle.normalform.proofs.Meaning.{either_same, until_same, release_same}
use Rattle.merge.specs.Merge.{moved, conjoined}
use Rattle.merge.proofs.Copied.{Copied, copied_node}
use Rattle.merge.proofs.Conjoined.{merged_count_lem, first_copied, second_copied, root_kind, root_left, root_right}
use Rattle.merge.proofs.Conjoined.{root_node_lem}

module _ (w : ℕ → ℕ) where
  -- two formulas hold at the same positions
  abbrev Alike : Formula → Formula → Type 0
  Alike f g = (i : ℕ) → Holds w f i ↔ Holds w g i

  -- nodes of one kind, with the same proposition or children that are alike
  build_alike : (k n m l l' : ℕ) (f g f' g' : Formula) → k ≤ release_kind → (1 < k → k < 4 → l ≡ l')
      → (3 < k → Alike f f') → (3 < k → one_child k ≡ false → Alike g g') → Alike (build k n l f g) (build k m l' f' g')
  unfolding one_child
  build_alike zero n m l l' f g f' g' le p x y i = Iff.rfl
  build_alike (suc zero) n m l l' f g f' g' le p x y i = Iff.rfl
  build_alike (suc (suc zero)) n m l l' f g f' g' le p x y i = rw (p (omega arith) (omega arith)) Iff.rfl
  build_alike (suc (suc (suc zero))) n m l l' f g f' g' le p x y i = rw (p (omega arith) (omega arith)) Iff.rfl
  build_alike (suc (suc (suc (suc zero)))) n m l l' f g f' g' le p x y i =
      Iff.and (x (omega arith) i) (y (omega arith) refl i)
  build_alike (suc (suc (suc (suc (suc zero))))) n m l l' f g f' g' le p x y i =
      either_same (x (omega arith) i) (y (omega arith) refl i)
  build_alike (suc (suc (suc (suc (suc (suc zero)))))) n m l l' f g f' g' le p x y i = x (omega arith) (suc i)
  build_alike (suc (suc (suc (suc (suc (suc (suc zero))))))) n m l l' f g f' g' le p x y i =
      until_same (Holds w f') (Holds w g') (Holds w f) (Holds w g) (x (omega arith)) (y (omega arith) refl) i
  build_alike (suc (suc (suc (suc (suc (suc (suc (suc zero)))))))) n m l l' f g f' g' le p x y i =
      release_same (Holds w f') (Holds w g') (Holds w f) (Holds w g) (x (omega arith)) (y (omega arith) refl) i
  build_alike (suc (suc (suc (suc (suc (suc (suc (suc (suc k))))))))) n m l l' f g f' g' le p x y i =
      absurd (omega arith)

  module _ (whole part : List ℕ) (up : ℕ) (copied : Copied whole part up)
      (each : (n : ℕ) → n < node_count part → node_check release_kind part n ≡ fine) where
    abbrev AlikeAt : ℕ → Type 0
    AlikeAt n = Alike (tree whole (up + n)) (tree part n)

    module _ (n : ℕ) (lt : n < node_count part) where
      abbrev kind : ℕ
      kind = kind_at part n

      node : Node part n
      node = node_fine release_kind part n (each n lt)

      node_moved : Node whole (up + n)
      node_moved =
          node_fine release_kind whole (up + n) (copied_node whole part up copied release_kind n lt (each n lt))

      inside : up + n < node_count whole
      inside = omega (arith, copied.inside)

      abbrev left : ℕ
      left = moved (left_operand kind) up (left_at part n)

      abbrev right : ℕ
      right = moved (right_operand kind) up (right_at part n)

      known : kind ≤ release_kind
      known = kind_known release_kind part n (each n lt)

      leaf_alike : kind < 4 → AlikeAt n
      leaf_alike leaf =
          leaf_in whole (up + n) inside node_moved (λ f. Alike f (tree part n)) kind (sym (copied.kinds n lt))
          left (sym (copied.lefts n lt))
          (λ f g. leaf_in part n lt node (λ h. Alike (build kind (up + n) left f g) h) kind refl (left_at part n) refl
          (λ f' g'. build_alike kind (up + n) n left (left_at part n) f g f' g' known
          (λ low high. rw (← left_proposition kind (omega arith) (omega arith)))
          (λ inner. absurd (omega arith)) (λ inner. absurd (omega arith))))

      inner_alike : 3 < kind → ((k : ℕ) → k < n → AlikeAt k) → AlikeAt n
      inner_alike inner ih =
          pair_in whole (up + n) inside node_moved (λ f. Alike f (tree part n)) kind (sym (copied.kinds n lt))
          left right (sym (copied.lefts n lt)) (sym (copied.rights n lt)) inner
          (pair_in part n lt node (λ h. Alike (build kind (up + n) left (tree whole left) (tree whole right)) h)
          kind refl (left_at part n) (right_at part n) refl refl inner
          (build_alike kind (up + n) n left (left_at part n) _ _ _ _ known (λ low high. absurd (omega arith))
          (λ _. rw (← left_child kind (omega arith)) (ih (left_at part n) (node.left inner)))
          (λ _ two. rw (← right_child kind (omega arith) two) (ih (right_at part n) (node.right inner)))))

    node_alike : (bound n : ℕ) → n < bound → n < node_count part → AlikeAt n
    node_alike zero n l lt = absurd (omega arith)
    node_alike (suc bound) n l lt =
        go (dec_lt (kind_at part n) 4) (λ k below. node_alike bound k (omega arith) (omega arith))
      where
        go : Dec (kind_at part n < 4) → ((k : ℕ) → k < n → AlikeAt k) → AlikeAt n
        go (yes leaf) ih = leaf_alike n lt leaf
        go (no inner) ih = inner_alike n lt (omega arith) ih

    -- so a part's root holds where the part's formula does
    pub root_alike : 0 < node_count part → Alike (tree whole (up + root part)) (formula part)
    unfolding formula
    root_alike some = node_alike (node_count part) (root part) (omega arith) (omega arith)

-- ---- the theorem

module _ (first second : List ℕ) (passes : syntax_check release_kind first ≡ fine)
    (passes_too : syntax_check release_kind second ≡ fine) where
  abbrev m : ℕ
  m = node_count first

  abbrev n : ℕ
  n = node_count second

  abbrev all : List ℕ
  all = conjoined first second

  merged_formula : formula all ≡ conjunction (tree all (0 + root first)) (tree all (m + root second))
  unfolding formula
  merged_formula =
      let count = merged_count_lem first second passes passes_too in
      let last : root all ≡ m + n = omega arith in
      let node = node_fine release_kind all (m + n) (root_node_lem first second passes passes_too) in
      rw (last, zero-add (root first))
      (pair_in all (m + n) (omega arith) node
      (λ f. f ≡ conjunction (tree all (root first)) (tree all (m + root second)))
      4 (sym (root_kind first second passes passes_too)) (root first) (m + root second)
      (sym (root_left first second passes passes_too)) (sym (root_right first second passes passes_too))
      (omega arith) refl)

  -- R-7: a lasso satisfies the merged rule of two first-edition rules exactly when it satisfies both
  pub merged_satisfied : (stem cycle : List ℕ)
      → Satisfies all stem cycle ↔ (Satisfies first stem cycle × Satisfies second stem cycle)
  unfolding Satisfies
  merged_satisfied stem cycle =
      let word = letter stem cycle in
      let formed = formed_fine release_kind first passes in
      let formed-too = formed_fine release_kind second passes_too in
      rw merged_formula
      (Iff.and
      (root_alike word all first 0 (first_copied first second passes passes_too) formed.each formed.some 0)
      (root_alike word all second m (second_copied first second passes passes_too) formed-too.each
      formed-too.some 0))
