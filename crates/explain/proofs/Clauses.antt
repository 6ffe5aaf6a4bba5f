-- The clauses of an accepted rule: none of them is an "and", and they hold together exactly when the rule does.
-- Assumes that the rule is accepted.
use Prim.Native.Nat.{ℕ, zero, suc, ◌<◌}
use mathlib.Core.Path.{◌≡◌, refl, sym, ◌∙◌, ap, subst}
use mathlib.Core.Logic.{inl, inr, ◌↔◌}
use mathlib.Core.List.{List, [], ◌∷◌, ◌++◌}
use native.Mathlib.Omega.{arith}
use native.Mathlib.Decide.{ℕ_discrete}
use borrow.Author.Tests.{eq-eqb, ne_eqb}
use Rattle.answer.specs.Result.{fine}
use Rattle.formula.specs.Rule.{root, node_count, kind_at, left_at, right_at, checked}
use Rattle.formula.specs.Formula.{Formula, conjunction, until, release, build, tree, formula}
use Rattle.formula.specs.Satisfaction.{Holds, Satisfies}
use Rattle.lasso.specs.Lasso.{letter}
use Rattle.formula.proofs.Accepted.{Node, accepted_fine}
use Rattle.formula.proofs.Trees.{of_parts, of_children, pair_in}
use Rattle.sets.specs.Sets.{In}
use Rattle.sets.proofs.Members.{append_in, in_append}
use Rattle.explain.specs.Explain.{taken_apart, clauses_of, clauses}

module _ (rule : List ℕ) (accepted-rule : checked rule ≡ fine) where
  node : (n : ℕ) → n < node_count rule → Node rule n
  node = (accepted_fine rule accepted-rule).nodes

  abbrev of : (kind n : ℕ) → Formula
  of kind n = build kind n (left_at rule n) (tree rule (left_at rule n)) (tree rule (right_at rule n))

  -- the tree of a node above kind 3, by those of its children
  tree_pair : (n : ℕ) → n < node_count rule → 3 < kind_at rule n → tree rule n ≡ of (kind_at rule n) n
  tree_pair n l inner =
      pair_in rule n l (node n l) (λ f. f ≡ of (kind_at rule n) n) (kind_at rule n) refl (left_at rule n)
      (right_at rule n)
      refl refl inner refl

  tree_and : (n : ℕ) → n < node_count rule → kind_at rule n ≡ 4
      → tree rule n ≡ conjunction (tree rule (left_at rule n)) (tree rule (right_at rule n))
  tree_and n l e = tree_pair n l (omega arith) ∙ ap (λ (k : ℕ). of k n) e

  pub tree_until : (n : ℕ) → n < node_count rule → kind_at rule n ≡ 7
      → tree rule n ≡ until n (tree rule (left_at rule n)) (tree rule (right_at rule n))
  tree_until n l e = tree_pair n l (omega arith) ∙ ap (λ (k : ℕ). of k n) e

  pub tree_release : (n : ℕ) → n < node_count rule → kind_at rule n ≡ 8
      → tree rule n ≡ release n (tree rule (left_at rule n)) (tree rule (right_at rule n))
  tree_release n l e = tree_pair n l (omega arith) ∙ ap (λ (k : ℕ). of k n) e

  module _ (n : ℕ) (inside : n < node_count rule) where
    -- the children of an "and" are nodes below it
    pub left_low : kind_at rule n ≡ 4 → left_at rule n < n
    left_low e = (node n inside).left (omega arith)

    pub right_low : kind_at rule n ≡ 4 → right_at rule n < n
    right_low e = (node n inside).right (omega arith)

    -- its clauses are theirs
    pub clauses_and : kind_at rule n ≡ 4
        → clauses_of rule n ≡ clauses_of rule (left_at rule n) ++ clauses_of rule (right_at rule n)
    unfolding clauses_of
    clauses_and e =
        of_children [] taken_apart rule n inside (left_low e) (right_low e) ∙ rw (eq-eqb (kind_at rule n) 4 e) refl

    -- and any other node is its own clause
    pub clauses_own : (kind_at rule n ≡ 4 → ⊥) → clauses_of rule n ≡ n ∷ []
    unfolding clauses_of
    clauses_own d = of_parts [] taken_apart rule n inside ∙ rw (ne_eqb (kind_at rule n) 4 d) refl

  -- a clause is a node, and no "and"
  abbrev Clause : ℕ → Type 0
  Clause c = (c < node_count rule) × (kind_at rule c ≡ 4 → ⊥)

  apart : (bound n : ℕ) → n < bound → n < node_count rule → (c : ℕ) → In c (clauses_of rule n) → Clause c
  apart zero n b l c m = absurd (omega arith)
  apart (suc bound) n b l c m = go (apart bound) (ℕ_discrete (kind_at rule n) 4)
    where
      go : ((k : ℕ) → k < bound → k < node_count rule → (c : ℕ) → In c (clauses_of rule k) → Clause c)
          → Dec (kind_at rule n ≡ 4) → Clause c
      go ih (yes e) =
          let x = left_low n l e in
          let y = right_low n l e in
          elim
          (append_in c (clauses_of rule (left_at rule n)) (clauses_of rule (right_at rule n))
          (subst (In c) (clauses_and n l e) m)) [
            | inl k ↦ ih (left_at rule n) (omega arith) (omega arith) c k
            | inr k ↦ ih (right_at rule n) (omega arith) (omega arith) c k
          ]
      go ih (no e) = own (subst (In c) (clauses_own n l e) m)
        where
          own : In c (n ∷ []) → Clause c
          own (inl p) = (omega arith, λ q. e (ap (kind_at rule) (sym p) ∙ q))
          own (inr k) = absurd k

  -- the clauses hold together exactly when the node does
  abbrev Together : (w : ℕ → ℕ) (i n : ℕ) → Type 0
  Together w i n = ((c : ℕ) → In c (clauses_of rule n) → Holds w (tree rule c) i) ↔ Holds w (tree rule n) i

  together : (w : ℕ → ℕ) (i bound n : ℕ) → n < bound → n < node_count rule → Together w i n
  together w i zero n b l = absurd (omega arith)
  together w i (suc bound) n b l = go (together w i bound) (ℕ_discrete (kind_at rule n) 4)
    where
      go : ((k : ℕ) → k < bound → k < node_count rule → Together w i k) → Dec (kind_at rule n ≡ 4) → Together w i n
      go ih (yes e) =
          let x = left_low n l e in
          let y = right_low n l e in
          let a = ih (left_at rule n) (omega arith) (omega arith) in
          let b = ih (right_at rule n) (omega arith) (omega arith) in
          let L = clauses_of rule (left_at rule n) in
          let R = clauses_of rule (right_at rule n) in
          rw (clauses_and n l e, tree_and n l e) (
            λ h. (a.0 (λ c m. h c (in_append c L R (inl m))), b.0 (λ c m. h c (in_append c L R (inr m)))),
            λ h c m. elim (append_in c L R m) [ inl k ↦ a.1 h.0 c k | inr k ↦ b.1 h.1 c k ],
          )
      go ih (no e) = rw (clauses_own n l e) (
        λ h. h n (inl refl),
        λ h c m. elim m [ inl p ↦ subst (λ (k : ℕ). Holds w (tree rule k) i) (sym p) h | inr k ↦ absurd k ],
      )

  pub root_inside : root rule < node_count rule
  root_inside = let l = (accepted_fine rule accepted-rule).some in omega arith

  pub clause_node : (c : ℕ) → In c (clauses rule) → (c < node_count rule) × (kind_at rule c ≡ 4 → ⊥)
  unfolding clauses
  clause_node c m = apart (node_count rule) (root rule) root_inside root_inside c m

  -- a lasso satisfies a rule exactly when it satisfies each clause by itself
  pub clauses_iff_satisfied : (stem cycle : List ℕ)
      → ((c : ℕ) → In c (clauses rule) → Holds (letter stem cycle) (tree rule c) 0) ↔ Satisfies rule stem cycle
  unfolding clauses Satisfies formula
  clauses_iff_satisfied stem cycle =
      together (letter stem cycle) 0 (node_count rule) (root rule) root_inside root_inside
