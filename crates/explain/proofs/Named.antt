-- R-11: what is named of a broken rule is so by the meaning of rules. Assumes that the rule is accepted and that the
-- cycle has a letter.
use Prim.Native.Nat.{ℕ, ◌+◌, ◌<◌}
use mathlib.Core.Path.{◌≡◌, refl, sym, ◌∙◌, subst}
use mathlib.Core.Logic.{inl, inr, ◌↔◌}
use mathlib.Core.List.{List, ◌∷◌}
use Rattle.std.specs.Prelude.{Option, None as none, Some as some}
use mathlib.Core.Bool.{Bool}
use native.Mathlib.Omega.{arith}
use native.Mathlib.Decide.{ℕ_discrete}
use lib.ListN.{length}
use borrow.Author.Tests.{eq-eqb, ne_eqb}
use Rattle.answer.specs.Result.{fine}
use Rattle.formula.specs.Rule.{node_count, kind_at, checked}
use Rattle.formula.specs.Formula.{Formula, until}
use Rattle.formula.specs.Satisfaction.{Holds, Satisfies}
use Rattle.lasso.specs.Lasso.{letter}
use Rattle.sets.specs.Sets.{In}
use Rattle.sets.proofs.Members.{in_append}
use Rattle.evaluate.specs.Truth.{true_at}
use Rattle.explain.specs.Explain.{clauses, first_broken, release_break, until_break, break_at, kept, shown_from}
use Rattle.explain.specs.Explain.{named, explanation}
use Rattle.explain.specs.Meaning.{FirstBroken, left_side, right_side, ShownAt, NeverComes, Meant}
use Rattle.evaluate.proofs.Rows.{true_iff_holds}
use Rattle.explain.proofs.Searches.{First, none_some, failing_none, none_failing, failing_some}
use Rattle.explain.proofs.Clauses.{tree_until, tree_release, clause_node, clauses_iff_satisfied}
use Rattle.explain.proofs.Breaks.{false_iff, release_found, release_broken_iff, until_found, until_before}
use Rattle.explain.proofs.Breaks.{until_never}

pub kept_is : (rule stem cycle : List ℕ) → first_broken rule stem cycle ≡ none → kept ≡ explanation rule stem cycle
unfolding explanation
kept_is rule stem cycle e = rw e refl

module _ (rule stem cycle : List ℕ) (accepted-rule : checked rule ≡ fine) (pos : 0 < length cycle) where
  abbrev w : ℕ → ℕ
  w = letter stem cycle

  abbrev flag : ℕ → Bool
  flag c = true_at rule stem cycle c 0

  -- no clause is named exactly where the rule is satisfied
  none_named_iff : first_broken rule stem cycle ≡ none ↔ Satisfies rule stem cycle
  unfolding first_broken
  none_named_iff = (
    λ e. (clauses_iff_satisfied rule accepted-rule stem cycle).0
        (λ c m. (true_iff_holds stem cycle pos rule c 0 (omega arith)).0 (failing_none flag (clauses rule) e c m)),
    λ h. none_failing flag (clauses rule)
        (λ c m. (true_iff_holds stem cycle pos rule c 0 (omega arith)).1
        ((clauses_iff_satisfied rule accepted-rule stem cycle).1 h c m)),
  )

  -- the clause that is named is the first that is broken by itself
  named_broken : (c : ℕ) → first_broken rule stem cycle ≡ some c → FirstBroken rule stem cycle c
  unfolding first_broken
  named_broken c e = told (failing_some flag (clauses rule) c e)
    where
      told : First flag (clauses rule) c → FirstBroken rule stem cycle c
      told f = record {
        earlier = f.earlier;
        later = f.later;
        parts = f.parts;
        kept = λ x m. (true_iff_holds stem cycle pos rule x 0 (omega arith)).0 (f.passed x m);
        broken = (false_iff rule stem cycle pos c 0 (omega arith)).0 f.failed;
      }

  module _ (c : ℕ) (named : first_broken rule stem cycle ≡ some c) where
    abbrev left : Formula
    left = left_side rule stem cycle c

    abbrev right : Formula
    right = right_side rule stem cycle c

    -- it is a clause: a node, and no "and"
    pub named_node : (c < node_count rule) × (kind_at rule c ≡ 4 → ⊥)
    named_node = told (named_broken c named)
      where
        told : FirstBroken rule stem cycle c → (c < node_count rule) × (kind_at rule c ≡ 4 → ⊥)
        told n =
            clause_node rule accepted-rule c
            (subst (In c) (sym n.parts) (in_append c n.earlier (c ∷ n.later) (inr (inl refl))))

    -- a release is shown from some position
    release_is : kind_at rule c ≡ 8 → break_at rule stem cycle c ≡ release_break rule stem cycle c
    unfolding break_at
    release_is e = rw (eq-eqb (kind_at rule c) 8 e) refl

    release_some : kind_at rule c ≡ 8 → (i : ℕ) × (break_at rule stem cycle c ≡ some i)
    release_some e =
        let broken =
        subst (λ (f : Formula). Holds w f 0 → ⊥) (tree_release rule accepted-rule c named_node.0 e)
        (named_broken c named).broken in
        let (i, q) = (release_broken_iff rule stem cycle pos c).0 broken in
        (i, release_is e ∙ q)

    until_is : kind_at rule c ≡ 7 → break_at rule stem cycle c ≡ until_break rule stem cycle c
    unfolding break_at
    until_is e = rw (ne_eqb (kind_at rule c) 8 (λ f. omega arith), eq-eqb (kind_at rule c) 7 e) refl

    until_broken : kind_at rule c ≡ 7 → Holds w (until c left right) 0 → ⊥
    until_broken e =
        subst (λ (f : Formula). Holds w f 0 → ⊥) (tree_until rule accepted-rule c named_node.0 e)
        (named_broken c named).broken

    other_is : (kind_at rule c ≡ 7 → ⊥) → (kind_at rule c ≡ 8 → ⊥) → break_at rule stem cycle c ≡ some 0
    unfolding break_at
    other_is a b = rw (ne_eqb (kind_at rule c) 8 b, ne_eqb (kind_at rule c) 7 a) refl

    -- where it is shown
    shown : (i : ℕ) → break_at rule stem cycle c ≡ some i → ShownAt rule stem cycle c i
    shown i q = record {
      inside = within (ℕ_discrete (kind_at rule c) 8) (ℕ_discrete (kind_at rule c) 7);
      release = λ e. (release_found rule stem cycle pos c i (sym (release_is e) ∙ q)).1;
      until = λ e. (
        (until_found rule stem cycle pos c i (sym (until_is e) ∙ q)).1,
        until_before rule stem cycle pos c (until_broken e) i (sym (until_is e) ∙ q),
      );
      other = first;
    }
      where
        first : (kind_at rule c ≡ 7 → ⊥) → (kind_at rule c ≡ 8 → ⊥) → i ≡ 0
        first a b =
            let z : some i ≡ some 0 = sym q ∙ other_is a b in
            cc

        within : Dec (kind_at rule c ≡ 8) → Dec (kind_at rule c ≡ 7) → i < length stem + length cycle
        within (yes e) d = (release_found rule stem cycle pos c i (sym (release_is e) ∙ q)).0
        within (no e) (yes f) = (until_found rule stem cycle pos c i (sym (until_is f) ∙ q)).0
        within (no e) (no f) = let z = first f e in omega arith

    -- it is shown nowhere only if it is an until whose right side never comes
    never_shown : break_at rule stem cycle c ≡ none → NeverComes rule stem cycle c
    never_shown q = go (ℕ_discrete (kind_at rule c) 7) (ℕ_discrete (kind_at rule c) 8)
      where
        go : Dec (kind_at rule c ≡ 7) → Dec (kind_at rule c ≡ 8) → NeverComes rule stem cycle c
        go (yes e) d =
            let h = until_never rule stem cycle pos c (until_broken e) (sym (until_is e) ∙ q) in
            record { until = e; never = λ i. (h i).0; always = λ i. (h i).1 }
        go (no e) (yes f) = none_some (sym q ∙ (release_some f).1)
        go (no e) (no f) = none_some (sym q ∙ other_is e f)

  -- R-11, sentence 8: what is named is so by the meaning of rules
  pub explanation_meant : Meant rule stem cycle (explanation rule stem cycle)
  unfolding explanation
  explanation_meant = go (first_broken rule stem cycle) refl
    where
      at : (c : ℕ) → first_broken rule stem cycle ≡ some c → (r : Option ℕ) → break_at rule stem cycle c ≡ r
          → Meant rule stem cycle (shown_from c r)
      at c e none f = (named_broken c e, never_shown c e f)
      at c e (some i) f = (named_broken c e, shown c e i f)

      go : (r : Option ℕ) → first_broken rule stem cycle ≡ r → Meant rule stem cycle (named rule stem cycle r)
      go none e = none_named_iff.0 e
      go (some c) e = at c e (break_at rule stem cycle c) refl

  -- R-11, sentence 9, first half: a lasso that satisfies the rule, and no other, gets no clause named
  pub kept_iff : explanation rule stem cycle ≡ kept ↔ Satisfies rule stem cycle
  kept_iff = (
    λ e. subst (Meant rule stem cycle) e explanation_meant,
    λ sat. sym (kept_is rule stem cycle (none_named_iff.1 sat)),
  )
