-- The search for the first clause that fails. Assumes that the rule is accepted.
use Prim.Native.Nat.{ℕ, ◌<◌}
use mathlib.Core.Path.{◌≡◌, refl, sym, ◌∙◌, ap}
use mathlib.Core.List.{List, [], ◌∷◌, ◌++◌}
use Rattle.std.specs.Prelude.{Option, None as none, Some as some}
use Rattle.std.specs.Bool.{then_some}
use mathlib.Core.Bool.{Bool, true, false, cond, not}
use Rattle.answer.specs.Result.{fine}
use Rattle.formula.specs.Rule.{node_count, kind_at, left_at, right_at, checked}
use Rattle.explain.specs.Explain.{clauses_of, first_failing}
use Rattle.explain.proofs.Searches.{none_some}
use Rattle.explain.proofs.Clauses as Clauses

module _ (test : ℕ → Bool) where
  -- a node by itself
  own : (n : ℕ) (b : Bool) → test n ≡ b → then_some (not b) n ≡ first_failing test (n ∷ [])
  unfolding first_failing
  own n true e = rw e refl
  own n false e = rw e refl

  append_some : (xs ys : List ℕ) (c : ℕ) → first_failing test xs ≡ some c → first_failing test (xs ++ ys) ≡ some c
  unfolding first_failing
  append_some [] ys c e = none_some e
  append_some (x ∷ xs) ys c e = go (test x) (append_some xs ys c) e
    where
      go : (b : Bool) → (first_failing test xs ≡ some c → first_failing test (xs ++ ys) ≡ some c)
          → cond b (first_failing test xs) (some x) ≡ some c → cond b (first_failing test (xs ++ ys)) (some x) ≡ some c
      go true ih e = ih e
      go false ih e = e

  append_none : (xs ys : List ℕ) → first_failing test xs ≡ none → first_failing test (xs ++ ys) ≡ first_failing test ys
  unfolding first_failing
  append_none [] ys e = refl
  append_none (x ∷ xs) ys e = go (test x) (append_none xs ys) e
    where
      go : (b : Bool) → (first_failing test xs ≡ none → first_failing test (xs ++ ys) ≡ first_failing test ys)
          → cond b (first_failing test xs) (some x) ≡ none
          → cond b (first_failing test (xs ++ ys)) (some x) ≡ first_failing test ys
      go true ih e = ih e
      go false ih e = none_some (sym e)

  -- node n of an accepted rule, with the kind that is read of it
  module _ (rule : List ℕ) (fine_rule : checked rule ≡ fine) (n : ℕ) (inside : n < node_count rule) (kind : ℕ)
      (ek : kind ≡ kind_at rule n) where
    pub no_and : (kind ≡ 4 → ⊥) → then_some (not (test n)) n ≡ first_failing test (clauses_of rule n)
    no_and d =
        own n (test n) refl
        ∙ ap (first_failing test) (sym (Clauses.clauses_own rule fine_rule n inside (λ q. d (ek ∙ q))))

    -- children as they are read
    module _ (l r : ℕ) (el : l ≡ left_at rule n) (er : r ≡ right_at rule n) (e : kind ≡ 4) where
      both : clauses_of rule n ≡ clauses_of rule l ++ clauses_of rule r
      both = rw (el, er) (Clauses.clauses_and rule fine_rule n inside (sym ek ∙ e))

      pub in_left : (found : Option ℕ) → (found ≡ none → ⊥) → found ≡ first_failing test (clauses_of rule l)
          → found ≡ first_failing test (clauses_of rule n)
      in_left none d h = absurd (d refl)
      in_left (some x) d h =
          sym (ap (first_failing test) both ∙ append_some (clauses_of rule l) (clauses_of rule r) x (sym h))

      pub in_right : {found : Option ℕ} → none ≡ first_failing test (clauses_of rule l)
          → found ≡ first_failing test (clauses_of rule r) → found ≡ first_failing test (clauses_of rule n)
      in_right h k =
          k ∙ sym (ap (first_failing test) both ∙ append_none (clauses_of rule l) (clauses_of rule r) (sym h))
