-- The formula of a rule holds on a word exactly if the automaton that counts levels over obligation sets has an endless
-- run there that accepts again and again. Assumes of a state's transitions that they represent its terms.
use Prim.Native.Nat.{ℕ, zero, suc, ◌+◌, ◌<◌, ◌≤◌}
use mathlib.Core.Path.{◌≡◌, refl, sym, ◌∙◌, ap, subst}
use mathlib.Core.Logic.{◌⊎◌, inl, inr, ◌↔◌}
use mathlib.Core.List.{List, [], ◌∷◌}
use mathlib.Core.Bool.{Bool, true, false, cond}
use native.Mathlib.Omega.{arith}
use native.Mathlib.Decide.{ℕ_discrete}
use lib.ListN.{get_or}
use lib.Dec.{eqb}
use borrow.Author.Tests.{eqb-true, eq-eqb}
use Rattle.formula.specs.Rule.{node_count, kind_at, untils}
use Rattle.formula.specs.Formula.{Formula, until, formula}
use Rattle.formula.specs.Satisfaction.{Holds}
use Rattle.term.specs.Term.{Term, cover}
use Rattle.sets.specs.Sets.{In}
use Rattle.acceptance.specs.Acceptance.{fulfils, until_count}
use Rattle.translation.specs.Degeneralized.{next_level}
use Rattle.lasso.proofs.Positions.{Again}
use Rattle.sets.proofs.Members.{at_in, in_at, append_in, in_append}
use Rattle.correctness.proofs.Runs.{Reads, Fulfilling, Known, Run, Fair, Represents}
use Rattle.correctness.proofs.Trees.{kind_until, until_kind}
use Rattle.correctness.proofs.Sound.{sound}
use Rattle.formula.proofs.Periodic.{holds_dec}
use Rattle.correctness.proofs.Complete.{complete}
use Rattle.correctness.proofs.Tests.{fulfils_iff}
use Rattle.correctness.proofs.Levels.{Over, level, last_again, fulfilled_again}
use Rattle.automaton.proofs.Passes.{AutomatonOver, Endless}

-- an obligation set with a level
pub record Counted : Type 0 where
  pub obligations : ℕ
  pub level : ℕ

-- the automaton on them, where Move e t says that t is a transition of the set e
abbrev pub counting : List ℕ → (ℕ → Term → Type 0) → AutomatonOver Counted
counting rule Move = record {
  Initial = λ x. In x.obligations (cover (formula rule)) × (x.level ≡ 0);
  Step = λ x letter y.
      (t : Term) × Move x.obligations t × Reads t letter × (y.obligations ≡ t.obligations) ×
      (y.level ≡ next_level rule x.level t);
  Accepting = λ x. x.level ≡ until_count rule;
}

module _ (rule : List ℕ) where
  untils_in : (k n : ℕ) → In n (untils rule k) → (n < k) × (kind_at rule n ≡ 7)
  unfolding untils
  untils_in zero n h = absurd h
  untils_in (suc k) n h = elim (append_in n (untils rule k) (cond (eqb (kind_at rule k) 7) (k ∷ []) []) h) [
    | inl m ↦ (let (l, q) = untils_in k n m in (omega arith, q))
    | inr m ↦ last (eqb (kind_at rule k) 7) refl m
  ]
    where
      last : (b : Bool) → eqb (kind_at rule k) 7 ≡ b → In n (cond b (k ∷ []) []) → (n < suc k) × (kind_at rule n ≡ 7)
      last true q (inl e) = (omega arith, ap (kind_at rule) e ∙ eqb-true (kind_at rule k) 7 q)
      last true q (inr m) = absurd m
      last false q m = absurd m

  in_untils : (k n : ℕ) → n < k → kind_at rule n ≡ 7 → In n (untils rule k)
  unfolding untils
  in_untils zero n l q = absurd (omega arith)
  in_untils (suc k) n l q =
      in_append n (untils rule k) (cond (eqb (kind_at rule k) 7) (k ∷ []) [])
      (go (λ m. in_untils k n m q) (ℕ_discrete n k))
    where
      go : (n < k → In n (untils rule k)) → Dec (n ≡ k)
          → In n (untils rule k) ⊎ In n (cond (eqb (kind_at rule k) 7) (k ∷ []) [])
      go ih (yes e) =
          inr (subst (λ (b : Bool). In n (cond b (k ∷ []) []))
          (sym (eq-eqb (kind_at rule k) 7 (sym (ap (kind_at rule) e) ∙ q))) (inl e))
      go ih (no e) = inl (ih (omega arith))

  -- each until has a number, which tells the terms that fulfil it
  pub until_numbered : (n : ℕ) (a b : Formula) → Known rule n (until n a b)
      → (k : ℕ) × (k < until_count rule) × ((t : Term) → Over rule k t ↔ Fulfilling n (until n a b) t)
  until_numbered n a b known =
      let (k, l, q) = in_at 0 n (untils rule (node_count rule))
      (in_untils (node_count rule) n known.0 (until_kind rule n a b known)) in (
        k,
        l,
        λ t. subst (λ (c : ℕ). fulfils rule c t ≡ true ↔ Fulfilling n (until n a b) t) (sym q)
            (subst (λ (f : Formula). fulfils rule n t ≡ true ↔ Fulfilling n f t) known.1 (fulfils_iff rule n t)),
      )

  -- the untils that the levels count are those of a fair run
  Counts : (ℕ → Term) → Type 0
  Counts t = (k : ℕ) → k < until_count rule → Again (λ j. Over rule k (t j))

  fair_counts : (t : ℕ → Term) → Fair rule t → Counts t
  unfolding Counts
  fair_counts t fair k l i =
      let n = get_or (untils rule (node_count rule)) k 0 in
      let (s, q) = untils_in (node_count rule) n (at_in 0 (untils rule (node_count rule)) k l) in
      let (a, b, known) = kind_until rule n s q in
      let (j, x, g) = fair n a b known i in
      (j, x, (fulfils_iff rule n (t j)).1 (subst (λ (f : Formula). Fulfilling n f (t j)) (sym known.1) g))

  counts_fair : (t : ℕ → Term) → Counts t → Fair rule t
  unfolding Counts
  counts_fair t counts n a b known i =
      let (k, l, same) = until_numbered n a b known in
      let (j, x, g) = counts k l i in
      (j, x, (same (t j)).0 g)

module _ (rule : List ℕ) (Move : ℕ → Term → Type 0) (represents : Represents rule Move) (w : ℕ → ℕ) where
  -- a fair run, with its levels
  run_endless : (e : ℕ → ℕ) (t : ℕ → Term) → Run rule Move w e t → Fair rule t
      → (p : ℕ → Counted) × Endless w (counting rule Move) p
  unfolding level Counts
  run_endless e t run fair = (
    λ i. record { obligations = e i; level = level rule t i },
    record {
      begins = (run.start, refl);
      steps = λ i. (t i, run.steps i, run.reads i, sym (run.goes i), refl);
      again = last_again rule t (fair_counts rule t fair);
    },
  )

  module _ (p : ℕ → Counted) (run : Endless w (counting rule Move) p) where
    abbrev taken : ℕ → Term
    taken i = (run.steps i).0

    taken_run : Run rule Move w (λ i. (p i).obligations) taken
    taken_run =
        record {
          start = run.begins.0;
          steps = λ i. (run.steps i).1;
          reads = λ i. (run.steps i).2;
          goes = λ i. sym
              (run.steps i).3;
        }

    level_is : (i : ℕ) → level rule taken i ≡ (p i).level
    unfolding level
    level_is zero = sym run.begins.1
    level_is (suc i) = ap (λ (x : ℕ). next_level rule x (taken i)) (level_is i) ∙ sym (run.steps i).4

    taken_fair : Fair rule taken
    unfolding Counts
    taken_fair =
        counts_fair rule taken (fulfilled_again rule taken (λ i. let (j, x, c) = run.again i in (j, x, level_is j ∙ c)))

  -- where w repeats from position s on with period n
  pub endless_iff_holds : (s n : ℕ) → 0 < n → ((i : ℕ) → s ≤ i → w (i + n) ≡ w i)
      → ((p : ℕ → Counted) × Endless w (counting rule Move) p) ↔ Holds w (formula rule) 0
  endless_iff_holds s n pos round = (
    λ (p, run). sound rule Move represents.listed w (λ i. (p i).obligations) (taken p run) (taken_run p run)
        (taken_fair p run),
    λ h. let (e, t, run, fair) = complete rule w (holds_dec s n pos w round) Move represents.enough h in run_endless e t
        run fair,
  )
