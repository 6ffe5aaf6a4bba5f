-- When a term reads a letter, lies within another and fulfils an until; trees that agree with their node table; and
-- runs over obligation sets, fair ones among them. Assumes nothing.
use Prim.Native.Nat.{ℕ, zero, suc, ◌<◌}
use mathlib.Core.Path.{◌≡◌, refl, sym, subst}
use mathlib.Core.Logic.{◌⊎◌}
use mathlib.Core.List.{List}
use mathlib.Core.Bool.{Bool, true, false}
use native.Mathlib.Omega.{arith}
use native.Mathlib.Decide.{ℕ_discrete}
use Rattle.formula.specs.Rule.{node_count}
use Rattle.formula.specs.Formula.{Formula, bottom, top, proposition, negated_proposition, conjunction, disjunction}
use Rattle.formula.specs.Formula.{next}
use Rattle.formula.specs.Formula.{until, release, tree, formula}
use Rattle.sets.specs.Bits.{has, Has}
use Rattle.term.specs.Term.{Term, less, joined, consistent, cover, terms}
use Rattle.generalized.specs.Generalized.{times, partial_product, state_terms}
use Rattle.sets.specs.Sets.{In}
use Rattle.lasso.proofs.Positions.{Again}
use Rattle.sets.proofs.Bits.{Sub, has_false, has_or_l, has_or_r}
use Rattle.correctness.proofs.Members.{product_in}

-- t reads a letter
pub record Reads (t : Term) (letter : ℕ) : Type 0 where
  pub set : Sub t.must letter
  pub clear : (n : ℕ) → Has t.must_not n → Has letter n → ⊥

-- u asks no more than t
pub record Within (u t : Term) : Type 0 where
  pub must : Sub u.must t.must
  pub must_not : Sub u.must_not t.must_not
  pub obligations : Sub u.obligations t.obligations

pub within_reads : {u t : Term} {letter : ℕ} → Within u t → Reads t letter → Reads u letter
within_reads k r = record { set = λ n h. r.set n (k.must n h); clear = λ n h. r.clear n (k.must_not n h) }

pub within_trans : {u v t : Term} → Within u v → Within v t → Within u t
within_trans p q = record {
  must = λ n h. q.must n (p.must n h);
  must_not = λ n h. q.must_not n (p.must_not n h);
  obligations = λ n h. q.obligations n (p.obligations n h);
}

pub within_l : (x y : Term) → Within x (joined x y)
within_l x y = record {
  must = has_or_l x.must y.must;
  must_not = has_or_l x.must_not y.must_not;
  obligations = has_or_l x.obligations y.obligations;
}

pub within_r : (x y : Term) → Within y (joined x y)
within_r x y = record {
  must = has_or_r x.must y.must;
  must_not = has_or_r x.must_not y.must_not;
  obligations = has_or_r x.obligations y.obligations;
}

-- t fulfils the until f of number n
abbrev pub Fulfilling : ℕ → Formula → Term → Type 0
Fulfilling n f t = (Has t.obligations n → ⊥) ⊎ ((u : Term) × In u (terms f) × Within u t × (Has u.obligations n → ⊥))

-- all obligations of a tree have numbers below k
abbrev pub Below : ℕ → Formula → Type 0
Below k bottom = Unit {0}
Below k top = Unit {0}
Below k (proposition n p) = n < k
Below k (negated_proposition n p) = n < k
Below k (conjunction a b) = Below k a × Below k b
Below k (disjunction a b) = Below k a × Below k b
Below k (next n a) = (n < k) × Below k a
Below k (until n a b) = (n < k) × Below k a × Below k b
Below k (release n a b) = (n < k) × Below k a × Below k b

module _ (rule : List ℕ) where
  -- node n of the rule is f
  abbrev pub Known : ℕ → Formula → Type 0
  Known n f = (n < node_count rule) × (tree rule n ≡ f)

  -- each obligation of the tree is a node of the rule, and an until's right side stands below it
  abbrev pub Fits : Formula → Type 0
  Fits bottom = Unit {0}
  Fits top = Unit {0}
  Fits (proposition n p) = Known n (proposition n p)
  Fits (negated_proposition n p) = Known n (negated_proposition n p)
  Fits (conjunction a b) = Fits a × Fits b
  Fits (disjunction a b) = Fits a × Fits b
  Fits (next n a) = Known n (next n a) × Fits a
  Fits (until n a b) = Known n (until n a b) × Below n b × Fits a × Fits b
  Fits (release n a b) = Known n (release n a b) × Fits a × Fits b

  -- an endless run on w by the transitions that Move allows (Move e t: state e may take t): e i is the state at
  -- position i, t i the transition that it takes there
  pub record Run (Move : ℕ → Term → Type 0) (w e : ℕ → ℕ) (t : ℕ → Term) : Type 0 where
    pub start : In (e 0) (cover (formula rule))
    pub steps : (i : ℕ) → Move (e i) (t i)
    pub reads : (i : ℕ) → Reads (t i) (w i)
    pub goes : (i : ℕ) → (t i).obligations ≡ e (suc i)

  -- every until is fulfilled again and again
  abbrev pub Fair : (ℕ → Term) → Type 0
  Fair t = (n : ℕ) (a b : Formula) → Known n (until n a b) → Again (λ j. Fulfilling n (until n a b) (t j))

  -- v may stand for t: it reads as much, owes no more and fulfils as many untils
  pub record Dominates (v t : Term) : Type 0 where
    pub reads : (letter : ℕ) → Reads t letter → Reads v letter
    pub obligations : Sub v.obligations t.obligations
    pub fulfils : (n : ℕ) (a b : Formula) → Known n (until n a b) → Fulfilling n (until n a b) t
        → Fulfilling n (until n a b) v

  -- a term of state e
  abbrev pub TermOf : ℕ → Term → Type 0
  TermOf e t = In t (state_terms rule e)

  -- a state's transitions (Move) are terms of the state, and each of its terms is dominated by one
  pub record Represents (Move : ℕ → Term → Type 0) : Type 0 where
    pub listed : (e : ℕ) (t : Term) → Move e t → TermOf e t
    pub enough : (e : ℕ) (t : Term) → TermOf e t → (v : Term) × Move e v × Dominates v t

  -- a term of a partial product has within it a term of each obligation
  pub product_has : (k e : ℕ) (t : Term) → In t (partial_product rule e k) → (n : ℕ) → n < k → Has e n
      → (u : Term) × In u (terms (tree rule n)) × Within u t
  unfolding partial_product
  product_has zero e t h n l d = absurd (omega arith)
  product_has (suc k) e t h n l d = go (λ v m i. product_has k e v m n i d) (has e k) refl h (ℕ_discrete n k)
    where
      Found : Term → Type 0
      Found v = (u : Term) × In u (terms (tree rule n)) × Within u v

      go : ((v : Term) → In v (partial_product rule e k) → n < k → Found v) → (b : Bool) → has e k ≡ b
          → In t (times b (partial_product rule e k) (terms (tree rule k))) → Dec (n ≡ k) → Found t
      go ih true q h (yes p) =
          let (x, y, mx, my, r) =
          product_in less joined consistent t (partial_product rule e k) (terms (tree rule k)) h in
          (y, subst (λ (c : ℕ). In y (terms (tree rule c))) (sym p) my, subst (Within y) (sym r) (within_r x y))
      go ih true q h (no p) =
          let (x, y, mx, my, r) =
          product_in less joined consistent t (partial_product rule e k) (terms (tree rule k)) h in
          let (u, m, i) = ih x mx (omega arith) in
          (u, m, within_trans i (subst (Within x) (sym r) (within_l x y)))
      go ih false q h (yes p) = absurd (has_false e k q (subst (Has e) p d))
      go ih false q h (no p) = ih t h (omega arith)
