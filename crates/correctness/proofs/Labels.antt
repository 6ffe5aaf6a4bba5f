-- The labels of a rule's transitions: two bytes with bit 7 clear that share no bit. Assumes of a formula that its
-- propositions are among those that there are.
use Prim.Native.Nat.{ℕ, zero, suc, ◌^◌, ◌<◌, ◌≤◌}
use mathlib.Core.Path.{sym, subst}
use mathlib.Core.List.{List, [], ◌∷◌}
use mathlib.Core.Bool.{Bool, true, false}
use native.Mathlib.Omega.{arith}
use lib.Bits.{bit_and, or_lt, and_zero_r, and_zero_l}
use lib.Pow.{pow-lt}
use borrow.Author.Tests.{eqb-true}
use Rattle.lasso.specs.Lasso.{skipped}
use Rattle.sets.specs.Sets.{union}
use Rattle.formula.specs.Limits.{propositions}
use Rattle.formula.specs.Rule.{node_count}
use Rattle.formula.specs.Formula.{Formula, bottom, top, proposition, negated_proposition, conjunction, disjunction}
use Rattle.formula.specs.Formula.{next}
use Rattle.formula.specs.Formula.{until, release, tree, InRange}
use Rattle.sets.specs.Bits.{has}
use Rattle.term.specs.Term.{Term, term, less, joined, consistent, product, cover, terms}
use Rattle.generalized.specs.Generalized.{times, partial_product, transitions}
use Rattle.generalized.proofs.Sifting.{transitions_terms}
use Rattle.automaton.proofs.WellFormed.{Label}
use Rattle.sets.proofs.Members.{All, all_one, map_in}
use Rattle.correctness.proofs.Members.{all_union, product_in, product_kept}

abbrev pub Labelled : Term → Type 0
Labelled t = Label t.must t.must_not

-- a term that asks nothing of the letter
owing_labelled : (obligations : ℕ) → Labelled (term 0 0 obligations)
owing_labelled obligations = record { must_small = omega arith; not_small = omega arith; disjoint = and_zero_r 0 }

product_labelled : (ts us : List Term) → All Labelled ts → All Labelled us → All Labelled (product ts us)
product_labelled ts us p q z h =
    let (x, y, mx, my, e) = product_in less joined consistent z ts us h in
    let a = p x mx in
    let b = q y my in
    let bytes : ((joined x y).must < skipped) × ((joined x y).must_not < skipped) = (
      or_lt propositions x.must y.must a.must_small b.must_small,
      or_lt propositions x.must_not y.must_not a.not_small b.not_small,
    ) in
    record {
      must_small = subst (λ (t : Term). t.must < skipped) (sym e) bytes.0;
      not_small = subst (λ (t : Term). t.must_not < skipped) (sym e) bytes.1;
      disjoint = eqb-true (bit_and z.must z.must_not) 0 (product_kept less joined consistent ts us z h);
    }

terms_labelled : (f : Formula) → InRange f → All Labelled (terms f)
unfolding terms InRange
terms_labelled bottom m = λ t h. absurd h
terms_labelled top m = all_one Labelled (term 0 0 0) (owing_labelled 0)
terms_labelled (proposition n p) m =
    all_one Labelled (term (2 ^ p) 0 0)
    (record { must_small = pow-lt {j = propositions} m; not_small = omega arith; disjoint = and_zero_r (2 ^ p) })
terms_labelled (negated_proposition n p) m =
    all_one Labelled (term 0 (2 ^ p) 0)
    (record { must_small = omega arith; not_small = pow-lt {j = propositions} m; disjoint = and_zero_l (2 ^ p) })
terms_labelled (conjunction a b) (p, q) = product_labelled (terms a) (terms b) (terms_labelled a p) (terms_labelled b q)
terms_labelled (disjunction a b) (p, q) =
    all_union less Labelled (terms a) (terms b) (terms_labelled a p) (terms_labelled b q)
terms_labelled (next n a) m =
    λ t h. let (c, mc, e) = map_in (term 0 0) t (cover a) h in subst Labelled (sym e) (owing_labelled c)
terms_labelled (until n a b) (p, q) =
    all_union less Labelled (terms b) (product (terms a) (term 0 0 (2 ^ n) ∷ [])) (terms_labelled b q)
    (product_labelled (terms a) (term 0 0 (2 ^ n) ∷ []) (terms_labelled a p)
    (all_one Labelled (term 0 0 (2 ^ n)) (owing_labelled (2 ^ n))))
terms_labelled (release n a b) (p, q) =
    product_labelled (terms b) (union less (terms a) (term 0 0 (2 ^ n) ∷ [])) (terms_labelled b q)
    (all_union less Labelled (terms a) (term 0 0 (2 ^ n) ∷ []) (terms_labelled a p)
    (all_one Labelled (term 0 0 (2 ^ n)) (owing_labelled (2 ^ n))))

module _ (rule : List ℕ) (in_range : (n : ℕ) → n < node_count rule → InRange (tree rule n)) (state : ℕ) where
  partial_labelled : (n : ℕ) → n ≤ node_count rule → All Labelled (partial_product rule state n)
  unfolding partial_product
  partial_labelled zero l = all_one Labelled (term 0 0 0) (owing_labelled 0)
  partial_labelled (suc n) l = go (has state n) (partial_labelled n (omega arith))
    where
      go : (b : Bool) → All Labelled (partial_product rule state n)
          → All Labelled (times b (partial_product rule state n) (terms (tree rule n)))
      go true ih =
          product_labelled (partial_product rule state n) (terms (tree rule n)) ih
          (terms_labelled (tree rule n) (in_range n l))
      go false ih = ih

  -- the transitions of any state
  pub transitions_labelled : All Labelled (transitions rule state)
  transitions_labelled t m = partial_labelled (node_count rule) (omega arith) t (transitions_terms rule state t m)
