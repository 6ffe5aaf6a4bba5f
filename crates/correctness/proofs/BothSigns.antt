-- R-8: a proposition in the conflicts of an accepted rule stands in its normal form both plain and negated; so they fit
-- a byte. A term asks for what stands plain and forbids what stands negated, and so does every join. Assumes nothing.
use Prim.Native.Nat.{ℕ, zero, suc, ◌^◌, ◌<◌, ◌≤◌}
use mathlib.Core.Path.{◌≡◌, refl, sym, subst}
use mathlib.Core.Logic.{inl, inr}
use mathlib.Core.List.{List, [], ◌∷◌}
use mathlib.Core.Bool.{Bool, true, false}
use native.Mathlib.Decide.{dec_lt}
use native.Mathlib.Omega.{arith}
use Rattle.answer.specs.Result.{accepted, fine}
use Rattle.answer.proofs.Results.{then_accepted}
use Rattle.sets.specs.Bits.{has, Has}
use Rattle.sets.specs.Sets.{union}
use Rattle.sets.proofs.Bits.{zero_has, has_pow, or_has, and_has, bits_below}
use Rattle.sets.proofs.Members.{All, all_one, map_in}
use Rattle.formula.specs.Rule.{node_count, kind_at, left_at, right_at}
use Rattle.formula.specs.Rule
use Rattle.formula.specs.Formula.{Formula, bottom, top, proposition, negated_proposition, conjunction, disjunction}
use Rattle.formula.specs.Formula.{next}
use Rattle.formula.specs.Formula.{until, release, build, tree}
use Rattle.formula.proofs.Accepted.{Node, accepted_fine}
use Rattle.formula.proofs.Trees.{leaf_in, pair_in}
use Rattle.normalform.specs.NormalForm.{normal_form}
use Rattle.term.specs.Term.{Term, term, less, joined, consistent, product, cover, terms}
use Rattle.generalized.specs.Generalized.{times, partial_product, generalized}
use Rattle.translation.specs.Degeneralized.{translation}
use Rattle.translation.specs.Conflicts.{rule_conflicts, written_conflicts}
use Rattle.correctness.proofs.Members.{all_union, all_product}
use Rattle.correctness.proofs.ConflictsExactly.{first_factor, second_factor, Join, of_node, of_state, Clash}
use Rattle.correctness.proofs.ConflictsExactly.{conflicts_passed, rule_exactly}

-- a node of that kind, 2 plain or 3 negated, has the proposition p
pub record Stands (rule : List ℕ) (kind p : ℕ) : Type 0 where
  pub node : ℕ
  pub inside : node < node_count rule
  pub of_kind : kind_at rule node ≡ kind
  pub of_proposition : left_at rule node ≡ p

-- ---- P is said of each proposition that stands plain, Q of each that stands negated

module _ (P Q : ℕ → Type 0) where
  -- in a formula
  unfoldable Signs : Formula → Type 0
  Signs bottom = Unit {0}
  Signs top = Unit {0}
  Signs (proposition n p) = P p
  Signs (negated_proposition n p) = Q p
  Signs (conjunction a b) = Signs a × Signs b
  Signs (disjunction a b) = Signs a × Signs b
  Signs (next n a) = Signs a
  Signs (until n a b) = Signs a × Signs b
  Signs (release n a b) = Signs a × Signs b

  -- in a term: P of each that it asks for, Q of each that it forbids
  record Signed (t : Term) : Type 0 where
    plain : (p : ℕ) → Has t.must p → P p
    negated : (p : ℕ) → Has t.must_not p → Q p

  joined_signed : (x y : Term) → Signed x → Signed y → Signed (joined x y)
  joined_signed x y a b = record {
    plain = λ p h. elim (or_has x.must y.must p h) [ inl k ↦ a.plain p k | inr k ↦ b.plain p k ];
    negated = λ p h. elim (or_has x.must_not y.must_not p h) [ inl k ↦ a.negated p k | inr k ↦ b.negated p k ];
  }

  owing_signed : (c : ℕ) → Signed (term 0 0 c)
  owing_signed c = record { plain = λ p h. absurd (zero_has h); negated = λ p h. absurd (zero_has h) }

  product_signed : (ts us : List Term) → All Signed ts → All Signed us → All Signed (product ts us)
  product_signed = all_product less joined consistent Signed joined_signed

  own_signed : (c : ℕ) → All Signed (term 0 0 c ∷ [])
  own_signed c = all_one Signed (term 0 0 c) (owing_signed c)

  terms_signed : (f : Formula) → Signs f → All Signed (terms f)
  unfolding terms Signs
  terms_signed bottom s = λ t h. absurd h
  terms_signed top s = own_signed 0
  terms_signed (proposition n q) s =
      all_one Signed (term (2 ^ q) 0 0)
      (record { plain = λ p h. subst P (sym (has_pow q p h)) s; negated = λ p h. absurd (zero_has h) })
  terms_signed (negated_proposition n q) s =
      all_one Signed (term 0 (2 ^ q) 0)
      (record { plain = λ p h. absurd (zero_has h); negated = λ p h. subst Q (sym (has_pow q p h)) s })
  terms_signed (conjunction a b) (s, r) = product_signed (terms a) (terms b) (terms_signed a s) (terms_signed b r)
  terms_signed (disjunction a b) (s, r) =
      all_union less Signed (terms a) (terms b) (terms_signed a s) (terms_signed b r)
  terms_signed (next n a) s = λ t h.
      let (c, m, e) = map_in (term 0 0) t (cover a) h in subst Signed (sym e) (owing_signed c)
  terms_signed (until n a b) (s, r) =
      all_union less Signed (terms b) (product (terms a) (term 0 0 (2 ^ n) ∷ [])) (terms_signed b r)
      (product_signed (terms a) (term 0 0 (2 ^ n) ∷ []) (terms_signed a s) (own_signed (2 ^ n)))
  terms_signed (release n a b) (s, r) =
      product_signed (terms b) (union less (terms a) (term 0 0 (2 ^ n) ∷ [])) (terms_signed b r)
      (all_union less Signed (terms a) (term 0 0 (2 ^ n) ∷ []) (terms_signed a s) (own_signed (2 ^ n)))

  -- in the two lists whose product is in a formula's terms
  first_signed : (f : Formula) → Signs f → All Signed (first_factor f)
  unfolding first_factor Signs
  first_signed bottom s = λ t h. absurd h
  first_signed top s = λ t h. absurd h
  first_signed (proposition n q) s = λ t h. absurd h
  first_signed (negated_proposition n q) s = λ t h. absurd h
  first_signed (conjunction a b) (s, r) = terms_signed a s
  first_signed (disjunction a b) s = λ t h. absurd h
  first_signed (next n a) s = λ t h. absurd h
  first_signed (until n a b) (s, r) = terms_signed a s
  first_signed (release n a b) (s, r) = terms_signed b r

  second_signed : (f : Formula) → Signs f → All Signed (second_factor f)
  unfolding second_factor Signs
  second_signed bottom s = λ t h. absurd h
  second_signed top s = λ t h. absurd h
  second_signed (proposition n q) s = λ t h. absurd h
  second_signed (negated_proposition n q) s = λ t h. absurd h
  second_signed (conjunction a b) (s, r) = terms_signed b r
  second_signed (disjunction a b) s = λ t h. absurd h
  second_signed (next n a) s = λ t h. absurd h
  second_signed (until n a b) (s, r) = own_signed (2 ^ n)
  second_signed (release n a b) (s, r) =
      all_union less Signed (terms a) (term 0 0 (2 ^ n) ∷ []) (terms_signed a s) (own_signed (2 ^ n))

  -- in a state's products, and in every join
  module _ (rule : List ℕ) (trees : (n : ℕ) → n < node_count rule → Signs (tree rule n)) where
    partial_signed : (state n : ℕ) → n ≤ node_count rule → All Signed (partial_product rule state n)
    unfolding partial_product
    partial_signed state zero le = own_signed 0
    partial_signed state (suc n) le = go (has state n) (partial_signed state n (omega arith))
      where
        go : (b : Bool) → All Signed (partial_product rule state n)
            → All Signed (times b (partial_product rule state n) (terms (tree rule n)))
        go true ih =
            product_signed (partial_product rule state n) (terms (tree rule n)) ih
            (terms_signed (tree rule n) (trees n le))
        go false ih = ih

    join_signed : {states : List ℕ} {t u : Term} → Join rule states t u → Signed (joined t u)
    join_signed (of_node n t u inside l m) =
        joined_signed t u (first_signed (tree rule n) (trees n inside) t l)
        (second_signed (tree rule n) (trees n inside) u m)
    join_signed (of_state state n t u is inside owed l m) =
        joined_signed t u (partial_signed state n (omega arith) t l) (terms_signed (tree rule n) (trees n inside) u m)

    clash_signs : {states : List ℕ} (p : ℕ) → Clash rule states p → P p × Q p
    clash_signs p c =
        let signed = join_signed c.join in
        let both = and_has (joined c.first c.second).must (joined c.first c.second).must_not p c.both_ways in
        (signed.plain p both.0, signed.negated p both.1)

  -- in the tree of a node
  signs_build : (k n l : ℕ) (f g : Formula) → (k ≡ 2 → P l) → (k ≡ 3 → Q l) → (3 < k → Signs f) → (3 < k → Signs g)
      → Signs (build k n l f g)
  unfolding Signs
  signs_build zero n l f g p q a b = tt
  signs_build (suc zero) n l f g p q a b = tt
  signs_build (suc (suc zero)) n l f g p q a b = p refl
  signs_build (suc (suc (suc zero))) n l f g p q a b = q refl
  signs_build (suc (suc (suc (suc zero)))) n l f g p q a b = (a (omega arith), b (omega arith))
  signs_build (suc (suc (suc (suc (suc zero))))) n l f g p q a b = (a (omega arith), b (omega arith))
  signs_build (suc (suc (suc (suc (suc (suc zero)))))) n l f g p q a b = a (omega arith)
  signs_build (suc (suc (suc (suc (suc (suc (suc zero))))))) n l f g p q a b = (a (omega arith), b (omega arith))
  signs_build (suc (suc (suc (suc (suc (suc (suc (suc zero)))))))) n l f g p q a b = (a (omega arith), b (omega arith))
  signs_build (suc (suc (suc (suc (suc (suc (suc (suc (suc k))))))))) n l f g p q a b = tt

-- ---- a rule that 1 to 7 let pass

module _ (rule : List ℕ) (passed : Rule.checked rule ≡ fine) where
  abbrev SignsIn : ℕ → Type 0
  SignsIn n = Signs (Stands rule 2) (Stands rule 3) (tree rule n)

  signs_step : (n : ℕ) → n < node_count rule → ((k : ℕ) → k < n → SignsIn k) → SignsIn n
  signs_step n inside below = pick (dec_lt 3 (kind_at rule n))
    where
      node : Node rule n
      node = (accepted_fine rule passed).nodes n inside

      stands : (kind : ℕ) → kind_at rule n ≡ kind → Stands rule kind (left_at rule n)
      stands kind e = record { node = n; inside = inside; of_kind = e; of_proposition = refl }

      pick : Dec (3 < kind_at rule n) → SignsIn n
      pick (yes inner) =
          pair_in rule n inside node (Signs (Stands rule 2) (Stands rule 3)) (kind_at rule n) refl (left_at rule n)
          (right_at rule n) refl refl inner
          (signs_build (Stands rule 2) (Stands rule 3) (kind_at rule n) n (left_at rule n) _ _ (stands 2) (stands 3)
          (λ _. below (left_at rule n) (node.left inner)) (λ _. below (right_at rule n) (node.right inner)))
      pick (no leaf) =
          leaf_in rule n inside node (Signs (Stands rule 2) (Stands rule 3)) (kind_at rule n) refl (left_at rule n) refl
          (λ f g. signs_build (Stands rule 2) (Stands rule 3) (kind_at rule n) n (left_at rule n) f g (stands 2)
          (stands 3) (λ inner. absurd (leaf inner)) (λ inner. absurd (leaf inner)))

  signs_to : (bound n : ℕ) → n < bound → n < node_count rule → SignsIn n
  signs_to zero n lt inside = absurd (omega arith)
  signs_to (suc bound) n lt inside = signs_step n inside (λ k l. signs_to bound k (omega arith) (omega arith))

  signs : (n : ℕ) → n < node_count rule → SignsIn n
  signs n inside = signs_to (suc n) n (omega arith) inside

-- ---- an accepted rule

-- a proposition in its conflicts stands in it both ways
rule_both_signs : (rule : List ℕ) (set : ℕ) → rule_conflicts rule ≡ accepted set → (p : ℕ) → Has set p
    → Stands rule 2 p × Stands rule 3 p
unfolding rule_conflicts
rule_both_signs rule set e p h =
    let (a, made, after) = then_accepted (translation rule) _ e in
    let (states, walked, same) = then_accepted (generalized rule) _ after in
    clash_signs (Stands rule 2) (Stands rule 3) rule (signs rule (conflicts_passed rule set e)) p
    ((rule_exactly rule states set walked e p).0 h)

-- the same of a written rule, and its normal form
pub conflicts_both_signs : (rule : List ℕ) (set : ℕ) → written_conflicts rule ≡ accepted set → (p : ℕ) → Has set p
    → (form : List ℕ) × (normal_form rule ≡ accepted form) × Stands form 2 p × Stands form 3 p
unfolding written_conflicts
conflicts_both_signs rule set e p h =
    let (form, made, of_form) = then_accepted (normal_form rule) _ e in
    let (plain, negated) = rule_both_signs form set of_form p h in
    (form, made, plain, negated)

-- so the set fits a byte: there are no more propositions than bits
pub conflicts_byte : (rule : List ℕ) (set : ℕ) → written_conflicts rule ≡ accepted set → set < 256
unfolding written_conflicts
conflicts_byte rule set e =
    let (form, made, of_form) = then_accepted (normal_form rule) _ e in
    bits_below set 8 (λ p h. below form (conflicts_passed form set of_form) p (rule_both_signs form set of_form p h).0)
  where
    below : (form : List ℕ) → Rule.checked form ≡ fine → (p : ℕ) → Stands form 2 p → p < 8
    below form passed p stands =
        let node = (accepted_fine form passed).nodes stands.node stands.inside in
        let small = node.proposition (omega (arith, stands.of_kind)) (omega (arith, stands.of_kind)) in
        omega (arith, stands.of_proposition, small)
