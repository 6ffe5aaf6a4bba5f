-- R-8: the conflicts that an accepted translation carries are exactly the propositions for which some join is dropped, over
-- the terms of all nodes and the partial products of all states of the first walk. Assumes nothing.
use Prim.Native.Nat.{ℕ, zero, suc, ◌^◌, ◌≤◌, ◌<◌}
use mathlib.Core.Path.{◌≡◌, refl, sym, subst}
use mathlib.Core.Logic.{◌⊎◌, inl, inr, ◌↔◌}
use mathlib.Core.List.{List, [], ◌∷◌}
use mathlib.Core.Bool.{Bool, true, false}
use native.Mathlib.Decide.{ℕ_discrete, dec_lt}
use native.Mathlib.Omega.{arith}
use lib.Bits.{bit_or, or_zero_l}
use borrow.Author.Tests.{eqb-true, eq-eqb}
use Rattle.answer.specs.Result.{accepted, fine}
use Rattle.answer.proofs.Results.{then_accepted}
use Rattle.answer.proofs.Lowest.{fine_first}
use Rattle.sets.specs.Bits.{has, Has}
use Rattle.sets.specs.Sets.{In, union, join_conflicts, product_conflicts}
use Rattle.sets.proofs.Bits.{Sub, zero_has, has_true, has_false, or_has, has_or_l, has_or_r, some_bit}
use Rattle.formula.specs.Rule.{node_count, root, kind_at, left_at, right_at, release_kind, syntax_check}
use Rattle.formula.specs.Rule
use Rattle.formula.specs.Formula.{Formula, bottom, top, proposition, negated_proposition, conjunction, disjunction}
use Rattle.formula.specs.Formula.{next}
use Rattle.formula.specs.Formula.{until, release, build, tree, formula}
use Rattle.formula.proofs.Accepted.{Node, accepted_fine, formed_fine, kind_known}
use Rattle.formula.proofs.Trees.{leaf_in, pair_in}
use Rattle.normalform.specs.NormalForm.{normal_form}
use Rattle.term.specs.Term.{Term, term, less, joined, conflict, consistent, conflicts_between, terms, conflicts}
use Rattle.term.specs.Size.{sizes_checked}
use Rattle.term.specs.Memory.{Reaches, here, left, right}
use Rattle.term.proofs.Sizes.{bytes_fine}
use Rattle.term.proofs.Reached.{reached_whole}
use Rattle.generalized.specs.Generalized.{partial_product, times_conflicts, partial_conflicts, state_conflicts}
use Rattle.generalized.specs.Generalized.{walk_conflicts, generalized}
use Rattle.translation.specs.Degeneralized.{translation}
use Rattle.translation.specs.Conflicts.{rule_conflicts, written_conflicts}

-- the two lists whose product is in the terms of a formula: those of both sides of an and; of an until those of its left
-- side, and what owes it; of a release those of its right side, and those of its left side with what owes it
unfoldable pub first_factor : Formula → List Term
first_factor bottom = []
first_factor top = []
first_factor (proposition n p) = []
first_factor (negated_proposition n p) = []
first_factor (conjunction a b) = terms a
first_factor (disjunction a b) = []
first_factor (next n a) = []
first_factor (until n a b) = terms a
first_factor (release n a b) = terms b

unfoldable pub second_factor : Formula → List Term
second_factor bottom = []
second_factor top = []
second_factor (proposition n p) = []
second_factor (negated_proposition n p) = []
second_factor (conjunction a b) = terms b
second_factor (disjunction a b) = []
second_factor (next n a) = []
second_factor (until n a b) = term 0 0 (2 ^ n) ∷ []
second_factor (release n a b) = union less (terms a) (term 0 0 (2 ^ n) ∷ [])

-- t and u are joined on the way to the automaton of a rule whose first walk has these states: for the terms of a node, or
-- in a state's product, where u is a term of an obligation n and t one of the product over those below n
pub data Join (rule states : List ℕ) : (t u : Term) → Type 0 where
  of_node : (n : ℕ) (t u : Term) → n < node_count rule → In t (first_factor (tree rule n))
      → In u (second_factor (tree rule n)) → Join rule states t u
  of_state : (state n : ℕ) (t u : Term) → In state states → n < node_count rule → Has state n
      → In t (partial_product rule state n) → In u (terms (tree rule n)) → Join rule states t u

-- a join that asks for p and forbids it, so that it is dropped
pub record Clash (rule states : List ℕ) (p : ℕ) : Type 0 where
  pub first : Term
  pub second : Term
  pub join : Join rule states first second
  pub both_ways : Has (conflict (joined first second)) p

-- ---- one product

-- a join of one of ts and one of us asks for p and forbids it
abbrev Dropped : (ts us : List Term) (p : ℕ) → Type 0
Dropped ts us p = (t u : Term) × In t ts × In u us × Has (conflict (joined t u)) p

module _ (p : ℕ) where
  joins_dropped : (t : Term) (us : List Term) → Has (join_conflicts joined conflict t us) p
      → (u : Term) × In u us × Has (conflict (joined t u)) p
  unfolding join_conflicts
  joins_dropped t [] h = absurd (zero_has h)
  joins_dropped t (u ∷ us) h = elim (or_has (conflict (joined t u)) (join_conflicts joined conflict t us) p h) [
    | inl k ↦ (u, inl refl, k)
    | inr k ↦ (let (v, m, c) = joins_dropped t us k in (v, inr m, c))
  ]

  product_dropped : (ts us : List Term) → Has (conflicts_between ts us) p → Dropped ts us p
  unfolding product_conflicts
  product_dropped [] us h = absurd (zero_has h)
  product_dropped (t ∷ ts) us h = elim (or_has (join_conflicts joined conflict t us) (conflicts_between ts us) p h) [
    | inl k ↦ (let (u, m, c) = joins_dropped t us k in (t, u, inl refl, m, c))
    | inr k ↦ (let (s, u, l, m, c) = product_dropped ts us k in (s, u, inr l, m, c))
  ]

  dropped_joins : (t u : Term) (us : List Term) → In u us → Has (conflict (joined t u)) p
      → Has (join_conflicts joined conflict t us) p
  unfolding join_conflicts
  dropped_joins t u [] m h = absurd m
  dropped_joins t u (v ∷ us) (inl e) h =
      has_or_l (conflict (joined t v)) (join_conflicts joined conflict t us) p
      (subst (λ (w : Term). Has (conflict (joined t w)) p) e h)
  dropped_joins t u (v ∷ us) (inr m) h =
      has_or_r (conflict (joined t v)) (join_conflicts joined conflict t us) p (dropped_joins t u us m h)

  dropped_product : (t u : Term) (ts us : List Term) → In t ts → In u us → Has (conflict (joined t u)) p
      → Has (conflicts_between ts us) p
  unfolding product_conflicts
  dropped_product t u [] us l m h = absurd l
  dropped_product t u (s ∷ ts) us (inl e) m h =
      has_or_l (join_conflicts joined conflict s us) (conflicts_between ts us) p
      (dropped_joins s u us m (subst (λ (w : Term). Has (conflict (joined w u)) p) e h))
  dropped_product t u (s ∷ ts) us (inr l) m h =
      has_or_r (join_conflicts joined conflict s us) (conflicts_between ts us) p (dropped_product t u ts us l m h)

-- ---- the terms of all nodes

-- the conflicts of a formula's own joins
abbrev own_conflicts : Formula → ℕ
own_conflicts f = conflicts_between (first_factor f) (second_factor f)

own_counts : (f : Formula) → Sub (own_conflicts f) (conflicts f)
unfolding conflicts first_factor second_factor product_conflicts
own_counts bottom p h = h
own_counts top p h = h
own_counts (proposition n q) p h = h
own_counts (negated_proposition n q) p h = h
own_counts (conjunction a b) p h =
    has_or_l (conflicts_between (terms a) (terms b)) (bit_or (conflicts a) (conflicts b)) p h
own_counts (disjunction a b) p h = absurd (zero_has h)
own_counts (next n a) p h = absurd (zero_has h)
own_counts (until n a b) p h =
    has_or_l (conflicts_between (terms a) (term 0 0 (2 ^ n) ∷ [])) (bit_or (conflicts a) (conflicts b)) p h
own_counts (release n a b) p h =
    has_or_l (conflicts_between (terms b) (union less (terms a) (term 0 0 (2 ^ n) ∷ [])))
    (bit_or (conflicts a) (conflicts b)) p h

-- the conflicts of a node by its kind, and by those of its sides
module _ (n l : ℕ) (f g : Formula) where
  leaf_none : (k : ℕ) → k ≤ 3 → conflicts (build k n l f g) ≡ 0
  unfolding conflicts
  leaf_none zero low = refl
  leaf_none (suc zero) low = refl
  leaf_none (suc (suc zero)) low = refl
  leaf_none (suc (suc (suc zero))) low = refl
  leaf_none (suc (suc (suc (suc k)))) low = absurd (omega arith)

  next_operand : (k : ℕ) → k ≡ 6 → conflicts (build k n l f g) ≡ conflicts f
  unfolding conflicts
  next_operand k e = rw e

  both_sides : (k : ℕ) → 3 < k → (k ≡ 6 → ⊥) → k ≤ release_kind
      → conflicts (build k n l f g) ≡ bit_or (own_conflicts (build k n l f g)) (bit_or (conflicts f) (conflicts g))
  unfolding conflicts first_factor second_factor product_conflicts
  both_sides zero inner pair few = absurd (omega arith)
  both_sides (suc zero) inner pair few = absurd (omega arith)
  both_sides (suc (suc zero)) inner pair few = absurd (omega arith)
  both_sides (suc (suc (suc zero))) inner pair few = absurd (omega arith)
  both_sides (suc (suc (suc (suc zero)))) inner pair few = refl
  both_sides (suc (suc (suc (suc (suc zero))))) inner pair few = sym (or_zero_l (bit_or (conflicts f) (conflicts g)))
  both_sides (suc (suc (suc (suc (suc (suc zero)))))) inner pair few = absurd (pair refl)
  both_sides (suc (suc (suc (suc (suc (suc (suc zero))))))) inner pair few = refl
  both_sides (suc (suc (suc (suc (suc (suc (suc (suc zero)))))))) inner pair few = refl
  both_sides (suc (suc (suc (suc (suc (suc (suc (suc (suc k))))))))) inner pair few = absurd (omega arith)

module _ (rule : List ℕ) (passed : Rule.checked rule ≡ fine) where
  -- a node inside the rule
  module _ (n : ℕ) (inside : n < node_count rule) where
    node : Node rule n
    node = (accepted_fine rule passed).nodes n inside

    kind_few : kind_at rule n ≤ release_kind
    kind_few = unfold Rule.checked in
        let formed = formed_fine release_kind rule (fine_first (syntax_check release_kind rule) _ passed) in
        kind_known release_kind rule n (formed.each n inside)

    abbrev of : ℕ → ℕ
    of k = conflicts (tree rule k)

    abbrev own : ℕ
    own = own_conflicts (tree rule n)

    of_leaf : (3 < kind_at rule n → ⊥) → of n ≡ 0
    of_leaf leaf =
        leaf_in rule n inside node (λ f. conflicts f ≡ 0) (kind_at rule n) refl (left_at rule n) refl
        (λ f g. leaf_none n (left_at rule n) f g (kind_at rule n) (omega arith))

    of_next : kind_at rule n ≡ 6 → of n ≡ of (left_at rule n)
    of_next e =
        pair_in rule n inside node (λ f. conflicts f ≡ of (left_at rule n)) (kind_at rule n) refl (left_at rule n)
        (right_at rule n) refl refl (omega arith) (next_operand n (left_at rule n) _ _ (kind_at rule n) e)

    of_pair : 3 < kind_at rule n → (kind_at rule n ≡ 6 → ⊥)
        → of n ≡ bit_or own (bit_or (of (left_at rule n)) (of (right_at rule n)))
    of_pair inner pair =
        pair_in rule n inside node
        (λ f. conflicts f ≡ bit_or (own_conflicts f) (bit_or (of (left_at rule n)) (of (right_at rule n))))
        (kind_at rule n) refl (left_at rule n) (right_at rule n) refl refl inner
        (both_sides n (left_at rule n) _ _ (kind_at rule n) inner pair kind_few)

    -- those of its sides are among them
    in_left : 3 < kind_at rule n → Sub (of (left_at rule n)) (of n)
    in_left inner p h = pick (ℕ_discrete (kind_at rule n) 6)
      where
        pick : Dec (kind_at rule n ≡ 6) → Has (of n) p
        pick (yes e) = rw (of_next e) h
        pick (no pair) = rw (of_pair inner pair)
            (has_or_r own (bit_or (of (left_at rule n)) (of (right_at rule n))) p
            (has_or_l (of (left_at rule n)) (of (right_at rule n)) p h))

    in_right : 3 < kind_at rule n → (kind_at rule n ≡ 6 → ⊥) → Sub (of (right_at rule n)) (of n)
    in_right inner pair p h = rw (of_pair inner pair)
        (has_or_r own (bit_or (of (left_at rule n)) (of (right_at rule n))) p
        (has_or_r (of (left_at rule n)) (of (right_at rule n)) p h))

  reached_counts : {n k : ℕ} → n < node_count rule → Reaches rule n k
      → Sub (conflicts (tree rule k)) (conflicts (tree rule n))
  reached_counts inside (here n) p h = h
  reached_counts inside (left n k inner r) p h =
      in_left n inside inner p (reached_counts (omega (arith, (node n inside).left inner)) r p h)
  reached_counts inside (right n k inner pair r) p h =
      in_right n inside inner pair p (reached_counts (omega (arith, (node n inside).right inner)) r p h)

  -- those of every node are among those of the root, since 6 lets no node stand apart
  every_node_counts : (n : ℕ) → n < node_count rule → Sub (conflicts (tree rule n)) (conflicts (formula rule))
  unfolding formula
  every_node_counts n lt =
      reached_counts (omega (arith, (accepted_fine rule passed).some)) (reached_whole rule passed n lt)

  -- and each comes from the own joins of some node
  module _ (p : ℕ) where
    abbrev Found : Type 0
    Found = (n : ℕ) × (n < node_count rule) × Has (own_conflicts (tree rule n)) p

    found_step : (n : ℕ) → n < node_count rule
        → ((k : ℕ) → k < n → Has (conflicts (tree rule k)) p → Found) → Has (conflicts (tree rule n)) p → Found
    found_step n inside below h = pick (dec_lt 3 (kind_at rule n)) (ℕ_discrete (kind_at rule n) 6)
      where
        sides : 3 < kind_at rule n
            → Has (conflicts (tree rule (left_at rule n))) p ⊎ Has (conflicts (tree rule (right_at rule n))) p → Found
        sides inner (inl k) = below (left_at rule n) ((node n inside).left inner) k
        sides inner (inr k) = below (right_at rule n) ((node n inside).right inner) k

        parts : 3 < kind_at rule n → (kind_at rule n ≡ 6 → ⊥) → Has (own n inside) p
            ⊎ Has (bit_or (conflicts (tree rule (left_at rule n))) (conflicts (tree rule (right_at rule n)))) p → Found
        parts inner pair (inl k) = (n, inside, k)
        parts inner pair (inr k) =
            sides inner (or_has (conflicts (tree rule (left_at rule n))) (conflicts (tree rule (right_at rule n))) p k)

        pick : Dec (3 < kind_at rule n) → Dec (kind_at rule n ≡ 6) → Found
        pick (no leaf) is = absurd (zero_has (subst (λ (x : ℕ). Has x p) (of_leaf n inside leaf) h))
        pick (yes inner) (yes e) =
            below (left_at rule n) ((node n inside).left inner) (subst (λ (x : ℕ). Has x p) (of_next n inside e) h)
        pick (yes inner) (no pair) =
            parts inner pair
            (or_has (own n inside) (bit_or (conflicts (tree rule (left_at rule n)))
            (conflicts (tree rule (right_at rule n)))) p
            (subst (λ (x : ℕ). Has x p) (of_pair n inside inner pair) h))

    found_to : (bound n : ℕ) → n < bound → n < node_count rule → Has (conflicts (tree rule n)) p → Found
    found_to zero n lt inside h = absurd (omega arith)
    found_to (suc bound) n lt inside h =
        found_step n inside (λ k l. found_to bound k (omega arith) (omega arith)) h

    root_found : Has (conflicts (formula rule)) p → Found
    unfolding formula
    root_found h =
        found_to (suc (root rule)) (root rule) (omega arith) (omega (arith, (accepted_fine rule passed).some)) h

-- ---- the partial products of all states

module _ (rule : List ℕ) (p : ℕ) where
  -- the product over the obligations below n, times the terms of n
  abbrev At : (state n : ℕ) → Type 0
  At state n = Has state n × Has (conflicts_between (partial_product rule state n) (terms (tree rule n))) p

  partial_found : (state n : ℕ) → Has (partial_conflicts rule state n) p → (m : ℕ) × (m < n) × At state m
  unfolding partial_conflicts
  partial_found state zero h = absurd (zero_has h)
  partial_found state (suc n) h = elim (or_has (partial_conflicts rule state n)
      (times_conflicts (has state n) (partial_product rule state n) (terms (tree rule n))) p h) [
        | inl k ↦ (let (m, lt, at) = partial_found state n k in (m, omega arith, at))
        | inr k ↦ own (has state n) refl k
      ]
    where
      own : (b : Bool) → has state n ≡ b
          → Has (times_conflicts b (partial_product rule state n) (terms (tree rule n))) p
          → (m : ℕ) × (m < suc n) × At state m
      own true e k = (n, omega arith, (has_true state n e, k))
      own false e k = absurd (zero_has k)

  partial_counts : (state n m : ℕ) → m < n → At state m → Has (partial_conflicts rule state n) p
  unfolding partial_conflicts
  partial_counts state zero m lt at = absurd (omega arith)
  partial_counts state (suc n) m lt at = pick (ℕ_discrete m n) (λ below. partial_counts state n m below at)
    where
      last : m ≡ n → (b : Bool) → has state n ≡ b
          → Has (times_conflicts b (partial_product rule state n) (terms (tree rule n))) p
      last e true q =
          subst (λ (k : ℕ). Has (conflicts_between (partial_product rule state k) (terms (tree rule k))) p) e at.1
      last e false q = absurd (has_false state n q (subst (λ (k : ℕ). Has state k) e at.0))

      pick : Dec (m ≡ n) → (m < n → Has (partial_conflicts rule state n) p)
          → Has (partial_conflicts rule state (suc n)) p
      pick (yes e) ih =
          has_or_r (partial_conflicts rule state n)
          (times_conflicts (has state n) (partial_product rule state n) (terms (tree rule n))) p
          (last e (has state n) refl)
      pick (no other) ih =
          has_or_l (partial_conflicts rule state n)
          (times_conflicts (has state n) (partial_product rule state n) (terms (tree rule n))) p (ih (omega arith))

  walk_found : (states : List ℕ) → Has (walk_conflicts rule states) p
      → (state : ℕ) × In state states × Has (state_conflicts rule state) p
  unfolding walk_conflicts
  walk_found [] h = absurd (zero_has h)
  walk_found (x ∷ xs) h = elim (or_has (state_conflicts rule x) (walk_conflicts rule xs) p h) [
    | inl k ↦ (x, inl refl, k)
    | inr k ↦ (let (state, m, found) = walk_found xs k in (state, inr m, found))
  ]

  walk_counts : (states : List ℕ) (state : ℕ) → In state states → Has (state_conflicts rule state) p
      → Has (walk_conflicts rule states) p
  unfolding walk_conflicts
  walk_counts [] state m h = absurd m
  walk_counts (x ∷ xs) state (inl e) h =
      has_or_l (state_conflicts rule x) (walk_conflicts rule xs) p
      (subst (λ (s : ℕ). Has (state_conflicts rule s) p) e h)
  walk_counts (x ∷ xs) state (inr m) h =
      has_or_r (state_conflicts rule x) (walk_conflicts rule xs) p (walk_counts xs state m h)

-- ---- an accepted rule

-- a rule whose conflicts are carried is let pass by 1 to 7
pub conflicts_passed : (rule : List ℕ) (set : ℕ) → rule_conflicts rule ≡ accepted set → Rule.checked rule ≡ fine
unfolding rule_conflicts translation
conflicts_passed rule set e =
    let (a, made, after) = then_accepted (translation rule) _ e in
    bytes_fine rule (then_accepted (sizes_checked rule) _ made).1

module _ (rule states : List ℕ) (set : ℕ) (walked : generalized rule ≡ accepted states)
    (carried : rule_conflicts rule ≡ accepted set) where
  passed : Rule.checked rule ≡ fine
  passed = conflicts_passed rule set carried

  set_is : bit_or (conflicts (formula rule)) (walk_conflicts rule states) ≡ set
  set_is = unfold rule_conflicts in
      let (a, made, after) = then_accepted (translation rule) _ carried in
      let (others, found, same) = then_accepted (generalized rule) _ after in
      cc

  clashes : (p : ℕ) → Has set p → Clash rule states p
  clashes p h =
      elim (or_has (conflicts (formula rule)) (walk_conflicts rule states) p
      (subst (λ (x : ℕ). Has x p) (sym set_is) h)) [
        | inl k ↦ at_node (root_found rule passed p k)
        | inr k ↦ at_state (walk_found rule p states k)
      ]
    where
      at_node : (n : ℕ) × (n < node_count rule) × Has (own_conflicts (tree rule n)) p → Clash rule states p
      at_node (n, inside, k) =
          let (t, u, l, m, c) = product_dropped p (first_factor (tree rule n)) (second_factor (tree rule n)) k in
          record { first = t; second = u; join = of_node n t u inside l m; both_ways = c }

      at_state : (state : ℕ) × In state states × Has (state_conflicts rule state) p → Clash rule states p
      at_state (state, is, k) =
          let (n, inside, at) = partial_found rule p state (node_count rule) k in
          let (t, u, l, m, c) = product_dropped p (partial_product rule state n) (terms (tree rule n)) at.1 in
          record { first = t; second = u; join = of_state state n t u is inside at.0 l m; both_ways = c }

  counts : (p : ℕ) (t u : Term) → Join rule states t u → Has (conflict (joined t u)) p → Has set p
  counts p t u join h = subst (λ (x : ℕ). Has x p) set_is (of join h)
    where
      of : {v w : Term} → Join rule states v w → Has (conflict (joined v w)) p
          → Has (bit_or (conflicts (formula rule)) (walk_conflicts rule states)) p
      of (of_node n v w inside l m) k =
          has_or_l (conflicts (formula rule)) (walk_conflicts rule states) p
          (every_node_counts rule passed n inside p
          (own_counts (tree rule n) p (dropped_product p v w (first_factor (tree rule n)) (second_factor (tree rule n))
          l m k)))
      of (of_state state n v w is inside owed l m) k =
          has_or_r (conflicts (formula rule)) (walk_conflicts rule states) p
          (walk_counts rule p states state is
          (partial_counts rule p state (node_count rule) n inside
          (owed, dropped_product p v w (partial_product rule state n) (terms (tree rule n)) l m k)))

  pub rule_exactly : (p : ℕ) → Has set p ↔ Clash rule states p
  rule_exactly p = (clashes p, λ c. counts p c.first c.second c.join c.both_ways)

  rule_none_iff : (set ≡ 0) ↔ ((t u : Term) → Join rule states t u → consistent (joined t u) ≡ true)
  rule_none_iff = (kept, none)
    where
      kept : set ≡ 0 → (t u : Term) → Join rule states t u → consistent (joined t u) ≡ true
      kept e t u join = pick (ℕ_discrete (conflict (joined t u)) 0)
        where
          pick : Dec (conflict (joined t u) ≡ 0) → consistent (joined t u) ≡ true
          pick (yes same) = eq-eqb (conflict (joined t u)) 0 same
          pick (no other) =
              let (p, h) = some_bit (conflict (joined t u)) other in
              absurd (zero_has (subst (λ (x : ℕ). Has x p) e (counts p t u join h)))

      none : ((t u : Term) → Join rule states t u → consistent (joined t u) ≡ true) → set ≡ 0
      none all = pick (ℕ_discrete set 0)
        where
          clashes_not : (p : ℕ) → Clash rule states p → ⊥
          clashes_not p c =
              let same = eqb-true (conflict (joined c.first c.second)) 0 (all c.first c.second c.join) in
              zero_has (subst (λ (x : ℕ). Has x p) same c.both_ways)

          pick : Dec (set ≡ 0) → set ≡ 0
          pick (yes e) = e
          pick (no other) = let (p, h) = some_bit set other in absurd (clashes_not p (clashes p h))

-- ---- an accepted rule as it is written, its normal form, and the states of the form's first walk

module _ (rule form states : List ℕ) (set : ℕ) (formed : normal_form rule ≡ accepted form)
    (walked : generalized form ≡ accepted states) (carried : written_conflicts rule ≡ accepted set) where
  of_form : rule_conflicts form ≡ accepted set
  of_form = unfold written_conflicts in rw formed at carried

  -- a proposition is in the set exactly where some join is dropped for it
  pub conflicts_exactly : (p : ℕ) → Has set p ↔ Clash form states p
  conflicts_exactly = rule_exactly form states set walked of_form

  -- the set is empty exactly where no join is dropped
  pub no_conflicts_iff : (set ≡ 0) ↔ ((t u : Term) → Join form states t u → consistent (joined t u) ≡ true)
  no_conflicts_iff = rule_none_iff form states set walked of_form
