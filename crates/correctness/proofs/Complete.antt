-- A word on which the formula of the rule holds has a fair run: at each position the run takes, of every obligation, a
-- term whose obligations hold at the next position, and of an until its right side where that holds. Assumes of the
-- transitions (Move) only that each term of a state is dominated by one.
use Prim.Native.Nat.{ℕ, zero, suc, ◌^◌, ◌<◌, ◌≤◌}
use mathlib.Core.Path.{◌≡◌, refl, sym, subst}
use mathlib.Core.Logic.{◌⊎◌, inl, inr}
use mathlib.Core.List.{List, [], ◌∷◌, map}
use mathlib.Core.Bool.{Bool, true, false}
use native.Mathlib.Omega.{arith}
use native.Mathlib.Decide.{ℕ_discrete}
use lib.Bits.{bit_and, bit_or}
use lib.Dec.{ltb}
use borrow.Author.Tests.{eq-eqb}
use Rattle.sets.specs.Sets.{union, In}
use Rattle.formula.specs.Rule.{root, node_count}
use Rattle.formula.specs.Formula.{Formula, bottom, top, proposition, negated_proposition, conjunction, disjunction}
use Rattle.formula.specs.Formula.{next}
use Rattle.formula.specs.Formula.{until, release, tree, formula}
use Rattle.formula.specs.Satisfaction.{Holds}
use Rattle.sets.specs.Bits.{has, Has}
use Rattle.term.specs.Term.{Term, term, less, joined, consistent, product, cover, terms}
use Rattle.generalized.specs.Generalized.{times, partial_product}
use Rattle.sets.proofs.Bits.{has_dec, has_true, has_false, not_has, or_has, zero_has, has_pow, and_disjoint}
use Rattle.sets.proofs.Members.{in_map}
use Rattle.correctness.proofs.Members.{in_union, in_product, ltb_equal, less_equal}
use Rattle.correctness.proofs.Runs.{Reads, Within, within_trans, within_l, within_r, Fulfilling, Known, Fits, Run, Fair}
use Rattle.correctness.proofs.Runs.{Dominates, TermOf}
use Rattle.correctness.proofs.Trees.{tree_fits}
use Rattle.correctness.proofs.Obligations.{terms_own}

-- what reads a letter is not at odds with itself
reads_consistent : (t : Term) (letter : ℕ) → Reads t letter → consistent t ≡ true
reads_consistent t letter r =
    eq-eqb (bit_and t.must t.must_not) 0 (and_disjoint t.must t.must_not (λ n p q. r.clear n q (r.set n p)))

reads_joined : (x y : Term) (letter : ℕ) → Reads x letter → Reads y letter → Reads (joined x y) letter
reads_joined x y letter p q = record {
  set = λ n h. elim (or_has x.must y.must n h) [ inl c ↦ p.set n c | inr c ↦ q.set n c ];
  clear = λ n h s. elim (or_has x.must_not y.must_not n h) [ inl c ↦ p.clear n c s | inr c ↦ q.clear n c s ];
}

reads_free : (d letter : ℕ) → Reads (term 0 0 d) letter
reads_free d letter = record { set = λ n h. absurd (zero_has h); clear = λ n h s. zero_has h }

-- until and release, taken apart
until_goes_on : (w : ℕ → ℕ) (n : ℕ) (a b : Formula) (i : ℕ) → Holds w (until n a b) i → (Holds w b i → ⊥)
    → Holds w a i × Holds w (until n a b) (suc i)
until_goes_on w n a b i (k, l, hb, f) no-b = go (ℕ_discrete i k)
  where
    go : Dec (i ≡ k) → Holds w a i × Holds w (until n a b) (suc i)
    go (yes q) = absurd (no-b (subst (Holds w b) (sym q) hb))
    go (no q) = (f i (omega arith) (omega arith), (k, omega arith, hb, λ j x y. f j (omega arith) y))

release_right : (w : ℕ → ℕ) (n : ℕ) (a b : Formula) (i : ℕ) → Holds w (release n a b) i → Holds w b i
release_right w n a b i h = elim (h i (omega arith)) [ inl x ↦ x | inr x ↦ absurd (omega arith) ]

release_goes_on : (w : ℕ → ℕ) (n : ℕ) (a b : Formula) (i : ℕ) → Holds w (release n a b) i → (Holds w a i → ⊥)
    → Holds w (release n a b) (suc i)
release_goes_on w n a b i h no-a k l = go (h k (omega arith))
  where
    past : (j : ℕ) → i ≤ j → j < k → Holds w a j → Dec (i ≡ j)
        → Holds w b k ⊎ ((j : ℕ) × (suc i ≤ j) × (j < k) × Holds w a j)
    past j x y ha (yes q) = absurd (no-a (subst (Holds w a) (sym q) ha))
    past j x y ha (no q) = inr (j, omega arith, y, ha)

    go : Holds w b k ⊎ ((j : ℕ) × (i ≤ j) × (j < k) × Holds w a j)
        → Holds w b k ⊎ ((j : ℕ) × (suc i ≤ j) × (j < k) × Holds w a j)
    go (inl x) = inl x
    go (inr (j, x, y, ha)) = past j x y ha (ℕ_discrete i j)

module _ (rule : List ℕ) (w : ℕ → ℕ) (decide : (g : Formula) (i : ℕ) → Dec (Holds w g i)) where
  -- what the set d owes at position i holds there
  abbrev Owes : ℕ → ℕ → Type 0
  Owes d i = (m : ℕ) → Has d m → Holds w (tree rule m) i

  owes_or : (x y i : ℕ) → Owes x i → Owes y i → Owes (bit_or x y) i
  owes_or x y i p q m h = elim (or_has x y m h) [ inl c ↦ p m c | inr c ↦ q m c ]

  owes_none : (i : ℕ) → Owes 0 i
  owes_none i m h = absurd (zero_has h)

  owes_one : (n : ℕ) (g : Formula) → Known rule n g → (i : ℕ) → Holds w g i → Owes (2 ^ n) i
  owes_one n g (l, q) i h m b =
      subst (λ (k : ℕ). Holds w (tree rule k) i) (sym (has_pow n m b)) (subst (λ (x : Formula). Holds w x i) (sym q) h)

  -- a set of the cover whose obligations hold
  Chosen : Formula → ℕ → Type 0
  Chosen g i = (c : ℕ) × In c (cover g) × Owes c i

  choose : (g : Formula) → Fits rule g → (i : ℕ) → Holds w g i → Chosen g i
  unfolding cover Chosen
  choose bottom f i h = absurd h
  choose top f i h = (0, inl refl, owes_none i)
  choose (proposition n m) f i h = (2 ^ n, inl refl, owes_one n (proposition n m) f i h)
  choose (negated_proposition n m) f i h = (2 ^ n, inl refl, owes_one n (negated_proposition n m) f i h)
  choose (conjunction a b) (fa, fb) i (ha, hb) =
      let (c, mc, oc) = choose a fa i ha in
      let (d, md, od) = choose b fb i hb in
      (bit_or c d, in_product ltb ltb_equal bit_or (λ _. true) c d (cover a) (cover b) mc md refl, owes_or c d i oc od)
  choose (disjunction a b) (fa, fb) i (inl h) =
      let (c, mc, oc) = choose a fa i h in (c, in_union ltb ltb_equal c (cover a) (cover b) (inl mc), oc)
  choose (disjunction a b) (fa, fb) i (inr h) =
      let (c, mc, oc) = choose b fb i h in (c, in_union ltb ltb_equal c (cover a) (cover b) (inr mc), oc)
  choose (next n a) f i h = (2 ^ n, inl refl, owes_one n (next n a) f.0 i h)
  choose (until n a b) f i h = (2 ^ n, inl refl, owes_one n (until n a b) f.0 i h)
  choose (release n a b) f i h = (2 ^ n, inl refl, owes_one n (release n a b) f.0 i h)

  -- a term of ts that may be taken at position i
  record Picked (ts : List Term) (i : ℕ) : Type 0 where
    choice : Term
    listed : In choice ts
    reads : Reads choice (w i)
    owes : Owes choice.obligations (suc i)

  pick_left : (ts us : List Term) {i : ℕ} → Picked ts i → Picked (union less ts us) i
  pick_left ts us p =
      record {
        choice = p.choice;
        listed = in_union less less_equal p.choice ts us (inl p.listed);
        reads = p.reads;
        owes
            = p.owes;
      }

  pick_right : (ts us : List Term) {i : ℕ} → Picked us i → Picked (union less ts us) i
  pick_right ts us p =
      record {
        choice = p.choice;
        listed = in_union less less_equal p.choice ts us (inr p.listed);
        reads = p.reads;
        owes
            = p.owes;
      }

  pick_both : {ts us : List Term} {i : ℕ} → Picked ts i → Picked us i → Picked (product ts us) i
  pick_both {ts} {us} {i} p q =
      let r = reads_joined p.choice q.choice (w i) p.reads q.reads in
      record {
        choice = joined p.choice q.choice;
        listed = in_product less less_equal joined consistent p.choice q.choice ts us p.listed q.listed
            (reads_consistent (joined p.choice q.choice) (w i) r);
        reads = r;
        owes = owes_or p.choice.obligations q.choice.obligations (suc i) p.owes q.owes;
      }

  -- a term that only owes
  pick_owing : (d i : ℕ) (ts : List Term) → In (term 0 0 d) ts → Owes d (suc i) → Picked ts i
  pick_owing d i ts m o = record { choice = term 0 0 d; listed = m; reads = reads_free d (w i); owes = o }

  -- an until's term takes its right side where that holds
  abbrev Prompt : Formula → Term → ℕ → Type 0
  Prompt bottom u i = Unit {0}
  Prompt top u i = Unit {0}
  Prompt (proposition n p) u i = Unit {0}
  Prompt (negated_proposition n p) u i = Unit {0}
  Prompt (conjunction a b) u i = Unit {0}
  Prompt (disjunction a b) u i = Unit {0}
  Prompt (next n a) u i = Unit {0}
  Prompt (until n a b) u i = Holds w b i → Has u.obligations n → ⊥
  Prompt (release n a b) u i = Unit {0}

  pick : (g : Formula) → Fits rule g → (i : ℕ) → Holds w g i → (p : Picked (terms g) i) × Prompt g p.choice i
  unfolding terms Chosen pick_left
  pick bottom f i h = absurd h
  pick top f i h = (pick_owing 0 i (term 0 0 0 ∷ []) (inl refl) (owes_none (suc i)), tt)
  pick (proposition n p) f i h =
      (record { choice = term (2 ^ p) 0 0; listed = inl refl; reads = r; owes = owes_none (suc i) }, tt)
    where
      r : Reads (term (2 ^ p) 0 0) (w i)
      r =
          record {
            set = λ k b. subst (Has (w i)) (sym (has_pow p k b)) (record { set = h });
            clear = λ k b s. zero_has
                b;
          }
  pick (negated_proposition n p) f i h =
      (record { choice = term 0 (2 ^ p) 0; listed = inl refl; reads = r; owes = owes_none (suc i) }, tt)
    where
      r : Reads (term 0 (2 ^ p) 0) (w i)
      r =
          record {
            set = λ k b. absurd (zero_has b);
            clear = λ k b s. not_has (w i) p h
                (subst (Has (w i)) (has_pow p k b) s);
          }
  pick (conjunction a b) (fa, fb) i (ha, hb) = (pick_both (pick a fa i ha).0 (pick b fb i hb).0, tt)
  pick (disjunction a b) (fa, fb) i (inl h) = (pick_left (terms a) (terms b) (pick a fa i h).0, tt)
  pick (disjunction a b) (fa, fb) i (inr h) = (pick_right (terms a) (terms b) (pick b fb i h).0, tt)
  pick (next n a) (k, fa) i h =
      let (c, mc, oc) = choose a fa (suc i) h in
      (pick_owing c i (map (term 0 0) (cover a)) (in_map (term 0 0) c (cover a) mc) oc, tt)
  pick (until n a b) (k, l, fa, fb) i h = go (decide b i) (λ hb. (pick b fb i hb).0) (λ ha. (pick a fa i ha).0)
    where
      owed : List Term
      owed = term 0 0 (2 ^ n) ∷ []

      go : Dec (Holds w b i) → (Holds w b i → Picked (terms b) i) → (Holds w a i → Picked (terms a) i)
          → (p : Picked (union less (terms b) (product (terms a) owed)) i) × (Holds w b i → Has p.choice.obligations n
          → ⊥)
      go (yes hb) pb pa =
          (pick_left (terms b) (product (terms a) owed) (pb hb), λ q. terms_own n b l (pb hb).choice (pb hb).listed)
      go (no no-b) pb pa =
          let (ha, hu) = until_goes_on w n a b i h no-b in (
            pick_right (terms b) (product (terms a) owed)
                (pick_both (pa ha) (pick_owing (2 ^ n) i owed (inl refl) (owes_one n (until n a b) k (suc i) hu))),
            λ hb.
                absurd (no-b hb),
          )
  pick (release n a b) (k, fa, fb) i h =
      (pick_both (pick b fb i (release_right w n a b i h)).0 (go (decide a i) (λ ha. (pick a fa i ha).0)), tt)
    where
      owed : List Term
      owed = term 0 0 (2 ^ n) ∷ []

      go : Dec (Holds w a i) → (Holds w a i → Picked (terms a) i) → Picked (union less (terms a) owed) i
      go (yes ha) pa = pick_left (terms a) owed (pa ha)
      go (no no-a) pa =
          pick_right (terms a) owed (pick_owing (2 ^ n) i owed (inl refl)
          (owes_one n (release n a b) k (suc i) (release_goes_on w n a b i h no-a)))

  -- the join of the picks of a state's obligations below k
  record Gathered (k e i : ℕ) : Type 0 where
    picked : Picked (partial_product rule e k) i
    each : (m : ℕ) → m < k → Has e m
        → (u : Term) × In u (terms (tree rule m)) × Within u picked.choice × Prompt (tree rule m) u i

  gather : (k e i : ℕ) → Owes e i → Gathered k e i
  unfolding partial_product pick_both
  gather zero e i o =
      record {
        picked = pick_owing 0 i (term 0 0 0 ∷ []) (inl refl) (owes_none (suc i));
        each = λ m l h. absurd
            (omega arith);
      }
  gather (suc k) e i o = let (p, f) = grown (has e k) refl (gather k e i o) in record { picked = p; each = f }
    where
      Each : Term → ℕ → Type 0
      Each v m = (u : Term) × In u (terms (tree rule m)) × Within u v × Prompt (tree rule m) u i

      Grown : Bool → Type 0
      Grown b =
          (p : Picked (times b (partial_product rule e k) (terms (tree rule k))) i) ×
          ((m : ℕ) → m < suc k → Has e m → Each p.choice m)

      grown : (b : Bool) → has e k ≡ b → Gathered k e i → Grown b
      grown true q r = add (pick (tree rule k) (tree_fits rule k) i (o k (has_true e k q)))
        where
          add : (p : Picked (terms (tree rule k)) i) × Prompt (tree rule k) p.choice i → Grown true
          add (p, c) = (pick_both r.picked p, λ m l h. each m l h (ℕ_discrete k m))
            where
              each : (m : ℕ) → m < suc k → Has e m → Dec (k ≡ m) → Each (joined r.picked.choice p.choice) m
              each m l h (yes z) =
                  subst (Each (joined r.picked.choice p.choice)) z
                  (p.choice, p.listed, within_r r.picked.choice p.choice, c)
              each m l h (no z) =
                  let (u, mu, wi, pr) = r.each m (omega arith) h in
                  (u, mu, within_trans wi (within_l r.picked.choice p.choice), pr)
      grown false q r = (r.picked, λ m l h. each m l h (ℕ_discrete k m))
        where
          each : (m : ℕ) → m < suc k → Has e m → Dec (k ≡ m) → Each r.picked.choice m
          each m l h (yes z) = absurd (has_false e k q (subst (Has e) (sym z) h))
          each m l h (no z) = r.each m (omega arith) h

  -- the term gathered fulfils an until whose right side holds now
  gathered_fulfils : (e i : ℕ) (r : Gathered (node_count rule) e i) (n : ℕ) (a b : Formula) → Known rule n (until n a b)
      → Has e n → Holds w b i
      → Fulfilling n (until n a b) r.picked.choice
  gathered_fulfils e i r n a b (l, q) h hb =
      let (u, mu, wi, pr) = r.each n l h in
      inr (u, subst (λ (f : Formula). In u (terms f)) q mu, wi, subst (λ (f : Formula). Prompt f u i) q pr hb)

  module _ (Move : ℕ → Term → Type 0)
      (enough : (e : ℕ) (t : Term) → TermOf rule e t → (v : Term) × Move e v × Dominates rule v t)
      (holds : Holds w (formula rule) 0) where
    record Step (e i : ℕ) : Type 0 where
      onward : Term
      moves : Move e onward
      reads : Reads onward (w i)
      owes : Owes onward.obligations (suc i)
      fulfils : (n : ℕ) (a b : Formula) → Known rule n (until n a b) → Has e n → Holds w b i
          → Fulfilling n (until n a b) onward

    step : (e i : ℕ) → Owes e i → Step e i
    step e i o =
        let r = gather (node_count rule) e i o in
        let (v, m, d) = enough e r.picked.choice r.picked.listed in
        record {
          onward = v;
          moves = m;
          reads = d.reads (w i) r.picked.reads;
          owes = λ n h. r.picked.owes n (d.obligations n h);
          fulfils = λ n a b k h hb. d.fulfils n a b k (gathered_fulfils e i r n a b k h hb);
        }

    first : Chosen (formula rule) 0
    unfolding formula
    first = choose (formula rule) (tree_fits rule (root rule)) 0 holds

    state : (i : ℕ) → (e : ℕ) × Owes e i
    unfolding Chosen
    state zero = (first.0, first.2)
    state (suc i) = let (e, o) = state i in let r = step e i o in (r.onward.obligations, r.owes)

    -- the state at position i, and what the run does there
    at : ℕ → ℕ
    at i = (state i).0

    taken : (i : ℕ) → Step (at i) i
    unfolding at
    taken i = step (state i).0 i (state i).1

    fair : Fair rule (λ i. (taken i).onward)
    unfolding state at taken
    fair n a b known i = now (has_dec (taken i).onward.obligations n)
      where
        later : (k : ℕ) → suc i ≤ k → Holds w b k → Dec (Has (at k) n)
            → (j : ℕ) × (i ≤ j) × Fulfilling n (until n a b) (taken j).onward
        later zero x hb d = absurd (omega arith)
        later (suc k) x hb (yes h) = (suc k, omega arith, (taken (suc k)).fulfils n a b known h hb)
        later (suc k) x hb (no h) = (k, omega arith, inl h)

        now : Dec (Has (taken i).onward.obligations n) → (j : ℕ) × (i ≤ j) × Fulfilling n (until n a b) (taken j).onward
        now (no h) = (i, omega arith, inl h)
        now (yes h) =
            let (k, x, hb, f) = subst (λ (g : Formula). Holds w g (suc i)) known.1 ((taken i).owes n h) in
            later k x hb (has_dec (at k) n)

    pub complete : (e : ℕ → ℕ) × (t : ℕ → Term) × Run rule Move w e t × Fair rule t
    unfolding Chosen state at taken
    complete = (
      at,
      λ i. (taken i).onward,
      record { start = first.1; steps = λ i. (taken i).moves; reads = λ i. (taken i).reads; goes = λ i. refl },
      fair,
    )
