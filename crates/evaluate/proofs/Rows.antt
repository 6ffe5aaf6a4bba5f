-- The row of a node tells where its formula holds, if the rows of its children do. So the table of a rule tells it for
-- every node, of any bytes. Assumes nothing.
use Prim.Native.Nat.{ℕ, zero, suc, ◌+◌, ◌-◌, ◌/◌, ◌%◌, ◌^◌, ◌<◌, ◌≤◌}
use mathlib.Core.Path.{◌≡◌, refl, sym, ◌∙◌, ap, subst}
use mathlib.Core.Logic.{◌⊎◌, inl, inr, ◌↔◌}
use mathlib.Core.List.{List, [], ◌∷◌, ◌++◌}
use mathlib.Core.Bool.{Bool, true, false, not, ◌&&◌, ◌||◌, false≢true, and-eq-true_iff}
use native.Mathlib.Omega.{arith}
use native.Mathlib.Decide.{ℕ_discrete, dec_lt}
use lib.ListN.{get_or, length, length-append, get_or-append, get_or-eq_default}
use lib.Seq.{get_or-append_seam}
use lib.Dec.{eqb}
use borrow.Author.Tests.{eqb-true, eq-eqb}
use Rattle.formula.specs.Rule.{root}
use Rattle.formula.specs.Formula.{Formula, bottom, top, proposition, negated_proposition, conjunction, disjunction}
use Rattle.formula.specs.Formula.{next}
use Rattle.formula.specs.Formula.{until, release, build, trees, tree, formula}
use Rattle.sets.proofs.Members.{or_iff}
use Rattle.lasso.specs.Lasso.{letter, after}
use Rattle.formula.specs.Satisfaction.{Holds, Satisfies}
use Rattle.lasso.proofs.Positions.{some_dec}
use Rattle.lasso.proofs.Letters.{letter_round, after_inside, after_last}
use Rattle.formula.proofs.Periodic.{Until, Repeats, not_repeats, holds_repeats, holds_dec}
use Rattle.evaluate.specs.Truth.{sweep, plain, rounds, at, row, row_of, truth, true_at}
use Rattle.evaluate.proofs.Sweeps.{sweep_length, swept, swept_end, swept_step, default}
use Rattle.evaluate.proofs.Untils.{two_rounds}

not_iff : (a : Bool) {A : Type 0} → a ≡ true ↔ A → not a ≡ true ↔ (A → ⊥)
not_iff true h = (λ e. absurd (false≢true e), λ f. absurd (f (h.0 refl)))
not_iff false h = (λ e x. false≢true (h.1 x), λ f. refl)

-- by the laws of Booleans
dual : (a b r : Bool) → not (b && (a || r)) ≡ (not b || (not a && not r))
dual true true true = refl
dual true true false = refl
dual true false true = refl
dual true false false = refl
dual false true true = refl
dual false true false = refl
dual false false true = refl
dual false false false = refl

module _ (stem cycle : List ℕ) (pos : 0 < length cycle) where
  abbrev s : ℕ
  s = length stem

  abbrev n : ℕ
  n = length cycle

  abbrev w : ℕ → ℕ
  w = letter stem cycle

  -- what a formula says repeats with the cycle, and is decided at each letter
  pub repeats : (f : Formula) → Repeats (length stem) (length cycle) pos (Holds (letter stem cycle) f)
  repeats f = holds_repeats s n pos w (letter_round stem cycle) f

  -- what a formula and its denial are at a position
  abbrev Never : (ℕ → Type 0) → ℕ → Type 0
  Never P i = P i → ⊥

  pub decided : (f : Formula) (i : ℕ) → Dec (Holds (letter stem cycle) f i)
  decided f = holds_dec s n pos w (letter_round stem cycle) f

  -- a release holds where its denial does not
  pub release_iff : (c : ℕ) (f g : Formula) (i : ℕ)
      → Holds w (release c f g) i ↔ (Until (λ j. Holds w f j → ⊥) (λ j. Holds w g j → ⊥) i → ⊥)
  release_iff c f g i = (
    λ h (k, l, q, x). elim (h k l) [ inl y ↦ q y | inr y ↦ x y.0 y.1 y.2 y.3 ],
    λ d k l. pick d k l (decided g k) (some_dec (Holds w f) (decided f) (k - i) i),
  )
    where
      pick : (Until (λ j. Holds w f j → ⊥) (λ j. Holds w g j → ⊥) i → ⊥) → (k : ℕ) → i ≤ k → Dec (Holds w g k)
          → Dec ((j : ℕ) × (i ≤ j) × (j < i + (k - i)) × Holds w f j) → Holds w g k ⊎
          ((j : ℕ) × (i ≤ j) × (j < k) × Holds w f j)
      pick d k l (yes q) r = inl q
      pick d k l (no q) (yes (j, a, b, p)) = inr (j, a, omega arith, p)
      pick d k l (no q) (no r) = absurd (d (k, l, q, λ j a b p. r (j, a, omega arith, p)))

  -- a row tells where f holds
  pub record Tells (f : Formula) (flags : List Bool) : Type 0 where
    pub is : (i : ℕ) → i < s + n → at flags i ≡ true ↔ Holds w f i

  plain_tells : (f : Formula) (g : ℕ → Bool) → ((i : ℕ) → i < s + n → g i ≡ true ↔ Holds w f i)
      → Tells f (plain stem cycle g)
  plain_tells f g h = record { is = λ i l. subst (λ (b : Bool). b ≡ true ↔ Holds w f i) (sym (flag i l)) (h i l) }
    where
      flag : (i : ℕ) → i < s + n → at (plain stem cycle g) i ≡ g i
      flag i l =
          let e : i ≡ i - 0 = omega arith in
          ap (at (plain stem cycle g)) e ∙ swept_step (λ i _. g i) 0 (s + n) false i (omega arith) (omega arith)

  -- the flag of a row made in two rounds, as the second round leaves it
  last : (f : ℕ → Bool → Bool) (v : Bool) → ℕ → Bool
  last f v = swept f 0 (s + n) (get_or (sweep f s n v) 0 v)

  last_at : (f : ℕ → Bool → Bool) (v : Bool) (i : ℕ) → i < s + n → at (rounds stem cycle f v) i ≡ last f v i
  unfolding last
  last_at f v i l =
      let e : i ≡ i - 0 = omega arith in
      default (rounds stem cycle f v) i false (get_or (sweep f s n v) 0 v)
      (omega (arith, sweep_length f 0 (s + n) (get_or (sweep f s n v) 0 v)))
      ∙ ap (λ (k : ℕ). get_or (rounds stem cycle f v) k (get_or (sweep f s n v) 0 v)) e

  last_step : (f : ℕ → Bool → Bool) (v : Bool) (i : ℕ) → i < s + n → last f v i ≡ f i (last f v (suc i))
  unfolding last
  last_step f v i l = swept_step f 0 (s + n) (get_or (sweep f s n v) 0 v) i (omega arith) (omega arith)

  last_end : (f : ℕ → Bool → Bool) (v : Bool) → last f v (s + n) ≡ swept f s n v s
  unfolding last
  last_end f v =
      let e : 0 + (s + n) ≡ s + n = omega arith in
      let z : 0 ≡ s - s = omega arith in
      sym (ap (swept f 0 (s + n) (get_or (sweep f s n v) 0 v)) e) ∙ swept_end f 0 (s + n) (get_or (sweep f s n v) 0 v)
      ∙ ap (λ (k : ℕ). get_or (sweep f s n v) k v) z

  module _ (f g : Formula) (a b : List Bool) (ta : Tells f a) (tb : Tells g b) where
    -- ---- until
    until_step : ℕ → Bool → Bool
    until_step i r = at b i || (at a i && r)

    until_step_lem : (p : ℕ) → p < s + n → (r : Bool)
        → until_step p r ≡ true ↔ (Holds w g p ⊎ (Holds w f p × (r ≡ true)))
    unfolding until_step
    until_step_lem p l r = (
      λ e. elim ((or_iff (at b p) (at a p && r)).0 e) [
        | inl x ↦ inl ((tb.is p l).0 x)
        | inr x ↦ (let (y, z) = (and-eq-true_iff (at a p) r).0 x in inr ((ta.is p l).0 y, z))
      ],
      λ h. (or_iff (at b p) (at a p && r)).1
          (elim h
          [ inl x ↦ inl ((tb.is p l).1 x) | inr x ↦ inr ((and-eq-true_iff (at a p) r).1 ((ta.is p l).1 x.0, x.1)) ]),
    )

    until_tells : (c : ℕ) → Tells (until c f g) (rounds stem cycle (λ i next. at b i || (at a i && next)) false)
    unfolding until_step
    until_tells c = record {
      is = λ i l.
          subst (λ (x : Bool). x ≡ true ↔ Holds w (until c f g) i) (sym (last_at until_step false i l))
          (two_rounds s n pos (Holds w f) (Holds w g) (repeats f) (repeats g) (swept until_step s n false)
          (last until_step false)
          (record {
            step = λ p k m. subst
                (λ (x : Bool). x ≡ true ↔ (Holds w g p ⊎ (Holds w f p × (swept until_step s n false (suc p) ≡ true))))
                (sym (swept_step until_step s n false p k m)) (until_step_lem p m _);
          })
          (swept_end until_step s n false)
          (record {
            step = λ p k m. subst
                (λ (x : Bool). x ≡ true ↔ (Holds w g p ⊎ (Holds w f p × (last until_step false (suc p) ≡ true))))
                (sym (last_step until_step false p m)) (until_step_lem p m _);
          })
          (last_end until_step false) i (omega arith));
    }

    -- ---- release: where its denial does not come
    release_step : ℕ → Bool → Bool
    release_step i r = at b i && (at a i || r)

    release_step_lem : (p : ℕ) → p < s + n → (r : Bool)
        → not (release_step p r) ≡ true ↔ (Never (Holds w g) p ⊎ (Never (Holds w f) p × (not r ≡ true)))
    unfolding release_step
    release_step_lem p l r =
        subst (λ (x : Bool). x ≡ true ↔ (Never (Holds w g) p ⊎ (Never (Holds w f) p × (not r ≡ true))))
        (sym (dual (at a p) (at b p) r)) (
          λ e. elim ((or_iff (not (at b p)) (not (at a p) && not r)).0 e) [
            | inl x ↦ inl ((not_iff (at b p) (tb.is p l)).0 x)
            | inr x ↦ (let (y, z) =
                (and-eq-true_iff (not (at a p)) (not r)).0 x in inr ((not_iff (at a p) (ta.is p l)).0 y, z))
          ],
          λ h. (or_iff (not (at b p)) (not (at a p) && not r)).1
              (elim h [
                | inl x ↦ inl ((not_iff (at b p) (tb.is p l)).1 x)
                | inr x ↦ inr
                    ((and-eq-true_iff (not (at a p)) (not r)).1 ((not_iff (at a p) (ta.is p l)).1 x.0, x.1))
              ]),
        )

    denied : (p : ℕ) → p ≤ s + n
        → not (last release_step true p) ≡ true ↔ Until (Never (Holds w f)) (Never (Holds w g)) p
    denied =
        two_rounds s n pos (Never (Holds w f)) (Never (Holds w g)) (not_repeats s n pos (Holds w f) (repeats f))
        (not_repeats s n pos (Holds w g) (repeats g))
        (λ p. not (swept release_step s n true p)) (λ p. not (last release_step true p))
        (record {
          step = λ p k m. subst
              (λ (x : Bool). not x ≡ true ↔
              (Never (Holds w g) p ⊎ (Never (Holds w f) p × (not (swept release_step s n true (suc p)) ≡ true))))
              (sym (swept_step release_step s n true p k m)) (release_step_lem p m _);
        })
        (ap not (swept_end release_step s n true))
        (record {
          step = λ p k m. subst
              (λ (x : Bool). not x ≡ true ↔
              (Never (Holds w g) p ⊎ (Never (Holds w f) p × (not (last release_step true (suc p)) ≡ true))))
              (sym (last_step release_step true p m)) (release_step_lem p m _);
        })
        (ap not (last_end release_step true))

    release_tells : (c : ℕ) → Tells (release c f g) (rounds stem cycle (λ i next. at b i && (at a i || next)) true)
    unfolding release_step
    release_tells c = record {
      is = λ i l. subst (λ (x : Bool). x ≡ true ↔ Holds w (release c f g) i) (sym (last_at release_step true i l))
          (there i l, back i l);
    }
      where
        there : (i : ℕ) → i < s + n → last release_step true i ≡ true → Holds w (release c f g) i
        there i l e = (release_iff c f g i).1 (λ d. false≢true (sym (ap not e) ∙ (denied i (omega arith)).1 d))

        back : (i : ℕ) → i < s + n → Holds w (release c f g) i → last release_step true i ≡ true
        back i l h = go (last release_step true i) refl
          where
            go : (x : Bool) → last release_step true i ≡ x → last release_step true i ≡ true
            go true e = e
            go false e = absurd ((release_iff c f g i).0 h ((denied i (omega arith)).0 (ap not e)))

    -- ---- next
    next_tells : (c : ℕ) → Tells (next c f) (plain stem cycle (λ i. at a (after stem cycle i)))
    next_tells c = plain_tells (next c f) (λ i. at a (after stem cycle i)) (λ i l. go i l (dec_lt (suc i) (s + n)))
      where
        go : (i : ℕ) → i < s + n → Dec (suc i < s + n) → at a (after stem cycle i) ≡ true ↔ Holds w f (suc i)
        go i l (yes m) = rw (after_inside stem cycle i m) (ta.is (suc i) m)
        go i l (no m) =
            let e : suc i ≡ s + n = omega arith in
            let x = ta.is s (omega arith) in
            let r = repeats f s (omega arith) in
            rw (after_last stem cycle i (omega arith), e) (λ h. r.0 (x.0 h), λ h. x.1 (r.1 h))

    -- ---- the row of any node
    row_tells : (kind c left : ℕ) → Tells (build kind c left f g) (row stem cycle kind left a b)
    row_tells zero c left = plain_tells bottom (λ i. false) (λ i l. (λ e. false≢true e, λ h. absurd h))
    row_tells (suc zero) c left = plain_tells top (λ i. true) (λ i l. (λ e. tt, λ h. refl))
    row_tells (suc (suc zero)) c left =
        plain_tells (proposition c left) (λ i. eqb (letter stem cycle i / 2 ^ left % 2) 1)
        (λ i l. (eqb-true (w i / 2 ^ left % 2) 1, eq-eqb (w i / 2 ^ left % 2) 1))
    row_tells (suc (suc (suc zero))) c left =
        plain_tells (negated_proposition c left) (λ i. eqb (letter stem cycle i / 2 ^ left % 2) 0)
        (λ i l. (eqb-true (w i / 2 ^ left % 2) 0, eq-eqb (w i / 2 ^ left % 2) 0))
    row_tells (suc (suc (suc (suc zero)))) c left = plain_tells (conjunction f g) (λ i. at a i && at b i) (λ i l. (
      λ e. let (x, y) = (and-eq-true_iff (at a i) (at b i)).0 e in ((ta.is i l).0 x, (tb.is i l).0 y),
      λ h. (and-eq-true_iff (at a i) (at b i)).1 ((ta.is i l).1 h.0, (tb.is i l).1 h.1),
    ))
    row_tells (suc (suc (suc (suc (suc zero))))) c left =
        plain_tells (disjunction f g) (λ i. at a i || at b i) (λ i l. (
          λ e. elim ((or_iff (at a i) (at b i)).0 e) [ inl x ↦ inl ((ta.is i l).0 x) | inr x ↦ inr ((tb.is i l).0 x) ],
          λ h. (or_iff (at a i) (at b i)).1 (elim h [ inl x ↦ inl ((ta.is i l).1 x) | inr x ↦ inr ((tb.is i l).1 x) ]),
        ))
    row_tells (suc (suc (suc (suc (suc (suc zero)))))) c left = next_tells c
    row_tells (suc (suc (suc (suc (suc (suc (suc zero))))))) c left = until_tells c
    row_tells (suc (suc (suc (suc (suc (suc (suc (suc zero)))))))) c left = release_tells c
    row_tells (suc (suc (suc (suc (suc (suc (suc (suc (suc kind))))))))) c left =
        plain_tells bottom (λ i. false) (λ i l. (λ e. false≢true e, λ h. absurd h))

  -- ---- all rows: they are built as the trees are
  -- where there is no node, nothing holds
  none_tells : Tells bottom []
  none_tells = record { is = λ i l. (λ e. false≢true e, λ h. absurd h) }

  record Agree (fs : List Formula) (rs : List (List Bool)) : Type 0 where
    same : length fs ≡ length rs
    each : (k : ℕ) → Tells (get_or fs k bottom) (get_or rs k [])

  one_more : (fs : List Formula) (rs : List (List Bool)) (f : Formula) (r : List Bool) → Agree fs rs → Tells f r
      → Agree (fs ++ (f ∷ [])) (rs ++ (r ∷ []))
  one_more fs rs f r agree t = record {
    same = omega (arith, length-append fs (f ∷ []), length-append rs (r ∷ []), agree.same);
    each = λ k. go k (dec_lt k (length fs)) (ℕ_discrete k (length fs));
  }
    where
      go : (k : ℕ) → Dec (k < length fs) → Dec (k ≡ length fs)
          → Tells (get_or (fs ++ (f ∷ [])) k bottom) (get_or (rs ++ (r ∷ [])) k [])
      go k (yes l) d =
          rw (get_or-append fs (f ∷ []) bottom k l, get_or-append rs (r ∷ []) [] k (omega (arith, agree.same)))
          (agree.each k)
      go k (no l) (yes e) =
          let e' : k ≡ length rs = e ∙ agree.same in
          let x : get_or (fs ++ (f ∷ [])) k bottom ≡ f = ap (λ (i : ℕ). get_or (fs ++ (f ∷ [])) i bottom) e
          ∙ get_or-append_seam fs f [] bottom in
          let y : get_or (rs ++ (r ∷ [])) k [] ≡ r = ap (λ (i : ℕ). get_or (rs ++ (r ∷ [])) i []) e'
          ∙ get_or-append_seam rs r [] [] in
          rw (x, y) t
      go k (no l) (no e) =
          rw (
            get_or-eq_default (fs ++ (f ∷ [])) bottom {n = k} (omega (arith, length-append fs (f ∷ []))),
            get_or-eq_default (rs ++ (r ∷ [])) [] {n = k} (omega (arith, length-append rs (r ∷ []), agree.same)),
          ) none_tells

  all_agree : (fs : List Formula) (rs : List (List Bool)) (rest : List ℕ) → Agree fs rs
      → Agree (trees bottom build fs rest) (trees [] (row_of stem cycle) rs rest)
  unfolding trees
  all_agree fs rs [] h = h
  all_agree fs rs (kind ∷ []) h = h
  all_agree fs rs (kind ∷ (left ∷ [])) h = h
  all_agree fs rs (kind ∷ (left ∷ (right ∷ rest))) h =
      let f = build kind (length fs) left (get_or fs left bottom) (get_or fs right bottom) in
      let r = row_of stem cycle kind (length rs) left (get_or rs left []) (get_or rs right []) in
      all_agree (fs ++ (f ∷ [])) (rs ++ (r ∷ [])) rest
      (one_more fs rs f r h
      (row_tells (get_or fs left bottom) (get_or fs right bottom) (get_or rs left []) (get_or rs right []) (h.each left)
      (h.each right) kind (length fs) left))

  -- the flag of node k at position i is whether the node holds there
  pub true_iff_holds : (rule : List ℕ) (k i : ℕ) → i < length stem + length cycle
      → true_at rule stem cycle k i ≡ true ↔ Holds (letter stem cycle) (tree rule k) i
  unfolding true_at truth tree
  true_iff_holds rule k i l = ((all_agree [] [] rule (record { same = refl; each = λ k. none_tells })).each k).is i l

  -- the root's at position 0 is whether the lasso satisfies the rule
  pub root_iff_satisfied : (rule : List ℕ) → true_at rule stem cycle (root rule) 0 ≡ true ↔ Satisfies rule stem cycle
  unfolding Satisfies formula
  root_iff_satisfied rule = true_iff_holds rule (root rule) 0 (omega arith)
