-- A fair run on w says that the formula of the rule holds there: each term that is taken says so of its node, by
-- induction over the tree. Assumes of the transitions (Move) only that they are terms of their state.
use Prim.Native.Nat.{ℕ, zero, suc, ◌+◌, ◌-◌, ◌^◌, ◌<◌, ◌≤◌}
use mathlib.Core.Path.{◌≡◌, refl, sym, subst}
use mathlib.Core.Logic.{◌⊎◌, inl, inr}
use mathlib.Core.List.{List, [], ◌∷◌}
use mathlib.Core.Bool.{true}
use native.Mathlib.Omega.{arith}
use native.Mathlib.Decide.{ℕ_discrete}
use lib.Bits.{bit_or}
use lib.Dec.{ltb}
use Rattle.sets.specs.Sets.{union, In}
use Rattle.formula.specs.Rule.{root, node_count}
use Rattle.formula.specs.Formula.{Formula, bottom, top, proposition, negated_proposition, conjunction, disjunction}
use Rattle.formula.specs.Formula.{next}
use Rattle.formula.specs.Formula.{until, release, formula}
use Rattle.formula.specs.Satisfaction.{Holds}
use Rattle.term.specs.Term.{Term, term, less, joined, consistent, product, cover, terms}
use Rattle.sets.specs.Bits.{Has}
use Rattle.sets.proofs.Bits.{Sub, has_zero, has_or_l, has_or_r, pow_has}
use Rattle.sets.proofs.Members.{map_in}
use Rattle.correctness.proofs.Members.{union_in, product_in}
use Rattle.correctness.proofs.Runs.{Reads, Within, within_reads, within_l, within_r, Fulfilling, Known, Fits, Run, Fair}
use Rattle.correctness.proofs.Runs.{TermOf, product_has}
use Rattle.correctness.proofs.Trees.{tree_fits}

-- until and release, one position at a time
until_now : (w : ℕ → ℕ) (n : ℕ) (a b : Formula) (i : ℕ) → Holds w b i → Holds w (until n a b) i
until_now w n a b i h = (i, omega arith, h, λ j p q. absurd (omega arith))

until_later : (w : ℕ → ℕ) (n : ℕ) (a b : Formula) (i : ℕ) → Holds w a i → Holds w (until n a b) (suc i)
    → Holds w (until n a b) i
until_later w n a b i h (k, l, hb, f) = (k, omega arith, hb, λ j p q. go j p q (ℕ_discrete i j))
  where
    go : (j : ℕ) → i ≤ j → j < k → Dec (i ≡ j) → Holds w a j
    go j p q (yes e) = subst (Holds w a) e h
    go j p q (no e) = f j (omega arith) q

release_now : (w : ℕ → ℕ) (n : ℕ) (a b : Formula) (i : ℕ) → Holds w b i → Holds w a i → Holds w (release n a b) i
release_now w n a b i hb ha k l = go (ℕ_discrete i k)
  where
    go : Dec (i ≡ k) → Holds w b k ⊎ ((j : ℕ) × (i ≤ j) × (j < k) × Holds w a j)
    go (yes e) = inl (subst (Holds w b) e hb)
    go (no e) = inr (i, omega arith, omega arith, ha)

release_later : (w : ℕ → ℕ) (n : ℕ) (a b : Formula) (i : ℕ) → Holds w b i → Holds w (release n a b) (suc i)
    → Holds w (release n a b) i
release_later w n a b i hb hr k l = go (ℕ_discrete i k)
  where
    go : Dec (i ≡ k) → Holds w b k ⊎ ((j : ℕ) × (i ≤ j) × (j < k) × Holds w a j)
    go (yes e) = inl (subst (Holds w b) e hb)
    go (no e) = elim (hr k (omega arith)) [ inl x ↦ inl x | inr x ↦ inr (x.0, omega arith, x.2, x.3) ]

module _ (rule : List ℕ) (Move : ℕ → Term → Type 0) (listed : (d : ℕ) (u : Term) → Move d u → TermOf rule d u)
    (w e : ℕ → ℕ) (t : ℕ → Term) (run : Run rule Move w e t) (fair : Fair rule t) where
  -- what a term says at position i, and what a set of the cover says
  Terms-say : Formula → Type 0
  Terms-say g = (i : ℕ) (u : Term) → In u (terms g) → Reads u (w i) → Sub u.obligations (e (suc i)) → Holds w g i

  Cover-says : Formula → Type 0
  Cover-says g = (i : ℕ) (c : ℕ) → In c (cover g) → Sub c (e i) → Holds w g i

  -- the term of obligation n that the run takes at position i
  taken : (n : ℕ) (g : Formula) → Known rule n g → (i : ℕ) → Has (e i) n → (u : Term) × In u (terms g) × Within u (t i)
  taken n g (l, q) i h =
      let (u, m, k) = product_has rule (node_count rule) (e i) (t i) (listed (e i) (t i) (run.steps i)) n l h in
      (u, subst (λ (f : Formula). In u (terms f)) q m, k)

  within_next : (i : ℕ) (u : Term) → Within u (t i) → Sub u.obligations (e (suc i))
  within_next i u k n h = subst (λ (d : ℕ). Has d n) (run.goes i) (k.obligations n h)

  obligation_says : (n : ℕ) (g : Formula) → Known rule n g → cover g ≡ 2 ^ n ∷ [] → Terms-say g → Cover-says g
  unfolding Terms-say Cover-says
  obligation_says n g k q say i c m s =
      let (u, mu, wi) = taken n g k i (s n (subst (λ (d : ℕ). Has d n) (sym (one (subst (In c) q m))) (pow_has n))) in
      say i u mu (within_reads wi (run.reads i)) (within_next i u wi)
    where
      one : In c (2 ^ n ∷ []) → c ≡ 2 ^ n
      one (inl p) = p
      one (inr p) = absurd p

  -- an until that is an obligation comes true, since it is fulfilled at this position or a later one
  module _ (n : ℕ) (a b : Formula) (known : Known rule n (until n a b)) (say-a : Terms-say a) (say-b : Terms-say b)
    where
      -- a term of the until is one of its right side, or one of its left with the until owed
      split : (i : ℕ) (u : Term) → In u (terms (until n a b)) → Reads u (w i) → Sub u.obligations (e (suc i))
          → Holds w b i ⊎ (Holds w a i × Has u.obligations n)
      unfolding terms Terms-say
      split i u m r s = go (union_in less u (terms b) (product (terms a) (term 0 0 (2 ^ n) ∷ [])) m)
        where
          owed : (x y : Term) → In x (terms a) → In y (term 0 0 (2 ^ n) ∷ []) → u ≡ joined x y
              → Holds w a i × Has u.obligations n
          owed x y mx (inr z) q = absurd z
          owed x y mx (inl z) q =
              let k : Within x u = subst (Within x) (sym q) (within_l x y) in
              let l : Within y u = subst (Within y) (sym q) (within_r x y) in (
                say-a i x mx (within_reads k r) (λ c h. s c (k.obligations c h)),
                l.obligations n (subst (λ (v : Term). Has v.obligations n) (sym z) (pow_has n)),
              )

          go : In u (terms b) ⊎ In u (product (terms a) (term 0 0 (2 ^ n) ∷ []))
              → Holds w b i ⊎ (Holds w a i × Has u.obligations n)
          go (inl mb) = inl (say-b i u mb r s)
          go (inr mp) =
              let (x, y, mx, my, q) = product_in less joined consistent u (terms a) (term 0 0 (2 ^ n) ∷ []) mp in inr
              (owed x y mx my q)

      split_in : (i : ℕ) (u : Term) → In u (terms (until n a b)) → Within u (t i)
          → Holds w b i ⊎ (Holds w a i × Has u.obligations n)
      split_in i u m k = split i u m (within_reads k (run.reads i)) (within_next i u k)

      ends : (j : ℕ) → Has (e j) n → Fulfilling n (until n a b) (t j) → Holds w (until n a b) j
      ends j h (inl g) =
          let (u, m, k) = taken n (until n a b) known j h in
          elim (split_in j u m k) [ inl hb ↦ until_now w n a b j hb | inr r ↦ absurd (g (k.obligations n r.1)) ]
      ends j h (inr (u, m, k, g)) =
          elim (split_in j u m k) [ inl hb ↦ until_now w n a b j hb | inr r ↦ absurd (g r.1) ]

      follow : (d i : ℕ) → Fulfilling n (until n a b) (t (i + d)) → Has (e i) n → Holds w (until n a b) i
      follow zero i g h = ends i h (subst (λ (k : ℕ). Fulfilling n (until n a b) (t k)) (omega arith) g)
      follow (suc d) i g h =
          let (u, m, k) = taken n (until n a b) known i h in
          elim (split_in i u m k) [
            | inl hb ↦ until_now w n a b i hb
            | inr r ↦ until_later w n a b i r.0
                (follow d (suc i) (subst (λ (k : ℕ). Fulfilling n (until n a b) (t k)) (omega arith) g)
                (within_next i u k n r.1))
          ]

      until_says : Terms-say (until n a b)
      unfolding Terms-say
      until_says i u m r s = go (split i u m r s)
        where
          go : Holds w b i ⊎ (Holds w a i × Has u.obligations n) → Holds w (until n a b) i
          go (inl hb) = until_now w n a b i hb
          go (inr (ha, h)) =
              let (j, l, g) = fair n a b known (suc i) in
              until_later w n a b i ha
              (follow (j - suc i) (suc i) (subst (λ (k : ℕ). Fulfilling n (until n a b) (t k)) (omega arith) g) (s n h))

  -- a release that is an obligation goes on for as long as its left side has not come
  module _ (n : ℕ) (a b : Formula) (known : Known rule n (release n a b)) (say-a : Terms-say a) (say-b : Terms-say b)
    where
      parts : (i : ℕ) (u : Term) → In u (terms (release n a b)) → Reads u (w i) → Sub u.obligations (e (suc i))
          → Holds w b i × (Holds w a i ⊎ Has (e (suc i)) n)
      unfolding terms Terms-say
      parts i u m r s =
          let (x, y, mx, my, q) =
          product_in less joined consistent u (terms b) (union less (terms a) (term 0 0 (2 ^ n) ∷ [])) m in
          let k : Within x u = subst (Within x) (sym q) (within_l x y) in
          let l : Within y u = subst (Within y) (sym q) (within_r x y) in (
            say-b i x mx (within_reads k r) (λ c h. s c (k.obligations c h)),
            go y l
                (union_in less y (terms a) (term 0 0 (2 ^ n) ∷ []) my),
          )
        where
          go : (y : Term) → Within y u → In y (terms a) ⊎ In y (term 0 0 (2 ^ n) ∷ []) → Holds w a i ⊎ Has (e (suc i)) n
          go y l (inl ma) = inl (say-a i y ma (within_reads l r) (λ c h. s c (l.obligations c h)))
          go y l (inr (inl z)) =
              inr (s n (l.obligations n (subst (λ (v : Term). Has v.obligations n) (sym z) (pow_has n))))
          go y l (inr (inr z)) = absurd z

      Till : ℕ → ℕ → Type 0
      Till i k = Holds w b k ⊎ ((j : ℕ) × (i ≤ j) × (j < k) × Holds w a j)

      part : (i : ℕ) → Has (e i) n → Holds w b i × (Holds w a i ⊎ Has (e (suc i)) n)
      part i h =
          let (u, m, v) = taken n (release n a b) known i h in
          parts i u m (within_reads v (run.reads i)) (within_next i u v)

      lasts : (d i k : ℕ) → k ≡ i + d → Has (e i) n → Till i k
      unfolding Till
      lasts zero i k q h = inl (subst (Holds w b) (omega arith) (part i h).0)
      lasts (suc d) i k q h = go (λ x. lasts d (suc i) k (omega arith) x) (part i h).1
        where
          back : Till (suc i) k → Till i k
          back (inl x) = inl x
          back (inr (j, l, r, ha)) = inr (j, omega arith, r, ha)

          go : (Has (e (suc i)) n → Till (suc i) k) → Holds w a i ⊎ Has (e (suc i)) n → Till i k
          go ih (inl ha) = inr (i, omega arith, omega arith, ha)
          go ih (inr x) = back (ih x)

      release_says : Terms-say (release n a b)
      unfolding Terms-say Till
      release_says i u m r s = go (parts i u m r s)
        where
          go : Holds w b i × (Holds w a i ⊎ Has (e (suc i)) n) → Holds w (release n a b) i
          go (hb, inl ha) = release_now w n a b i hb ha
          go (hb, inr h) = release_later w n a b i hb (λ k l. lasts (k - suc i) (suc i) k (omega arith) h)

  -- the induction: terms and covers say that the formula holds
  says : (g : Formula) → Fits rule g → Terms-say g × Cover-says g
  unfolding terms cover Terms-say Cover-says
  says bottom f = (λ i u m r s. m, λ i c m s. m)
  says top f = (λ i u m r s. tt, λ i c m s. tt)
  says (proposition n m) f =
      let say : Terms-say (proposition n m) = one in (say, obligation_says n (proposition n m) f refl say)
    where
      one : Terms-say (proposition n m)
      one i u (inl q) r s = (r.set m (subst (λ (v : Term). Has v.must m) (sym q) (pow_has m))).set
      one i u (inr q) r s = absurd q
  says (negated_proposition n m) f =
      let say : Terms-say (negated_proposition n m) = one in
      (say, obligation_says n (negated_proposition n m) f refl say)
    where
      one : Terms-say (negated_proposition n m)
      one i u (inl q) r s = has_zero (w i) m (r.clear m (subst (λ (v : Term). Has v.must_not m) (sym q) (pow_has m)))
      one i u (inr q) r s = absurd q
  says (conjunction a b) (fa, fb) = go (says a fa) (says b fb)
    where
      go : Terms-say a × Cover-says a → Terms-say b × Cover-says b
          → Terms-say (conjunction a b) × Cover-says (conjunction a b)
      go (ta, ca) (tb, cb) = (
        λ i u m r s.
            let (x, y, mx, my, q) = product_in less joined consistent u (terms a) (terms b) m in
            let k : Within x u = subst (Within x) (sym q) (within_l x y) in
            let l : Within y u = subst (Within y) (sym q) (within_r x y) in (
              ta i x mx (within_reads k r) (λ c h. s c (k.obligations c h)),
              tb i y my (within_reads l r)
                  (λ c h. s c (l.obligations c h)),
            ),
        λ i c m s.
            let (x, y, mx, my, q) = product_in ltb bit_or (λ _. true) c (cover a) (cover b) m in (
              ca i x mx (λ n h. s n (subst (λ (d : ℕ). Has d n) (sym q) (has_or_l x y n h))),
              cb i y my (λ n h. s n (subst (λ (d : ℕ). Has d n) (sym q) (has_or_r x y n h))),
            ),
      )
  says (disjunction a b) (fa, fb) = go (says a fa) (says b fb)
    where
      go : Terms-say a × Cover-says a → Terms-say b × Cover-says b
          → Terms-say (disjunction a b) × Cover-says (disjunction a b)
      go (ta, ca) (tb, cb) = (
        λ i u m r s. elim (union_in less u (terms a) (terms b) m)
            [ inl x ↦ inl (ta i u x r s) | inr x ↦ inr (tb i u x r s) ],
        λ i c m s. elim (union_in ltb c (cover a) (cover b) m) [ inl x ↦ inl (ca i c x s) | inr x ↦ inr (cb i c x s) ],
      )
  says (next n a) (f, fa) = go (says a fa)
    where
      go : Terms-say a × Cover-says a → Terms-say (next n a) × Cover-says (next n a)
      go (ta, ca) = (say, obligation_says n (next n a) f refl say)
        where
          say : Terms-say (next n a)
          say i u m r s =
              let (c, mc, q) = map_in (term 0 0) u (cover a) m in
              ca (suc i) c mc (λ k h. s k (subst (λ (v : Term). Has v.obligations k) (sym q) h))
  says (until n a b) (f, l, fa, fb) =
      let say = until_says n a b f (says a fa).0 (says b fb).0 in (say, obligation_says n (until n a b) f refl say)
  says (release n a b) (f, fa, fb) =
      let say = release_says n a b f (says a fa).0 (says b fb).0 in (say, obligation_says n (release n a b) f refl say)

  pub sound : Holds w (formula rule) 0
  unfolding Cover-says formula
  sound = (says (formula rule) (tree_fits rule (root rule))).1 0 (e 0) run.start (λ n h. h)
