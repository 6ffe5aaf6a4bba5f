-- A state is met: its byte is looked at, and where it is not 1 it is set and the state is listed. There is room, since
-- the states listed are below n and no two are the same; where they are n, all have been met. Assumes nothing.
use Prim.Native.Nat.{ℕ, suc, ◌+◌, ◌*◌, ◌<◌, ◌≤◌}
use mathlib.Core.Path.{◌≡◌, refl, sym, ◌∙◌, ap, subst}
use mathlib.Core.Logic.{◌⊎◌, inl, inr}
use mathlib.Core.List.{List, [], ◌∷◌, ◌++◌, map, append_assoc, map-append}
use mathlib.Core.Bool.{Bool, true, false, cond}
use native.Mathlib.Omega.{arith}
use native.Mathlib.Decide.{ℕ_discrete, dec_lt}
use lib.ListN.{get_or, length, take, set, length-set}
use lib.Seq.{get_or-set_same, get_or-set_other, take-suc-set, get_or-take, length-take-le}
use lib.Dec.{ltb}
use borrow.Author.Tests.{lt-ltb, le-ltb}
use Rattle.sets.specs.Sets.{In}
use Rattle.sets.proofs.Members.{at_in, in_map, in_append, append_in}
use Rattle.automaton.specs.Limits.{max_states}
use Rattle.lasso.proofs.Positions.{pigeon}
use Rattle.rest.specs.Search.{Point, point, member, visit}
use Rattle.rest.specs.Memory.{Buffers, buffers, Marked, Shows}
use Rattle.rest.proofs.Queue.{member_iff}

pub visit_old : (x : Point) (met : List Point) → In x met → visit x met ≡ met
unfolding visit
visit_old x met h = rw ((member_iff x met).1 h, visit)

visit_new : (x : Point) (met : List Point) → (In x met → ⊥) → visit x met ≡ met ++ (x ∷ [])
unfolding visit
visit_new x met new = go (member x met) refl
  where
    go : (b : Bool) → member x met ≡ b → elim b [ true ↦ met | false ↦ met ++ (x ∷ []) ] ≡ met ++ (x ∷ [])
    go true e = absurd (new ((member_iff x met).0 e))
    go false e = refl

module _ {n p : ℕ} {b : Buffers} {older met : List Point} (shows : Shows n p b older met) where
  -- the states listed are at most n
  pub shows_few : b.level.count ≤ n
  shows_few = go (dec_lt n b.level.count)
    where
      clash : n < b.level.count
          → (i j : ℕ) × (i < j) × (j ≤ n) × (get_or b.level.states i 0 ≡ get_or b.level.states j 0) → ⊥
      clash l (i, j, lt, le, e) = shows.apart i j lt (omega arith) e

      go : Dec (n < b.level.count) → b.level.count ≤ n
      go (yes l) = absurd (clash l (pigeon n (λ i. get_or b.level.states i 0) (λ i le. shows.below i (omega arith))))
      go (no l) = omega arith

  pub shows_long : length (take b.level.count b.level.states) ≡ b.level.count
  shows_long = length-take-le b.level.count b.level.states (omega (arith, shows_few, shows.small, shows.size))

  -- a state that is listed was met
  listed_met : (i : ℕ) → i < b.level.count → In (point p (get_or b.level.states i 0)) met
  listed_met i lt =
      let here = at_in 0 (take b.level.count b.level.states) i (omega (arith, shows_long)) in
      let same = get_or-take b.level.count b.level.states i 0 lt in
      let among = subst (λ (q : ℕ). In q (take b.level.count b.level.states)) same here in
      let behind = in_map (point p) (get_or b.level.states i 0) (take b.level.count b.level.states) among in
      subst (In (point p (get_or b.level.states i 0))) (sym shows.listed) (in_append _ older _ (inr behind))

  -- where all n are listed, each was met
  pub shows_full : n ≤ b.level.count → (q : ℕ) → q < n → In (point p q) met
  shows_full full q lt = find (pigeon n state small)
    where
      state : ℕ → ℕ
      state i = cond (ltb i n) (get_or b.level.states i 0) q

      early : (i : ℕ) → i < n → state i ≡ get_or b.level.states i 0
      early i l = rw (lt-ltb i n l)

      late : (i : ℕ) → n ≤ i → state i ≡ q
      late i l = rw (le-ltb i n l)

      small : (i : ℕ) → i ≤ n → state i < n
      small i le = go (dec_lt i n)
        where
          go : Dec (i < n) → state i < n
          go (yes l) = rw (early i l) (shows.below i (omega arith))
          go (no l) = rw (late i (omega arith)) lt

      find : (i j : ℕ) × (i < j) × (j ≤ n) × (state i ≡ state j) → In (point p q) met
      find (i, j, less, le, e) = go (dec_lt j n)
        where
          go : Dec (j < n) → In (point p q) met
          go (yes l) = absurd (shows.apart i j less (omega arith) (sym (early i (omega arith)) ∙ e ∙ early j l))
          go (no l) =
              let same : get_or b.level.states i 0 ≡ q = sym (early i (omega arith)) ∙ e ∙ late j (omega arith) in
              subst (λ (k : ℕ). In (point p k) met) same (listed_met i (omega arith))

  module _ (q : ℕ) (state : q < n) where
    abbrev place : ℕ
    place = max_states * p + q

    fits : place < length b.work
    fits = omega (arith, shows.bytes, shows.small)

    -- the byte is 1: nothing changes
    pub shows_met : get_or b.work place 0 ≡ 1 → Shows n p b older (visit (point p q) met)
    shows_met e =
        let there = (shows.marks p shows.bytes).only q (omega (arith, shows.small)) e in
        subst (Shows n p b older) (sym (visit_old (point p q) met there)) shows

    -- the byte is not 1
    module _ (unset : get_or b.work place 0 ≡ 1 → ⊥) where
      new : In (point p q) met → ⊥
      new h = unset ((shows.marks p shows.bytes).marked q (omega (arith, shows.small)) h)

      -- there is room in the list
      pub shows_room : b.level.count < n
      shows_room = go (dec_lt b.level.count n)
        where
          go : Dec (b.level.count < n) → b.level.count < n
          go (yes l) = l
          go (no l) = absurd (new (shows_full (omega arith) q state))

      abbrev work : List ℕ
      work = set b.work place 1

      abbrev list : List ℕ
      list = set b.level.states b.level.count q

      old : (i : ℕ) → i < b.level.count → get_or list i 0 ≡ get_or b.level.states i 0
      old i lt =
          let other : i ≡ b.level.count → ⊥ = λ e. omega arith in
          get_or-set_other b.level.states b.level.count i q 0 other

      last : (i : ℕ) → i ≡ b.level.count → get_or list i 0 ≡ q
      last i e =
          ap (λ (k : ℕ). get_or list k 0) e
          ∙ get_or-set_same b.level.states b.level.count q 0 (omega (arith, shows_room, shows.small, shows.size))

      apart : (i j : ℕ) → i < j → j < suc b.level.count → get_or list i 0 ≡ get_or list j 0 → ⊥
      apart i j lt m e = go (ℕ_discrete j b.level.count)
        where
          go : Dec (j ≡ b.level.count) → ⊥
          go (yes f) =
              let same : get_or b.level.states i 0 ≡ q = sym (old i (omega arith)) ∙ e ∙ last j f in
              new (subst (λ (k : ℕ). In (point p k) met) same (listed_met i (omega arith)))
          go (no f) = shows.apart i j lt (omega arith) (sym (old i (omega arith)) ∙ e ∙ old j (omega arith))

      below : (i : ℕ) → i < suc b.level.count → get_or list i 0 < n
      below i m = go (ℕ_discrete i b.level.count)
        where
          go : Dec (i ≡ b.level.count) → get_or list i 0 < n
          go (yes f) = rw (last i f) state
          go (no f) = rw (old i (omega arith)) (shows.below i (omega arith))

      more : List Point
      more = met ++ (point p q ∷ [])

      -- the bytes of position r
      module _ (r : ℕ) (row : max_states * suc r ≤ length b.work) where
        marked : (t : ℕ) → t < max_states → Dec (max_states * r + t ≡ place)
            → In (point r t) met ⊎ In (point r t) (point p q ∷ []) → get_or work (max_states * r + t) 0 ≡ 1
        marked t lt (yes e) h = ap (λ (k : ℕ). get_or work k 0) e ∙ get_or-set_same b.work place 1 0 fits
        marked t lt (no e) (inl h) =
            get_or-set_other b.work place (max_states * r + t) 1 0 e ∙ (shows.marks r row).marked t lt h
        marked t lt (no e) (inr (inl h)) = absurd (e (ap (λ (x : Point). max_states * x.position + x.state) h))
        marked t lt (no e) (inr (inr h)) = absurd h

        only : (t : ℕ) → t < max_states → Dec (max_states * r + t ≡ place) → get_or work (max_states * r + t) 0 ≡ 1
            → In (point r t) met ⊎ In (point r t) (point p q ∷ [])
        only t lt (yes f) e =
            let u : r ≡ p = omega (arith, shows.small) in
            let v : t ≡ q = omega (arith, shows.small) in
            inr (inl (λ i. point (u i) (v i)))
        only t lt (no f) e =
            let before = sym (get_or-set_other b.work place (max_states * r + t) 1 0 f) ∙ e in
            inl ((shows.marks r row).only t lt before)

        row_marked : Marked r work more
        unfolding more
        row_marked = record {
          marked = λ t lt h.
              marked t lt (ℕ_discrete (max_states * r + t) place) (append_in (point r t) met (point p q ∷ []) h);
          only = λ t lt e.
              in_append (point r t) met (point p q ∷ []) (only t lt (ℕ_discrete (max_states * r + t) place) e);
        }

      listed : more ≡ older ++ map (point p) (take (suc b.level.count) list)
      unfolding more
      listed =
          let room : b.level.count < length b.level.states = omega (arith, shows_room, shows.small, shows.size) in
          let states : take (suc b.level.count) list ≡ take b.level.count b.level.states ++ (q ∷ []) =
          take-suc-set b.level.states b.level.count q room in
          ap (λ (xs : List Point). xs ++ (point p q ∷ [])) shows.listed
          ∙ append_assoc older (map (point p) (take b.level.count b.level.states)) (point p q ∷ [])
          ∙ ap (λ (xs : List Point). older ++ xs)
          (sym (ap (map (point p)) states ∙ map-append (point p) (take b.level.count b.level.states) (q ∷ [])))

      pub shows_new : Shows n p (buffers work (record { states = list; count = suc b.level.count })) older
          (visit (point p q) met)
      unfolding more
      shows_new = rw (visit_new (point p q) met new) (record {
        small = shows.small;
        bytes = omega (arith, length-set b.work place 1, shows.bytes);
        size = length-set b.level.states b.level.count q ∙ shows.size;
        marks = λ r row. row_marked r (omega (arith, length-set b.work place 1));
        listed = listed;
        below = below;
        apart = apart;
      })
