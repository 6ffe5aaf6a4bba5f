-- The search to rest, point after point: what it has met stands at the front of all that can be reached, so that the
-- first point at rest among those is where it ends. Assumes that targets and initial numbers are states and that the
-- cycle has a letter.
use Prim.Native.Nat.{ℕ, zero, suc, ◌+◌, ◌*◌, ◌<◌, ◌≤◌}
use mathlib.Core.Path.{◌≡◌, refl, sym, ◌∙◌, ap, subst}
use mathlib.Core.List.{List, [], ◌∷◌}
use mathlib.Core.Bool.{Bool, true, false}
use native.Mathlib.Omega.{arith}
use native.Mathlib.Decide.{ℕ_discrete}
use lib.ListN.{length}
use lib.Dec.{ltb}
use borrow.Author.Tests.{lt-ltb, le-ltb}
use Rattle.sets.specs.Sets.{any}
use Rattle.sets.proofs.Members.{All, map_in}
use Rattle.automaton.specs.Automaton.{Automaton}
use Rattle.automaton.proofs.InRange.{InRange}
use Rattle.rest.specs.Search.{Point, point, visit_all, onward, reach, reached_from, starts}
use Rattle.rest.specs.Rest.{up_to, resting, taken, rest_taken, pairs_taken}
use Rattle.rest.specs.Memory.{Searching}
use Rattle.rest.proofs.Queue.{at, Unique, met_all, Within, few_points}
use Rattle.rest.proofs.Points.{onward_within}
use Rattle.rest.proofs.Reached.{Reached, search_reaches}

-- ---- a list up to the first that passes a test

module _ (test : Point → Bool) where
  -- how many there are up to the first, and whether one passes
  record Cut (xs : List Point) (found : Bool) (k : ℕ) : Type 0 where
    some : any test (up_to test xs) ≡ found
    many : length (up_to test xs) ≡ k

  cut_more : (x : Point) (xs : List Point) {found : Bool} {k : ℕ} → test x ≡ false → Cut xs found k
      → Cut (x ∷ xs) found (suc k)
  unfolding up_to any
  cut_more x xs e c = record { some = rw (e, up_to, e, any) c.some; many = rw (e, up_to) (ap suc c.many) }

  -- the first that passes is at index k
  cut_at : (xs : List Point) (k : ℕ) → k < length xs → ((i : ℕ) → i < k → test (at xs i) ≡ false)
      → test (at xs k) ≡ true → Cut xs true (suc k)
  unfolding up_to any
  cut_at [] k l calm e = absurd (omega arith)
  cut_at (x ∷ xs) zero l calm e = record { some = rw (e, up_to, e, any); many = rw (e, up_to) }
  cut_at (x ∷ xs) (suc k) l calm e =
      cut_more x xs (calm 0 (omega arith)) (cut_at xs k (omega arith) (λ i m. calm (suc i) (omega arith)) e)

  -- none passes
  cut_none : (xs : List Point) → ((i : ℕ) → i < length xs → test (at xs i) ≡ false) → Cut xs false (length xs)
  unfolding up_to any
  cut_none [] calm = record { some = refl; many = refl }
  cut_none (x ∷ xs) calm = cut_more x xs (calm 0 (omega arith)) (cut_none xs (λ i m. calm (suc i) (omega arith)))

  pub cut_short : (xs : List Point) → length (up_to test xs) ≤ length xs
  unfolding up_to
  cut_short [] = omega arith
  cut_short (x ∷ xs) = go (test x) (cut_short xs)
    where
      rest : Bool → List Point
      rest b = elim b [ true ↦ x ∷ [] | false ↦ x ∷ up_to test xs ]

      go : (b : Bool) → length (up_to test xs) ≤ length xs → length (rest b) ≤ suc (length xs)
      go true ih = omega arith
      go false ih = omega arith

module _ (a : Automaton) (stem cycle : List ℕ) where
  -- ---- all that can be reached

  abbrev limit : ℕ
  limit = length a.states * (length stem + length cycle)

  abbrev reached : List Point
  reached = reached_from a stem cycle (starts a stem cycle)

  -- what was met stands at the front of what is reached
  record Front (met more : List Point) : Type 0 where
    longer : length met ≤ length more
    there : (i : ℕ) → i < length met → at more i ≡ at met i

  reach_front : (fuel k : ℕ) (met : List Point) → Front met (reach a stem cycle fuel k met)
  unfolding reach
  reach_front zero k met = record { longer = omega arith; there = λ i l. refl }
  reach_front (suc fuel) k met = go (ltb k (length met)) (reach_front fuel (suc k) next)
    where
      next : List Point
      next = visit_all (onward a stem cycle (at met k)) met

      go : (b : Bool) → Front next (reach a stem cycle fuel (suc k) next)
          → Front met (elim b [ true ↦ reach a stem cycle fuel (suc k) next | false ↦ met ])
      go true f =
          let m = met_all (onward a stem cycle (at met k)) met in
          record {
            longer = omega (arith, m.longer, f.longer);
            there = λ i l. f.there i (omega (arith, m.longer)) ∙ m.there i l;
          }
      go false f = record { longer = omega arith; there = λ i l. refl }

  reach_done : (fuel k : ℕ) (met : List Point) → length met ≤ k → reach a stem cycle fuel k met ≡ met
  unfolding reach
  reach_done zero k met l = refl
  reach_done (suc fuel) k met l = rw (le-ltb k (length met) l, reach)

  reach_more : (fuel k : ℕ) (met : List Point) → k < length met
      → reach a stem cycle (suc fuel) k met
      ≡ reach a stem cycle fuel (suc k) (visit_all (onward a stem cycle (at met k)) met)
  unfolding reach
  reach_more fuel k met l = rw (lt-ltb k (length met) l, reach)

  -- at most as many points are reached as there are
  pub reached_few : InRange a → 0 < length cycle → length reached ≤ limit
  unfolding reached_from starts
  reached_few range pos = few reached all.unique all.sound
    where
      Inside : Point → Type 0
      Inside = Within (length a.states) (length stem + length cycle)

      few : (xs : List Point) → Unique xs → All Inside xs → length xs ≤ limit
      few = few_points (length a.states) (length stem + length cycle)

      begins : All Inside (starts a stem cycle)
      begins x h =
          let (q, m, e) = map_in (point 0) x a.initial h in
          subst Inside (sym e) (record { position = omega arith; state = range.initial q m })

      all : Reached a stem cycle Inside (starts a stem cycle) reached
      all =
          search_reaches a stem cycle Inside (λ x w. onward_within a stem cycle range pos x) limit few
          (starts a stem cycle) limit (omega arith) begins

  -- ---- the search to rest

  pub searching_begins : Searching a stem cycle 0 (visit_all (starts a stem cycle) [])
  unfolding reached_from
  searching_begins = record {
    within = omega arith;
    calm = λ i l. absurd (omega arith);
    fuel = limit;
    enough = omega arith;
    same = refl;
  }

  module _ {k : ℕ} {met : List Point} (s : Searching a stem cycle k met) where
    -- what was met is the front of what is reached
    front : Front met reached
    front = subst (Front met) s.same (reach_front s.fuel k met)

    -- all was taken, and nothing is at rest
    module _ (all : length met ≤ k) where
      pub searched_all : met ≡ reached
      searched_all = sym (reach_done s.fuel k met all) ∙ s.same

      cut_all : Cut (resting a stem cycle) reached false k
      cut_all =
          let size : length met ≡ k = omega (arith, s.within) in
          subst (λ (xs : List Point). Cut (resting a stem cycle) xs false k) searched_all
          (subst (Cut (resting a stem cycle) met false) size
          (cut_none (resting a stem cycle) met (λ i l. s.calm i (omega arith))))

      pub searched_calm : false ≡ rest_taken a stem cycle
      unfolding rest_taken taken
      searched_calm = sym cut_all.some

      pub searched_pairs : k ≡ pairs_taken a stem cycle
      unfolding pairs_taken taken
      searched_pairs = sym cut_all.many

    module _ (l : k < length met) where
      -- the next point is at rest: the search ends with it
      module _ (e : resting a stem cycle (at met k) ≡ true) where
        cut_here : Cut (resting a stem cycle) reached true (suc k)
        cut_here =
            cut_at (resting a stem cycle) reached k (omega (arith, front.longer))
            (λ i m. ap (resting a stem cycle) (front.there i (omega arith)) ∙ s.calm i m)
            (ap (resting a stem cycle) (front.there k l) ∙ e)

        pub rest_taken_lem : true ≡ rest_taken a stem cycle
        unfolding rest_taken taken
        rest_taken_lem = sym cut_here.some

        pub rest_pairs : suc k ≡ pairs_taken a stem cycle
        unfolding pairs_taken taken
        rest_pairs = sym cut_here.many

    module _ (range : InRange a) (pos : 0 < length cycle) where
      -- few points were met
      pub searching_few : length met ≤ limit
      searching_few = omega (arith, front.longer, reached_few range pos)

      -- the next point is not at rest: it is taken
      pub searching_goes : k < length met → resting a stem cycle (at met k) ≡ false
          → Searching a stem cycle (suc k) (visit_all (onward a stem cycle (at met k)) met)
      searching_goes l e = go s.fuel refl
        where
          next : List Point
          next = visit_all (onward a stem cycle (at met k)) met

          calm : (i : ℕ) → i < suc k → Dec (i ≡ k) → resting a stem cycle (at met i) ≡ false
          calm i m (yes f) = subst (λ (j : ℕ). resting a stem cycle (at met j) ≡ false) (sym f) e
          calm i m (no f) = s.calm i (omega arith)

          go : (fuel : ℕ) → s.fuel ≡ fuel → Searching a stem cycle (suc k) next
          go zero f = absurd (omega (arith, searching_few, s.enough))
          go (suc fuel) f =
              let m = met_all (onward a stem cycle (at met k)) met in
              record {
                within = omega (arith, m.longer);
                calm = λ i b. ap (resting a stem cycle) (m.there i (omega arith)) ∙ calm i b (ℕ_discrete i k);
                fuel = fuel;
                enough = omega (arith, s.enough);
                same = sym (reach_more fuel k met l) ∙ ap (λ (g : ℕ). reach a stem cycle g k met) (sym f) ∙ s.same;
              }
