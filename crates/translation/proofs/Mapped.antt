-- The same walk over other names: where a map keeps which two are the same, it takes each step of a walk to a step.
-- Assumes nothing.
use mathlib.Core.Path.{◌≡◌, refl, sym, ap, ◌∙◌}
use mathlib.Core.List.{List, [], ◌∷◌, map, map-append}
use mathlib.Core.Bool.{Bool, true, false}
use Prim.Native.Nat.{ℕ, zero, suc, ◌≤◌, ◌<◌}
use native.Mathlib.Decide.{dec_lt}
use native.Mathlib.Omega.{arith}
use lib.ListN.{length, get_or, length-map, get_or-map}
use Rattle.answer.specs.Result.{Result, accepted, refused, Check, fine}
use Rattle.generalized.specs.Explore.{find, meet, Numbering, meet_all, Walk, explore}
use Rattle.generalized.proofs.Exploring.{meet_seen, meet_next, meet_full, all_refused, all_full, all_next, all_met}
use Rattle.generalized.proofs.Exploring.{explore_next, explore_refused, explore_ends}
use Rattle.sets.proofs.Members.{All, at_in}
use Rattle.generalized.proofs.Explored.{all_grows}

abbrev pub mapped : {A B : Type 0} → (A → B) → Result (List A) → Result (List B)
mapped f (accepted xs) = accepted (map f xs)
mapped f (refused number place) = refused number place

module _ {A B : Type 0} (n : Numbering A) (sameB : B → B → Bool) (f : A → B)
    (keeps : (x y : A) → sameB (f x) (f y) ≡ n.same x y) where
  -- the same numbering of the other names
  abbrev m : Numbering B
  m = record { same = sameB; limit = n.limit; full = n.full; each = n.each }

  pub find_map : (x : A) (xs : List A) → find sameB (f x) (map f xs) ≡ find n.same x xs
  unfolding find
  find_map x [] = refl
  find_map x (y ∷ ys) = rw (keeps x y) (go (n.same x y) (find_map x ys))
    where
      place : Bool → ℕ → ℕ
      place b k = elim b [ true ↦ 0 | false ↦ suc k ]

      go : (b : Bool) → find sameB (f x) (map f ys) ≡ find n.same x ys
          → place b (find sameB (f x) (map f ys)) ≡ place b (find n.same x ys)
      go true e = refl
      go false e = ap suc e

  abbrev meet_a : (place : ℕ) → A → List A → Result (List A)
  meet_a = meet n.same n.limit n.full

  abbrev meet_b : (place : ℕ) → B → List B → Result (List B)
  meet_b = meet sameB n.limit n.full

  meet_map : (place : ℕ) (x : A) (xs : List A) → meet_b place (f x) (map f xs) ≡ mapped f (meet_a place x xs)
  meet_map place x xs = pick (dec_lt (find n.same x xs) (length xs)) (dec_lt (length xs) n.limit)
    where
      late : length xs ≤ find n.same x xs → length (map f xs) ≤ find sameB (f x) (map f xs)
      late le = rw (find_map x xs, length-map xs f) le

      pick : Dec (find n.same x xs < length xs) → Dec (length xs < n.limit)
          → meet_b place (f x) (map f xs) ≡ mapped f (meet_a place x xs)
      pick (yes lt) room =
          meet_seen sameB n.limit n.full place (f x) (map f xs) (rw (find_map x xs, length-map xs f) lt)
          ∙ sym (ap (mapped f) (meet_seen n.same n.limit n.full place x xs lt))
      pick (no ge) (yes lt) =
          meet_next sameB n.limit n.full place (f x) (map f xs) (late (omega arith)) (rw (length-map xs f) lt)
          ∙ ap accepted (sym (map-append f xs (x ∷ [])))
          ∙ sym (ap (mapped f) (meet_next n.same n.limit n.full place x xs (omega arith) lt))
      pick (no ge) (no over) =
          meet_full sameB n.limit n.full place (f x) (map f xs) (late (omega arith))
          (rw (length-map xs f) (omega arith))
          ∙ sym (ap (mapped f) (meet_full n.same n.limit n.full place x xs (omega arith) (omega arith)))

  all_map : (place : ℕ) (ts : List A) (count : ℕ) (xs : List A)
      → meet_all m place (map f ts) count (map f xs) ≡ mapped f (meet_all n place ts count xs)
  all_map place [] count xs = all_met m place count (map f xs) ∙ sym (ap (mapped f) (all_met n place count xs))
  all_map place (y ∷ ts) count xs =
      go (n.each place count) refl (meet_a place y xs) refl (λ more. all_map place ts (suc count) more)
    where
      go : (c : Check) → n.each place count ≡ c → (met : Result (List A)) → meet_a place y xs ≡ met
          → ((more : List A) → meet_all m place (map f ts) (suc count) (map f more)
          ≡ mapped f (meet_all n place ts (suc count) more))
          → meet_all m place (map f (y ∷ ts)) count (map f xs) ≡ mapped f (meet_all n place (y ∷ ts) count xs)
      go (accepted u) p (accepted more) q rest =
          all_next m place (f y) (map f ts) count (map f xs) p (meet_map place y xs ∙ ap (mapped f) q)
          ∙ rest more
          ∙ sym (ap (mapped f) (all_next n place y ts count xs p q))
      go (accepted u) p (refused number at) q rest =
          all_full m place (f y) (map f ts) count (map f xs) p (meet_map place y xs ∙ ap (mapped f) q)
          ∙ sym (ap (mapped f) (all_full n place y ts count xs p q))
      go (refused number at) p met q rest =
          all_refused m place (f y) (map f ts) count (map f xs) p
          ∙ sym (ap (mapped f) (all_refused n place y ts count xs p))

  -- P: what the map's targets need of a state, and the walk keeps
  module _ (none : A) (P : A → Type 0) (targetsA : A → List A) (targetsB : B → List B)
      (same : (x : A) → P x → targetsB (f x) ≡ map f (targetsA x)) (keep : (x : A) → P x → All P (targetsA x)) where
    abbrev walk_a : Walk A
    walk_a = record { numbering = n; none = none; targets = targetsA; before = λ _ _. fine }

    abbrev walk_b : Walk B
    walk_b = record { numbering = m; none = f none; targets = targetsB; before = λ _ _. fine }

    -- the state at place
    module _ (place count : ℕ) (xs : List A) (all : All P xs) (lt : place < length xs) where
      abbrev own : List A
      own = targetsA (get_or xs place none)

      here : targetsB (get_or (map f xs) place (f none)) ≡ map f own
      here = rw (get_or-map f xs place none) (same (get_or xs place none) (all _ (at_in none xs place lt)))

      taken : meet_all m place (targetsB (get_or (map f xs) place (f none))) count (map f xs)
          ≡ mapped f (meet_all n place own count xs)
      taken = rw here (all_map place own count xs)

      counts : length (targetsB (get_or (map f xs) place (f none))) ≡ length own
      counts = rw here (length-map own f)

      inside : place < length (map f xs)
      inside = rw (length-map xs f) lt

    pub explore_map : (fuel place count : ℕ) (xs : List A) → All P xs
        → explore walk_b fuel place count (map f xs) ≡ mapped f (explore walk_a fuel place count xs)
    unfolding explore
    explore_map zero place count xs all = refl
    explore_map (suc fuel) place count xs all =
        pick (dec_lt place (length xs)) (λ more c ps. explore_map fuel (suc place) c more ps)
      where
        pick : Dec (place < length xs)
            → ((more : List A) (c : ℕ) → All P more
            → explore walk_b fuel (suc place) c (map f more) ≡ mapped f (explore walk_a fuel (suc place) c more))
            → explore walk_b (suc fuel) place count (map f xs) ≡ mapped f (explore walk_a (suc fuel) place count xs)
        pick (yes lt) next = go (meet_all n place (targetsA (get_or xs place none)) count xs) refl
          where
            go : (met : Result (List A)) → meet_all n place (targetsA (get_or xs place none)) count xs ≡ met
                → explore walk_b (suc fuel) place count (map f xs) ≡ mapped f (explore walk_a (suc fuel) place count xs)
            go (accepted more) e =
                let grown = all_grows n place _ count xs more e in
                explore_next walk_b fuel place count (map f xs) (inside place count xs all lt)
                (taken place count xs all lt ∙ ap (mapped f) e)
                ∙ rw (counts place count xs all lt)
                (next more _ (grown.every P (keep _ (all _ (at_in none xs place lt))) all))
                ∙ sym (ap (mapped f) (explore_next walk_a fuel place count xs lt e))
            go (refused number at) e =
                explore_refused walk_b fuel place count (map f xs) (inside place count xs all lt)
                (taken place count xs all lt ∙ ap (mapped f) e)
                ∙ sym (ap (mapped f) (explore_refused walk_a fuel place count xs lt e))
        pick (no ge) next =
            explore_ends walk_b (suc fuel) place count (map f xs) (rw (length-map xs f) (omega arith))
            ∙ sym (ap (mapped f) (explore_ends walk_a (suc fuel) place count xs (omega arith)))
