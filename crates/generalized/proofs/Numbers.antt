-- A number once given stays when states are added, so that the transitions in the table stay right.
-- Assumes nothing.
use mathlib.Core.Path.{◌≡◌, refl, sym, ap, ◌∙◌}
use mathlib.Core.Logic.{inl, inr, ⊎_elim}
use mathlib.Core.Bool.{Bool, true, false, cond, false≢true}
use mathlib.Core.List.{List, [], ◌∷◌, ◌++◌, map, map-append}
use Prim.Native.Nat.{ℕ, suc, ◌+◌, ◌<◌, ◌≤◌}
use native.Mathlib.Omega.{arith}
use lib.ListN.{length, take, drop, length-append, take-append-drop}
use lib.Dec.{eqb, ltb}
use borrow.Author.Tests.{eq-eqb, ne_eqb, eqb-true, ltb-true, ltb-false}
use Rattle.std.specs.Prelude.{Some, None, position}
use Rattle.std.specs.List.{position_or_len}
use Rattle.std.proofs.lemmas.List.Recursion.{is_position_or_len}
use Rattle.sets.specs.Sets.{In}
use Rattle.sets.proofs.Members.{all_one, append_in}
use Rattle.term.specs.Term.{Term}
use Rattle.generalized.specs.Explore.{find}
use Rattle.generalized.specs.Memory.{kept, ListedKept, Finds}

module _ {A : Type 0} (same : A → A → Bool) where
  -- one that is found stays where it is
  pub find_stays : (x : A) (xs ys : List A) → find same x xs < length xs → find same x (xs ++ ys) ≡ find same x xs
  unfolding find
  find_stays x [] ys lt = absurd (omega arith)
  find_stays x (y ∷ xs) ys lt = go (same x y) lt (λ l. find_stays x xs ys l)
    where
      place : Bool → ℕ → ℕ
      place b k = elim b [ true ↦ 0 | false ↦ suc k ]

      go : (b : Bool) → place b (find same x xs) < suc (length xs)
          → (find same x xs < length xs → find same x (xs ++ ys) ≡ find same x xs)
          → place b (find same x (xs ++ ys)) ≡ place b (find same x xs)
      go true l stays = refl
      go false l stays = ap suc (stays (omega arith))

  -- an unseen one takes the next number
  pub find_next : (x : A) (xs : List A) → same x x ≡ true → length xs ≤ find same x xs
      → find same x (xs ++ (x ∷ [])) ≡ length xs
  unfolding find
  find_next x [] self le = rw (self, find)
  find_next x (y ∷ xs) self le = go (same x y) le (λ l. find_next x xs self l)
    where
      go : (b : Bool) → suc (length xs) ≤ elim b [ true ↦ 0 | false ↦ suc (find same x xs) ]
          → (length xs ≤ find same x xs → find same x (xs ++ (x ∷ [])) ≡ length xs)
          → elim b [ true ↦ 0 | false ↦ suc (find same x (xs ++ (x ∷ []))) ] ≡ suc (length xs)
      go true l next = absurd (omega arith)
      go false l next = ap suc (next (omega arith))

-- as a search finds it
same_test : (x y : ℕ) → eqb x y ≡ eqb y x
same_test x y = go (eqb x y) refl
  where
    go : (b : Bool) → eqb x y ≡ b → b ≡ eqb y x
    go true e = sym (eq-eqb y x (sym (eqb-true x y e)))
    go false e = sym (ne_eqb y x (λ f. false≢true (sym e ∙ eq-eqb x y (sym f))))

find_position : (x : ℕ) (xs : List ℕ) → find eqb x xs ≡ position_or_len (λ y. eqb y x) xs
unfolding find
find_position x xs = is_position_or_len (find eqb x) (λ y. eqb y x) refl step xs
  where
    step : (y : ℕ) (ys : List ℕ) → find eqb x (y ∷ ys) ≡ cond (eqb y x) 0 (1 + find eqb x ys)
    step y ys = go (eqb x y) (eqb y x) (same_test x y)
      where
        go : (b c : Bool) → b ≡ c
            → elim b [ true ↦ 0 | false ↦ suc (find eqb x ys) ] ≡ cond c 0 (1 + find eqb x ys)
        go true true e = refl
        go false false e = omega arith
        go true false e = cc
        go false true e = cc

pub finds_position : (x : ℕ) (xs : List ℕ) → Finds x xs (position (λ y. eqb y x) xs)
finds_position x xs = go (ltb place (length xs)) refl
  where
    place : ℕ
    place = position_or_len (λ y. eqb y x) xs

    go : (b : Bool) → ltb place (length xs) ≡ b → Finds x xs (cond b (Some place) None)
    go true e = (sym (find_position x xs), ltb-true place (length xs) e)
    go false e = rw (find_position x xs) (ltb-false place (length xs) e)

-- xs are the first of ys
module _ (xs ys : List ℕ) (first : take (length xs) ys ≡ xs) where
  parts : ys ≡ xs ++ drop (length xs) ys
  parts = sym (take-append-drop (length xs) ys) ∙ rw first

  same_number : (x : ℕ) → find eqb x xs < length xs → find eqb x ys ≡ find eqb x xs
  same_number x lt = ap (find eqb x) parts ∙ find_stays eqb x xs (drop (length xs) ys) lt

  kept_same : (rule : List ℕ) (ts : List Term)
      → ((t : Term) → In t ts → find eqb t.obligations xs < length xs)
      → map (kept rule xs) ts ≡ map (kept rule ys) ts
  kept_same rule [] found = refl
  kept_same rule (t ∷ ts) found =
      rw (same_number t.obligations (found t (inl refl)), kept_same rule ts (λ u h. found u (inr h)))

  pub listed_on : {rule : List ℕ} {ts : List Term} {ns : List ℕ} → ListedKept rule xs ts ns → ListedKept rule ys ts ns
  listed_on {rule} {ts} h = record {
    numbers = h.numbers ∙ kept_same rule ts h.found;
    found = λ t i.
        let same = same_number t.obligations (h.found t i) in
        omega (arith, same, h.found t i, ap length parts, length-append xs (drop (length xs) ys));
  }

module _ {rule xs : List ℕ} where
  pub listed_none : ListedKept rule xs [] []
  listed_none = record { numbers = refl; found = λ t h. absurd h }

  pub listed_one : (t : Term) → find eqb t.obligations xs < length xs
      → ListedKept rule xs (t ∷ []) (kept rule xs t ∷ [])
  listed_one t lt = record {
    numbers = refl;
    found = all_one (λ (u : Term). find eqb u.obligations xs < length xs) t lt;
  }

  pub listed_both : {ts us : List Term} {ns ms : List ℕ} → ListedKept rule xs ts ns → ListedKept rule xs us ms
      → ListedKept rule xs (ts ++ us) (ns ++ ms)
  listed_both {ts} {us} g h = record {
    numbers = rw (g.numbers, h.numbers) (sym (map-append (kept rule xs) ts us));
    found = λ t i. ⊎_elim (g.found t) (h.found t) (append_in t ts us i);
  }
