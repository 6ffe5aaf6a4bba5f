-- Letter i of the word of a lasso is, of the letters as they are lent and repeated for ever, the i-th that remains: by
-- induction over a list, and then over rounds of the cycle written out behind the stem. Assumes nothing, but that a
-- letter of the cycle remains.
use Prim.Native.Nat.{ℕ, zero, suc, ◌+◌, ◌/◌, ◌%◌, ◌^◌, ◌<◌, ◌≤◌}
use mathlib.Core.Path.{◌≡◌, refl, sym, ◌∙◌, ap, subst, fun_ext}
use mathlib.Core.Logic.{◌↔◌}
use mathlib.Core.List.{List, [], ◌∷◌, ◌++◌}
use mathlib.Core.Bool.{Bool, true, false, cond}
use native.Mathlib.Omega.{arith}
use native.Mathlib.Decide.{dec_lt}
use lib.ListN.{get_or, length, length-append}
use borrow.Author.Tests.{lt-ltb, ltb-true}
use Rattle.lasso.specs.Lasso.{skipped, remains, remaining, letter, remaining_before, IthRemaining}
use Rattle.lasso.proofs.Letters.{letter_early, letter_unrolled}
use Rattle.lasso.proofs.Skipping.{remaining_kept, remaining_skipped, remaining_append}

-- a word without its first letter
unfoldable later : (ℕ → ℕ) → ℕ → ℕ
later word i = word (suc i)

-- of the letters before a place, the first one counts or not
before_later : (word : ℕ → ℕ) (n : ℕ)
    → remaining_before word (suc n) ≡ cond (remains (word 0)) 1 0 + remaining_before (later word) n
unfolding remaining_before later
before_later word zero = omega arith
before_later word (suc n) = omega (arith, before_later word n)

-- of a list: the word begins with it
in_list : (xs : List ℕ) (word : ℕ → ℕ) → ((i : ℕ) → i < length xs → word i ≡ get_or xs i 0)
    → (i : ℕ) → i < length (remaining xs) → IthRemaining word i (get_or (remaining xs) i 0)
unfolding remaining later remaining_before
in_list [] word begins i lt = absurd (omega arith)
in_list (x ∷ xs) word begins i lt =
    go (remains x) refl i lt (in_list xs (later word) (λ j l. begins (suc j) (omega arith)))
  where
    first : word 0 ≡ x
    first = begins 0 (omega arith)

    -- a letter of the rest is one place further on
    further : {b : Bool} {j k y : ℕ} → remains x ≡ b → cond b 1 0 + j ≡ k → IthRemaining (later word) j y
        → IthRemaining word k y
    further e counts r = record {
      place = suc r.place;
      there = r.there;
      stays = r.stays;
      before = before_later word r.place ∙ rw (first, e, r.before) counts;
    }

    go : (b : Bool) → remains x ≡ b → (i : ℕ) → i < length (remaining (x ∷ xs))
        → ((j : ℕ) → j < length (remaining xs) → IthRemaining (later word) j (get_or (remaining xs) j 0))
        → IthRemaining word i (get_or (remaining (x ∷ xs)) i 0)
    go true e zero l rest =
        rw (remaining_kept x xs e) (record { place = 0; there = first; stays = e; before = refl })
    go true e (suc i) l rest =
        rw (remaining_kept x xs e)
        (further e (omega arith) (rest i (omega (arith, ap length (remaining_kept x xs e)))))
    go false e i l rest =
        rw (remaining_skipped x xs e)
        (further e (omega arith) (rest i (omega (arith, ap length (remaining_skipped x xs e)))))

-- of a lasso, with so many letters of further rounds of the cycle
in_rounds : (rounds : ℕ) (stem cycle : List ℕ) → 0 < length (remaining cycle)
    → (i : ℕ) → i < length (remaining stem) + rounds
    → IthRemaining (letter stem cycle) i (letter (remaining stem) (remaining cycle) i)
in_rounds zero stem cycle some i lt =
    subst (IthRemaining (letter stem cycle) i) (sym (letter_early (remaining stem) (remaining cycle) i (omega arith)))
    (in_list stem (letter stem cycle) (letter_early stem cycle) i (omega arith))
in_rounds (suc rounds) stem cycle some i lt =
    let longer = remaining_append stem cycle in
    let r = in_rounds rounds (stem ++ cycle) cycle some i
    (omega (arith, ap length longer, length-append (remaining stem) (remaining cycle))) in
    let same : letter (remaining (stem ++ cycle)) (remaining cycle) i ≡ letter (remaining stem) (remaining cycle) i =
    ap (λ (l : List ℕ). letter l (remaining cycle) i) longer
    ∙ letter_unrolled (remaining stem) (remaining cycle) i in
    let word : letter (stem ++ cycle) cycle ≡ letter stem cycle = fun_ext (letter_unrolled stem cycle) in
    subst (λ (w : ℕ → ℕ). IthRemaining w i (letter (remaining stem) (remaining cycle) i)) word
    (subst (IthRemaining (letter (stem ++ cycle) cycle) i) same r)

-- ---- there is one such place

pub before_grows : (word : ℕ → ℕ) (m n : ℕ) → m ≤ n → remaining_before word m ≤ remaining_before word n
unfolding remaining_before
before_grows word m zero le =
    let e : m ≡ 0 = omega arith in
    rw e (omega arith)
before_grows word m (suc n) le = go (dec_lt n m) (before_grows word m n)
  where
    go : Dec (n < m) → (m ≤ n → remaining_before word m ≤ remaining_before word n)
        → remaining_before word m ≤ remaining_before word (suc n)
    go (yes l) ih =
        let e : m ≡ suc n = omega arith in
        rw e (omega arith)
    go (no l) ih = omega (arith, ih (omega arith))

-- of two places where the letter remains, more letters remain before the later one
before_later_place : (word : ℕ → ℕ) (m n : ℕ) → m < n → remains (word m) ≡ true
    → remaining_before word m < remaining_before word n
unfolding remaining_before
before_later_place word m n lt stays =
    let more : remaining_before word (suc m) ≡ remaining_before word m + 1 = rw stays in
    omega (arith, more, before_grows word (suc m) n lt)

pub remaining_once : {word : ℕ → ℕ} {i x y : ℕ} (r : IthRemaining word i x) (s : IthRemaining word i y)
    → r.place ≡ s.place
remaining_once {word} {i} {x} {y} r s = go (dec_lt r.place s.place) (dec_lt s.place r.place)
  where
    go : Dec (r.place < s.place) → Dec (s.place < r.place) → r.place ≡ s.place
    go (yes l) d =
        let more = before_later_place word r.place s.place l (rw r.there r.stays) in
        absurd (omega (arith, more, r.before, s.before))
    go (no l) (yes m) =
        let more = before_later_place word s.place r.place m (rw s.there s.stays) in
        absurd (omega (arith, more, r.before, s.before))
    go (no l) (no m) = omega arith

-- ---- which letter it is

-- R-9, sentence 3: letter i of the word is the letter, of those as they are lent, at the place where it remains and
-- before which i others do; by `remaining_once` there is one such place
pub remaining_letters : (stem cycle : List ℕ) → 0 < length (remaining cycle)
    → (i : ℕ) → IthRemaining (letter stem cycle) i (letter (remaining stem) (remaining cycle) i)
remaining_letters stem cycle some i = in_rounds (suc i) stem cycle some i (omega arith)

-- and a letter remains, being a byte, exactly where its bit 7 is clear
pub remains_exactly : (x : ℕ) → x < 256 → (remains x ≡ true) ↔ ((x / 2 ^ 7) % 2 ≡ 0)
remains_exactly x byte =
    (λ e. omega (arith, ltb-true x skipped e), λ e. lt-ltb x skipped (omega arith))
