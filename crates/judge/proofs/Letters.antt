-- The bits of all rows after a letter, and after the letters of a word. Assumes of the automaton only that its targets
-- are states.
use Prim.Native.Nat.{ℕ, zero, suc, ◌+◌, ◌*◌, ◌/◌, ◌%◌, ◌<◌, ◌≤◌}
use mathlib.Core.Path.{◌≡◌, refl, ◌∙◌, ap}
use mathlib.Core.List.{List, [], ◌∷◌}
use mathlib.Core.Bool.{Bool, true, false}
use mathlib.Core.Logic.{inl, inr, ⊎_elim}
use native.Mathlib.Omega.{arith}
use native.Mathlib.Numerals.{add-one}
use native.Mathlib.Decide.{le_ind}
use native.Mathlib.Nat.{add-zero, mul-zero, mul-suc}
use lib.ListN.{length, get_or, replicate, take, drop}
use lib.Seq.{get_or-take, get_or-drop, drop-drop}
use Rattle.std.specs.Prelude.{Some, None, slice_get}
use Rattle.std.specs.Simd.{first_chunks}
use Rattle.automaton.specs.Automaton.{Automaton, Step, Accepts}
use Rattle.judge.specs.Memory.{Token, Lifted, Is, Gains, Confined, Moved, moved, lifted, After, AfterAll}
use Rattle.judge.specs.Memory.{Ran}
use Rattle.judge.specs.Limits.{met_bit, rows_words}
use Rattle.judge.proofs.Gathers.{none_set, is_made}
use Rattle.judge.proofs.Decisions.{true_false, false_true}

module _ (a : Automaton) (x : ℕ) where
  -- the transitions taken into empty rows, and what stands in an accepting state lifted
  module _ (n : ℕ) {empty next rows : List ℕ} (none : (q k : ℕ) → Token empty q k → ⊥)
      (step : Gains empty next (λ t k. (q : ℕ) × (q < n) × (Step a q x t × Token rows q k))) where
    taken : (q k : ℕ) → Token next q k → (p : ℕ) × (p < n) × (Step a p x q × Token rows p k)
    taken q k h = ⊎_elim (λ e. absurd (none q k e)) (λ t. t) (step.only q k h)

    pub stepped : {after : List ℕ} → ((p q : ℕ) → Step a p x q → p < n)
        → Gains next after (λ q k. Accepts a q × Lifted (Token next) q k) → Is after (Moved a x (Token rows))
    stepped {after} inside lift = record {
      only = λ q k h. ⊎_elim (move q k)
          (λ (l : Accepts a q × Lifted (Token next) q k). raise q k l.0 l.1) (lift.only q k h);
      all = λ q k h. all h;
    }
      where
        move : (q k : ℕ) → Token next q k → Moved a x (Token rows) q k
        move q k t = let (p, lt, (s, h)) = taken q k t in moved p q k h s

        raise : (q k : ℕ) → Accepts a q → Lifted (Token next) q k → Moved a x (Token rows) q k
        raise q k acc l =
            let (p, lt, (s, h)) = taken q l.low l.held in
            rw l.high (lifted p q l.low l.half h s acc)

        new : {p q k : ℕ} → Token rows p k → Step a p x q → Token next q k
        new {p} {q} {k} h s = step.all q k (inr (p, inside p q s, (s, h)))

        all : {q k : ℕ} → Moved a x (Token rows) q k → Token after q k
        all (moved p q k h s) = lift.all q k (inl (new h s))
        all (lifted p q j lt h s acc) =
            lift.all q (met_bit + j) (inr (acc, record { low = j; half = lt; high = refl; held = new h s }))

  moved_inside : {n : ℕ} {Held : (q k : ℕ) → Type 0} → ((p q : ℕ) → Step a p x q → q < n)
      → {q k : ℕ} → Moved a x Held q k → q < n
  moved_inside target (moved p q k h s) = target p q s
  moved_inside target (lifted p q j lt h s acc) = target p q s

  -- a run stands in one of the n states, if one is left
  pub advanced : {n : ℕ} {r : Bool} {rows next : List ℕ} → ((p q : ℕ) → Step a p x q → q < n)
      → Is next (Moved a x (Token rows)) → (r ≡ false → (q k : ℕ) → q < n → Token next q k → ⊥)
      → Ran r next (Moved a x (Token rows))
  advanced target is none = record {
    on = λ e. is;
    lost = λ e q k h. none e q k (moved_inside target h) (is.all q k h);
  }

  moved_from : {Held : (q k : ℕ) → Type 0} {q k : ℕ} → Moved a x Held q k → (p : ℕ) × ((j : ℕ) × Held p j)
  moved_from (moved p q k h s) = (p, (k, h))
  moved_from (lifted p q j lt h s acc) = (p, (j, h))

  pub moved_map : (P Q : (q k : ℕ) → Type 0) → ((q k : ℕ) → P q k → Q q k)
      → (q k : ℕ) → Moved a x P q k → Moved a x Q q k
  moved_map P Q f _ _ (moved p q k h s) = moved p q k (f p k h) s
  moved_map P Q f _ _ (lifted p q j lt h s acc) = lifted p q j lt (f p j h) s acc

-- runs that have met an accepting state are runs
pub after_covered : (a : Automaton) (w : ℕ → ℕ) {Held : (q k : ℕ) → Type 0}
    → ((q k : ℕ) → k < met_bit → Held q (met_bit + k) → Held q k)
    → (i q k : ℕ) → k < met_bit → After a w Held i q (met_bit + k) → After a w Held i q k
after_covered a w held zero q k lt h = held q k lt h
after_covered a w {Held} held (suc i) q k lt h = go refl h (λ p. after_covered a w held i p k lt)
  where
    go : {q j : ℕ} → j ≡ met_bit + k → Moved a (w i) (After a w Held i) q j
        → ((p : ℕ) → After a w Held i p (met_bit + k) → After a w Held i p k) → Moved a (w i) (After a w Held i) q k
    go e (moved p q j h s) low = moved p q k (low p (rw e at h)) s
    go e (lifted p q j lj h s acc) low =
        let f : j ≡ k = omega arith in
        moved p q k (rw f at h) s

after_inside : (a : Automaton) (w : ℕ → ℕ) {n : ℕ} {Held : (q k : ℕ) → Type 0}
    → ((p x q : ℕ) → Step a p x q → q < n) → ((q k : ℕ) → Held q k → q < n)
    → (i q k : ℕ) → After a w Held i q k → q < n
after_inside a w target held zero q k h = held q k h
after_inside a w target held (suc i) q k h = moved_inside a (w i) (λ p t s. target p (w i) t s) h

-- where no run is left, none will be
lost_later : (a : Automaton) (w : ℕ → ℕ) (Held : (q k : ℕ) → Type 0) (i : ℕ)
    → ((q k : ℕ) → After a w Held i q k → ⊥) → (d : ℕ) → i ≤ d → (q k : ℕ) → After a w Held d q k → ⊥
lost_later a w Held i lost = le_ind (λ d. (q k : ℕ) → After a w Held d q k → ⊥) lost (λ d le before q k h.
    let (p, (j, m)) = moved_from a (w d) h in
    before p j m)

-- a loop that has taken the first i letters of a word, with the runs in one of two lists of rows; what stands in the
-- other does not count
pub record Running (a : Automaton) (n : ℕ) (word before rows other : List ℕ) (i : ℕ) : Type 0 where
  pub within : i ≤ length word
  pub bits : Is rows (After a (λ j. get_or word j 0) (Token before) i)
  pub confined : Confined n other

module _ (a : Automaton) (n : ℕ) (word before : List ℕ) where
  pub run_begins : Running a n word before before (replicate rows_words 0) 0
  run_begins = record {
    within = omega arith;
    bits = record { only = λ q k h. h; all = λ q k h. h };
    confined = λ q k h. absurd (none_set rows_words q k h);
  }

  pub run_ends : {x y : List ℕ} (i : ℕ) → i ≡ length word → Running a n word before x y i
      → Ran true x (AfterAll a word (Token before))
  run_ends i e inv = record { on = λ t. rw e at inv.bits; lost = λ t. true_false t }

  -- runs stay within the n states
  module _ (target : (p x q : ℕ) → Step a p x q → q < n) (held : Confined n before) {x y : List ℕ} (i : ℕ)
      (inv : Running a n word before x y i) where
    pub run_confined : Confined n x
    run_confined q k h = after_inside a (λ j. get_or word j 0) target held i q k (inv.bits.only q k h)

    -- a letter, with the runs after it in the other list; or none is left
    module _ (lt : i < length word) {r : Bool} {z : List ℕ} (ran : Ran r z (Moved a (get_or word i 0) (Token x))) where
      pub run_steps : r ≡ true → Running a n word before z x (i + 1)
      run_steps e = record {
        within = omega arith;
        confined = run_confined;
        bits = rw add-one (is_made (Moved a (get_or word i 0)) (moved_map a (get_or word i 0)) inv.bits (ran.on e));
      }

      pub run_stops : {rows : List ℕ} → r ≡ false
          → Ran false rows (AfterAll a word (Token before))
      run_stops e = record {
        on = λ t. false_true t;
        lost = λ t. lost_later a (λ j. get_or word j 0) (Token before) (suc i)
            (λ q k h. ran.lost e q k (moved_map a (get_or word i 0) _ _ inv.bits.all q k h)) (length word)
            (omega arith);
      }

-- ---- a word's letters two by two

chunk_at : (n k : ℕ) (xs : List ℕ) (i : ℕ) → i < k → get_or (first_chunks n k xs) i [] ≡ take n (drop (n * i) xs)
chunk_at n zero xs i lt = absurd (omega arith)
chunk_at n (suc k) xs zero lt = simp mul-zero refl
chunk_at n (suc k) xs (suc i) lt =
    let e : n + n * i ≡ n * suc i = omega (arith, mul-suc n i) in
    chunk_at n k (drop n xs) i (omega arith) ∙ ap (take n) (drop-drop (n * i) n xs ∙ ap (λ (j : ℕ). drop j xs) e)

-- pair i has the letters 2 * i and 2 * i + 1
module _ (word : List ℕ) {pairs : List (List ℕ)} (i : ℕ) (e : pairs ≡ first_chunks 2 (length word / 2) word)
    (lt : i < length word / 2) where
  letter_at : (j : ℕ) → j < 2 → get_or (get_or pairs i []) j 0 ≡ get_or word (2 * i + j) 0
  letter_at j lj =
      rw (e, chunk_at 2 (length word / 2) word i lt)
      (get_or-take 2 (drop (2 * i) word) j 0 lj ∙ get_or-drop (2 * i) word j 0)

  pub first_letter : get_or (get_or pairs i []) 0 0 ≡ get_or word (2 * i) 0
  first_letter = rw add-zero at (letter_at 0 (omega arith))

  pub second_letter : get_or (get_or pairs i []) 1 0 ≡ get_or word (2 * i + 1) 0
  second_letter = letter_at 1 (omega arith)

first_some : (rest : List ℕ) (x : ℕ) → Some x ≡ slice_get rest 0 → (0 < length rest) × (x ≡ get_or rest 0 0)
first_some [] x e = absurd (cc)
first_some (y ∷ ys) x e = (omega arith, cc)

first_none : (rest : List ℕ) → None ≡ slice_get rest 0 → length rest ≡ 0
first_none [] e = refl
first_none (y ∷ ys) e = absurd (cc)

-- behind i pairs there is nothing, or one letter more
module _ (word rest : List ℕ) (i : ℕ) (all : i ≡ length word / 2)
    (e : rest ≡ drop (length word / 2 * 2) word) (size : length rest ≡ length word % 2) where
  pub no_letter : None ≡ slice_get rest 0 → 2 * i ≡ length word
  no_letter none = omega (arith, first_none rest none)

  pub last_letter : (x : ℕ) → Some x ≡ slice_get rest 0 → (2 * i + 1 ≡ length word) × (x ≡ get_or word (2 * i) 0)
  last_letter x some =
      let h = first_some rest x some in
      let at : length word / 2 * 2 + 0 ≡ 2 * i = omega arith in
      let r : get_or rest 0 0 ≡ get_or word (2 * i) 0 =
      rw e (get_or-drop (length word / 2 * 2) word 0 0 ∙ ap (λ (j : ℕ). get_or word j 0) at) in
      (omega (arith, h.0), h.1 ∙ r)
