-- Records one after another: those of two lists, how many bytes there are, and where each stands; and the same where
-- each record knows its number. Assumes nothing.
use Prim.Native.Nat.{ℕ, zero, suc, ◌+◌, ◌*◌, ◌<◌}
use mathlib.Core.Path.{◌≡◌, refl, sym, ◌∙◌, ap, ap₂}
use mathlib.Core.List.{List, [], ◌∷◌, ◌++◌, append-nil, append_assoc}
use mathlib.Core.Bool.{Bool}
use native.Mathlib.Nat.{mul-suc}
use native.Mathlib.Omega.{arith}
use lib.ListN.{length, get_or, length-append, get_or-append}
use lib.Seq.{get_or-append-add}
use Rattle.answer.specs.Bytes.{two_bytes, number_at}
use Rattle.automaton.specs.Automaton.{Transition, State, Automaton, no_state, at_rest}
use Rattle.automaton.specs.Records.{records, numbered, state_bytes, state_record, transition_record, state_records}
use Rattle.automaton.specs.Tables.{transition_count}

module _ {A : Type 0} (bytes_of : A → List ℕ) where
  pub records_append : (xs ys : List A) → records bytes_of (xs ++ ys) ≡ records bytes_of xs ++ records bytes_of ys
  unfolding records
  records_append [] ys = refl
  records_append (x ∷ xs) ys =
      rw (records_append xs ys) (sym (append_assoc (bytes_of x) (records bytes_of xs) (records bytes_of ys)))

  pub records_last : (xs : List A) (x : A) → records bytes_of (xs ++ (x ∷ [])) ≡ records bytes_of xs ++ bytes_of x
  unfolding records
  records_last xs x = records_append xs (x ∷ []) ∙ rw (append-nil (bytes_of x))

-- records of the same length
module _ {A : Type 0} (bytes_of : A → List ℕ) (size : ℕ) (sized : (x : A) → length (bytes_of x) ≡ size) where
  pub records_length : (xs : List A) → length (records bytes_of xs) ≡ length xs * size
  unfolding records
  records_length [] = omega arith
  records_length (x ∷ xs) = rw length-append (omega (arith, sized x, records_length xs))

  -- byte j of record i, whatever follows
  pub byte_at : (none : A) (xs : List A) (rest : List ℕ) (i j k : ℕ) → i < length xs → j < size → k ≡ size * i + j
      → get_or (records bytes_of xs ++ rest) k 0 ≡ get_or (bytes_of (get_or xs i none)) j 0
  unfolding records
  byte_at none [] rest i j k l m e = absurd (omega arith)
  byte_at none (x ∷ xs) rest zero j k l m e =
      let n : k ≡ j = omega arith in
      rw (append_assoc, n) (get_or-append (bytes_of x) (records bytes_of xs ++ rest) 0 j (omega (arith, sized x)))
  byte_at none (x ∷ xs) rest (suc i) j k l m e =
      let n : k ≡ length (bytes_of x) + (size * i + j) = omega (arith, mul-suc size i, sized x) in
      rw (append_assoc, n) (get_or-append-add (bytes_of x) (records bytes_of xs ++ rest) (size * i + j) 0 ∙ byte_at none
      xs rest i j (size * i + j) (omega arith) m refl)

  -- the number whose first byte that is
  pub number_at_lem : (none : A) (xs : List A) (rest : List ℕ) (i j k : ℕ) → i < length xs → j + 1 < size
      → k ≡ size * i + j
      → number_at (records bytes_of xs ++ rest) k ≡ number_at (bytes_of (get_or xs i none)) j
  number_at_lem none xs rest i j k l m e =
      ap₂ (λ (x y : ℕ). x + 256 * y) (byte_at none xs rest i j k l (omega arith) e)
      (byte_at none xs rest i (j + 1) (k + 1) l m (omega arith))

-- ---- a list with its numbers

module _ {A : Type 0} where
  pub numbered_length : (from : ℕ) (xs : List A) → length (numbered from xs) ≡ length xs
  unfolding numbered
  numbered_length from [] = refl
  numbered_length from (x ∷ xs) = ap suc (numbered_length (suc from) xs)

  pub numbered_last : (from : ℕ) (xs : List A) (x : A)
      → numbered from (xs ++ (x ∷ [])) ≡ numbered from xs ++ ((from + length xs, x) ∷ [])
  unfolding numbered
  numbered_last from [] x = let e : from + 0 ≡ from = omega arith in rw e
  numbered_last from (y ∷ xs) x =
      let e : from + suc (length xs) ≡ suc from + length xs = omega arith in
      rw (numbered_last (suc from) xs x, e)

  numbered_at : (none : A) (from : ℕ) (xs : List A) (i : ℕ) → i < length xs
      → get_or (numbered from xs) i (0, none) ≡ (from + i, get_or xs i none)
  unfolding numbered
  numbered_at none from [] i l = absurd (omega arith)
  numbered_at none from (x ∷ xs) zero l = let e : from + 0 ≡ from = omega arith in rw e
  numbered_at none from (x ∷ xs) (suc i) l =
      let e : from + suc i ≡ suc from + i = omega arith in
      rw (numbered_at none (suc from) xs i (omega arith), e)

-- ---- an automaton's records

pub number_length : (n : ℕ) → length (two_bytes n) ≡ 2
unfolding two_bytes
number_length n = refl

pub state_length : (count : ℕ) (accepting rests : Bool) → length (state_bytes count accepting rests) ≡ 4
unfolding two_bytes
state_length count accepting rests = refl

abbrev record_of : ℕ × State → List ℕ
record_of x = state_record x.0 x.1

record_length : (x : ℕ × State) → length (record_of x) ≡ 4
unfolding state_record
record_length x = state_length (length x.1.transitions) x.1.accepting (at_rest x.0 x.1)

pub transition_length : (t : Transition) → length (transition_record t) ≡ 4
unfolding transition_record two_bytes
transition_length t = refl

pub states_length : (a : Automaton) → length (state_records a) ≡ length a.states * 4
unfolding state_records
states_length a =
    records_length record_of 4 record_length (numbered 0 a.states) ∙ rw (numbered_length 0 a.states)

-- the record of state i begins at byte 4 * i, whatever follows
module _ (a : Automaton) (rest : List ℕ) (i : ℕ) (inside : i < length a.states) where
  there : i < length (numbered 0 a.states)
  there = omega (arith, numbered_length 0 a.states)

  here : get_or (numbered 0 a.states) i (0, no_state) ≡ (i, get_or a.states i no_state)
  here = let e : 0 + i ≡ i = omega arith in numbered_at no_state 0 a.states i inside ∙ rw e

  pub state_byte_at : (j k : ℕ) → j < 4 → k ≡ 4 * i + j
      → get_or (state_records a ++ rest) k 0 ≡ get_or (state_record i (get_or a.states i no_state)) j 0
  unfolding state_records
  state_byte_at j k l e =
      byte_at record_of 4 record_length (0, no_state) (numbered 0 a.states) rest i j k there l e ∙ rw here

  pub state_number_at : (j k : ℕ) → j + 1 < 4 → k ≡ 4 * i + j
      → number_at (state_records a ++ rest) k ≡ number_at (state_record i (get_or a.states i no_state)) j
  unfolding state_records
  state_number_at j k l e =
      number_at_lem record_of 4 record_length (0, no_state) (numbered 0 a.states) rest i j k there l e ∙ rw here

transitions_length : (ts : List Transition) → length (records transition_record ts) ≡ length ts * 4
transitions_length ts = records_length transition_record 4 transition_length ts

pub transitions_count : (ss : List State)
    → length (records (λ s. records transition_record s.transitions) ss) ≡ transition_count ss * 4
unfolding records transition_count
transitions_count [] = refl
transitions_count (s ∷ ss) = rw length-append (omega (arith, transitions_length s.transitions, transitions_count ss))
