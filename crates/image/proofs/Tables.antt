-- The records of an automaton that was read from three tables are the tables' own bytes. Assumes that these are bytes.
use mathlib.Core.Path.{◌≡◌, refl, sym, ap, ◌∙◌}
use mathlib.Core.Bool.{cond}
use mathlib.Core.List.{List, [], ◌∷◌}
use Prim.Native.Nat.{ℕ, zero, suc, ◌+◌, ◌*◌, ◌/◌, ◌%◌, ◌≤◌, ◌<◌}
use native.Mathlib.Omega.{arith}
use lib.ListN.{length, get_or, take, drop, length-drop}
use lib.Seq.{get_or-drop, take-add}
use lib.Dec.{eqb}
use borrow.Author.Tests.{eqb-true}
use Rattle.answer.specs.Result.{fine}
use Rattle.answer.proofs.Results.{require_fine}
use Rattle.automaton.specs.Automaton.{no_state, at_rest}
use Rattle.automaton.specs.Records.{records, numbered, numbered_records, state_record, transition_record, state_records}
use Rattle.automaton.specs.Records.{transition_records, initial_records}
use Rattle.answer.specs.Bytes.{two_bytes, number_at}
use Rattle.automaton.specs.Tables.{Counts, counts, transition_count}
use Rattle.image.specs.Image.{image_length, image_bytes}
use Rattle.image.specs.Memory.{joined_bodies}
use Rattle.image.specs.Reader.{count_sum, rest_check, records_check}
use Rattle.image.specs.Reader.{transitions_from, states_from, numbers_from, automaton_from}
use Rattle.image.proofs.Sums.{StateFits, state_fine}
use Rattle.image.proofs.RecordsFit.{RecordsFit, fine_fit}
use Rattle.image.proofs.Sizes.{image_size}

-- a list of bytes
abbrev pub Bytes : List ℕ → Type 0
Bytes xs = (i : ℕ) → get_or xs i 0 < 256

pub drop_bytes : (n : ℕ) (xs : List ℕ) → Bytes xs → Bytes (drop n xs)
drop_bytes n xs b i = rw (get_or-drop n xs i 0) (b (n + i))

-- a number gives back its two bytes
pub two_back : (low high : ℕ) → low < 256 → two_bytes (low + 256 * high) ≡ low ∷ (high ∷ [])
unfolding two_bytes
two_back low high lt =
    let e : (low + 256 * high) % 256 ≡ low = omega arith in
    let f : (low + 256 * high) / 256 ≡ high = omega arith in
    rw (e, f)

-- the first bytes of a list by themselves
front_two : (xs : List ℕ) (n : ℕ) → 2 ≤ length xs
    → take (suc (suc n)) xs ≡ get_or xs 0 0 ∷ (get_or xs 1 0 ∷ take n (drop 2 xs))
front_two [] n le = absurd (omega arith)
front_two (x ∷ []) n le = absurd (omega arith)
front_two (x ∷ (y ∷ xs)) n le = refl

front_four : (xs : List ℕ) (n : ℕ) → 4 ≤ length xs
    → take (suc (suc (suc (suc n)))) xs ≡ get_or xs 0 0 ∷ (get_or xs 1 0 ∷ (get_or xs 2 0 ∷ (get_or xs 3 0 ∷ take n (drop 4 xs))))
front_four [] n le = absurd (omega arith)
front_four (x ∷ xs) n le = ap {B = List ℕ} (λ l. x ∷ l) (three xs (omega arith))
  where
    three : (xs : List ℕ) → 3 ≤ length xs
        → take (suc (suc (suc n))) xs ≡ get_or xs 0 0 ∷ (get_or xs 1 0 ∷ (get_or xs 2 0 ∷ take n (drop 3 xs)))
    three [] le = absurd (omega arith)
    three (x ∷ xs) le = ap {B = List ℕ} (λ l. x ∷ l) (front_two xs n (omega arith))

-- transition records
pub transitions_length : (n : ℕ) (t : List ℕ) → length (transitions_from n t) ≡ n
unfolding transitions_from
transitions_length zero t = refl
transitions_length (suc n) t = ap suc (transitions_length n (drop 4 t))

transitions_bytes_lem : (n : ℕ) (t : List ℕ) → Bytes t → 4 * n ≤ length t
    → records transition_record (transitions_from n t) ≡ take (4 * n) t
unfolding records transition_record transitions_from
transitions_bytes_lem zero t b le = refl
transitions_bytes_lem (suc n) t b le =
    let e : 4 * suc n ≡ suc (suc (suc (suc (4 * n)))) = omega arith in
    rw (
      e,
      front_four t (4 * n) (omega arith),
      two_back (get_or t 2 0) (get_or t 3 0) (b 2),
      transitions_bytes_lem n
          (drop 4 t) (drop_bytes 4 t b) (rw (length-drop 4 t) (omega arith)),
    )

-- initial numbers
numbers_length : (n : ℕ) (xs : List ℕ) → length (numbers_from n xs) ≡ n
unfolding numbers_from
numbers_length zero xs = refl
numbers_length (suc n) xs = ap suc (numbers_length n (drop 2 xs))

numbers_bytes : (n : ℕ) (xs : List ℕ) → Bytes xs → 2 * n ≤ length xs
    → records two_bytes (numbers_from n xs) ≡ take (2 * n) xs
unfolding records numbers_from
numbers_bytes zero xs b le = refl
numbers_bytes (suc n) xs b le =
    let e : 2 * suc n ≡ suc (suc (2 * n)) = omega arith in
    rw (
      e,
      front_two xs (2 * n) (omega arith),
      two_back (get_or xs 0 0) (get_or xs 1 0) (b 0),
      numbers_bytes n
          (drop 2 xs) (drop_bytes 2 xs b) (rw (length-drop 2 xs) (omega arith)),
    )

-- the first state record aside
next_state : (s : List ℕ) (k j : ℕ) → get_or s (4 * suc k + j) 0 ≡ get_or (drop 4 s) (4 * k + j) 0
next_state s k j =
    let e : 4 * suc k + j ≡ 4 + (4 * k + j) = omega arith in
    rw (e, get_or-drop 4 s (4 * k + j) 0)

next_count : (s : List ℕ) (k : ℕ) → number_at s (4 * suc k) ≡ number_at (drop 4 s) (4 * k)
next_count s k =
    let e : 4 * suc k ≡ 4 + 4 * k = omega arith in
    rw (next_state s k 1, e, get_or-drop 4 s (4 * k) 0)

next_fits : (s : List ℕ) (k : ℕ) → StateFits s (suc k) → StateFits (drop 4 s) k
next_fits s k fits = record { count = rw (← next_count s k) fits.count; flag = rw (← next_state s k 2) fits.flag }

sum_none : (s : List ℕ) → count_sum s 0 ≡ 0
unfolding count_sum
sum_none s = refl

pub sum_first : (s : List ℕ) (n : ℕ) → count_sum s (suc n) ≡ number_at s 0 + count_sum (drop 4 s) n
unfolding count_sum
sum_first s zero = omega arith
sum_first s (suc n) =
    let ih : count_sum s n + number_at s (4 * n) ≡ number_at s 0 + count_sum (drop 4 s) n = sum_first s n in
    let e : number_at s (4 * suc n) ≡ number_at (drop 4 s) (4 * n) = next_count s n in
    omega arith

-- state records, and the transitions that belong to each
pub states_length : (n : ℕ) (s t : List ℕ) → length (states_from n s t) ≡ n
unfolding states_from
states_length zero s t = refl
states_length (suc n) s t = ap suc (states_length n (drop 4 s) (drop (4 * number_at s 0) t))

states_count : (n : ℕ) (s t : List ℕ) → transition_count (states_from n s t) ≡ count_sum s n
unfolding states_from transition_count
states_count zero s t = sym (sum_none s)
states_count (suc n) s t =
    rw (sum_first s n, transitions_length (number_at s 0) t, states_count n (drop 4 s) (drop (4 * number_at s 0) t))

flag_back : (x : ℕ) → x ≤ 1 → cond (eqb x 1) 1 0 ≡ x
flag_back zero le = refl
flag_back (suc zero) le = refl
flag_back (suc (suc x)) le = absurd (omega arith)

-- the last byte of each of n state records is right, where their numbers begin with from
abbrev Rests : (from n : ℕ) (s t : List ℕ) → Type 0
Rests from n s t =
    (k : ℕ) → k < n → get_or s (4 * k + 3) 0 ≡ cond (at_rest (from + k) (get_or (states_from n s t) k no_state)) 1 0

next_rests : (from n : ℕ) (s t : List ℕ) → Rests from (suc n) s t
    → Rests (suc from) n (drop 4 s) (drop (4 * number_at s 0) t)
unfolding states_from
next_rests from n s t rests k lt =
    let e : from + suc k ≡ suc from + k = omega arith in
    sym (next_state s k 3) ∙ rests (suc k) (omega arith) ∙ rw e

states_bytes_lem : (from n : ℕ) (s t : List ℕ) → Bytes s → 4 * n ≤ length s → ((k : ℕ) → k < n → StateFits s k)
    → Rests from n s t → numbered_records state_record from (states_from n s t) ≡ take (4 * n) s
unfolding records numbered state_record states_from
states_bytes_lem from zero s t b le fits rests = refl
states_bytes_lem from (suc n) s t b le fits rests =
    let e : 4 * suc n ≡ suc (suc (suc (suc (4 * n)))) = omega arith in
    let z : from + 0 ≡ from = omega arith in
    let first = fits 0 (omega arith) in
    let last = rw z at (rests 0 (omega arith)) in
    rw (
      e,
      front_four s (4 * n) (omega arith),
      transitions_length (number_at s 0) t,
      two_back (get_or s 0 0) (get_or s 1 0) (b 0),
      flag_back (get_or s 2 0) first.flag,
      last,
      states_bytes_lem (suc from) n (drop 4 s) (drop (4 * number_at s 0) t) (drop_bytes 4 s b)
          (rw (length-drop 4 s) (omega arith)) (λ k lt. next_fits s k (fits (suc k) (omega arith)))
          (next_rests from n s t rests),
    )

grouped_bytes : (n : ℕ) (s t : List ℕ) → Bytes t → 4 * count_sum s n ≤ length t
    → records (λ q. records transition_record q.transitions) (states_from n s t) ≡ take (4 * count_sum s n) t
unfolding records states_from
grouped_bytes zero s t b le = rw (sum_none s)
grouped_bytes (suc n) s t b le =
    let m : ℕ = number_at s 0 in
    let e : 4 * (m + count_sum (drop 4 s) n) ≡ 4 * m + 4 * count_sum (drop 4 s) n = omega arith in
    let room : 4 * (m + count_sum (drop 4 s) n) ≤ length t = rw (← sum_first s n) le in
    rw (
      sum_first s n,
      e,
      take-add (4 * m) (4 * count_sum (drop 4 s) n) t,
      transitions_bytes_lem m t b (omega arith),
      grouped_bytes n (drop 4 s) (drop (4 * m) t) (drop_bytes (4 * m) t b) (rw (length-drop (4 * m) t) (omega arith)),
    )

-- what 11 to 13 say of the counts
module _ (c : Counts) (s t i : List ℕ) (checked : records_check c s t i ≡ fine) where
  pub counts_back : counts (automaton_from c s t i) ≡ c
  unfolding automaton_from
  counts_back =
      rw (
        states_length c.states s t,
        states_count c.states s t,
        (fine_fit c s t i checked).sum,
        numbers_length
            c.initial i,
      )

-- three tables that hold the records of c and pass 11 to 13
pub record Passed (c : Counts) (s t i : List ℕ) : Type 0 where
  pub state_bytes_lem : Bytes s
  pub transition_bytes_lem : Bytes t
  pub initial_bytes_lem : Bytes i
  pub state_room : 4 * c.states ≤ length s
  pub transition_room : 4 * c.transitions ≤ length t
  pub initial_room : 2 * c.initial ≤ length i
  pub checked : records_check c s t i ≡ fine

-- the last bytes are right
pub rests_right : {c : Counts} {s t i : List ℕ} → RecordsFit c s t i → Rests 0 c.states s t
unfolding rest_check
rests_right {c} {s} {t} fit k lt =
    let e : 0 + k ≡ k = omega arith in
    rw e (eqb-true (get_or s (4 * k + 3) 0) _ (require_fine _ 11 k (fit.rests k lt)))

module _ (c : Counts) (s t i : List ℕ) (passed : Passed c s t i) where
  fit : RecordsFit c s t i
  fit = fine_fit c s t i passed.checked

  pub states_back : state_records (automaton_from c s t i) ≡ take (4 * c.states) s
  unfolding state_records automaton_from
  states_back =
      states_bytes_lem 0 c.states s t passed.state_bytes_lem passed.state_room
      (λ k lt. state_fine s k (fit.states k lt))
      (rests_right fit)

  pub transitions_back : transition_records (automaton_from c s t i) ≡ take (4 * c.transitions) t
  unfolding transition_records automaton_from
  transitions_back =
      grouped_bytes c.states s t passed.transition_bytes_lem (rw fit.sum passed.transition_room) ∙ rw fit.sum

  pub initial_back : initial_records (automaton_from c s t i) ≡ take (2 * c.initial) i
  unfolding initial_records automaton_from
  initial_back = numbers_bytes c.initial i passed.initial_bytes_lem passed.initial_room

  -- so its image is the contents and the used bytes
  pub image_back : image_bytes (automaton_from c s t i) ≡ joined_bodies c s t i
  unfolding image_bytes
  image_back = rw (counts_back c s t i passed.checked, states_back, transitions_back, initial_back)

  pub image_length_lem : length (joined_bodies c s t i) ≡ image_length c
  image_length_lem =
      ap length (sym image_back) ∙ image_size (automaton_from c s t i) ∙ ap image_length
      (counts_back c s t i passed.checked)
