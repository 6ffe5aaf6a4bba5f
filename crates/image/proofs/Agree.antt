-- What is read from tables hangs on their used bytes alone: tables that agree there are read alike, byte by byte.
-- Assumes nothing.
use mathlib.Core.Path.{◌≡◌, refl, sym, ◌∙◌}
use mathlib.Core.List.{List, [], ◌∷◌, ◌++◌}
use Prim.Native.Nat.{ℕ, zero, suc, ◌+◌, ◌*◌, ◌≤◌, ◌<◌}
use native.Mathlib.Omega.{arith}
use lib.ListN.{length, get_or, take, drop, replicate, length-append, length-replicate, get_or-append}
use lib.Seq.{get_or-drop, get_or-take, length-take-le}
use Rattle.answer.specs.Result.{accepted, fine}
use Rattle.answer.proofs.Zeros.{zeros_at}
use Rattle.automaton.specs.Automaton.{Automaton}
use Rattle.automaton.specs.Tables.{Counts}
use Rattle.answer.specs.Bytes.{number_at}
use Rattle.image.specs.Reader.{state_check, count_sum, rest_check, transition_record_check, initial_check}
use Rattle.image.specs.Reader.{records_check}
use Rattle.image.specs.Reader.{transitions_from, states_from, numbers_from, automaton_from, read_tables}
use Rattle.image.proofs.Before.{follows}
use Rattle.image.proofs.RecordsFit.{RecordsFit, fine_fit, fit_fine}
use Rattle.image.proofs.Tables.{Bytes, sum_first}

-- the first n bytes are the same
pub record Agree (n : ℕ) (xs ys : List ℕ) : Type 0 where
  pub at : (k : ℕ) → k < n → get_or xs k 0 ≡ get_or ys k 0

-- a table that was made longer by zeros says the same, and is as long as it is asked to be
longer_at : (n : ℕ) (xs : List ℕ) (k : ℕ) → get_or (xs ++ replicate n 0) k 0 ≡ get_or xs k 0
longer_at n [] k = zeros_at n k
longer_at n (x ∷ xs) zero = refl
longer_at n (x ∷ xs) (suc k) = longer_at n xs k

abbrev pub longer : ℕ → List ℕ → List ℕ
longer n xs = xs ++ replicate n 0

pub longer_agrees : (n : ℕ) (xs : List ℕ) → Agree n xs (longer n xs)
longer_agrees n xs = record { at = λ k lt. sym (longer_at n xs k) }

pub longer_bytes : (n : ℕ) (xs : List ℕ) → Bytes xs → Bytes (longer n xs)
longer_bytes n xs bytes k = rw (longer_at n xs k) (bytes k)

pub longer_room : (n : ℕ) (xs : List ℕ) → n ≤ length (longer n xs)
longer_room n xs = rw (length-append xs (replicate n 0), length-replicate {A = ℕ} n 0) (omega arith)

-- the used bytes, whatever stands behind them
pub front_agrees : (n : ℕ) (xs rest : List ℕ) → n ≤ length xs → Agree n xs (take n xs ++ rest)
front_agrees n xs rest le =
    record {
      at = λ k lt. sym (get_or-append (take n xs) rest 0 k (rw (length-take-le n xs le) lt) ∙ get_or-take n xs k
          0 lt);
    }

pub fewer_agree : {n : ℕ} {xs ys : List ℕ} (m : ℕ) → m ≤ n → Agree n xs ys → Agree m xs ys
fewer_agree m le same = record { at = λ k lt. same.at k (omega arith) }

module _ {n : ℕ} {xs ys : List ℕ} (same : Agree n xs ys) where
  numbers_agree : (i : ℕ) → i + 1 < n → number_at xs i ≡ number_at ys i
  numbers_agree i lt = rw (same.at i (omega arith), same.at (i + 1) lt)

  drops_agree : (m k : ℕ) → m + k ≤ n → Agree k (drop m xs) (drop m ys)
  drops_agree m k le =
      record { at = λ j lt. get_or-drop m xs j 0 ∙ same.at (m + j) (omega arith) ∙ sym (get_or-drop m ys j 0) }

-- the checks
module _ (n : ℕ) (xs ys : List ℕ) (same : Agree (4 * n) xs ys) (k : ℕ) (lt : k < n) where
  state_checked : state_check xs k ≡ state_check ys k
  unfolding state_check
  state_checked = rw (numbers_agree same (4 * k) (omega arith), same.at (4 * k + 2) (omega arith))

  transition_checked : (m : ℕ) → transition_record_check m xs k ≡ transition_record_check m ys k
  unfolding transition_record_check
  transition_checked m =
      rw (
        numbers_agree same (4 * k + 2) (omega arith),
        same.at (4 * k) (omega arith),
        same.at (4 * k + 1)
            (omega arith),
      )

sums_agree : (n : ℕ) (xs ys : List ℕ) → Agree (4 * n) xs ys → count_sum xs n ≡ count_sum ys n
unfolding count_sum
sums_agree zero xs ys same = refl
sums_agree (suc n) xs ys same =
    rw (sums_agree n xs ys (fewer_agree (4 * n) (omega arith) same), numbers_agree same (4 * n) (omega arith))

initial_checked : (m n : ℕ) (xs ys : List ℕ) → Agree (2 * n) xs ys → (k : ℕ) → k < n
    → initial_check m xs k ≡ initial_check m ys k
unfolding initial_check
initial_checked m n xs ys same zero lt = rw (numbers_agree same 0 (omega arith))
initial_checked m n xs ys same (suc k) lt =
    rw (numbers_agree same (2 * suc k) (omega arith), numbers_agree same (2 * k) (omega arith))

-- the records
transitions_read : (n : ℕ) (xs ys : List ℕ) → Agree (4 * n) xs ys → transitions_from n xs ≡ transitions_from n ys
unfolding transitions_from
transitions_read zero xs ys same = refl
transitions_read (suc n) xs ys same =
    rw (
      same.at 0 (omega arith),
      same.at 1 (omega arith),
      numbers_agree same 2 (omega arith),
      transitions_read n
          (drop 4 xs) (drop 4 ys) (drops_agree same 4 (4 * n) (omega arith)),
    )

numbers_read : (n : ℕ) (xs ys : List ℕ) → Agree (2 * n) xs ys → numbers_from n xs ≡ numbers_from n ys
unfolding numbers_from
numbers_read zero xs ys same = refl
numbers_read (suc n) xs ys same =
    rw (
      numbers_agree same 0 (omega arith),
      numbers_read n (drop 2 xs) (drop 2 ys)
          (drops_agree same 2 (2 * n) (omega arith)),
    )

states_read : (n : ℕ) (xs ys us vs : List ℕ) → Agree (4 * n) xs ys → Agree (4 * count_sum xs n) us vs
    → states_from n xs us ≡ states_from n ys vs
unfolding states_from
states_read zero xs ys us vs same match = refl
states_read (suc n) xs ys us vs same match =
    let sum : count_sum xs (suc n) ≡ number_at xs 0 + count_sum (drop 4 xs) n = sum_first xs n in
    let count : number_at xs 0 ≡ number_at ys 0 = numbers_agree same 0 (omega arith) in
    let flag = same.at 2 (omega arith) in
    rw (
      ← count,
      flag,
      transitions_read (number_at xs 0) us vs (fewer_agree (4 * number_at xs 0) (omega arith) match),
      states_read n (drop 4 xs) (drop 4 ys) (drop (4 * number_at xs 0) us) (drop (4 * number_at xs 0) vs)
          (drops_agree same 4 (4 * n) (omega arith))
          (drops_agree match (4 * number_at xs 0) (4 * count_sum (drop 4 xs) n) (omega arith)),
    )

-- tables that are read are read alike wherever they agree
module _ (c : Counts) (s t i s₁ t₁ i₁ : List ℕ) (states : Agree (4 * c.states) s s₁)
    (transitions : Agree (4 * c.transitions) t t₁) (initial : Agree (2 * c.initial) i i₁) where
  rest_checked : (k : ℕ) → k < c.states → RecordsFit c s t i → rest_check (states_from c.states s₁ t₁) s₁ k ≡ fine
  unfolding rest_check
  rest_checked k lt fit =
      rw (
        ← states_read c.states s s₁ t t₁ states (rw fit.sum transitions),
        ← states.at (4 * k + 3) (omega arith),
      ) (fit.rests k lt)

  records_agree : RecordsFit c s t i → RecordsFit c s₁ t₁ i₁
  records_agree fit = record {
    states = λ k lt. sym (state_checked c.states s s₁ states k lt) ∙ fit.states k lt;
    sum = sym (sums_agree c.states s s₁ states) ∙ fit.sum;
    rests = λ k lt. rest_checked k lt fit;
    transitions = λ k lt. sym (transition_checked c.transitions t t₁ transitions k lt c.states) ∙ fit.transitions k lt;
    initial = λ k lt. sym (initial_checked c.states c.initial i i₁ initial k lt) ∙ fit.initial k lt;
  }

  pub tables_agree : (a : Automaton) → read_tables c s t i ≡ accepted a → read_tables c s₁ t₁ i₁ ≡ accepted a
  unfolding read_tables automaton_from
  tables_agree a e =
      let read = follows (records_check c s t i) (accepted (automaton_from c s t i)) a e in
      let fit = fine_fit c s t i read.passed in
      rw (
        fit_fine c s₁ t₁ i₁ (records_agree fit),
        ← states_read c.states s s₁ t t₁ states (rw fit.sum transitions),
        ←
            numbers_read c.initial i i₁ initial,
      ) read.answer
