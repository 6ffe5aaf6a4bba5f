-- Reading records back: the numbers, transitions and states that the reader makes of them, whatever follows. Assumes
-- nothing.
use Prim.Native.Nat.{ℕ, zero, suc, ◌+◌, ◌*◌, ◌/◌, ◌%◌}
use mathlib.Core.Path.{◌≡◌, refl, ◌∙◌, ap, ap₂}
use mathlib.Core.List.{List, [], ◌∷◌, ◌++◌, append_assoc}
use mathlib.Core.Bool.{Bool, true, false, cond}
use native.Mathlib.Omega.{arith}
use lib.ListN.{length}
use lib.Seq.{drop_at}
use lib.Dec.{eqb}
use Rattle.automaton.specs.Automaton.{Transition, State}
use Rattle.automaton.specs.Records.{records, numbered, numbered_records, state_record, transition_record}
use Rattle.answer.specs.Bytes.{two_bytes}
use Rattle.automaton.specs.Tables.{transition_count}
use Rattle.automaton.proofs.Records.{records_length, transition_length}
use Rattle.image.specs.Reader.{count_sum, transitions_from, states_from, numbers_from}

-- a number's two bytes
pub number_read : (n : ℕ) → n % 256 + 256 * (n / 256) ≡ n
number_read n = omega arith

pub numbers_read : (ns rest : List ℕ) → numbers_from (length ns) (records two_bytes ns ++ rest) ≡ ns
unfolding numbers_from records two_bytes
numbers_read [] rest = refl
numbers_read (n ∷ ns) rest = ap₂ {C = List ℕ} (λ m ms. m ∷ ms) (number_read n) (numbers_read ns rest)

transitions_read : (ts : List Transition) (rest : List ℕ)
    → transitions_from (length ts) (records transition_record ts ++ rest) ≡ ts
unfolding transitions_from records transition_record two_bytes
transitions_read [] rest = refl
transitions_read (t ∷ ts) rest =
    ap₂ {C = List Transition} (λ n us. record { must = t.must; must_not = t.must_not; target = n } ∷ us)
    (number_read t.target) (transitions_read ts rest)

accepting_read : (b : Bool) → eqb (cond b 1 0) 1 ≡ b
accepting_read true = refl
accepting_read false = refl

pub states_read : (from : ℕ) (ss : List State) (rest more : List ℕ)
    → states_from (length ss) (numbered_records state_record from ss ++ rest) (records (λ s. records transition_record s.transitions) ss ++ more) ≡ ss
unfolding states_from records numbered state_record two_bytes
states_read from [] rest more = refl
states_read from (s ∷ ss) rest more =
    let past = drop_at (records transition_record s.transitions)
    (records (λ s. records transition_record s.transitions) ss ++ more) (4 * length s.transitions)
    (omega (arith, records_length transition_record 4 transition_length s.transitions)) in
    rw (number_read, accepting_read, append_assoc, transitions_read, past)
    (ap {B = List State} (λ us. s ∷ us) (states_read (suc from) ss rest more))

-- the transition counts of the state records add up to that of the states
count_cons : (number : ℕ) (s : State) (bytes : List ℕ) (n : ℕ)
    → count_sum (state_record number s ++ bytes) (suc n) ≡ length s.transitions + count_sum bytes n
unfolding count_sum state_record two_bytes
count_cons number s bytes zero = omega arith
count_cons number s bytes (suc n) =
    let a : 4 * suc n ≡ suc (suc (suc (suc (4 * n)))) = omega arith in
    let b : 4 * suc n + 1 ≡ suc (suc (suc (suc (4 * n + 1)))) = omega arith in
    rw (b, a) (omega (arith, count_cons number s bytes n))

pub counts_add : (from : ℕ) (ss : List State) (rest : List ℕ)
    → count_sum (numbered_records state_record from ss ++ rest) (length ss) ≡ transition_count ss
unfolding records numbered transition_count count_sum state_record two_bytes
counts_add from [] rest = refl
counts_add from (s ∷ ss) rest =
    rw append_assoc (count_cons from s (numbered_records state_record (suc from) ss ++ rest) (length ss) ∙ ap
    (λ (n : ℕ). length s.transitions + n) (counts_add (suc from) ss rest))
