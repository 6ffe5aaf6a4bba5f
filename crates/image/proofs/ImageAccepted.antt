-- The reader accepts the image of a well-formed automaton and gives the same automaton: the contents pass 10, the
-- records pass 11 to 13, and they read back. Assumes nothing.
use Prim.Native.Nat.{ℕ, zero, suc, ◌+◌, ◌*◌, ◌≤◌, ◌<◌}
use mathlib.Core.Path.{◌≡◌, refl, ◌∙◌, ap}
use mathlib.Core.Logic.{◌⊎◌, inl, inr}
use mathlib.Core.List.{List, [], ◌∷◌, ◌++◌, append-nil}
use mathlib.Core.Bool.{Bool, true, false, cond}
use native.Mathlib.Omega.{arith}
use lib.ListN.{get_or, length, length-append}
use lib.Dec.{leb}
use lib.Bits.{bit_and}
use borrow.Author.Tests.{lt-ltb, le-leb, eq-eqb}
use Rattle.answer.specs.Result.{accepted, fine}
use Rattle.lasso.specs.Lasso.{skipped}
use Rattle.automaton.specs.Automaton.{Transition, State, Automaton, no_state, at_rest}
use Rattle.sets.specs.Sets.{In}
use Rattle.automaton.specs.Limits.{max_states, max_of_state, max_transitions, max_initial}
use Rattle.automaton.specs.Records.{records, state_record, transition_record, state_records, transition_records}
use Rattle.automaton.specs.Records.{initial_records}
use Rattle.answer.specs.Bytes.{two_bytes, number_at}
use Rattle.automaton.specs.Tables.{counts, transition_count}
use Rattle.image.specs.Image.{image_bytes}
use Rattle.image.specs.Reader.{counts_fit, state_check, states_from, rest_check, label_fits, transition_record_check}
use Rattle.image.specs.Reader.{initial_check, automaton_from, read_tables, read_image}
use Rattle.sets.proofs.Members.{at_in, append_in}
use Rattle.automaton.proofs.WellFormed.{WellFormed, few_together}
use Rattle.automaton.proofs.Records.{records_append, byte_at, number_at_lem, number_length, transition_length}
use Rattle.automaton.proofs.Records.{state_byte_at, state_number_at}
use Rattle.image.proofs.RecordsFit.{RecordsFit, fit_fine}
use Rattle.image.proofs.Sizes.{states_size, transitions_size, initial_size}
use Rattle.image.proofs.Images.{row_read}
use Rattle.image.proofs.ReadRecords.{number_read, numbers_read, states_read, counts_add}

-- ---- the transitions of all states, one after another
together : List State → List Transition
together [] = []
together (s ∷ ss) = s.transitions ++ together ss

together_records : (ss : List State)
    → records (λ s. records transition_record s.transitions) ss ≡ records transition_record (together ss)
unfolding records together
together_records [] = refl
together_records (s ∷ ss) = rw (records_append, together_records ss)

together_length : (ss : List State) → length (together ss) ≡ transition_count ss
unfolding together transition_count
together_length [] = refl
together_length (s ∷ ss) = omega (arith, length-append s.transitions (together ss), together_length ss)

together_in : (t : Transition) (ss : List State) → In t (together ss) → (s : State) × In s ss × In t s.transitions
unfolding together
together_in t [] m = absurd m
together_in t (s ∷ ss) m = go (append_in t s.transitions (together ss) m) (together_in t ss)
  where
    go : In t s.transitions ⊎ In t (together ss) → (In t (together ss) → (u : State) × In u ss × In t u.transitions)
        → (u : State) × In u (s ∷ ss) × In t u.transitions
    go (inl h) ih = (s, inl refl, h)
    go (inr h) ih = let (u, n, k) = ih h in (u, inr n, k)

zero_or_one : (b : Bool) → leb (cond b 1 0) 1 ≡ true
zero_or_one true = refl
zero_or_one false = refl

-- any automaton: its transition records, and what is read from its records
module _ (a : Automaton) where
  transitions_are : transition_records a ≡ records transition_record (together a.states)
  unfolding transition_records
  transitions_are = together_records a.states

  -- whatever follows each body
  automaton_read : (s t i : List ℕ)
      → automaton_from (counts a) (state_records a ++ s) (transition_records a ++ t) (initial_records a ++ i) ≡ a
  unfolding automaton_from state_records transition_records initial_records
  automaton_read s t i = λ k. record { states = states_read 0 a.states s t k; initial = numbers_read a.initial i k }

-- an automaton that keeps the limits
module _ (a : Automaton) (formed : WellFormed a) where
  pub counts_fit_lem : counts_fit (counts a) ≡ true
  unfolding counts_fit
  counts_fit_lem =
      let few : transition_count a.states ≤ max_transitions =
      omega (arith, formed.states, few_together (length a.states) a.states formed.each) in
      rw (
        le-leb (length a.states) max_states formed.states,
        le-leb (transition_count a.states) max_transitions few,
        le-leb (length a.initial) max_initial formed.initial,
      )

  -- ---- 11 to 13
  module _ (rest : List ℕ) (i : ℕ) (inside : i < length a.states) where
    abbrev state : State
    state = get_or a.states i no_state

    state_count : number_at (state_records a ++ rest) (4 * i) ≡ length state.transitions
    unfolding state_record two_bytes
    state_count =
        state_number_at a rest i inside 0 (4 * i) (omega arith) (omega arith) ∙ number_read (length state.transitions)

    accepting_byte : get_or (state_records a ++ rest) (4 * i + 2) 0 ≡ cond state.accepting 1 0
    unfolding state_record two_bytes
    accepting_byte = state_byte_at a rest i inside 2 (4 * i + 2) (omega arith) refl

    last_byte : get_or (state_records a ++ rest) (4 * i + 3) 0 ≡ cond (at_rest i state) 1 0
    unfolding state_record two_bytes
    last_byte = state_byte_at a rest i inside 3 (4 * i + 3) (omega arith) refl

    state_fine : state_check (state_records a ++ rest) i ≡ fine
    unfolding state_check
    state_fine =
        let most = (formed.each state (at_in no_state a.states i inside)).few in
        let few = le-leb (length state.transitions) max_of_state most in
        rw (state_count, accepting_byte, few, zero_or_one state.accepting)

    rest_fine : (more : List ℕ)
        → rest_check (states_from (length a.states) (state_records a ++ rest) (transition_records a ++ more))
        (state_records a ++ rest) i ≡ fine
    unfolding rest_check state_records transition_records
    rest_fine more =
        rw (states_read 0 a.states rest more)
        (rw (eq-eqb (get_or (state_records a ++ rest) (4 * i + 3) 0) (cond (at_rest i state) 1 0) last_byte))

  module _ (rest : List ℕ) (i : ℕ) (inside : i < transition_count a.states) where
    none : Transition
    none = record { must = 0; must_not = 0; target = 0 }

    abbrev transition : Transition
    transition = get_or (together a.states) i none

    within : i < length (together a.states)
    within = omega (arith, together_length a.states)

    transition_target : number_at (transition_records a ++ rest) (4 * i + 2) ≡ transition.target
    unfolding transition_record two_bytes
    transition_target =
        rw (transitions_are a) (number_at_lem transition_record 4 transition_length none (together a.states) rest i 2
        (4 * i + 2) within (omega arith) refl ∙ number_read transition.target)

    transition_must : get_or (transition_records a ++ rest) (4 * i) 0 ≡ transition.must
    unfolding transition_record
    transition_must =
        rw (transitions_are a) (byte_at transition_record 4 transition_length none (together a.states) rest i 0 (4 * i)
        within (omega arith) (omega arith))

    transition_not : get_or (transition_records a ++ rest) (4 * i + 1) 0 ≡ transition.must_not
    unfolding transition_record
    transition_not =
        rw (transitions_are a) (byte_at transition_record 4 transition_length none (together a.states) rest i 1
        (4 * i + 1) within (omega arith) refl)

    transition_fine : transition_record_check (length a.states) (transition_records a ++ rest) i ≡ fine
    unfolding transition_record_check label_fits
    transition_fine =
        let (s, m, n) = together_in transition a.states (at_in none (together a.states) i within) in
        let label = (formed.each s m).labels transition n in
        rw (
          transition_target,
          transition_must,
          transition_not,
          lt-ltb transition.target (length a.states) ((formed.each s m).targets transition n),
          eq-eqb (bit_and transition.must transition.must_not) 0 label.disjoint,
          lt-ltb transition.must skipped label.must_small,
          lt-ltb transition.must_not skipped label.not_small,
        )

  initial_at_lem : (rest : List ℕ) (i : ℕ) → i < length a.initial
      → number_at (initial_records a ++ rest) (2 * i) ≡ get_or a.initial i 0
  unfolding initial_records two_bytes
  initial_at_lem rest i l =
      number_at_lem two_bytes 2 number_length 0 a.initial rest i 0 (2 * i) l (omega arith) (omega arith) ∙ number_read
      (get_or a.initial i 0)

  initial_fine : (rest : List ℕ) (i : ℕ) → i < length a.initial
      → initial_check (length a.states) (initial_records a ++ rest) i ≡ fine
  unfolding initial_check
  initial_fine rest zero l =
      rw (initial_at_lem rest 0 l, lt-ltb (get_or a.initial 0 0) (length a.states) (formed.inside 0 l))
  initial_fine rest (suc i) l =
      rw (
        initial_at_lem rest (suc i) l,
        initial_at_lem rest i (omega arith),
        lt-ltb (get_or a.initial (suc i) 0)
            (length a.states) (formed.inside (suc i) l),
        lt-ltb (get_or a.initial i 0) (get_or a.initial (suc i) 0)
            (formed.rising i l),
      )

  -- ---- the three bodies, each with what follows it
  module _ (s t i : List ℕ) where
    records_fit : RecordsFit (counts a) (state_records a ++ s) (transition_records a ++ t) (initial_records a ++ i)
    unfolding state_records
    records_fit = record {
      states = state_fine s;
      sum = counts_add 0 a.states s;
      rests = λ k lt. rest_fine s k lt t;
      transitions = transition_fine t;
      initial = initial_fine i;
    }

    pub tables_read : read_tables (counts a) (state_records a ++ s) (transition_records a ++ t) (initial_records a ++ i) ≡ accepted a
    unfolding read_tables
    tables_read = rw (fit_fine _ _ _ _ records_fit) (ap accepted (automaton_read a s t i))

-- what the reader makes of an automaton's image is that automaton
pub image_accepted : (a : Automaton) → WellFormed a → read_image (image_bytes a) ≡ accepted a
unfolding image_bytes
image_accepted a formed =
    row_read (counts a) (state_records a) (transition_records a) (initial_records a)
    (states_size a) (transitions_size a) (initial_size a) (counts_fit_lem a formed)
    ∙ (rw (append-nil (initial_records a)) at
    (tables_read a formed (transition_records a ++ initial_records a) (initial_records a) []))
