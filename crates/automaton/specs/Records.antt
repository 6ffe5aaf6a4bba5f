-- The records of an automaton as bytes: in the caller's tables and in the image alike (01, The image).
use Rattle.std.specs.Prelude.{ℕ, suc, List, [], ◌∷◌, ◌++◌, Bool, cond, length}
use Rattle.answer.specs.Bytes.{two_bytes}
use Rattle.automaton.specs.Automaton.{Transition, State, Automaton, at_rest}

-- the records of all of xs, one after another
unfoldable pub records : {A : Type 0} → (A → List ℕ) → List A → List ℕ
records bytes_of [] = []
records bytes_of (x ∷ xs) = bytes_of x ++ records bytes_of xs

-- xs, each with its number, of which the first is from
unfoldable pub numbered : {A : Type 0} → (from : ℕ) → List A → List (ℕ × A)
numbered from [] = []
numbered from (x ∷ xs) = (from, x) ∷ numbered (suc from) xs

-- the records of all of xs, where each is made of its number too; the first number is from
abbrev pub numbered_records : {A : Type 0} → (ℕ → A → List ℕ) → (from : ℕ) → List A → List ℕ
numbered_records bytes_of from xs = records (λ x. bytes_of x.0 x.1) (numbered from xs)

-- a state, in 4 bytes: how many transitions it has, then 1 if it accepts and 0 if not, then 1 if it is at rest and 0 if
-- not (01, The image, sentence 5, with the last byte of 02, R-5)
abbrev pub state_bytes : (count : ℕ) (accepting rests : Bool) → List ℕ
state_bytes count accepting rests = two_bytes count ++ (cond accepting 1 0 ∷ (cond rests 1 0 ∷ []))

-- a state that has a number; no byte shows the number, which is where the record stands
unfoldable pub state_record : (number : ℕ) → State → List ℕ
state_record number s = state_bytes (length s.transitions) s.accepting (at_rest number s)

-- a transition, in 4 bytes: its propositions, must before must_not, then the number of its target (01, The image,
-- sentence 6)
abbrev pub transition_bytes : (must must_not target : ℕ) → List ℕ
transition_bytes must must_not target = must ∷ (must_not ∷ two_bytes target)

unfoldable pub transition_record : Transition → List ℕ
transition_record t = transition_bytes t.must t.must_not t.target

unfoldable pub state_records : Automaton → List ℕ
state_records a = numbered_records state_record 0 a.states

-- the transitions of the first state, then those of the next, and so on (01, The image, sentence 6)
unfoldable pub transition_records : Automaton → List ℕ
transition_records a = records (λ s. records transition_record s.transitions) a.states

-- the numbers of the initial states, in the automaton's own order; a translation's, and that of an image that is
-- read, rises (01, The image, sentence 7)
unfoldable pub initial_records : Automaton → List ℕ
initial_records a = records two_bytes a.initial
