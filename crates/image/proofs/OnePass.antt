-- R-4: the pass over the state records gives the lowest one that is refused, else the sum of the counts; so every
-- image, and all tables that are written, get the answer that two walks over the records would give. Assumes nothing.
use mathlib.Core.Path.{◌≡◌, refl}
use mathlib.Core.List.{List}
use Prim.Native.Nat.{ℕ, zero, suc, ◌+◌, ◌*◌}
use lib.Dec.{eqb}
use Rattle.answer.specs.Bytes.{number_at}
use Rattle.answer.specs.Result.{accepted, refused, and_then, Check, require, lowest}
use Rattle.automaton.specs.Tables.{Counts}
use Rattle.image.specs.Image.{states_body, transitions_body, initial_body}
use Rattle.image.specs.Reader.{counts_at, contents_check, state_check, state_pass, sum_check, states_check}
use Rattle.image.specs.Reader.{rests_check, transition_record_check, initial_check, records_check}
use Rattle.image.specs.Reader.{count_sum, automaton_from, read_tables, read_image}
use Rattle.image.specs.Lookup.{image_automaton}

-- the pass: the refusal of the lowest record that is refused or, where none is, the sum of the counts
pub one_pass : (states : List ℕ) (n : ℕ)
    → state_pass states n ≡ and_then (lowest (state_check states) n) (λ _. accepted (count_sum states n))
unfolding state_pass lowest count_sum
one_pass states zero = refl
one_pass states (suc n) = rw (one_pass states n) (go (lowest (state_check states) n) (state_check states n))
  where
    go : (before this : Check)
        → and_then (and_then before (λ _. accepted (count_sum states n)))
        (λ sum. and_then this (λ _. accepted (sum + number_at states (4 * n))))
        ≡ and_then (and_then before (λ _. this)) (λ _. accepted (count_sum states n + number_at states (4 * n)))
    go (accepted u) this = refl
    go (refused number place) this = refl

-- 11 to 13 with no pass: each state record by itself, then the sum of their counts, then all else
abbrev records_apart : Counts → (states transitions initial : List ℕ) → Check
records_apart c states transitions initial =
    and_then (lowest (state_check states) c.states)
    (λ _. and_then (require (eqb (count_sum states c.states) c.transitions) 11 c.states)
    (λ _. and_then (rests_check c states transitions)
    (λ _. and_then (lowest (transition_record_check c.states transitions) c.transitions)
    (λ _. lowest (initial_check c.states initial) c.initial))))

-- three tables get the same answer, from the writer and the reader
pub same_tables : (c : Counts) (s t i : List ℕ)
    → read_tables c s t i ≡ and_then (records_apart c s t i) (λ _. accepted (automaton_from c s t i))
unfolding read_tables records_check states_check
same_tables c s t i =
    rw (one_pass s c.states)
    (go (lowest (state_check s) c.states) (count_sum s c.states) (sum_check c)
    (and_then (rests_check c s t) (λ _. and_then (lowest (transition_record_check c.states t) c.transitions)
    (λ _. lowest (initial_check c.states i) c.initial))))
  where
    go : (first : Check) (sum : ℕ) (second : ℕ → Check) (rest : Check)
        → and_then (and_then (and_then (and_then first (λ _. accepted sum)) second) (λ _. rest))
        (λ _. accepted (automaton_from c s t i))
        ≡ and_then (and_then first (λ _. and_then (second sum) (λ _. rest))) (λ _. accepted (automaton_from c s t i))
    go (accepted u) sum second rest = refl
    go (refused number place) sum second rest = refl

-- every image gets the same answer, and a refused one the same first fault
pub same_image : (image : List ℕ)
    → read_image image
    ≡ and_then (contents_check image)
    (λ _. and_then (records_apart (counts_at image)
    (states_body image) (transitions_body (counts_at image) image) (initial_body (counts_at image) image))
    (λ _. accepted (image_automaton image)))
unfolding read_image
same_image image =
    rw (same_tables (counts_at image)
    (states_body image) (transitions_body (counts_at image) image) (initial_body (counts_at image) image))
