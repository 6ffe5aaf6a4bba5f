-- The calls start and step: answer, place and every byte of the lent set, for every input (02, R-10).
use Rattle.std.specs.Prelude.{ℕ, zero, suc, List, Bool, cond, length, leb}
use Rattle.answer.specs.Result.{Result, accepted, refused, and_then, require}
use Rattle.answer.specs.Bytes.{filled}
use Rattle.lasso.specs.Lasso.{remains}
use Rattle.automaton.specs.Automaton.{Automaton}
use Rattle.image.specs.Reader.{read_image}
use Rattle.field.specs.Sets.{set_bytes, in_set, packed, begun, moved, is_empty}

-- an answer, and the lent set afterwards
pub record Watch : Type 0 where
  pub answer : Result Bool
  pub set : List ℕ

abbrev pub watch : Result Bool → List ℕ → Watch
watch answer set = record { answer = answer; set = set }

-- a set that is left, and whether the alarm is raised
abbrev pub left : Automaton → List ℕ → Watch
left a set = watch (accepted (is_empty a (in_set set))) set

-- the initial states in the lent set, and zero behind its bytes (R-10, sentence 2)
abbrev pub begins : Automaton → List ℕ → Watch
begins a set = left a (filled set (packed (begun a)))

-- a letter: one that remains leaves the states that it leads to, with the bits of all other numbers 0, and zero behind
-- the set's bytes; a skipped one changes nothing (R-10, sentence 2)
abbrev pub advances : Automaton → (set : List ℕ) (x : ℕ) → Watch
advances a set x = left a (cond (remains x) (filled set (packed (moved a (in_set set) x))) set)

-- 25: the lent slice is too short for a set; then the image's 10 to 13; else the automaton that is watched
unfoldable pub watchable : (image set : List ℕ) → Result Automaton
watchable image set = and_then (require (leb set_bytes (length set)) 25 0) (λ _. read_image image)

-- a refusal leaves the set as it was
abbrev pub unless_refused : Result Automaton → (Automaton → Watch) → (set : List ℕ) → Watch
unless_refused (accepted a) next set = next a
unless_refused (refused number place) next set = watch (refused number place) set

unfoldable pub started : (image set : List ℕ) → Watch
started image set = unless_refused (watchable image set) (λ a. begins a set) set

unfoldable pub stepped : (image set : List ℕ) (x : ℕ) → Watch
stepped image set x = unless_refused (watchable image set) (λ a. advances a set x) set

-- start, then a step for each of a word's first n letters, each on the set that the call before it left: the answer and
-- the set of the last call
unfoldable pub after_steps : (image set : List ℕ) (word : ℕ → ℕ) (n : ℕ) → Watch
after_steps image set word zero = started image set
after_steps image set word (suc n) = stepped image (after_steps image set word n).set (word n)
