-- A Büchi automaton (document 01's watcher) with labels on its transitions, and its runs. A rule's automaton and an
-- image's records are both such a value.
use Rattle.std.specs.Prelude.{ℕ, suc, ◌+◌, ◌*◌, ◌<◌, ◌≤◌, ◌≡◌, List, [], ◌↔◌, Bool, true, false, ◌&&◌, get_or, length}
use Rattle.std.specs.Prelude.{eqb}
use Rattle.std.specs.Int.Bits.{bit_and, bit_or}
use Rattle.sets.specs.Sets.{In, any}
use Rattle.lasso.specs.Lasso.{letter}

pub record Transition : Type 0 where
  pub must : ℕ
  pub must_not : ℕ
  pub target : ℕ

pub record State : Type 0 where
  pub accepting : Bool
  pub transitions : List Transition

pub record Automaton : Type 0 where
  pub states : List State
  pub initial : List ℕ

-- no state: it has no transitions and does not accept
abbrev pub no_state : State
no_state = record { accepting = false; transitions = [] }

-- whether a transition can be taken at a letter: the letter has every proposition of must and none of must_not (01,
-- First walk and second walk, sentence 6)
abbrev pub reads : Transition → (letter : ℕ) → Bool
reads t a = eqb (bit_or t.must a) a && eqb (bit_and t.must_not a) 0

-- a free transition to state q: it asks for no proposition and forbids none, so it reads every letter (01, First walk
-- and second walk, sentence 6)
abbrev pub free_to : (q : ℕ) → Transition → Bool
free_to q t = eqb t.must 0 && (eqb t.must_not 0 && eqb t.target q)

-- state q is at rest: an accepting state from which a free transition leads back to it (02, R-5)
unfoldable pub at_rest : (q : ℕ) → State → Bool
at_rest q s = s.accepting && any (free_to q) s.transitions

-- a step of a run from state q at letter a: some transition of q can be taken there, and next is where it leads (01,
-- Judging, sentence 2)
abbrev pub Step : Automaton → (state letter next : ℕ) → Type 0
Step automaton q a next =
    (t : Transition) × In t (get_or automaton.states q no_state).transitions × (reads t a ≡ true) × (next ≡ t.target)

-- state q is an accepting one
abbrev pub Accepts : Automaton → ℕ → Type 0
Accepts automaton q = (get_or automaton.states q no_state).accepting ≡ true

-- the letter at which pass k through the cycle begins: behind the stem and k cycles (01, Judging, sentence 3)
abbrev pub pass_begin : (stem cycle : List ℕ) (k : ℕ) → ℕ
pass_begin stem cycle k = length stem + k * length cycle

-- an accepting pass (document 01: lap): a run, `at i` being its state when letter i comes, that starts in an initial
-- state, is in one and the same state when passes `first` and `second` through the cycle begin, and between these two
-- letters, or at one of them, is in an accepting state (01, Judging, sentences 1, 3 and 4). Where letters are skipped,
-- stem and cycle are what remains of them (02, R-9).
pub record AcceptingPass (automaton : Automaton) (stem cycle : List ℕ) : Type 0 where
  pub at : ℕ → ℕ
  pub first : ℕ
  pub second : ℕ
  pub later : first < second
  pub begins : In (at 0) automaton.initial
  pub steps : (i : ℕ) → i < pass_begin stem cycle second → Step automaton (at i) (letter stem cycle i) (at (suc i))
  pub same : at (pass_begin stem cycle first) ≡ at (pass_begin stem cycle second)
  pub accepts :
      (i : ℕ) × (pass_begin stem cycle first ≤ i) × (i ≤ pass_begin stem cycle second) × Accepts automaton (at i)

-- The automaton recognizes the lassos with property P: of those whose cycle has a letter, however long, it has an
-- accepting pass exactly on these (demand 3, of a rule's automaton and the lassos that satisfy the rule).
abbrev pub Recognizes : (P : (stem cycle : List ℕ) → Type 0) → Automaton → Type 0
Recognizes P automaton = (stem cycle : List ℕ) → 0 < length cycle → AcceptingPass automaton stem cycle ↔ P stem cycle
