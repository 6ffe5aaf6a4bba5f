-- The call judge: answer, place and the working bytes, for every input (01, Judging; Numbers that come from the input).
use Rattle.std.specs.Prelude.{ℕ, ◌*◌, ◌≡◌, ◌↔◌, List, true, false, ◌||◌, length, leb}
use Rattle.answer.specs.Result.{Result, accepted, refused, and_then, Check, require}
use Rattle.answer.specs.Bytes.{zeros}
use Rattle.lasso.specs.Lasso.{remaining, max_letters, lasso_check}
use Rattle.automaton.specs.Automaton.{Automaton}
use Rattle.automaton.specs.Limits.{max_states}
use Rattle.image.specs.Reader.{read_image}
use Rattle.rest.specs.Rest.{rest_taken, pairs_taken}
use Rattle.judge.specs.declared.Verdict.{Verdict as Enum}
use Rattle.judge.specs.declared.Verdict.TheVariants.{Kept, Broken}
use Rattle.judge.specs.declared.Finding.{Finding as Struct}
use Rattle.judge.specs.Search.{has_accepting_pass}

-- the code's own enum: Kept or Broken
abbrev pub Verdict : Type 0
Verdict = Enum

abbrev pub kept : Verdict
kept = Kept

abbrev pub broken : Verdict
broken = Broken

-- what judging finds, the code's own struct: the verdict, and how many pairs of position and state it took (02, R-5)
abbrev pub Finding : Type 0
Finding = Struct

abbrev pub finding : Verdict → (pairs : ℕ) → Finding
finding verdict pairs = record { verdict = verdict; pairs = pairs }

-- the verdict of an answer, or its refusal
abbrev pub verdict_of : Result Finding → Result Verdict
verdict_of r = and_then r (λ f. accepted f.verdict)

-- an answer says kept exactly where P holds, and broken exactly where it does not
abbrev pub Exactly : Result Finding → Type 0 → Type 0
Exactly r P = ((verdict_of r ≡ accepted kept) ↔ P) × ((verdict_of r ≡ accepted broken) ↔ (P → ⊥))

-- the working bytes that judging asks for, one for each state that an automaton may have and each letter: 96 times 336
-- (01, Numbers that come from the state, 25, with the figure of 02, R-2)
abbrev pub work_bytes : ℕ
work_bytes = max_states * max_letters

-- 25: fewer working bytes than that
abbrev pub work_check : List ℕ → Check
work_check work = require (leb work_bytes (length work)) 25 0

-- the automaton, if the lasso is not refused by 8, 9 or 28
abbrev pub lasso_judgeable : Automaton → (stem cycle : List ℕ) → Result Automaton
lasso_judgeable a stem cycle = and_then (lasso_check stem cycle) (λ _. accepted a)

-- the order of judging's refusals: 25, the image's 10 to 13, the lasso's 8, 9 and 28; else the automaton that is judged
unfoldable pub judgeable : (image stem cycle work : List ℕ) → Result Automaton
judgeable image stem cycle work =
    and_then (work_check work) (λ _. and_then (read_image image) (λ a. lasso_judgeable a stem cycle))

-- kept where a pair at rest is taken, else where there is an accepting pass (01, Judging, sentence 6, and 02, R-5); the
-- first alone changes no verdict: `full_search` (proofs/AtRest.antt)
unfoldable pub verdict : Automaton → (stem cycle : List ℕ) → Verdict
verdict a stem cycle =
    elim (rest_taken a stem cycle || has_accepting_pass a stem cycle) [ true ↦ kept | false ↦ broken ]

-- the verdict with the number of pairs taken, of a stem and a cycle in which no letter is skipped
abbrev pub found : Automaton → (stem cycle : List ℕ) → Finding
found a stem cycle = finding (verdict a stem cycle) (pairs_taken a stem cycle)

-- an answer, and the lent working bytes afterwards
pub record Judgement : Type 0 where
  pub answer : Result Finding
  pub work : List ℕ

abbrev pub judgement : Result Finding → List ℕ → Judgement
judgement answer work = record { answer = answer; work = work }

-- letters none of which is skipped: what is found, and the working bytes zero, all that were lent
abbrev pub letters_judged : Automaton → (stem cycle work : List ℕ) → Judgement
letters_judged a stem cycle work = judgement (accepted (found a stem cycle)) (zeros work)

-- A verdict is on the letters that remain, so that passes and positions are theirs (02, R-9, sentences 3 and 6). A
-- refusal leaves the working bytes as they were.
abbrev pub judged_by : Result Automaton → (stem cycle work : List ℕ) → Judgement
judged_by (accepted a) stem cycle work = letters_judged a (remaining stem) (remaining cycle) work
judged_by (refused number place) stem cycle work = judgement (refused number place) work

-- an automaton on a lasso
abbrev pub judged_on : Automaton → (stem cycle work : List ℕ) → Judgement
judged_on a stem cycle work = judged_by (lasso_judgeable a stem cycle) stem cycle work

unfoldable pub judged : (image stem cycle work : List ℕ) → Judgement
judged image stem cycle work = judged_by (judgeable image stem cycle work) stem cycle work
