-- Answers: a value, or a refusal.
use Rattle.std.specs.Prelude.{ℕ, zero, suc, Bool, true, false}
use Rattle.std.specs.Prelude.{Ok, Err, ◌<◌, ◌≡◌}
use Rattle.std.specs.Prelude.{Result as Returned}
use Rattle.answer.specs.declared.Refusal.{Refusal}
use Rattle.answer.specs.declared.Reason.{Reason}
use Rattle.answer.specs.declared.Reason.TheVariants.{RuleTooLong, BadLength, UnknownKind, BadByte, ChildNotBelow}
use Rattle.answer.specs.declared.Reason.TheVariants.{BadPlaces, TooManyUntils, EmptyCycle, TooManyLetters, BadContents}
use Rattle.answer.specs.declared.Reason.TheVariants.{BadState, BadTransition, BadInitial, TooManyTerms, ProductTooLarge}
use Rattle.answer.specs.declared.Reason.TheVariants.{TooManyTransitions, TooManyStates, TooManyPairs, TableTooShort}
use Rattle.answer.specs.declared.Reason.TheVariants.{TooManyNodes, MergedTooLarge, AllSkipped, HasUntil}

-- an answer: a value, or a refusal with its number and its place (01, Numbers that come from the input, sentence 1)
pub data Result (A : Type 0) : Type 0 where
  accepted : A → Result A
  refused : (number place : ℕ) → Result A

-- what follows an answer: a refusal stays the first one
abbrev pub and_then : {A B : Type 0} → Result A → (A → Result B) → Result B
and_then (accepted a) next = next a
and_then (refused number place) next = refused number place

-- whether an answer is no refusal
abbrev pub passes : {A : Type 0} → Result A → Bool
passes (accepted a) = true
passes (refused number place) = false

-- an answer that tells no value
abbrev pub Check : Type 0
Check = Result (Unit {0})

abbrev pub fine : Check
fine = accepted tt

-- the refusal where a test fails
abbrev pub require : Bool → (number place : ℕ) → Check
require true number place = fine
require false number place = refused number place

-- the checks of 0 to n - 1 in turn: fine, or the refusal of the lowest that is refused
unfoldable pub lowest : (ℕ → Check) → ℕ → Check
lowest check zero = fine
lowest check (suc n) = and_then (lowest check n) (λ _. check n)

-- the number of a reason (01, Numbers that come from the input, and from the state; 02)
abbrev pub reason_number : Reason → ℕ
reason_number RuleTooLong = 1
reason_number BadLength = 2
reason_number UnknownKind = 3
reason_number BadByte = 4
reason_number ChildNotBelow = 5
reason_number BadPlaces = 6
reason_number TooManyUntils = 7
reason_number EmptyCycle = 8
reason_number TooManyLetters = 9
reason_number BadContents = 10
reason_number BadState = 11
reason_number BadTransition = 12
reason_number BadInitial = 13
reason_number TooManyTerms = 20
reason_number ProductTooLarge = 21
reason_number TooManyTransitions = 22
reason_number TooManyStates = 23
reason_number TooManyPairs = 24
reason_number TableTooShort = 25
reason_number TooManyNodes = 26
reason_number MergedTooLarge = 27
reason_number AllSkipped = 28
reason_number HasUntil = 29

-- what an answer of the code says in numbers
abbrev pub answer : {A : Type 0} → Returned A Refusal → Result A
answer (Ok a) = accepted a
answer (Err r) = refused (reason_number r.reason) r.place

-- whatever one of the checks 0 to n - 1 returns, `checks` says in numbers; `post i r`: the check of i returns r
abbrev pub Checks : (post : ℕ → Returned (Unit {0}) Refusal → Type 0) → (checks : ℕ → Check) → (n : ℕ) → Type 0
Checks post checks n = (i : ℕ) (r : _) → i < n → post i r → answer r ≡ checks i
