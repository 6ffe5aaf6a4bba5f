-- What the pass over the state records knows where it stands: the records before are accepted, and what they add up to.
-- Assumes nothing.
use mathlib.Core.Path.{◌≡◌, refl, sym}
use mathlib.Core.Bool.{and-eq-true_iff}
use mathlib.Core.List.{List}
use Prim.Native.Nat.{ℕ, zero, suc, ◌+◌, ◌*◌, ◌≤◌, ◌<◌}
use native.Mathlib.Decide.{ℕ_discrete}
use native.Mathlib.Numerals.{add-one}
use native.Mathlib.Omega.{arith}
use lib.ListN.{get_or}
use borrow.Author.Tests.{leb-true}
use Rattle.answer.specs.Result.{accepted, refused, and_then, fine}
use Rattle.answer.proofs.Results.{require_fine}
use Rattle.answer.specs.Bytes.{number_at}
use Rattle.automaton.specs.Limits.{max_of_state}
use Rattle.image.specs.Reader.{state_check, add_state, state_pass}
use Rattle.image.proofs.Before.{passes}

-- what a fine check says of state record i
pub record StateFits (s : List ℕ) (i : ℕ) : Type 0 where
  pub count : number_at s (4 * i) ≤ max_of_state
  pub flag : get_or s (4 * i + 2) 0 ≤ 1

pub state_fine : (s : List ℕ) (i : ℕ) → state_check s i ≡ fine → StateFits s i
unfolding state_check
state_fine s i e =
    let tests = (and-eq-true_iff _ _).0 (require_fine _ 11 i e) in
    record {
      count = leb-true (number_at s (4 * i)) max_of_state tests.0;
      flag = leb-true (get_or s (4 * i + 2) 0) 1 tests.1;
    }

-- an accepted record adds no more than a state may have
pub adds_few : (s : List ℕ) (i sum : ℕ) {more : ℕ} → accepted more ≡ add_state s i sum → more ≤ sum + max_of_state
adds_few s i sum {more} e =
    let state = passes (state_check s i) more (sum + number_at s (4 * i)) e in
    let fits = state_fine s i state.passed in
    omega (arith, fits.count, state.same)

-- a turn of the pass: nothing is added up before it begins, an accepted record is passed, a refused one decides
pub pass_begins : (s : List ℕ) → state_pass s 0 ≡ accepted 0
unfolding state_pass
pass_begins s = refl

pub pass_steps : (s : List ℕ) (i : ℕ) {sum more : ℕ} → state_pass s i ≡ accepted sum
    → accepted more ≡ add_state s i sum → state_pass s (i + 1) ≡ accepted more
unfolding state_pass
pass_steps s i before here = rw (add-one, before) (sym here)

pub pass_fails : (s : List ℕ) (n i : ℕ) {sum number place : ℕ} → i < n → state_pass s i ≡ accepted sum
    → refused number place ≡ add_state s i sum → refused number place ≡ state_pass s n
unfolding state_pass
pass_fails s zero i lt before here = absurd (omega arith)
pass_fails s (suc n) i {sum} {number} {place} lt before here =
    pick (ℕ_discrete i n) (λ lt. pass_fails s n i lt before here)
  where
    pick : Dec (i ≡ n) → (i < n → refused number place ≡ state_pass s n)
        → refused number place ≡ and_then (state_pass s n) (add_state s n)
    pick (yes same) below = rw (← same, before) here
    pick (no other) below = rw (← below (omega arith)) refl

-- a turn of the pass, for `image::pass_states`
pub ruleset pass_turns = (pass_begins, pass_steps, pass_fails)
