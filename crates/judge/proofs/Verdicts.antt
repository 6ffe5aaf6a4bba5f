-- From the rows that the search makes, one after another, to its verdict. Assumes of the automaton that its numbers are
-- states, at most `max_states`.
use Prim.Native.Nat.{ℕ, zero, suc, ◌+◌, ◌-◌, ◌*◌, ◌<◌, ◌≤◌}
use mathlib.Core.Path.{◌≡◌, sym, ◌∙◌}
use mathlib.Core.List.{List}
use mathlib.Core.Bool.{Bool, false}
use native.Mathlib.Omega.{arith}
use lib.ListN.{length, get_or, replicate, take, drop, length-take, length-drop}
use lib.Seq.{get_or-take, get_or-drop}
use Rattle.automaton.specs.Automaton.{Automaton, Accepts, AcceptingPass}
use Rattle.automaton.proofs.InRange.{InRange}
use Rattle.rest.specs.Memory.{ReachedMarked}
use Rattle.judge.specs.Memory.{Token, Is, Gains, Confined, Covered, Tells, After, AfterAll}
use Rattle.judge.specs.Memory.{Linked, one, join, join_met}
use Rattle.judge.specs.Limits.{met_bit, rows_words}
use Rattle.automaton.specs.Limits.{max_states}
use Rattle.judge.proofs.Gathers.{adds_as, is_initial, is_made}
use Rattle.judge.proofs.Decisions.{holds_not}
use Rattle.judge.proofs.Letters.{moved_map}
use Rattle.judge.proofs.Passes.{Begun, Passed, passed_covered, found_round, pass_passed, pass_found}
use Rattle.judge.proofs.PassStates.{Begins, begins_inside, pass_begins, round_pass}

-- what follows from less follows from more
after_map : (a : Automaton) (word : List ℕ) (P Q : (q k : ℕ) → Type 0) → ((q k : ℕ) → P q k → Q q k)
    → (q k : ℕ) → AfterAll a word P q k → AfterAll a word Q q k
after_map a word P Q f = go (length word)
  where
    go : (i q k : ℕ) → After a (λ j. get_or word j 0) P i q k → After a (λ j. get_or word j 0) Q i q k
    go zero q k h = f q k h
    go (suc i) q k h = moved_map a (get_or word i 0) _ _ (go i) q k h

linked_map : (n : ℕ) (P Q : (q k : ℕ) → Type 0) → ((q k : ℕ) → P q k → Q q k)
    → (q k : ℕ) → Linked n P q k → Linked n Q q k
linked_map n P Q f _ _ (one q k h) = one q k (f q k h)
linked_map n P Q f _ _ (join m q k lm lq b h) = join m q k lm lq (linked_map n P Q f _ _ b) (linked_map n P Q f _ _ h)
linked_map n P Q f _ _ (join_met m q k lm lq lk b h) =
    join_met m q k lm lq lk (linked_map n P Q f _ _ b) (linked_map n P Q f _ _ h)

-- the marks that are lent of the working bytes, said of these
pub begun_of : (n at : ℕ) (work : List ℕ) {r : List ℕ} → at + n ≤ length work
    → Gains (replicate rows_words 0) r (λ q k. (q < length (take (at + n - at) (drop at work)))
    × ((get_or (take (at + n - at) (drop at work)) q 0 ≡ 1) × (k ≡ q)))
    → Gains (replicate rows_words 0) r (λ q k. (q < n) × ((get_or work (at + q) 0 ≡ 1) × (k ≡ q)))
begun_of n at work fits begun =
    adds_as begun
    (λ q k h. (omega (arith, size, h.0), (sym (here q (omega (arith, size, h.0))) ∙ h.1.0, h.1.1)))
    (λ q k h. (omega (arith, size, h.0), (here q h.0 ∙ h.1.0, h.1.1)))
  where
    marks : List ℕ
    marks = take (at + n - at) (drop at work)

    size : length marks ≡ n
    size = omega (arith, length-take (at + n - at) (drop at work), length-drop at work)

    here : (q : ℕ) → q < n → get_or marks q 0 ≡ get_or work (at + q) 0
    here q lt = get_or-take (at + n - at) (drop at work) q 0 (omega arith) ∙ get_or-drop at work q 0

-- n counts the states, and the automaton's numbers are among them
pub record Counted (a : Automaton) (n : ℕ) : Type 0 where
  pub few : n ≤ max_states
  pub size : length a.states ≡ n
  pub range : InRange a

-- a pass begins in each state whose mark at the cycle's first letter is 1
module _ {a : Automaton} {n : ℕ} (counted : Counted a n) (stem cycle : List ℕ) (pos : 0 < length cycle)
    {work r1 : List ℕ} (marks : ReachedMarked a stem cycle work)
    (begun : Gains (replicate rows_words 0) r1
    (λ q k. (q < n) × ((get_or work (max_states * length stem + q) 0 ≡ 1) × (k ≡ q)))) where
  below : (q : ℕ) → Begins a stem cycle q → q < n
  below q h = omega (arith, counted.size, begins_inside a counted.range stem cycle pos q h)

  is_begun : Is r1 (Begun a n cycle (Begins a stem cycle))
  is_begun =
      let is = is_initial rows_words begun in
      let here = marks (length stem) (omega arith) in
      record {
        only = λ q k h.
            let (lt, (m, e)) = is.only q k h in
            (here.only q (omega (arith, counted.few)) m, e);
        all = λ q k h.
            let lt = below q h.0 in
            is.all q k (lt, (here.marked q (omega (arith, counted.few)) h.0, h.1));
      }

  -- no row behind the first n has a bit
  pub begun_confined : Confined n r1
  begun_confined q k h = ((is_initial rows_words begun).only q k h).0

  -- no run is left after the first pass
  pub lost_in_cycle : ((q k : ℕ) → AfterAll a cycle (Token r1) q k → ⊥) → Tells false (AcceptingPass a stem cycle)
  lost_in_cycle lost = holds_not (λ pass.
      let h = pass_passed a n cycle (Begins a stem cycle) counted.few below stem pass
      (pass_begins a counted.range stem cycle pos pass) in
      lost _ _ (after_map a cycle _ _ is_begun.all _ _ h))

  module _ {r2 : List ℕ} (passed : Is r2 (AfterAll a cycle (Token r1))) where
    is_passed : Is r2 (Passed a n cycle (Begins a stem cycle))
    is_passed = is_made (AfterAll a cycle) (after_map a cycle) is_begun passed

    pub rows_covered : Covered r2
    rows_covered q k lt h =
        is_passed.all q k
        (passed_covered a n cycle (Begins a stem cycle) counted.few below q k lt (is_passed.only q (met_bit + k) h))

    pub verdict : {r : Bool} {r3 : List ℕ} → Is r3 (Linked n (Token r2))
        → Tells r ((q : ℕ) × (q < n) × Token r3 q (met_bit + q)) → Tells r (AcceptingPass a stem cycle)
    verdict {r} {r3} closed found = record {
      yes = λ e.
          let (q, lt, h) = found.yes e in
          let back = rows.only q (met_bit + q) h in
          let (b, (d, m)) = found_round a n cycle (Begins a stem cycle) counted.few below q lt back in
          round_pass a counted.range stem cycle pos q d m b;
      no = λ e pass.
          let (q, lt, h) = pass_found a n cycle (Begins a stem cycle) counted.few below stem pass
          (pass_begins a counted.range stem cycle pos pass) pos in
          found.no e (q, lt, rows.all q (met_bit + q) h);
    }
      where
        rows : Is r3 (Linked n (Passed a n cycle (Begins a stem cycle)))
        rows = is_made (Linked n) (linked_map n) is_passed closed

-- no state accepts
pub never_accepts : (a : Automaton) (stem cycle : List ℕ) → ((q : ℕ) → Accepts a q → ⊥)
    → Tells false (AcceptingPass a stem cycle)
never_accepts a stem cycle none = holds_not (λ pass. let (i, lo, hi, acc) = pass.accepts in none (pass.at i) acc)
