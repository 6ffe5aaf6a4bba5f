-- R-10 of the calls: after start and a step for each letter of a word the lent set has the states that some run may be
-- in after the letters that remain, and the alarm is raised exactly if there is none. Assumes nothing.
use Prim.Native.Nat.{ℕ, zero, suc, ◌+◌, ◌-◌, ◌<◌, ◌≤◌}
use mathlib.Core.Path.{◌≡◌, refl, sym, ◌∙◌, ap, subst}
use mathlib.Core.Logic.{◌↔◌}
use mathlib.Core.List.{List}
use mathlib.Core.Bool.{Bool, true, false, cond, not, true≢false, and-eq-true_iff}
use native.Mathlib.Omega.{arith}
use lib.ListN.{get_or, length, replicate, length-append}
use lib.Dec.{eqb}
use borrow.Author.Tests.{eqb-true, eq-eqb, not-true, le-leb}
use Rattle.answer.specs.Result.{Result, accepted}
use Rattle.answer.specs.Bytes.{filled}
use Rattle.lasso.specs.Lasso.{remains, remaining_before}
use Rattle.sets.specs.Sets.{In, any_below}
use Rattle.sets.proofs.Members.{any_iff, below_iff}
use Rattle.automaton.specs.Automaton.{Automaton, no_state, reads, Step}
use Rattle.automaton.specs.Limits.{max_states}
use Rattle.automaton.proofs.InRange.{InRange, step_from}
use Rattle.image.specs.Reader.{read_image}
use Rattle.image.specs.Lookup.{image_automaton}
use Rattle.image.proofs.Contents.{read_of}
use Rattle.image.proofs.Lookup.{automaton_states}
use Rattle.image.proofs.Accepted.{readable, readable_in_range}
use Rattle.field.specs.Watch.{Current, NoneCurrent}
use Rattle.field.specs.Sets.{set_bytes, in_set, packed, begun, leads_to, moves_to, moved, is_empty}
use Rattle.field.specs.Calls.{Watch, left, begins, advances, watchable, started, stepped, after_steps}
use Rattle.field.proofs.Packing.{bytes_length, packed_has}

-- ---- an automaton whose targets and initial numbers are states
module _ (a : Automaton) (range : InRange a) (few : length a.states ≤ max_states) where
  begun_iff : (q : ℕ) → begun a q ≡ true ↔ In q a.initial
  unfolding begun
  begun_iff q = (
    λ e. let (u, m, f) = (any_iff (eqb q) a.initial).0 e in subst (λ (k : ℕ). In k a.initial) (sym (eqb-true q u f)) m,
    λ m. (any_iff (eqb q) a.initial).1 (q, m, eq-eqb q q refl),
  )

  moves_iff : (set : ℕ → Bool) (x q p : ℕ) → moves_to a set x q p ≡ true ↔ ((set p ≡ true) × Step a p x q)
  unfolding moves_to
  moves_iff set x q p = (there, back)
    where
      there : moves_to a set x q p ≡ true → (set p ≡ true) × Step a p x q
      there e =
          let (s, f) = (and-eq-true_iff (set p) _).0 e in
          let (t, m, g) = (any_iff (leads_to x q) (get_or a.states p no_state).transitions).0 f in
          let (r, h) = (and-eq-true_iff (reads t x) _).0 g in
          (s, (t, m, r, eqb-true q t.target h))

      back : (set p ≡ true) × Step a p x q → moves_to a set x q p ≡ true
      back (s, (t, m, r, h)) =
          (and-eq-true_iff (set p) _).1 (
            s,
            (any_iff (leads_to x q) (get_or a.states p no_state).transitions).1
                (t, m, (and-eq-true_iff (reads t x) _).1 (r, eq-eqb q t.target h)),
          )

  -- from no state of the set a step leads to none, whatever other bits it has
  empty_stays : (set : List ℕ) (x : ℕ) → is_empty a (in_set set) ≡ true
      → is_empty a (in_set (filled set (packed (moved a (in_set set) x)))) ≡ true
  unfolding is_empty moved
  empty_stays set x none = go (any_below after (length a.states)) refl
    where
      after : ℕ → Bool
      after = in_set (filled set (packed (moved a (in_set set) x)))

      go : (b : Bool) → any_below after (length a.states) ≡ b → not b ≡ true
      go false e = refl
      go true e =
          let (q, l, f) = (below_iff after (length a.states)).0 e in
          let moves = sym (packed_has set (moved a (in_set set) x) q (omega arith)) ∙ f in
          let (p, m, g) = (below_iff (moves_to a (in_set set) x q) (length a.states)).0 moves in
          let some = (below_iff (in_set set) (length a.states)).1 (p, m, ((moves_iff (in_set set) x q p).0 g).0) in
          absurd (true≢false (sym some ∙ not-true (any_below (in_set set) (length a.states)) none))

  module _ (w : ℕ → ℕ) where
    current_inside : (i q : ℕ) → Current a w i q → q < length a.states
    current_inside zero q m = range.initial q m
    current_inside (suc i) q (p, c, s) = range.targets p (w i) q s

    -- the bytes have the states that some run may be in after i letters
    pub record Holds (bytes : List ℕ) (i : ℕ) : Type 0 where
      pub room : set_bytes ≤ length bytes
      pub states : (q : ℕ) → q < length a.states → in_set bytes q ≡ true ↔ Current a w i q

    room_filled : (set : List ℕ) (test : ℕ → Bool) → set_bytes ≤ length set
        → set_bytes ≤ length (filled set (packed test))
    room_filled set test l =
        omega (
          arith,
          length-append (packed test) (replicate (length set - length (packed test)) 0),
          bytes_length test
              set_bytes,
        )

    holds_begin : (set : List ℕ) → set_bytes ≤ length set → Holds (filled set (packed (begun a))) 0
    holds_begin set l = record {
      room = room_filled set (begun a) l;
      states = λ q m. subst (λ (b : Bool). b ≡ true ↔ In q a.initial) (sym (packed_has set (begun a) q (omega arith)))
          (begun_iff q);
    }

    holds_step : (set : List ℕ) (i : ℕ) → Holds set i → Holds (filled set (packed (moved a (in_set set) (w i)))) (suc i)
    unfolding moved
    holds_step set i h = record {
      room = room_filled set (moved a (in_set set) (w i)) h.room;
      states = λ q m.
          subst (λ (b : Bool). b ≡ true ↔ Current a w (suc i) q)
          (sym (packed_has set (moved a (in_set set) (w i)) q (omega arith)))
          (there q, back q);
    }
      where
        there : (q : ℕ) → moved a (in_set set) (w i) q ≡ true → Current a w (suc i) q
        there q e =
            let (p, l, f) = (below_iff (moves_to a (in_set set) (w i) q) (length a.states)).0 e in
            let (s, t) = (moves_iff (in_set set) (w i) q p).0 f in
            (p, (h.states p l).0 s, t)

        back : (q : ℕ) → Current a w (suc i) q → moved a (in_set set) (w i) q ≡ true
        back q (p, c, s) =
            let l = step_from a p (w i) q s in
            (below_iff (moves_to a (in_set set) (w i) q) (length a.states)).1
            (p, l, (moves_iff (in_set set) (w i) q p).1 ((h.states p l).1 c, s))

    -- the alarm is raised exactly if there is none
    pub empty_iff : (set : List ℕ) (i : ℕ) → Holds set i → is_empty a (in_set set) ≡ true ↔ NoneCurrent a w i
    unfolding is_empty
    empty_iff set i h = (
      λ e q c.
          let l = current_inside i q c in
          true≢false (sym ((below_iff (in_set set) (length a.states)).1 (q, l, (h.states q l).1 c)) ∙ not-true
          (any_below (in_set set) (length a.states)) e),
      λ none. go (any_below (in_set set) (length a.states)) refl none,
    )
      where
        go : (b : Bool) → any_below (in_set set) (length a.states) ≡ b → NoneCurrent a w i → not b ≡ true
        go false e none = refl
        go true e none =
            let (q, l, f) = (below_iff (in_set set) (length a.states)).0 e in
            absurd (none q ((h.states q l).0 f))

-- ---- the calls, on an image that is accepted
module _ (image : List ℕ) (a : Automaton) (read : read_image image ≡ accepted a) where
  same : a ≡ image_automaton image
  same = (read_of image a read).automaton

  pub range : InRange a
  range = subst InRange (sym same) (readable_in_range image (readable (read_of image a read)))

  pub few : length a.states ≤ max_states
  few =
      omega (
        arith,
        ap (λ (b : Automaton). length b.states) same,
        automaton_states image,
        (readable (read_of image a read)).few,
      )

  starts : (set : List ℕ) → set_bytes ≤ length set → started image set ≡ begins a set
  unfolding started watchable
  starts set l = rw (le-leb set_bytes (length set) l, read) refl

  steps : (set : List ℕ) (x : ℕ) → set_bytes ≤ length set → stepped image set x ≡ advances a set x
  unfolding stepped watchable
  steps set x l = rw (le-leb set_bytes (length set) l, read) refl

  -- R-10 of one call, on any bytes: with no state of the image in the set the alarm stays raised
  pub any_set_stays_raised : (set : List ℕ) (x : ℕ) → set_bytes ≤ length set → is_empty a (in_set set) ≡ true
      → (stepped image set x).answer ≡ accepted true
  any_set_stays_raised set x l none = ap (λ (v : Watch). v.answer) (steps set x l) ∙ go (remains x)
    where
      go : (b : Bool) → ◌≡◌ {A = Result Bool}
          (accepted (is_empty a (in_set (cond b (filled set (packed (moved a (in_set set) x))) set)))) (accepted true)
      go true = ap (λ (b : Bool). accepted b) (empty_stays a range few set x none)
      go false = ap (λ (b : Bool). accepted b) none

  module _ (w : ℕ → ℕ) where
    -- the answer and the set of the last call, i letters having remained
    pub record Watches (v : Watch) (i : ℕ) : Type 0 where
      pub alarm : Bool
      pub answer : v.answer ≡ accepted alarm
      pub raised : alarm ≡ true ↔ NoneCurrent a w i
      pub holds : Holds a range few w v.set i

    watches_left : (set : List ℕ) (i : ℕ) → Holds a range few w set i → Watches (left a set) i
    watches_left set i h =
        record { alarm = is_empty a (in_set set); answer = refl; raised = empty_iff a range few w set i h; holds = h }

    -- a word as it is lent, of which w has the letters that remain
    module _ (lent : ℕ → ℕ) (remain : (p : ℕ) → remains (lent p) ≡ true → lent p ≡ w (remaining_before lent p)) where
      -- R-10 of the calls: after start and n steps the answer is whether the alarm is raised after as many letters as
      -- remain of the first n, and the set has the states that some run may be in after these
      pub unit_watches : (set : List ℕ) → set_bytes ≤ length set → (n : ℕ)
          → Watches (after_steps image set lent n) (remaining_before lent n)
      unfolding after_steps remaining_before
      unit_watches set l zero =
          subst (λ (v : Watch). Watches v 0) (sym (starts set l)) (watches_left _ 0 (holds_begin a range few w set l))
      unit_watches set l (suc n) = go (remains (lent n)) refl (unit_watches set l n)
        where
          v : Watch
          v = after_steps image set lent n

          i : ℕ
          i = remaining_before lent n

          go : (b : Bool) → remains (lent n) ≡ b → Watches v i → Watches (stepped image v.set (lent n)) (i + cond b 1 0)
          go false s h =
              let e : i ≡ i + 0 = omega arith in
              subst (Watches (stepped image v.set (lent n))) e
              (subst (λ (u : Watch). Watches u i) (sym (steps v.set (lent n) h.holds.room ∙ rw s refl))
              (watches_left v.set i h.holds))
          go true s h =
              let e : suc i ≡ i + 1 = omega arith in
              subst (Watches (stepped image v.set (lent n))) e
              (subst (λ (u : Watch). Watches u (suc i)) (sym (steps v.set (lent n) h.holds.room ∙ rw s refl))
              (watches_left _ (suc i)
              (subst (λ (y : ℕ). Holds a range few w (filled v.set (packed (moved a (in_set v.set) y))) (suc i))
              (sym (remain n s)) (holds_step a range few w v.set i h.holds))))
