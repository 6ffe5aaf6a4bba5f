-- What makes a state's last byte right: its accepting byte and its transition records; and the loop over the last
-- bytes. Assumes nothing.
use mathlib.Core.Path.{◌≡◌, refl, sym, ap, ◌∙◌}
use mathlib.Core.Bool.{cond, ◌||◌}
use mathlib.Core.List.{List}
use Prim.Native.Nat.{ℕ, zero, suc, ◌+◌, ◌*◌, ◌≤◌, ◌<◌}
use native.Mathlib.Numerals.{add-one}
use native.Mathlib.Omega.{arith}
use lib.ListN.{length, get_or, drop}
use lib.Seq.{drop-drop}
use lib.Dec.{eqb}
use Rattle.std.specs.List.{range_with_len, list_any}
use Rattle.answer.specs.Bytes.{number_at}
use Rattle.answer.specs.Result.{require}
use Rattle.answer.proofs.Lowest.{turn_begins, turn_passes, turn_fails}
use Rattle.sets.specs.Sets.{any}
use Rattle.automaton.specs.Automaton.{Transition, free_to, at_rest}
use Rattle.image.specs.Reader.{transitions_from, count_sum, states_from, rest_check}
use Rattle.image.specs.Lookup.{record_at}
use Rattle.image.specs.Memory.{state_at}
use Rattle.image.proofs.Lookup.{record_drop, state_at_lem, count_up}

-- a search by number among the transition records that begin at byte `at`, from number i on
pub free_among : (bytes : List ℕ) (at q i n : ℕ)
    → list_any (λ k. free_to q (record_at bytes (at + 4 * k))) (range_with_len i n)
    ≡ any (free_to q) (transitions_from n (drop (at + 4 * i) bytes))
unfolding any transitions_from
free_among bytes at q i zero = refl
free_among bytes at q i (suc n) =
    let k : ℕ = at + 4 * i in
    let none : k + 0 ≡ k = omega arith in
    let here : record_at (drop k bytes) 0 ≡ record_at bytes k =
    record_drop k bytes 0 ∙ ap (record_at bytes) none in
    let e : at + 4 * (i + 1) ≡ k + 4 = omega arith in
    rw (free_among bytes at q (i + 1) n, e, drop-drop 4 k bytes)
    (ap (λ (x : Transition). free_to q x || any (free_to q) (transitions_from n (drop (k + 4) bytes))) (sym here))

module _ (s t : List ℕ) where
  -- the code's test of the last byte of state record q, where b is what the byte is to be
  pub rest_tested : (n q : ℕ) → q < n → {b : ℕ} → b ≡ cond (at_rest q (state_at s t q)) 1 0
      → require (eqb (get_or s (4 * q + 3) 0) b) 11 q ≡ rest_check (states_from n s t) s q
  unfolding rest_check
  rest_tested n q lt right = rw (state_at_lem n s t q lt, ← right)

  -- where the transition records of the first state begin, and those of the next
  pub first_begins : 0 ≡ 4 * count_sum s 0
  unfolding count_sum
  first_begins = refl

  pub next_begins : (q : ℕ) {at count : ℕ} → at ≡ 4 * count_sum s q → count ≡ number_at s (4 * q)
      → at + 4 * count ≡ 4 * count_sum s (q + 1)
  unfolding count_sum
  next_begins q e f = rw add-one (omega (arith, e, f))

  -- the transition records of q are there
  pub records_there : (n q : ℕ) → q < n → {at : ℕ} → at ≡ 4 * count_sum s q → 4 * count_sum s n ≤ length t
      → at + 4 * number_at s (4 * q) ≤ length t
  unfolding count_sum
  records_there n q lt e le = omega (arith, count_up s (suc q) n lt, e)

-- a turn of the loop over the last bytes, for `image::check_rests`
pub ruleset rest_turns = (turn_begins, turn_passes, turn_fails, rest_tested, first_begins, next_begins)
