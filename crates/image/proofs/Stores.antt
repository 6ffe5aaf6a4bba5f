-- What stores leave in a slice: runs of stores one after another, copies, zeros, and parts that were lent. Assumes
-- nothing.
use mathlib.Core.Path.{◌≡◌, refl, ◌∙◌}
use mathlib.Core.List.{List, [], ◌∷◌, ◌++◌, append-nil, append_assoc}
use Prim.Native.Nat.{ℕ, suc, ◌+◌, ◌-◌, ◌*◌, ◌≤◌}
use native.Mathlib.Nat.{zero-add}
use native.Mathlib.Omega.{arith}
use lib.ListN.{length, take, drop, set, length-drop, drop_of_length-le}
use lib.Seq.{sets, sets-eq, take_all, drop-drop, length-take-le}
use borrow.Rule.Slice.PartMut.{mid_of, put_mid}
use Rattle.answer.specs.Bytes.{two_bytes}
use Rattle.automaton.specs.Tables.{Counts}
use Rattle.answer.specs.Result.{accepted}
use Rattle.image.specs.Image.{entry, transitions_at, initial_at, image_length, contents, contents_bytes, entry_bytes}
use Rattle.answer.specs.Buffer.{buffer}
use Rattle.image.specs.Memory.{joined_bodies, joined_over}
use Rattle.image.proofs.Sizes.{contents_size, row_size}

-- a part that goes to the end is what is left there
pub part_whole : (xs : List ℕ) (a : ℕ) → mid_of a (length xs - a) xs ≡ drop a xs
part_whole xs a = take_all (length xs - a) (drop a xs) (rw (length-drop a xs) (omega arith))

-- and the whole, once ys came back in its place
part_back : (xs ys : List ℕ) (a : ℕ) → put_mid a (length xs - a) xs ys ≡ take a xs ++ ys
part_back xs ys a =
    rw (drop_of_length-le (drop a xs) {i = length xs - a} (rw (length-drop a xs) (omega arith)), append-nil)

-- a copy at the start of such a part
pub part_copied : (xs source : List ℕ) (a : ℕ) {ys : List ℕ} → a + length source ≤ length xs
    → ys ≡ source ++ drop (length source) (mid_of a (length xs - a) xs)
    → put_mid a (length xs - a) xs ys ≡ sets xs a source
part_copied xs source a {ys} room e =
    let all = sets-eq source xs a room in
    part_back xs ys a ∙ rw (e, part_whole xs a, drop-drop (length source) a xs, all, append_assoc)

-- a run of stores, and another right behind it
pub sets_sets : (vs ws xs : List ℕ) (i j : ℕ) → j ≡ i + length vs → sets (sets xs i vs) j ws ≡ sets xs i (vs ++ ws)
sets_sets [] ws xs i j e =
    let f : j ≡ i = omega arith in
    rw f
sets_sets (v ∷ vs) ws xs i j e = sets_sets vs ws (set xs i v) (suc i) j (omega arith)

-- three runs, each behind the one before
pub three_stored : (us vs ws xs : List ℕ) (i j k : ℕ) {xs₁ xs₂ xs₃ : List ℕ} → j ≡ i + length us → k ≡ j + length vs
    → xs₁ ≡ sets xs i us → xs₂ ≡ sets xs₁ j vs → xs₃ ≡ sets xs₂ k ws → xs₃ ≡ sets xs i (us ++ (vs ++ ws))
three_stored us vs ws xs i j k {xs₁} second third e f g =
    rw (g, f, sets_sets vs ws xs₁ j k third, e, sets_sets us (vs ++ ws) xs i j second)

-- three numbers are an entry, and three entries the contents
pub entry_stored : (xs : List ℕ) (at kind count offset : ℕ) {xs₁ xs₂ xs₃ : List ℕ}
    → xs₁ ≡ sets xs at (two_bytes kind) → xs₂ ≡ sets xs₁ (at + 2) (two_bytes count)
    → xs₃ ≡ sets xs₂ (at + 4) (two_bytes offset) → xs₃ ≡ sets xs at (entry kind count offset)
unfolding entry two_bytes
entry_stored xs at kind count offset e f g =
    three_stored (two_bytes kind) (two_bytes count) (two_bytes offset) xs at (at + 2) (at + 4) refl (omega arith) e f g

pub contents_stored : (c : Counts) (xs : List ℕ) {xs₁ xs₂ xs₃ : List ℕ}
    → xs₁ ≡ sets xs 0 (entry 1 c.states contents_bytes)
    → xs₂ ≡ sets xs₁ entry_bytes (entry 2 c.transitions (transitions_at c))
    → xs₃ ≡ sets xs₂ (2 * entry_bytes) (entry 3 c.initial (initial_at c)) → xs₃ ≡ sets xs 0 (contents c)
unfolding contents entry two_bytes
contents_stored c xs e f g = rw (g, f, e)

-- and three copies behind them an image over the buffer
pub image_stored : (c : Counts) (s t i xs : List ℕ) {xs₁ xs₂ xs₃ xs₄ : List ℕ} → 4 * c.states ≤ length s
    → 4 * c.transitions ≤ length t → 2 * c.initial ≤ length i → image_length c ≤ length xs
    → xs₁ ≡ sets xs 0 (contents c) → xs₂ ≡ sets xs₁ contents_bytes (take (4 * c.states) s)
    → xs₃ ≡ sets xs₂ (transitions_at c) (take (4 * c.transitions) t)
    → xs₄ ≡ sets xs₃ (initial_at c) (take (2 * c.initial) i)
    → buffer (accepted (image_length c)) xs₄ ≡ joined_over c s t i xs
image_stored c s t i xs {xs₁} room₁ room₂ room₃ long e f g h =
    let us = take (4 * c.states) s in
    let vs = take (4 * c.transitions) t in
    let ws = take (2 * c.initial) i in
    let n₁ : length us ≡ 4 * c.states = length-take-le (4 * c.states) s room₁ in
    let n₂ : length vs ≡ 4 * c.transitions = length-take-le (4 * c.transitions) t room₂ in
    let n₃ : length ws ≡ 2 * c.initial = length-take-le (2 * c.initial) i room₃ in
    let n : length (joined_bodies c s t i) ≡ image_length c = row_size c us vs ws n₁ n₂ n₃ in
    let bodies = three_stored us vs ws xs₁ contents_bytes (transitions_at c) (initial_at c)
    (omega (arith, n₁)) (omega (arith, n₂)) f g h in
    let behind = sets_sets (contents c) (us ++ (vs ++ ws)) xs 0 contents_bytes (omega (arith, contents_size c)) in
    let whole = sets-eq (joined_bodies c s t i) xs 0 (omega arith) in
    rw (bodies, e, behind, whole, n, zero-add (image_length c))
