-- States that join a set in bytes: none, one, or some and then others; and a loop in which they do. Assumes nothing.
use Prim.Native.Nat.{ℕ, suc, ◌+◌, ◌-◌, ◌*◌, ◌/◌, ◌%◌, ◌^◌, ◌<◌, ◌≤◌}
use mathlib.Core.Path.{◌≡◌, refl, sym, ◌∙◌, ap, fun_ext, subst}
use mathlib.Core.List.{List, [], ◌∷◌, ◌++◌}
use mathlib.Core.Bool.{Bool, true, false, ◌&&◌, ◌||◌, or-false}
use native.Mathlib.Omega.{arith}
use native.Mathlib.Numerals.{add-one}
use native.Mathlib.Decide.{ℕ_discrete}
use lib.ListN.{get_or, length, drop, set, length-set}
use lib.Seq.{get_or-set_same, get_or-set_other}
use lib.Bits.{bit_or, or_zero_r}
use lib.Dec.{eqb}
use borrow.Author.Tests.{ne_eqb}
use Rattle.answer.specs.Bytes.{number_at}
use Rattle.sets.specs.Sets.{any, any_below}
use Rattle.sets.proofs.Bits.{or_assoc}
use Rattle.sets.proofs.Members.{any_append}
use Rattle.automaton.specs.Automaton.{no_state}
use Rattle.automaton.specs.Limits.{max_states}
use Rattle.image.specs.Image.{initial_at}
use Rattle.image.specs.Reader.{counts_at, transitions_from, numbers_from, automaton_from}
use Rattle.image.specs.Lookup.{image_automaton, record_at, records_at, transition_count_of, Readable}
use Rattle.image.proofs.Lookup.{records_more, numbers_more, automaton_transitions, automaton_states}
use Rattle.image.proofs.Lookup.{records_end, target_inside, initial_offset, initial_inside}
use Rattle.field.specs.Sets.{in_set, bits_from, begun, leads_to, moves_to, moved}
use Rattle.field.specs.Memory.{Added}
use Rattle.field.proofs.Packing.{bits_none, bits_one, bits_or}

-- ---- what joins

-- a byte is left as it was if none of its states does
byte_same : (byte k : ℕ) (test : ℕ → Bool) → ((q : ℕ) → 8 * k ≤ q → q < 8 * k + 8 → test q ≡ false)
    → byte ≡ bit_or byte (bits_from test (8 * k) 8)
byte_same byte k test none = sym (ap (bit_or byte) (bits_none test (8 * k) 8 none) ∙ or_zero_r byte)

-- nothing
pub added_none : (x : List ℕ) (test : ℕ → Bool) → ((q : ℕ) → test q ≡ false) → Added x x test
added_none x test none = record { size = refl; bytes = λ k l. byte_same (get_or x k 0) k test (λ q a b. none q) }

-- one state
pub added_one : (x : List ℕ) (t bit : ℕ) → t / 8 < length x → bit ≡ 2 ^ (t % 8)
    → Added x (set x (t / 8) (bit_or (get_or x (t / 8) 0) bit)) (λ q. eqb q t)
added_one x t bit l is = record { size = length-set x (t / 8) byte; bytes = λ k m. go k (ℕ_discrete k (t / 8)) }
  where
    byte : ℕ
    byte = bit_or (get_or x (t / 8) 0) bit

    go : (k : ℕ) → Dec (k ≡ t / 8)
        → get_or (set x (t / 8) byte) k 0 ≡ bit_or (get_or x k 0) (bits_from (λ q. eqb q t) (8 * k) 8)
    go k (yes e) =
        let r : t % 8 ≡ t - 8 * k = omega arith in
        let one = bits_one t (8 * k) 8 (omega arith) (omega arith) in
        ap (λ (j : ℕ). get_or (set x (t / 8) byte) j 0) e ∙ get_or-set_same x (t / 8) byte 0 l
        ∙ ap (λ (j : ℕ). bit_or (get_or x j 0) bit) (sym e)
        ∙ ap (bit_or (get_or x k 0)) (is ∙ ap (λ (j : ℕ). 2 ^ j) r ∙ sym one)
    go k (no e) =
        get_or-set_other x (t / 8) k byte 0 e
        ∙ byte_same (get_or x k 0) k (λ q. eqb q t) (λ q a b. ne_eqb q t (λ (f : q ≡ t). e (omega arith)))

-- the same, said by another test
pub added_as : {x y : List ℕ} {f g : ℕ → Bool} → ((q : ℕ) → f q ≡ g q) → Added x y f → Added x y g
added_as {x} {y} same added = subst (Added x y) (fun_ext same) added

-- some, and then others
pub added_then : {x y z : List ℕ} {f g : ℕ → Bool} → Added x y f → Added y z g → Added x z (λ q. f q || g q)
added_then {x} {y} {z} {f} {g} first second = record {
  size = second.size ∙ first.size;
  bytes = λ k l.
      second.bytes k (omega (arith, first.size))
      ∙ ap (λ (b : ℕ). bit_or b (bits_from g (8 * k) 8)) (first.bytes k l)
      ∙ or_assoc (get_or x k 0) (bits_from f (8 * k) 8) (bits_from g (8 * k) 8)
      ∙ ap (bit_or (get_or x k 0)) (bits_or f g (8 * k) 8);
}

-- states that join only if a condition holds
module _ (x : List ℕ) {condition : Bool} (test : ℕ → Bool) where
  pub added_unless : condition ≡ false → Added x x (λ q. condition && test q)
  added_unless e = added_none x _ (λ q. rw e refl)

  pub added_if : (y : List ℕ) → condition ≡ true → Added x y test → Added x y (λ q. condition && test q)
  added_if y e added = added_as (λ q. sym (rw e refl)) added

-- a turn of a loop before which the states that pass `tests i` have joined
pub added_next : {x y z : List ℕ} (tests : ℕ → ℕ → Bool) (i : ℕ) {one : ℕ → Bool}
    → ((q : ℕ) → tests (suc i) q ≡ (tests i q || one q)) → Added x y (tests i) → Added y z one
    → Added x z (tests (i + 1))
added_next tests i more first then = rw (add-one i) (added_as (λ q. sym (more q)) (added_then first then))

-- ---- which states have joined before turn i

-- a test that one of a list passes, with one element more
any_more : {A : Type 0} (test : A → Bool) (xs ys : List A) (x : A) → ys ≡ xs ++ (x ∷ [])
    → any test ys ≡ (any test xs || test x)
unfolding any
any_more test xs ys x e =
    ap (any test) e ∙ any_append test xs (x ∷ []) ∙ ap (λ (b : Bool). any test xs || b) (or-false (test x))

-- those to which one of the first i transition records from byte `at` on leads
module _ (image : List ℕ) (letter at : ℕ) where
  unfoldable pub followed : (i q : ℕ) → Bool
  followed i q = any (leads_to letter q) (transitions_from i (drop at image))

  pub followed_none : (q : ℕ) → followed 0 q ≡ false
  unfolding followed transitions_from any
  followed_none q = refl

  pub followed_more : (i q : ℕ)
      → followed (suc i) q ≡ (followed i q || leads_to letter q (record_at image (at + 4 * i)))
  unfolding followed
  followed_more i q = any_more (leads_to letter q) _ _ _ (records_more i at image)

  pub followed_all : (p count : ℕ) → p < (counts_at image).states → at ≡ records_at image p
      → count ≡ transition_count_of image p
      → (q : ℕ)
      → followed count q ≡ any (leads_to letter q) (get_or (image_automaton image).states p no_state).transitions
  unfolding followed
  followed_all p count lp ea ec q =
      ap (any (leads_to letter q)) (rw (ea, ec) refl ∙ sym (automaton_transitions image p lp))

-- those that one of the first i numbers from byte `at` on names
module _ (image : List ℕ) (at : ℕ) where
  unfoldable pub named : (i q : ℕ) → Bool
  named i q = any (eqb q) (numbers_from i (drop at image))

  pub named_none : (q : ℕ) → named 0 q ≡ false
  unfolding named numbers_from any
  named_none q = refl

  pub named_more : (i t : ℕ) → t ≡ number_at image (at + 2 * i) → (q : ℕ) → named (suc i) q ≡ (named i q || eqb q t)
  unfolding named
  named_more i t is q = any_more (eqb q) _ _ t (rw is (numbers_more i at image))

  pub named_all : (count : ℕ) → at ≡ initial_at (counts_at image) → count ≡ (counts_at image).initial
      → (q : ℕ) → named count q ≡ begun (image_automaton image) q
  unfolding named begun automaton_from
  named_all count ea ec q = ap (any (eqb q)) (rw (ea, ec) refl)

-- those to which a step from one of the first p states leads
module _ (image set : List ℕ) (letter : ℕ) where
  unfoldable pub reached : (p q : ℕ) → Bool
  reached p q = any_below (moves_to (image_automaton image) (in_set set) letter q) p

  pub reached_none : (q : ℕ) → reached 0 q ≡ false
  unfolding reached any_below
  reached_none q = refl

  pub reached_more : (p q : ℕ)
      → reached (suc p) q ≡ (reached p q || moves_to (image_automaton image) (in_set set) letter q p)
  unfolding reached any_below
  reached_more p q = refl

  pub reached_all : (n : ℕ) → n ≡ (counts_at image).states
      → (q : ℕ) → reached n q ≡ moved (image_automaton image) (in_set set) letter q
  unfolding reached moved
  reached_all n en q =
      ap (any_below (moves_to (image_automaton image) (in_set set) letter q)) (en ∙ sym (automaton_states image))

-- ---- where the code looks

-- record i of state p lies in the image, and leads to a state
pub record_fits : (image : List ℕ) → Readable image → (p at n i : ℕ) → p < (counts_at image).states
    → at ≡ records_at image p → n ≡ transition_count_of image p → i < n
    → (at + 4 * i + 3 < length image) × (number_at image (at + 4 * i + 2) < max_states)
record_fits image fine p at n i lp ea en lt =
    let e = records_end image fine p lp in
    let t = target_inside image fine p i lp (rw en at lt) in
    (omega arith, rw ea (omega (arith, fine.few)))

-- initial number i is a state's
pub initial_fits : (image : List ℕ) → Readable image → (n i : ℕ) {q : ℕ} → n ≡ (counts_at image).initial → i < n
    → q ≡ number_at image (length image - 2 * n + 2 * i) → q < max_states
initial_fits image fine n i {q} en lt eq =
    let here : length image - 2 * n ≡ initial_at (counts_at image) = initial_offset image fine n en in
    let is : q ≡ number_at image (initial_at (counts_at image) + 2 * i)
    = eq ∙ ap (λ (k : ℕ). number_at image (k + 2 * i)) here in
    omega (arith, fine.few, initial_inside image fine i (rw en at lt))
