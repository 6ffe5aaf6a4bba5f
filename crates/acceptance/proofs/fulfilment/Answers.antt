-- `acceptance::fulfilment` meets its contract: the bits of the untils passed are set where they are fulfilled.
-- Assumes nothing.
use native.Mathlib.Omega.{arith}
use native.Mathlib.Numerals.{add-one}
use mathlib.Core.Path.{◌≡◌, refl, sym, ◌∙◌}
use mathlib.Core.Bool.{Bool, true, false, cond}
use mathlib.Core.List.{List}
use Prim.Native.Nat.{ℕ, ◌+◌, ◌*◌, ◌%◌, ◌^◌, ◌≤◌, ◌<◌}
use lib.ListN.{length, get_or}
use lib.Seq.{get_or-take}
use lib.Bits.{bit_or, or_shifted_r, or_zero_r}
use borrow.Author.Rules.{rules}
use Rattle.sets.proofs.Bits.{shifted_one}
use Rattle.formula.specs.Limits.{max_nodes, max_untils}
use Rattle.formula.specs.Rule.{node_count, untils}
use Rattle.formula.proofs.Accepted.{accepted_fine}
use Rattle.formula.proofs.Trees.{accepted_in_range}
use Rattle.term.specs.Limits.{row_places}
use Rattle.term.specs.Memory.{unpack, row_of}
use Rattle.term.proofs.Rows.{row_is, row_fits}
use Rattle.acceptance.specs.Acceptance.{fulfils_next, bits_of, fulfilment}
use Rattle.acceptance.specs.Memory.{Known, fulfils_n}
use Rattle.acceptance.proofs.Gathering.{untils_few, untils_below}
use Rattle.acceptance.proofs.Tests.{fulfils_number}
use Rattle.acceptance.proofs.Bits.{bits_small}
use Rattle.acceptance.proofs.fulfilment.Goals as goal

-- a byte in which no bit from k on is set, with bit k if so is asked
with_bit : (byte k : ℕ) {r : ℕ} (b : Bool) → k < max_untils → byte < 2 ^ k → r ≡ cond b 1 0
    → bit_or byte (r * 2 ^ k % 2 ^ 8) ≡ byte + cond b (2 ^ k) 0
with_bit byte k true lt small e =
    let one : 1 * 2 ^ k ≡ 2 ^ k = omega arith in
    let or : bit_or byte (2 ^ k) ≡ 2 ^ k + byte = rw one at (or_shifted_r 1 k byte small) in
    rw (e, shifted_one 8 k lt) (omega (arith, or))
with_bit byte k false lt small e =
    let none : 0 * 2 ^ k % 2 ^ 8 ≡ 0 = omega arith in
    rw (e, none, or_zero_r) (omega arith)

module _ {rule table nodes : List ℕ} (known : Known rule table nodes (length nodes)) where
  fulfil_ends : (t : ℕ) {byte : ℕ} (k : ℕ) → k ≡ length nodes → byte ≡ bits_of (λ j. fulfils_next rule j (unpack t)) k
      → byte ≡ fulfilment rule (unpack t)
  unfolding fulfilment
  fulfil_ends t k e inv =
      let all : k ≡ length (untils rule (node_count rule)) = omega (arith, known.untils.counted) in
      rw all at inv

  module _ (k : ℕ) (lt : k < length nodes) where
    few : k < max_untils
    few = omega (arith, known.untils.counted, untils_few rule known.accepted)

    node_is : get_or nodes k 0 ≡ get_or (untils rule (node_count rule)) k 0
    node_is = rw (← known.untils.gathered) (sym (get_or-take (length nodes) nodes k 0 lt))

    inside : get_or nodes k 0 < node_count rule
    inside = rw node_is (untils_below rule (node_count rule) k (omega (arith, known.untils.counted)))

    node_small : get_or nodes k 0 < max_nodes
    node_small = omega (arith, inside, (accepted_fine rule known.accepted).most)

    row_inside : get_or nodes k 0 * row_places + 1 + get_or table (get_or nodes k 0 * row_places) 0 ≤ length table
    row_inside = omega (arith, row_fits known.terms (get_or nodes k 0) inside)

    next : {b : Bool} (t : ℕ) → b ≡ fulfils_n (get_or nodes k 0) (row_of table (get_or nodes k 0)) t
        → b ≡ fulfils_next rule k (unpack t)
    next t is =
        is ∙ rw (
          row_is (known.terms.rows (get_or nodes k 0) inside),
          fulfils_number rule (get_or nodes k 0) t
              (accepted_in_range rule known.accepted (get_or nodes k 0) inside),
          node_is,
        )

    fulfil_steps : (t : ℕ) {byte r : ℕ} {b : Bool} → byte ≡ bits_of (λ j. fulfils_next rule j (unpack t)) k
        → b ≡ fulfils_n (get_or nodes k 0) (row_of table (get_or nodes k 0)) t → r ≡ cond b 1 0
        → bit_or byte (r * 2 ^ k % 2 ^ 8) ≡ bits_of (λ j. fulfils_next rule j (unpack t)) (k + 1)
    unfolding bits_of
    fulfil_steps t {byte} {r} {b} inv is e =
        let small : byte < 2 ^ k = rw inv (bits_small _ k) in
        with_bit byte k b few small e ∙ rw (add-one, ← next t is, inv)

pub loop-k-init : goal.loop-k-init
unfolding bits_of
loop-k-init c = refl

pub fulfils_node-requires : goal.fulfils_node-requires
fulfils_node-requires c =
    (node_small c.requires c.loop-k.k c.loop-k-test.true, row_inside c.requires c.loop-k.k c.loop-k-test.true)

pub overflow_cast-byte : goal.overflow_cast-byte
overflow_cast-byte c = omega (arith, few c.requires c.loop-k.k c.loop-k-test.true)

pub overflow_shl-byte : goal.overflow_shl-byte
overflow_shl-byte c = omega (arith, few c.requires c.loop-k.k c.loop-k-test.true)

pub loop-k-preserved : goal.loop-k-preserved
loop-k-preserved c =
    fulfil_steps c.requires c.loop-k.k c.loop-k-test.true c.args.t c.loop-k.invariant c.fulfils_node.ensures
    (search rules)

pub returns : goal.returns
returns c = fulfil_ends c.requires c.args.t c.loop-k.k (omega arith) c.loop-k.invariant
