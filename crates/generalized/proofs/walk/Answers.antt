-- `generalized::walk` meets its contract: the states before place are in the tables, the rest is left (`Walking`).
-- Assumes nothing.
use native.Mathlib.Omega.{arith}
use mathlib.Core.Path.{◌≡◌, refl, sym, ap, ◌∙◌}
use mathlib.Core.List.{List, [], ◌++◌}
use Prim.Native.Nat.{ℕ, ◌≤◌}
use lib.ListN.{length, get_or, take, drop, length-append, length-take, length-drop}
use lib.Seq.{length-take-le, take_at, take-append-le}
use Rattle.std.specs.Prelude.{Some, None, Err}
use Rattle.std.proofs.lemmas.List.{drop_all, append-nil}
use Rattle.answer.specs.declared.Refusal.{Refusal}
use Rattle.answer.specs.declared.Reason.TheVariants.{ProductTooLarge}
use Rattle.generalized.specs.Memory.{Product, Told}
use Rattle.term.proofs.Sizes.{bytes_fine}
use Rattle.generalized.proofs.Walking.{walk_begins, walk_refused, walk_over, walk_steps, walk_ends}
use Rattle.generalized.proofs.Sifting.{terms_sorted}
use borrow.Author.Rules.{rules}
use Rattle.generalized.proofs.walk.Goals as goal
use Rattle.generalized.proofs.walk.Goals.{After-fulfil}

pub loop-state-init : goal.loop-state-init
loop-state-init c = (
  walk_begins _ _ _ _ c.start-initial.ensures.0 c.start-initial.ensures.1
      (record {
        states_room = c.start-initial.auto.states ∙ c.requires.2.states_room;
        transitions_room = c.requires.2.transitions_room;
        ends_room = c.requires.2.ends_room;
      }),
  record { products = record { room = refl; beside = refl }; bytes_room = refl },
)

pub returns-in_err-terms : goal.returns-in_err-terms
returns-in_err-terms c =
    let refusal : Refusal = record { reason = ProductTooLarge; place = c.loop-state.state.0 } in
    let same : c.from_residual.result ≡ Err c.in_err-terms.field-0.0 = search rules in
    let is : c.in_err-terms.field-0.0 ≡ refusal = search rules in
    let none : c.state_terms.result ≡ None = search rules in
    rw (same, is) (walk_over c.loop-state.invariant.0 c.loop-state-test.true (rw none at c.state_terms.ensures))

pub fulfil-requires : goal.fulfil-requires
fulfil-requires c =
    let room = c.state_terms.auto.product ∙ c.loop-state.invariant.1.products.room in (
      simp length-take (omega (arith, room, c.loop-state.invariant.1.bytes_room)),
      record { accepted = bytes_fine _ c.requires.0; terms = c.requires.1; untils = c.untils_of-untils.ensures },
    )

-- what is known once the untils are told
module _ (c : After-fulfil) where
  abbrev many : ℕ
  many = c.in_ok-terms.terms.count

  abbrev terms : List ℕ
  terms = take many c.state_terms.new.product

  product : Product c.args.rule.now.bytes.now (get_or c.loop-state.states c.loop-state.state.0 0)
      c.state_terms.new.product c.in_ok-terms.terms
  product =
      let some : c.state_terms.result ≡ Some c.in_ok-terms.terms = search rules in
      rw some at c.state_terms.ensures

  product_size : length terms ≡ many
  product_size =
      let room = c.state_terms.auto.product ∙ c.loop-state.invariant.1.products.room in
      length-take-le many c.state_terms.new.product (omega (arith, room, product.few))

  bytes_size : length c.fulfil.new.bytes ≡ many
  bytes_size =
      let room = c.loop-state.invariant.1.bytes_room in
      c.fulfil.auto.bytes ∙ length-take-le many c.loop-state.bytes (omega (arith, room, product.few))

  -- they stand in the first places
  bytes_are : take many (c.fulfil.new.bytes ++ drop many c.loop-state.bytes) ≡ c.fulfil.new.bytes
  bytes_are = take_at c.fulfil.new.bytes _ many bytes_size

  abbrev front : List ℕ
  front = take many (c.fulfil.new.bytes ++ drop many c.loop-state.bytes)

  -- and none are behind them that stay
  none_behind : drop (length terms) (take many c.loop-state.bytes) ≡ []
  none_behind =
      drop_all (length terms) _ (omega (arith, c.fulfil.auto.bytes, bytes_size, product_size))

  told : Told c.args.rule.now.bytes.now terms front
  told = rw bytes_are (c.fulfil.ensures ∙ rw (none_behind, append-nil) refl)

  -- what the few that are left stand before
  module _ {few : ℕ} (le : few ≤ length terms) where
    terms_left : (ts rest : List ℕ) → length ts ≡ length terms → take few (ts ++ rest) ≡ take few ts
    terms_left ts rest same = take-append-le few ts rest (omega arith)

    bytes_left : (bytes rest : List ℕ) → length bytes ≡ length front → take few (bytes ++ rest) ≡ take few bytes
    bytes_left bytes rest same =
        take-append-le few bytes rest (omega (arith, ap length bytes_are, bytes_size, product_size))

-- a list of which the first n are others now
stays_long : (n : ℕ) (ys xs : List ℕ) → length ys ≡ length (take n xs) → length (ys ++ drop n xs) ≡ length xs
stays_long n ys xs e = simp (length-append, length-drop) (omega (arith, e, length-take n xs))

pub drop_dominated-few-requires : goal.drop_dominated-few-requires
drop_dominated-few-requires d =
    let c = (goal.at.drop_dominated-few-requires d).After-fulfil in
    terms_sorted _ d.requires.0 _ (product c).terms
    (rw (bytes_are c) (bytes_size c ∙ sym (product_size c)))

pub returns-in_err-size : goal.returns-in_err-size
returns-in_err-size d =
    let c = (goal.at.returns-in_err-size d).After-fulfil in
    let found = product c in
    let drops = d.drop_dominated-few.ensures in
    let sizes = d.drop_dominated-few.auto in
    let same : d.from_residual-in_err-size.result ≡ Err d.in_err-size.field-0.0 = search rules in
    rw same (walk_refused d.loop-state.invariant.0 d.loop-state-test.true d.requires.0 (found.checked _) found.terms
    (told c) drops d.meet_all.new.states d.meet_all.new.transitions d.in_err-size.field-0.0
    (rw (terms_left c drops.few _ _ sizes.ts, bytes_left c drops.few _ _ sizes.bytes) at d.in_err-size.ensures))

pub loop-state-preserved : goal.loop-state-preserved
loop-state-preserved d =
    let c = (goal.at.loop-state-preserved d).After-fulfil in
    let found = product c in
    let drops = d.drop_dominated-few.ensures in
    let sizes = d.drop_dominated-few.auto in
    let space = d.loop-state.invariant.1 in (
      walk_steps d.loop-state.invariant.0 d.loop-state-test.true d.requires.0 (found.checked _) found.terms (told c)
          drops d.meet_all.new.states d.meet_all.new.transitions d.in_ok-size.size
          (rw (terms_left c drops.few _ _ sizes.ts, bytes_left c drops.few _ _ sizes.bytes) at d.in_ok-size.ensures)
          d.meet_all.auto.states d.meet_all.auto.transitions refl found.conflicts,
      record {
        products = record {
          room = stays_long _ _ _ sizes.ts ∙ d.state_terms.auto.product ∙ space.products.room;
          beside = d.state_terms.auto.next ∙ space.products.beside;
        };
        bytes_room = stays_long _ _ _ sizes.bytes ∙ stays_long _ _ _ d.fulfil.auto.bytes ∙ space.bytes_room;
      },
    )

pub returns : goal.returns
returns c = walk_ends c.loop-state.invariant.0 c.loop-state-test.false
