-- `generalized::meet_state` meets its contract: a place below n is that of a seen one, an unseen one goes to place n.
-- Assumes nothing.
use native.Mathlib.Omega.{arith}
use native.Mathlib.Numerals.{add-one}
use mathlib.Core.Path.{◌≡◌, refl, sym, ◌∙◌}
use mathlib.Core.List.{List}
use Prim.Native.Nat.{ℕ, ◌+◌, ◌≤◌, ◌<◌}
use lib.ListN.{length, take, set, length-set}
use lib.Seq.{take-suc-set, take-take, take-set-le, length-take-le}
use lib.Dec.{eqb}
use borrow.Author.Tests.{eq-eqb}
use Rattle.std.specs.Prelude.{Some, None}
use Rattle.generalized.specs.Memory.{Finds, MeetsState}
use Rattle.generalized.proofs.Exploring.{meet_seen, meet_next, meet_full}
use Rattle.generalized.proofs.Numbers.{find_next}
use Rattle.generalized.proofs.meet_state.Goals as goal

module _ (items : List ℕ) (n x : ℕ) (le : n ≤ length items) where
  size : length (take n items) ≡ n
  size = length-take-le n items le

  seen : (k : ℕ) → Finds x (take n items) (Some k)
      → MeetsState x n items (Some (record { number = k; count = n })) items
  seen k found full place = record {
    are = meet_seen eqb (length items) full place x (take n items) (omega (arith, found));
    fits = le;
    first = rw size (take-take n n items (omega arith));
    found = found.0;
    inside = omega (arith, size, found.1);
  }

  module _ (unseen : Finds x (take n items) None) where
    crowded : length items ≤ n → MeetsState x n items None items
    crowded l full place = meet_full eqb (length items) full place x (take n items) unseen (omega (arith, size))

    next : n < length items → MeetsState x n items (Some (record { number = n; count = n + 1 })) (set items n x)
    next lt full place =
        let free : length (take n items) < length items = omega (arith, size) in
        let more = take-suc-set items n x lt in
        record {
          are = meet_next eqb (length items) full place x (take n items) unseen free ∙ rw (add-one, more);
          fits = rw length-set (omega arith);
          first = rw (size, take-take n (n + 1) (set items n x) (omega arith)) (take-set-le n items n x (omega arith));
          found = sym (rw (add-one, more) (find_next eqb x (take n items) (eq-eqb x x refl) unseen ∙ size));
          inside = omega arith;
        }

pub returns-in-Some : goal.returns-in-Some
returns-in-Some c = seen c.args.items.now c.args.n c.args.x c.requires.0 _ c.in-Some.ensures

pub returns-then-items-n : goal.returns-then-items-n
returns-then-items-n c =
    crowded c.args.items.now c.args.n c.args.x c.requires.0 c.in_default.ensures c.if-items-n.true

pub returns : goal.returns
returns c = next c.args.items.now c.args.n c.args.x c.requires.0 c.in_default.ensures c.if-items-n.false
