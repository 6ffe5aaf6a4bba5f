-- `term::terms_leaf` meets its contract, kind by kind.
-- Assumes nothing.
use mathlib.Core.Path.{◌≡◌}
use Prim.Native.Nat.{◌^◌}
use borrow.Author.Rules.{rules}
use Rattle.formula.specs.declared.kind.Kind.TheVariants.{NegatedProposition}
use Rattle.term.specs.Term.{terms, conflicts}
use Rattle.term.proofs.Packing.{pack_must, pack_must_not}
use Rattle.term.proofs.terms_leaf.Goals as goal

pub returns-in-False : goal.returns-in-False
unfolding terms conflicts
returns-in-False c = λ n f g. rw c.in-False.is c.none.ensures

pub returns-in-True : goal.returns-in-True
unfolding terms conflicts
returns-in-True c = λ n f g. rw c.in-True.is c.one.ensures

pub returns-in-Proposition : goal.returns-in-Proposition
unfolding terms conflicts
returns-in-Proposition c = λ n f g. rw (c.in-Proposition.is, pack_must, ← c.bit.ensures) c.one-in-Proposition.ensures

pub returns-in_default : goal.returns-in_default
unfolding terms conflicts
returns-in_default c =
    λ n f g.
    let is-negated : c.args.kind ≡ NegatedProposition = search rules in
    rw (is-negated, pack_must_not (2 ^ c.args.p), ← c.bit-in_default.ensures) c.one-in_default.ensures
