-- `translation::Pairs::meet` meets its contract: seen, full, or new with the next number.
-- Assumes nothing.
use native.Mathlib.Omega.{arith}
use Rattle.translation.proofs.Meeting.{listed_length, late, met_seen, met_full, met_next}
use Rattle.translation.proofs.Pairs.meet.Goals as goal

pub returns-then-known-ne0 : goal.returns-then-known-ne0
returns-then-known-ne0 c =
    met_seen c.self.invariant c.self.view_is c.args.code c.requires c.if-known-ne0.true _ (rw c.from.ensures)

pub returns-then-self-ge-MAX_STATES : goal.returns-then-self-ge-MAX_STATES
returns-then-self-ge-MAX_STATES c =
    met_full c.self.invariant c.self.view_is c.args.code c.requires c.if-known-ne0.false
    c.if-self-ge-MAX_STATES.true

pub returns : goal.returns
returns c =
    let size = listed_length c.self.invariant c.self.view_is in
    met_next c.args.code (omega (arith, size))
    (late c.self.invariant c.self.view_is c.args.code c.requires c.if-known-ne0.false)
    c.add.ensures.number c.add.ensures.codes
