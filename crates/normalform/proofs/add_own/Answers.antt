-- `normalform::add_own` meets its contract: by the node's kind, the codes that `own_codes` has.
-- Assumes nothing.
use native.Mathlib.Omega.{arith}
use Rattle.normalform.proofs.Codes.{own_none, own_one, own_two}
use Rattle.normalform.proofs.add_own.Goals as goal

pub returns-in-Not : goal.returns-in-Not
returns-in-Not c = own_none _ c.args.kind c.args.n c.args.negated c.in-Not.is

pub returns-in-Always : goal.returns-in-Always
returns-in-Always c =
    own_two _ c.args.kind c.args.n c.args.negated _ (omega (arith, c.requires.1, c.pair_code.ensures.1))
    c.in-Always.is c.pair_code.ensures.0 _ c.constant_code.ensures.0
    (omega (arith, c.requires.1, c.constant_code.ensures.1))

pub returns-in_default : goal.returns-in_default
returns-in_default c =
    own_one _ c.args.kind c.args.n c.args.negated _ (omega (arith, c.requires.1, c.own_code.ensures.1))
    c.own_code.ensures.0 c.in_default.not-Not c.in_default.not-Always c.in_default.not-Eventually
