-- `merge::conjoin` meets its contract: the first rule, the second one's nodes and the root are `conjoined`.
-- Assumes nothing.
use native.Mathlib.Omega.{arith}
use Rattle.formula.specs.Rule.{release_kind}
use Rattle.formula.proofs.Accepted.{formed_fine}
use Rattle.merge.proofs.Moving.{conjoins}
use borrow.Author.Rules.{rules}
use Rattle.merge.proofs.conjoin.Goals as goal

pub overflow_sub-m : goal.overflow_sub-m
overflow_sub-m c = omega (arith, (formed_fine release_kind _ c.requires.0).some)

pub overflow_sub-end : goal.overflow_sub-end
overflow_sub-end c = omega (arith, (formed_fine release_kind _ c.requires.0).some)

pub returns : goal.returns
returns c =
    conjoins _ _ _ _ _ _ c.requires.0 c.requires.1
    (search rules) c.copy.ensures c.put_all_moved.ensures
    c.put_node.ensures
