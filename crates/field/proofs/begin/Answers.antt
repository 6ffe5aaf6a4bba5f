-- `field::begin` meets its contract: the initial states are stored, and the answer is whether there is none. Assumes
-- nothing.
use Rattle.image.specs.Lookup.{image_automaton}
use Rattle.field.proofs.Calling.{packed_is}
use Rattle.field.proofs.begin.Goals as goal

pub returns : goal.returns
returns c =
    packed_is (image_automaton c.args.image.now.bytes.now) c.args.set.now _ c.initial_set.result _ _
    c.initial_set.ensures c.store.ensures c.is_empty.ensures
