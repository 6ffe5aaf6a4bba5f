-- `field::store` meets its contract: a copy in front, then zeros. Assumes nothing.
use lib.Seq.{take_at}
use Rattle.answer.proofs.Filling.{filled_as}
use Rattle.field.specs.Sets.{set_bytes}
use Rattle.field.proofs.store.Goals as goal

pub returns : goal.returns
returns c =
    filled_as c.args.set.now c.copy.new.target _ c.args.bytes.now set_bytes
    (rw c.copy.ensures (take_at c.args.bytes.now _ set_bytes c.requires.0)) c.copy.auto.target c.zero_behind.ensures
