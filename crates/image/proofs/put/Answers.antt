-- `image::put` meets its contract: a copy in the lent part from `at` on. Assumes nothing.
use Rattle.image.proofs.Stores.{part_copied}
use Rattle.image.proofs.put.Goals as goal

pub returns : goal.returns
returns c = part_copied c.args.image.now c.args.source.now c.args.at c.requires c.copy.ensures
