-- `image::check_bodies` meets its contract: the parts that go to the image's end are what is left there.
-- Assumes nothing.
use Rattle.image.proofs.Contents.{parts_whole}
use Rattle.image.proofs.check_bodies.Goals as goal

pub returns : goal.returns
returns c =
    rw (c.transitions_at.ensures, c.initial_at.ensures)
    at (parts_whole c.args.counts c.args.image.now _ _ _ c.check_records.ensures)
