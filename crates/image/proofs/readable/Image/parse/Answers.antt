-- `image::Image::parse` meets its contract: of an image that check accepts the records can be looked up.
-- Assumes nothing.
use Rattle.image.proofs.Accepted.{known, accepted_counts}
use Rattle.image.proofs.readable.Image.parse.Goals as goal

pub invariant_of-result : goal.invariant_of-result
invariant_of-result c =
    let fine = known _ c.in_ok-counts.ensures in
    record {
      counted = accepted_counts _ c.in_ok-counts.ensures;
      few = fine.few;
      size = fine.size;
      sum = fine.sum;
      rests = fine.rests;
      targets = fine.targets;
      starts = fine.starts;
    }
