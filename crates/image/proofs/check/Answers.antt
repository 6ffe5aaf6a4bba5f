-- `image::check` meets its contract: the contents decide first, then the bodies, whose counts are then the contents'.
-- Assumes nothing.
use Rattle.std.proofs.Common.{rules, ◌≡◌, Err}
use Rattle.image.proofs.Contents.{sized, contents_refused}
use Rattle.image.proofs.check.Goals as goal

pub returns-in_err-counts : goal.returns-in_err-counts
returns-in_err-counts c =
    let same : c.from_residual.result ≡ Err c.in_err-counts.field-0.0 = search rules in
    rw same (contents_refused c.args.image.now c.in_err-counts.ensures)

pub check_bodies-requires : goal.check_bodies-requires
check_bodies-requires c = sized c.args.image.now c.in_ok-counts.ensures
