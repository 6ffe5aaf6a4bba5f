-- `sets::insert_at` meets its contract: what stands from the place on is copied one place on. Assumes nothing.
use Rattle.std.proofs.Common.{arith, add-one, length-set, ◌≡◌, ◌-◌, suc}
use Rattle.std.specs.List.{copy_within}
use Rattle.sets.proofs.Lists.{shift_put}
use Rattle.sets.proofs.Stores.{full, shifted}
use Rattle.sets.proofs.insert_at.Goals as goal

pub returns-then-items-count : goal.returns-then-items-count
returns-then-items-count c = full c.args.items.now c.args.count _ _ _ (omega arith) (omega arith)

pub returns : goal.returns
returns c =
    let items = c.args.items.now in
    let n = c.args.count in
    let copied : c.copy_within.new.self ≡ copy_within items c.args.i n (suc c.args.i) =
    rw (← add-one) c.copy_within.ensures.after in
    shifted items _ n c.args.i c.args.t (omega arith) (simp length-set c.copy_within.ensures.len)
    (rw copied (shift_put c.args.i n (n - c.args.i) c.args.t items _ (omega arith) (omega arith)))
