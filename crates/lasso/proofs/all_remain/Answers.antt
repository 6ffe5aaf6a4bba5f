-- `lasso::all_remain` meets its contract: all bits joined are below 128 where each letter is. Assumes nothing.
use Rattle.std.proofs.Common.{rules, bit_or, ◌≡◌}
use Rattle.std.specs.List.{fold}
use Rattle.std.proofs.lemmas.Iterator.{YieldsList-from_slice}
use Rattle.std.proofs.lemmas.Iterator.Consumers.{fold_from_yields_List}
use Rattle.lasso.proofs.Skipping.{joined-remain}
use Rattle.lasso.proofs.all_remain.Goals as goal

pub returns : goal.returns
returns c =
    let letters = c.args.letters.now in
    let joined : c.fold.result ≡ fold bit_or 0 letters =
    fold_from_yields_List _ bit_or 0 _ c.fold.ensures.ran (YieldsList-from_slice letters cc)
    (λ a x b q k. search rules) in
    rw joined (joined-remain letters)
