-- `sameword::same_letters` meets its contract: the letters that are looked at are those of `words_agree`, which agree
-- exactly where all do. Assumes nothing.
use mathlib.Core.Path.{◌≡◌}
use Rattle.std.proofs.Common.{rules}
use Rattle.sameword.specs.Words.{words_agree}
use Rattle.sameword.proofs.Periods.{words_agree_exactly}
use Rattle.sameword.proofs.same_letters.Goals as goal

pub returns : goal.returns
unfolding words_agree
returns c =
    let first = c.args.first.now in
    let second = c.args.second.now in
    let told : c.letters_agree.result ≡ words_agree first.stem.now first.cycle.now second.stem.now second.cycle.now =
    search rules in
    (told, rw told (words_agree_exactly _ _ _ _ c.requires.0 c.requires.2))
