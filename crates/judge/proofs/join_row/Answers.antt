-- `judge::join_row` meets its contract: the words of the row are joined with those of the other (`RunBits`).
-- Assumes nothing.
use native.Mathlib.Omega.{arith}
use Prim.Native.Nat.{◌+◌, ◌*◌}
use Rattle.judge.proofs.RunBits.{joined_part, joined_row}
use Rattle.judge.proofs.join_row.Goals as goal

pub returns : goal.returns
returns c =
    let rows = c.args.rows.now in
    let q = c.args.q in
    joined_row rows c.args.row.now _ q
    (joined_part rows c.or_words.new.into c.args.row.now (4 * q) (4 * q + 4) 4 (omega arith) (omega arith) (omega arith)
    c.or_words.auto.into c.or_words.ensures)
