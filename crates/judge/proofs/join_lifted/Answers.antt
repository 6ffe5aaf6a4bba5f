-- `judge::join_lifted` meets its contract: the upper words of the row are joined with the lower ones of the other
-- (`RunBits`). Assumes nothing.
use native.Mathlib.Omega.{arith}
use Prim.Native.Nat.{ℕ, ◌+◌, ◌*◌}
use lib.ListN.{take, length-take}
use Rattle.judge.proofs.RunBits.{joined_part, joined_met}
use Rattle.judge.proofs.join_lifted.Goals as goal

pub returns : goal.returns
returns c =
    let rows = c.args.rows.now in
    let low = take 2 c.args.row.now in
    let q = c.args.q in
    joined_met rows c.args.row.now _ q
    (joined_part rows c.or_words.new.into low (4 * q + 2) (4 * q + 4) 2 (omega arith) (omega arith)
    (omega (arith, length-take {A = ℕ} 2 c.args.row.now)) c.or_words.auto.into c.or_words.ensures)
