-- A table that is filled from its front, then with zeros behind. Assumes nothing.
use mathlib.Core.Path.{◌≡◌, ◌∙◌}
use mathlib.Core.List.{List, [], ◌++◌, append-nil}
use Prim.Native.Nat.{ℕ, ◌+◌, ◌-◌, ◌≤◌}
use native.Mathlib.Omega.{arith}
use lib.ListN.{length, take, drop, replicate, length-append, length-drop, drop_of_length-le}
use lib.Seq.{sets, sets-eq, take_at, take_all, length-take-le}
use borrow.Rule.Slice.PartMut.{mid_of, put_mid}
use Rattle.answer.specs.Bytes.{filled}

-- bytes put right after the first at
pub front_more : (table after : List ℕ) (at next : ℕ) (more : List ℕ) → next ≡ at + length more → next ≤ length table
    → after ≡ sets table at more → take next after ≡ take at table ++ more
front_more table after at next more e fits put =
    rw (put, sets-eq more table at (omega arith))
    (take_at (take at table ++ more) (drop (at + length more) table) next
    (rw (length-append, length-take-le at table (omega arith)) (omega arith)))

-- zeros that came back in the place of the part from n on
pub zeroed_behind : (xs ys : List ℕ) (n : ℕ) → n ≤ length xs → ys ≡ replicate (length (mid_of n (length xs - n) xs)) 0
    → put_mid n (length xs - n) xs ys ≡ filled xs (take n xs)
zeroed_behind xs ys n le e =
    let part : take (length xs - n) (drop n xs) ≡ drop n xs =
    take_all (length xs - n) (drop n xs) (omega (arith, length-drop n xs)) in
    let rest : drop (length xs - n) (drop n xs) ≡ [] =
    drop_of_length-le (drop n xs) {i = length xs - n} (omega (arith, length-drop n xs)) in
    rw (e, part, rest, append-nil, length-drop n xs, length-take-le n xs le)

-- a table with these bytes in front, and zeros behind them
pub filled_as : (before table after bytes : List ℕ) (n : ℕ) → take n table ≡ bytes → length table ≡ length before
    → after ≡ filled table (take n table) → after ≡ filled before bytes
filled_as before table after bytes n front same e = e ∙ rw (front, same)
