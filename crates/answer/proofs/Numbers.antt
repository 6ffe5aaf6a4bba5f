-- Numbers of two bytes. Assumes nothing.
use Prim.Native.Nat.{ℕ, ◌/◌, ◌%◌, ◌<◌}
use mathlib.Core.Path.{◌≡◌}
use native.Mathlib.Omega.{arith}

-- the high byte of such a number needs no remainder
pub high_byte : (x : ℕ) → x < 65536 → x / 256 % 256 ≡ x / 256
high_byte x lt = omega arith
