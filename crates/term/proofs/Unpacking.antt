-- A number is one term, and a term whose must and must_not are bytes is read back from its number.
-- Assumes nothing.
use mathlib.Core.Path.{◌≡◌, refl}
use mathlib.Core.Logic.{inl, inr}
use mathlib.Core.List.{List, [], ◌∷◌, map}
use Prim.Native.Nat.{ℕ, ◌/◌, ◌%◌}
use native.Mathlib.Omega.{arith}
use Rattle.term.specs.Term.{Term}
use Rattle.term.specs.Memory.{pack, obligations_n, unpack}
use Rattle.sets.proofs.Members.{All}
use Rattle.term.proofs.Packing.{Bytes}

pub pack_unpack : (t : ℕ) → pack (unpack t) ≡ t
pack_unpack t = omega arith

pub unpack_bytes : (t : ℕ) → Bytes (unpack t)
unpack_bytes t = record { must = omega arith; must_not = omega arith }

pub unpack_pack : (t : Term) → Bytes t → unpack (pack t) ≡ t
unpack_pack t bytes =
    let a : pack t / 256 % 256 ≡ t.must = omega (arith, bytes.must, bytes.must_not) in
    let b : pack t % 256 ≡ t.must_not = omega (arith, bytes.must, bytes.must_not) in
    let c : obligations_n (pack t) ≡ t.obligations = omega (arith, bytes.must, bytes.must_not) in
    rw (a, b, c)

pub unpack_all : (ts : List Term) → All Bytes ts → map unpack (map pack ts) ≡ ts
unpack_all [] bytes = refl
unpack_all (t ∷ ts) bytes = rw (unpack_pack t (bytes t (inl refl)), unpack_all ts (λ u m. bytes u (inr m)))
