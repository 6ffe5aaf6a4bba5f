-- A transition in the table is read back: each part of its number is what was put there.
-- Assumes nothing.
use mathlib.Core.Path.{◌≡◌}
use mathlib.Core.Logic.{⊎_elim}
use mathlib.Core.List.{List, [], ◌∷◌}
use Prim.Native.Nat.{ℕ}
use native.Mathlib.Omega.{arith}
use lib.Dec.{eqb}
use Rattle.answer.specs.Result.{fine}
use Rattle.sets.specs.Sets.{In}
use Rattle.sets.proofs.Members.{append_in}
use Rattle.term.specs.Term.{Term}
use Rattle.term.specs.Size.{sizes_checked}
use Rattle.term.proofs.Sizes.{bytes_fine}
use Rattle.term.proofs.Packing.{Bytes}
use Rattle.acceptance.specs.Acceptance.{fulfilment}
use Rattle.acceptance.proofs.Bits.{fulfilment_byte}
use Rattle.generalized.specs.Explore.{find}
use Rattle.generalized.specs.Generalized.{transitions}
use Rattle.generalized.specs.Memory.{kept, kept_target, kept_untils, kept_must, kept_must_not, all_transitions}
use Rattle.generalized.proofs.Sifting.{transitions_bytes_lem}

all_bytes : (rule : List ℕ) → sizes_checked rule ≡ fine → (xs : List ℕ) (t : Term) → In t (all_transitions rule xs)
    → Bytes t
unfolding all_transitions
all_bytes rule passed [] t h = absurd h
all_bytes rule passed (x ∷ xs) t h =
    ⊎_elim (transitions_bytes_lem rule passed x t) (all_bytes rule passed xs t)
    (append_in t (transitions rule x) (all_transitions rule xs) h)

pub record Parts (rule states : List ℕ) (t : Term) : Type 0 where
  pub target : kept_target (kept rule states t) ≡ find eqb t.obligations states
  pub untils : kept_untils (kept rule states t) ≡ fulfilment rule t
  pub must : kept_must (kept rule states t) ≡ t.must
  pub must_not : kept_must_not (kept rule states t) ≡ t.must_not

-- of every transition of the states xs
pub kept_parts : (rule : List ℕ) → sizes_checked rule ≡ fine → (xs states : List ℕ) (t : Term)
    → In t (all_transitions rule xs) → Parts rule states t
kept_parts rule passed xs states t h =
    let small = all_bytes rule passed xs t h in
    let byte = fulfilment_byte rule (bytes_fine rule passed) t in
    record {
      target = omega (arith, small.must, small.must_not, byte);
      untils = omega (arith, small.must, small.must_not, byte);
      must = omega (arith, small.must, small.must_not);
      must_not = omega (arith, small.must_not);
    }
