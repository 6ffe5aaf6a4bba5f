-- A table that is filled with records from its front. Assumes nothing.
use mathlib.Core.Path.{◌≡◌, refl, ◌∙◌}
use mathlib.Core.List.{List, [], ◌∷◌, ◌++◌, append_assoc}
use mathlib.Core.Bool.{Bool, true, false, cond}
use mir.Val.{bool_byte}
use Prim.Native.Nat.{ℕ, suc, ◌+◌, ◌*◌, ◌≤◌}
use native.Mathlib.Omega.{arith}
use lib.ListN.{length, take, set, length-append}
use lib.Seq.{sets}
use Rattle.automaton.specs.Records.{records, state_bytes, transition_bytes}
use Rattle.answer.specs.Bytes.{two_bytes}
use Rattle.answer.proofs.Filling.{front_more}
use Rattle.automaton.proofs.Records.{records_last}
use Rattle.translation.specs.Memory.{AddsRecords}

pub transition_length : (must must_not target : ℕ) → length (transition_bytes must must_not target) ≡ 4
unfolding two_bytes
transition_length must must_not target = refl

-- ---- the front

-- one record more
pub front_record : {A : Type 0} (bytes_of : A → List ℕ) (xs : List A) (x : A) (table after : List ℕ) (at next : ℕ)
    → take at table ≡ records bytes_of xs → next ≡ at + length (bytes_of x) → next ≤ length table
    → after ≡ sets table at (bytes_of x) → take next after ≡ records bytes_of (xs ++ (x ∷ []))
front_record bytes_of xs x table after at next front e fits put =
    front_more table after at next (bytes_of x) e fits put ∙ rw (front, records_last bytes_of xs x)

-- the byte of a test
byte_is : (b : Bool) → bool_byte b ≡ cond b 1 0
byte_is true = refl
byte_is false = refl

-- the stores of one record, as the code makes them
pub state_stores : (table after : List ℕ) (at count f g : ℕ) (accepting rests : Bool)
    → after ≡ sets table at (two_bytes count) → f ≡ bool_byte accepting → g ≡ bool_byte rests
    → set (set after (at + 2) f) (at + 3) g ≡ sets table at (state_bytes count accepting rests)
unfolding two_bytes
state_stores table after at count f g accepting rests e ef eg =
    let two : at + 2 ≡ suc (suc at) = omega arith in
    let three : at + 3 ≡ suc (suc (suc at)) = omega arith in
    rw (e, ef, eg, two, three, byte_is accepting, byte_is rests)

-- records added after others
pub adds_more : (before : List ℕ) (k : ℕ) (bytes table : List ℕ) (m : ℕ) (more after : List ℕ) (n : ℕ)
    → AddsRecords before k bytes table m → AddsRecords table m more after n
    → AddsRecords before k (bytes ++ more) after n
adds_more before k bytes table m more after n a b = record {
  count = rw length-append (omega (arith, a.count, b.count));
  front = b.front ∙ rw a.front (append_assoc (take (k * 4) before) bytes more);
}
