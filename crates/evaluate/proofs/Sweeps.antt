-- What a pass backwards leaves at each position. Assumes nothing.
use Prim.Native.Nat.{ℕ, zero, suc, ◌+◌, ◌-◌, ◌<◌, ◌≤◌}
use mathlib.Core.Path.{◌≡◌, refl, ◌∙◌, ap}
use mathlib.Core.List.{List, [], ◌∷◌}
use mathlib.Core.Bool.{Bool}
use native.Mathlib.Omega.{arith}
use lib.ListN.{get_or, length}
use Rattle.evaluate.specs.Truth.{sweep, in_front}

pub sweep_length : (f : ℕ → Bool → Bool) (i count : ℕ) (v : Bool) → length (sweep f i count v) ≡ count
unfolding sweep
sweep_length f i zero v = refl
sweep_length f i (suc count) v = ap suc (sweep_length f (suc i) count v)

-- the flag at position p, if it is one of those from i on
abbrev pub swept : (f : ℕ → Bool → Bool) (i count : ℕ) (v : Bool) (p : ℕ) → Bool
swept f i count v p = get_or (sweep f i count v) (p - i) v

end : (f : ℕ → Bool → Bool) (i count : ℕ) (v : Bool) → get_or (sweep f i count v) count v ≡ v
unfolding sweep
end f i zero v = refl
end f i (suc count) v = end f (suc i) count v

pub swept_end : (f : ℕ → Bool → Bool) (i count : ℕ) (v : Bool) → swept f i count v (i + count) ≡ v
swept_end f i count v =
    let e : i + count - i ≡ count = omega arith in ap (λ (k : ℕ). get_or (sweep f i count v) k v) e ∙ end f i count v

one : (f : ℕ → Bool → Bool) (i count : ℕ) (v : Bool) (j : ℕ) → j < count
    → get_or (sweep f i count v) j v ≡ f (i + j) (get_or (sweep f i count v) (suc j) v)
unfolding sweep
one f i zero v j l = absurd (omega arith)
one f i (suc count) v zero l =
    let e : i ≡ i + 0 = omega arith in ap (λ (k : ℕ). f k (get_or (sweep f (suc i) count v) 0 v)) e
one f i (suc count) v (suc j) l =
    let e : suc i + j ≡ i + suc j = omega arith in
    one f (suc i) count v j (omega arith) ∙ ap (λ (k : ℕ). f k (get_or (sweep f (suc i) count v) (suc j) v)) e

pub swept_step : (f : ℕ → Bool → Bool) (i count : ℕ) (v : Bool) (p : ℕ) → i ≤ p → p < i + count
    → swept f i count v p ≡ f p (swept f i count v (suc p))
swept_step f i count v p l m =
    let e : i + (p - i) ≡ p = omega arith in
    let g : suc (p - i) ≡ suc p - i = omega arith in
    one f i count v (p - i) (omega arith)
    ∙ ap (λ (k : ℕ). f k (get_or (sweep f i count v) (suc (p - i)) v)) e
    ∙ ap (λ (k : ℕ). f p (get_or (sweep f i count v) k v)) g

-- inside a list the default does not show
pub default : {A : Type 0} (xs : List A) (i : ℕ) (d e : A) → i < length xs → get_or xs i d ≡ get_or xs i e
default [] i d e l = absurd (omega arith)
default (x ∷ xs) zero d e l = refl
default (x ∷ xs) (suc i) d e l = default xs i d e (omega arith)

-- one turn of a loop that counts down from n: position i, after those from i + 1 on
pub sweep_turn : (f : ℕ → Bool → Bool) (v : Bool) (n i : ℕ) → i < n
    → sweep f i (n - i) v ≡ in_front (f i) v (sweep f (suc i) (n - suc i) v)
unfolding sweep
sweep_turn f v n i l = let e : n - i ≡ suc (n - suc i) = omega arith in ap (λ (x : ℕ). sweep f i x v) e
