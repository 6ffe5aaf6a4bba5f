-- Where the records of each state begin. Assumes nothing.
use Prim.Native.Nat.{ℕ, ◌+◌, ◌*◌, ◌<◌, ◌≤◌}
use mathlib.Core.Path.{◌≡◌, sym, ◌∙◌, ap}
use mathlib.Core.List.{List, ◌++◌}
use native.Mathlib.Omega.{arith}
use native.Mathlib.Decide.{ℕ_discrete}
use lib.ListN.{get_or, length, take, set, length-set, get_or-append}
use lib.Seq.{get_or-set_same, get_or-set_other, length-take-le}
use Rattle.image.specs.Image.{contents_bytes}
use Rattle.image.specs.Reader.{counts_at}
use Rattle.image.specs.Lookup.{records_at, transition_count_of}
use Rattle.image.proofs.Lookup.{records_begin, records_next}
use Rattle.rest.specs.Memory.{Placed}

-- the loop over the states that stands at q, with the records of state q at byte `at`
pub record Placing (image places : List ℕ) (at q : ℕ) : Type 0 where
  pub size : length places ≡ (counts_at image).states
  pub here : at ≡ records_at image q
  pub done : (p : ℕ) → p < q → get_or places p 0 ≡ records_at image p

module _ (image : List ℕ) where
  pub placing_begins : {n : ℕ} (places : List ℕ) → n ≡ (counts_at image).states → n ≤ length places
      → Placing image (take n places) (contents_bytes + 4 * n) 0
  placing_begins {n} places e le = record {
    size = length-take-le n places le ∙ e;
    here = records_begin image n e;
    done = λ p lt. absurd (omega arith);
  }

  pub placing_steps : {places : List ℕ} {at records : ℕ} (q : ℕ) → q < (counts_at image).states
      → records ≡ transition_count_of image q → Placing image places at q
      → Placing image (set places q at) (at + 4 * records) (q + 1)
  placing_steps {places} {at} q lt er inv = record {
    size = length-set places q at ∙ inv.size;
    here = records_next image q inv.here er;
    done = λ p l. pick p l (ℕ_discrete p q);
  }
    where
      pick : (p : ℕ) → p < q + 1 → Dec (p ≡ q) → get_or (set places q at) p 0 ≡ records_at image p
      pick p l (yes e) =
          ap (λ (k : ℕ). get_or (set places q at) k 0) e
          ∙ get_or-set_same places q at 0 (omega (arith, inv.size)) ∙ inv.here ∙ ap (records_at image) (sym e)
      pick p l (no e) = get_or-set_other places q p at 0 e ∙ inv.done p (omega arith)

  -- a table of which the places of the states are in front
  pub placing_ends : {places : List ℕ} {at : ℕ} (behind : List ℕ) (q : ℕ) → (counts_at image).states ≤ q
      → Placing image places at q → Placed image (places ++ behind)
  placing_ends {places} behind q le inv = record {
    begin = λ p l. get_or-append places behind 0 p (omega (arith, inv.size)) ∙ inv.done p (omega arith);
  }
