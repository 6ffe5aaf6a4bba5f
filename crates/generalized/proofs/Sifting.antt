-- What dropping leaves of a state's terms, as numbers with their bytes, are the state's transitions.
-- Assumes that 1 to 7 and 20 let the rule pass.
use mathlib.Core.Path.{◌≡◌, sym, ap, ◌∙◌}
use mathlib.Core.List.{List, map, map-map}
use Prim.Native.Nat.{ℕ}
use native.Mathlib.Omega.{arith}
use lib.ListN.{length, take, length-map}
use lib.Seq.{take_all}
use Rattle.answer.specs.Result.{fine}
use Rattle.formula.specs.Rule.{node_count}
use Rattle.sets.specs.Sets.{In}
use Rattle.sets.proofs.Members.{All}
use Rattle.sets.proofs.Rising.{Consistent, rising_at}
use Rattle.term.specs.Term.{Term}
use Rattle.term.specs.Size.{sizes_checked}
use Rattle.term.specs.Memory.{pack, unpack}
use Rattle.term.proofs.Packing.{Bytes, numbers_bytes}
use Rattle.term.proofs.Unpacking.{unpack_all}
use Rattle.acceptance.specs.Acceptance.{fulfilment}
use Rattle.domination.specs.Domination.{dominates, stays}
use Rattle.domination.specs.Memory.{Sorted, Sifted, Drops}
use Rattle.domination.proofs.Undominated.{sift_in}
use Rattle.domination.proofs.Packed.{untils_n, undominated_packed}
use Rattle.generalized.specs.Generalized.{state_terms, transitions}
use Rattle.generalized.specs.Memory.{Told}
use Rattle.generalized.proofs.Passed.{in_range}
use Rattle.generalized.proofs.Products.{partial_packed, partial_rises}

-- a state's transitions are terms of it
pub transitions_terms : (rule : List ℕ) (state : ℕ) (t : Term) → In t (transitions rule state)
    → In t (state_terms rule state)
unfolding transitions
transitions_terms rule state t m =
    (sift_in (stays (dominates rule) (state_terms rule state)) t (state_terms rule state) m).0

module _ (rule : List ℕ) (passed : sizes_checked rule ≡ fine) (state : ℕ) where
  terms_bytes : All Bytes (state_terms rule state)
  terms_bytes = numbers_bytes (partial_packed rule state (node_count rule) (in_range rule passed))

  pub transitions_bytes_lem : All Bytes (transitions rule state)
  transitions_bytes_lem t m = terms_bytes t (transitions_terms rule state t m)

  module _ {ts bytes : List ℕ} (are : ts ≡ map pack (state_terms rule state)) where
    pub terms_sorted : length bytes ≡ length ts → Sorted ts bytes (length ts)
    terms_sorted same = record {
      inside = omega arith;
      bytes_inside = omega arith;
      rising = λ i j lt l.
          let rise = rw (← are) at (partial_rises rule state (node_count rule) (in_range rule passed)) in
          rising_at Consistent 0 ts rise i j lt l;
    }

    module _ (told : Told rule ts bytes) {ts' bytes' : List ℕ} {n : ℕ} (drops : Drops ts bytes (length ts) ts' bytes' n)
      where
        whole : take (length ts) ts ≡ ts
        whole = take_all (length ts) ts (omega arith)

        sifted : Sifted (untils_n rule) ts ts' bytes' n
        sifted =
            let size : length bytes ≡ length ts =
            ap length told ∙ length-map (map unpack ts) (fulfilment rule) ∙ length-map ts unpack in
            let bytes_whole = take_all (length ts) bytes (omega arith) in
            rw whole at (drops.sifted (untils_n rule)
            (rw (whole, bytes_whole) (told ∙ map-map (fulfilment rule) unpack ts)))

        pub left_are : map unpack (take n ts') ≡ transitions rule state
        unfolding transitions
        left_are =
            rw (sifted.are, are, undominated_packed rule (state_terms rule state) terms_bytes)
            (unpack_all (transitions rule state) transitions_bytes_lem)

        pub left_told : Told rule (take n ts') (take n bytes')
        left_told = sifted.told ∙ sym (map-map (fulfilment rule) unpack (take n ts'))
