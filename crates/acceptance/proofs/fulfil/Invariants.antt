-- `acceptance::fulfil` meets its contract: the bytes of the terms passed are in, and those behind all terms as they were
-- (`Filling`).
-- Assumes nothing.
use native.Mathlib.Omega.{arith}
use native.Mathlib.Numerals.{add-one}
use mathlib.Core.Path.{◌≡◌, refl, sym, ap, ◌∙◌}
use mathlib.Core.List.{List, [], ◌∷◌, ◌++◌, map, map-append}
use Prim.Native.Nat.{ℕ, ◌+◌, ◌<◌, ◌≤◌}
use lib.ListN.{length, get_or, take, drop, set, length-set}
use lib.Seq.{take-suc, take-suc-set, take_all}
use Rattle.std.proofs.lemmas.List.{take-append-drop, drop-set-lt}
use Rattle.term.specs.Memory.{unpack}
use Rattle.acceptance.specs.Acceptance.{fulfilment}
use Rattle.acceptance.proofs.fulfil.Given as goal

module _ (rule ts before : List ℕ) where
  -- a loop over ts that stands at i
  pub record Filling (bytes : List ℕ) (i : ℕ) : Type 0 where
    pub size : length bytes ≡ length before
    pub done : take i bytes ≡ map (fulfilment rule) (map unpack (take i ts))
    pub behind : drop (length ts) bytes ≡ drop (length ts) before

  pub fill_begins : Filling before 0
  fill_begins = record { size = refl; done = refl; behind = refl }

  pub fill_steps : length ts ≤ length before → (bytes : List ℕ) (i : ℕ) {b : ℕ} → i < length ts → Filling bytes i
      → b ≡ fulfilment rule (unpack (get_or ts i 0)) → Filling (set bytes i b) (i + 1)
  fill_steps room bytes i {b} lt inv e = record {
    size = length-set bytes i b ∙ inv.size;
    done =
        rw (
          add-one,
          take-suc-set bytes i b (omega (arith, inv.size)),
          inv.done,
          e,
          take-suc ts i 0 (omega arith),
          map-append unpack (take i ts) (get_or ts i 0 ∷ []),
        )
        (sym (map-append (fulfilment rule) (map unpack (take i ts)) (unpack (get_or ts i 0) ∷ [])));
    behind = drop-set-lt (length ts) bytes i b lt ∙ inv.behind;
  }

  pub fill_ends : (bytes : List ℕ) (i : ℕ) → i ≡ length ts → Filling bytes i
      → bytes ≡ map (fulfilment rule) (map unpack ts) ++ drop (length ts) before
  fill_ends bytes i e inv =
      let done : take (length ts) bytes ≡ map (fulfilment rule) (map unpack ts) =
      ap (λ (n : ℕ). take n bytes) (sym e) ∙ inv.done
      ∙ ap (λ (xs : List ℕ). map (fulfilment rule) (map unpack xs)) (take_all i ts (omega arith)) in
      sym (take-append-drop (length ts) bytes) ∙ rw (done, inv.behind) refl

abbrev pub invariant-loop-i : goal.invariant-loop-i
invariant-loop-i l = Filling l.rule l.ts l.initial.bytes l.bytes l.i
