-- A state's terms are represented by all of them, and by its transitions: a term that is dropped is dominated by one
-- that stays, which reads as much, owes no more and fulfils as many untils. Assumes nothing.
use Prim.Native.Nat.{ℕ}
use mathlib.Core.Path.{◌≡◌, refl, sym, ◌∙◌, ap}
use mathlib.Core.Bool.{Bool, true, false, not}
use mathlib.Core.List.{List}
use borrow.Author.Tests.{eq-eqb}
use Rattle.sets.specs.Sets.{In, any}
use Rattle.sets.proofs.Bits.{has_true}
use Rattle.term.specs.Term.{Term}
use Rattle.acceptance.specs.Acceptance.{fulfilment}
use Rattle.acceptance.proofs.Bits.{fulfilment_has}
use Rattle.domination.specs.Domination.{dominates, stays, undominated}
use Rattle.domination.proofs.Undominated.{in_sift, dominated_above}
use Rattle.domination.proofs.Packed.{rank, term_parts, term_falls, term_follows}
use Rattle.generalized.specs.Generalized.{state_terms, transitions}
use Rattle.generalized.proofs.Sifting.{transitions_terms}
use Rattle.correctness.proofs.Runs.{Within, within_reads, Dominates, TermOf, Represents}
use Rattle.correctness.proofs.Tests.{within_iff}
use Rattle.correctness.proofs.Counting.{until_numbered}
use Rattle.correctness.proofs.Listing.{Listed}

module _ (rule : List ℕ) where
  dominates_self : (t : Term) → Dominates rule t t
  dominates_self t = record { reads = λ a r. r; obligations = λ n h. h; fulfils = λ n a b k f. f }

  -- what the test of domination says
  dominates_says : (v t : Term) → dominates rule v t ≡ true → Dominates rule v t
  dominates_says v t e =
      let p = term_parts rule v t e in
      let asks : Within v t = record {
        must = (within_iff v.must t.must).0 p.must;
        must_not = (within_iff v.must_not t.must_not).0 p.must_not;
        obligations = (within_iff v.obligations t.obligations).0 p.obligations;
      } in
      record {
        reads = λ letter r. within_reads asks r;
        obligations = asks.obligations;
        fulfils = λ n a b known f.
            let (k, l, same) = until_numbered rule n a b known in
            let own = has_true (fulfilment rule t) k (fulfilment_has rule t k l ∙ (same t).1 f) in
            let also = (within_iff (fulfilment rule t) (fulfilment rule v)).0 p.fulfils k own in
            (same v).0 (sym (fulfilment_has rule v k l) ∙ eq-eqb _ 1 also.set);
      }

  pub terms_represent : Represents rule (TermOf rule)
  terms_represent = record { listed = λ e t m. m; enough = λ e t m. (t, m, dominates_self t) }

  pub transitions_represent : Represents rule (Listed (transitions rule))
  unfolding transitions
  transitions_represent = record {
    listed = transitions_terms rule;
    enough = λ e t m. go e t m (any (λ u. dominates rule u t) (state_terms rule e)) refl;
  }
    where
      go : (e : ℕ) (t : Term) → TermOf rule e t → (b : Bool) → any (λ u. dominates rule u t) (state_terms rule e) ≡ b
          → (v : Term) × In v (undominated (dominates rule) (state_terms rule e)) × Dominates rule v t
      go e t m true q =
          let up =
          dominated_above (dominates rule) rank (term_falls rule) (term_follows rule) (state_terms rule e) t q in
          (up.above, up.listed, dominates_says up.above t up.holds)
      go e t m false q = (
        t,
        in_sift (stays (dominates rule) (state_terms rule e)) t (state_terms rule e) m (ap not q),
        dominates_self
            t,
      )
