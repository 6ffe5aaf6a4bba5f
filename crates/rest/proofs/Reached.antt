-- What a search meets: no point twice, none that what was asked of the first does not hold of, and with each point all
-- that follow from it, since its fuel is no limit. Assumes of the points only that they can be counted.
use Prim.Native.Nat.{ℕ, zero, suc, ◌+◌, ◌<◌, ◌≤◌}
use mathlib.Core.Path.{◌≡◌, refl, ◌∙◌, ap, subst}
use mathlib.Core.Logic.{inl, inr}
use mathlib.Core.List.{List, []}
use mathlib.Core.Bool.{Bool, true, false}
use native.Mathlib.Omega.{arith}
use native.Mathlib.Decide.{ℕ_discrete}
use lib.ListN.{length}
use lib.Dec.{ltb}
use borrow.Author.Tests.{ltb-true, ltb-false}
use Rattle.automaton.specs.Automaton.{Automaton}
use Rattle.sets.specs.Sets.{In}
use Rattle.sets.proofs.Members.{All, at_in, in_at}
use Rattle.rest.specs.Search.{Point, point, visit_all, onward, reach}
use Rattle.rest.proofs.Queue.{at, Unique, Met, met_keeps, met_all}

module _ (a : Automaton) (stem cycle : List ℕ) where
  -- all points of `from` and all that follow from those met; P holds of each, and none is met twice
  pub record Reached (P : Point → Type 0) (from met : List Point) : Type 0 where
    pub has : All (λ x. In x met) from
    pub closed : (x : Point) → In x met → All (λ y. In y met) (onward a stem cycle x)
    pub sound : All P met
    pub unique : Unique met

  -- P holds of what follows from a point of which it holds, and it holds of at most `limit` points
  module _ (P : Point → Type 0) (follows : (x : Point) → P x → All P (onward a stem cycle x)) (limit : ℕ)
      (few : (xs : List Point) → Unique xs → All P xs → length xs ≤ limit) (from : List Point) where
    -- a search that has taken the first k of the points met
    record Going (k : ℕ) (met : List Point) : Type 0 where
      has : All (λ x. In x met) from
      unique : Unique met
      sound : All P met
      closed : (i : ℕ) → i < k → All (λ y. In y met) (onward a stem cycle (at met i))

    begins : All P from → Going 0 (visit_all from [])
    begins p =
        let m = met_all from [] in
        record {
          has = m.has;
          unique = m.unique (record { apart = λ i j l k e. omega arith });
          sound = λ x h. elim (m.from x h) [ inl n ↦ absurd n | inr n ↦ p x n ];
          closed = λ i l. absurd (omega arith);
        }

    goes_on : (k : ℕ) (met more : List Point) → k < length met → Going k met
        → Met (onward a stem cycle (at met k)) met more → Going (suc k) more
    goes_on k met more l g m = record {
      has = λ x h. met_keeps m x (g.has x h);
      unique = m.unique g.unique;
      sound = λ x h. elim (m.from x h) [
        | inl n ↦ g.sound x n
        | inr n ↦ follows (at met k) (g.sound (at met k) (at_in (point 0 0) met k l)) x n
      ];
      closed = λ i b y h. close i b y h (ℕ_discrete i k);
    }
      where
        old : (i : ℕ) → i < suc k → at more i ≡ at met i
        old i b = m.there i (omega arith)

        close : (i : ℕ) → i < suc k → (y : Point) → In y (onward a stem cycle (at more i)) → Dec (i ≡ k) → In y more
        close i b y h (yes e) =
            m.has y (subst (λ (x : Point). In y (onward a stem cycle x)) (old i b ∙ ap (at met) e) h)
        close i b y h (no e) =
            let before = subst (λ (x : Point). In y (onward a stem cycle x)) (old i b) h in
            met_keeps m y (g.closed i (omega arith) y before)

    -- all of the points met were taken
    done : (k : ℕ) (met : List Point) → length met ≤ k → Going k met → Reached P from met
    done k met l g = record {
      has = g.has;
      closed = λ x h.
          let (i, lt, q) = in_at (point 0 0) x met h in
          subst (λ (y : Point). All (λ z. In z met) (onward a stem cycle y)) q (g.closed i (omega arith));
      sound = g.sound;
      unique = g.unique;
    }

    ends : (fuel k : ℕ) (met : List Point) → limit ≤ k + fuel → Going k met
        → Reached P from (reach a stem cycle fuel k met)
    unfolding reach
    ends zero k met f g = done k met (omega (arith, few met g.unique g.sound)) g
    ends (suc fuel) k met f g = go (ltb k (length met)) refl (λ more. ends fuel (suc k) more (omega arith))
      where
        next : List Point
        next = visit_all (onward a stem cycle (at met k)) met

        go : (b : Bool) → ltb k (length met) ≡ b
            → ((more : List Point) → Going (suc k) more → Reached P from (reach a stem cycle fuel (suc k) more))
            → Reached P from (elim b [ true ↦ reach a stem cycle fuel (suc k) next | false ↦ met ])
        go true q ih =
            ih next (goes_on k met next (ltb-true k (length met) q) g (met_all (onward a stem cycle (at met k)) met))
        go false q ih = done k met (ltb-false k (length met) q) g

    pub search_reaches : (fuel : ℕ) → limit ≤ fuel → All P from
        → Reached P from (reach a stem cycle fuel 0 (visit_all from []))
    search_reaches fuel le p = ends fuel 0 (visit_all from []) (omega arith) (begins p)
