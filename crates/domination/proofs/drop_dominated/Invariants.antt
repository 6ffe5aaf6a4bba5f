-- `domination::drop_dominated` meets its contract: of the terms passed, those that are kept stand in front, and the
-- rest stands where it stood (`Sifting`). Assumes nothing.
use native.Mathlib.Omega.{arith}
use native.Mathlib.Numerals.{add-one}
use mathlib.Core.Path.{◌≡◌, refl, sym, ◌∙◌, ap}
use mathlib.Core.Bool.{Bool, true, false, cond, not}
use mathlib.Core.List.{List, [], ◌∷◌, ◌++◌, map, map-append, append-nil}
use Prim.Native.Nat.{ℕ, suc, ◌+◌, ◌≤◌, ◌<◌}
use lib.ListN.{length, get_or, take, set, length-set}
use lib.Seq.{get_or-take, get_or-set_other, length-take-le, take_all, take-suc, take-set-le, take-suc-set}
use Rattle.sets.specs.Sets.{any}
use Rattle.sets.proofs.Members.{map_at}
use Rattle.domination.specs.Domination.{sift, stays}
use Rattle.domination.specs.Memory.{dominates_n, Sorted, Drops}
use Rattle.domination.proofs.Undominated.{sift_append, dominated_before}
use Rattle.domination.proofs.Packed.{number_falls, number_follows}
use Rattle.domination.proofs.drop_dominated.Given as goal

-- the terms that are sifted, all of ts₀, and their bytes
module _ (ts₀ bytes₀ : List ℕ) where
  abbrev pub count : ℕ
  count = length ts₀

  abbrev pub xs : List ℕ
  xs = take count ts₀

  -- of those before i the ones kept are the first of ts, each with its byte; from i on nothing has moved
  pub record Sifting (untils : ℕ → ℕ) (ts bytes : List ℕ) (kept i : ℕ) : Type 0 where
    pub are : take kept ts ≡ sift (stays (dominates_n untils) xs) (take i xs)
    pub told : take kept bytes ≡ map untils (take kept ts)
    pub rest : (j : ℕ) → i ≤ j → j < count → get_or ts j 0 ≡ get_or xs j 0
    pub rest_told : (j : ℕ) → i ≤ j → j < count → get_or bytes j 0 ≡ untils (get_or xs j 0)

  pub record Loop (ts bytes : List ℕ) (kept i : ℕ) : Type 0 where
    pub few : kept ≤ i
    pub size : length ts ≡ length ts₀
    pub bytes_size : length bytes ≡ length bytes₀
    pub sifting : (untils : ℕ → ℕ) → take count bytes₀ ≡ map untils xs → Sifting untils ts bytes kept i

  module _ (sorted : Sorted ts₀ bytes₀ count) where
    pub count_is : length xs ≡ count
    count_is = length-take-le count ts₀ sorted.inside

    pub begins : Loop ts₀ bytes₀ 0 0
    unfolding sift
    begins = record {
      few = omega arith;
      size = refl;
      bytes_size = refl;
      sifting = λ untils told. record {
        are = refl;
        told = refl;
        rest = λ j ge lt. sym (get_or-take count ts₀ j 0 lt);
        rest_told = λ j ge lt.
            sym (get_or-take count bytes₀ j 0 lt)
            ∙ ap (λ (bs : List ℕ). get_or bs j 0) told
            ∙ map_at untils 0 0 xs j (omega (arith, count_is));
      };
    }

    module _ {ts bytes : List ℕ} {kept i : ℕ} (inv : Loop ts bytes kept i) (lt : i < count) where
      -- the term at i and its byte put behind those kept
      abbrev pub ts_after : List ℕ
      ts_after = set ts kept (get_or ts i 0)

      abbrev pub bytes_after : List ℕ
      bytes_after = set bytes kept (get_or bytes i 0)

      -- what the test of the term at i says
      abbrev pub Tested : Bool → Type 0
      Tested b =
          (untils : ℕ → ℕ) → take kept bytes ≡ map untils (take kept ts) → get_or bytes i 0 ≡ untils (get_or ts i 0)
          → b ≡ any (λ u. dominates_n untils u (get_or ts i 0)) (take kept ts)

      module _ (untils : ℕ → ℕ) (s : Sifting untils ts bytes kept i) where
        pub here_is : get_or ts i 0 ≡ get_or xs i 0
        here_is = s.rest i (omega arith) lt

        pub rising : (j k : ℕ) → j < k → k < length xs → get_or xs j 0 < get_or xs k 0
        rising j k l m =
            let a : k < count = omega (arith, count_is) in
            omega (arith, get_or-take count ts₀ j 0 (omega arith), get_or-take count ts₀ k 0 a, sorted.rising j k l a)

        -- the term is dominated exactly if one of those kept dominates it
        pub dominated_is : any (λ u. dominates_n untils u (get_or ts i 0)) (take kept ts)
            ≡ any (λ u. dominates_n untils u (get_or xs i 0)) xs
        dominated_is =
            rw (here_is, s.are)
            (dominated_before (dominates_n untils) (λ n. n) (number_falls untils) (number_follows untils) xs 0 rising i
            (omega (arith, count_is)))

        -- the terms before i + 1 that are kept
        pub next_are : (b : Bool) → any (λ u. dominates_n untils u (get_or xs i 0)) xs ≡ b
            → sift (stays (dominates_n untils) xs) (take (suc i) xs)
            ≡ cond b (take kept ts) (take kept ts ++ (get_or ts i 0 ∷ []))
        unfolding sift
        next_are b e =
            rw
            (take-suc xs i 0 (omega (arith, count_is)), sift_append (stays (dominates_n untils) xs), e, s.are, here_is)
            (go b)
          where
            front : List ℕ
            front = sift (stays (dominates_n untils) xs) (take i xs)

            go : (b : Bool) → front ++ cond (not b) (get_or xs i 0 ∷ []) []
                ≡ cond b front (front ++ (get_or xs i 0 ∷ []))
            go true = append-nil front
            go false = refl

        pub own : get_or bytes i 0 ≡ untils (get_or ts i 0)
        own = s.rest_told i (omega arith) lt ∙ ap untils (sym here_is)

        -- the first n after the term at i is put behind those kept
        pub Front : ℕ → Type 0
        Front n =
            (take n ts_after ≡ sift (stays (dominates_n untils) xs) (take (suc i) xs))
            × (take n bytes_after ≡ map untils (take n ts_after))

        pub fronts : (b : Bool) → any (λ u. dominates_n untils u (get_or xs i 0)) xs ≡ b
            → Front (cond b kept (suc kept))
        unfolding Front
        fronts true q =
            let same = take-set-le kept ts kept (get_or ts i 0) (omega arith) in
            let same_bytes = take-set-le kept bytes kept (get_or bytes i 0) (omega arith) in
            (rw (same, next_are true q), rw (same, same_bytes) s.told)
        fronts false q =
            let more = take-suc-set ts kept (get_or ts i 0) (omega (arith, inv.few, inv.size, sorted.inside)) in
            let more_bytes =
            take-suc-set bytes kept (get_or bytes i 0)
            (omega (arith, inv.few, inv.bytes_size, sorted.bytes_inside)) in (
              rw (more, next_are false q),
              rw (more, more_bytes, s.told, own) (sym (map-append untils (take kept ts) (get_or ts i 0 ∷ []))),
            )

        pub sifting_on : (b : Bool) → Tested b → {r : ℕ} → r ≡ cond b kept (suc kept)
            → Sifting untils ts_after bytes_after r (suc i)
        unfolding Front
        sifting_on b tested {r} e =
            let (a, t) = fronts b (sym (tested untils s.told own ∙ dominated_is)) in
            record {
              are = rw e a;
              told = rw e t;
              rest = λ j ge l.
                  get_or-set_other ts kept j (get_or ts i 0) 0 (λ q. omega (arith, inv.few)) ∙ s.rest j (omega arith) l;
              rest_told = λ j ge l.
                  get_or-set_other bytes kept j (get_or bytes i 0) 0 (λ q. omega (arith, inv.few))
                  ∙ s.rest_told j (omega arith) l;
            }

      pub steps : (b : Bool) → Tested b → {one : ℕ} → one ≡ cond (not b) 1 0
          → Loop ts_after bytes_after (kept + one) (i + 1)
      steps b tested {one} e = record {
        few = most b e;
        size = length-set ts kept (get_or ts i 0) ∙ inv.size;
        bytes_size = length-set bytes kept (get_or bytes i 0) ∙ inv.bytes_size;
        sifting = λ untils told. rw (add-one i)
            (sifting_on untils (inv.sifting untils told) b tested (next b e));
      }
        where
          most : (b : Bool) → one ≡ cond (not b) 1 0 → kept + one ≤ i + 1
          most true e = omega (arith, inv.few)
          most false e = omega (arith, inv.few)

          next : (b : Bool) → one ≡ cond (not b) 1 0 → kept + one ≡ cond b kept (suc kept)
          next true e = omega arith
          next false e = omega arith

    pub ends : {ts bytes : List ℕ} {kept i : ℕ} → Loop ts bytes kept i → i ≡ count
        → Drops ts₀ bytes₀ count ts bytes kept
    ends {ts} {bytes} {kept} {i} inv all = record {
      few = omega (arith, inv.few);
      sifted = λ untils told.
          let s = inv.sifting untils told in
          record { are = s.are ∙ rw (take_all i xs (omega (arith, count_is))); told = s.told };
    }

abbrev pub invariant-loop-i : goal.invariant-loop-i
invariant-loop-i l = Loop l.initial.ts l.initial.bytes l.ts l.bytes l.kept l.i
