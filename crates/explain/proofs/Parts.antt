-- The part that is handed back: of its letters those remain that follow in the word of the remaining letters, up to the
-- end of the stem or of the cycle, and its first one remains. Assumes nothing.
use Prim.Native.Nat.{ℕ, ◌+◌, ◌-◌, ◌<◌, ◌≤◌}
use mathlib.Core.Path.{◌≡◌, refl, sym, ◌∙◌, ap}
use mathlib.Core.List.{List}
use native.Mathlib.Omega.{arith}
use native.Mathlib.Decide.{dec_lt}
use lib.ListN.{get_or, length, drop, length-drop}
use lib.Seq.{get_or-drop}
use borrow.Author.Tests.{lt-ltb, le-ltb}
use Rattle.lasso.specs.Lasso.{remains, remaining}
use Rattle.lasso.proofs.Letters.{letter_early, letter_cycle}
use Rattle.place.specs.Place.{place_in, place_of}
use Rattle.place.proofs.Standing.{Stands, place_stem, place_cycle, place_stands}
use Rattle.explain.specs.Explain.{part_from}
use Rattle.explain.specs.Meaning.{Shows}

module _ (stem cycle : List ℕ) (i : ℕ) where
  pub part_stem : i < length stem → part_from stem cycle i ≡ drop i stem
  unfolding part_from
  part_stem l = rw (lt-ltb i (length stem) l) refl

  pub part_cycle : length stem ≤ i → part_from stem cycle i ≡ drop (i - length stem) cycle
  unfolding part_from
  part_cycle l = rw (le-ltb i (length stem) l) refl

module _ (stem cycle : List ℕ) (i : ℕ) (inside : i < length (remaining stem) + length (remaining cycle)) where
  abbrev s : ℕ
  s = length (remaining stem)

  abbrev part : List ℕ
  part = part_from stem cycle (place_of stem cycle i)

  pub part_shows : Shows stem cycle i
  part_shows = go (dec_lt i s)
    where
      begins : (xs : List ℕ) (k : ℕ) → get_or (drop k xs) 0 0 ≡ get_or xs k 0
      begins xs k = let e : k + 0 ≡ k = omega arith in get_or-drop k xs 0 0 ∙ ap (λ (j : ℕ). get_or xs j 0) e

      in_stem : i < s → Stands stem i (place_in stem i) → Shows stem cycle i
      in_stem l t =
          let at : place_of stem cycle i ≡ place_in stem i = sym (place_stem stem cycle i s refl l) in
          let is : part ≡ drop (place_in stem i) stem =
          ap (part_from stem cycle) at ∙ part_stem stem cycle (place_in stem i) t.inside in
          record {
            follow = ap remaining is ∙ t.follow ∙ sym (part_stem (remaining stem) (remaining cycle) i l);
            some = rw is (omega (arith, length-drop (place_in stem i) stem, t.inside));
            first =
                ap (λ (xs : List ℕ). remains (get_or xs 0 0)) is ∙ ap remains (begins stem (place_in stem i)) ∙ t.stays;
            letter_i = ap (λ (xs : List ℕ). get_or xs 0 0) is ∙ begins stem (place_in stem i) ∙ t.same
                ∙ sym (letter_early (remaining stem) (remaining cycle) i l);
          }

      in_cycle_lem : s ≤ i → Stands cycle (i - s) (place_in cycle (i - s)) → Shows stem cycle i
      in_cycle_lem l t =
          let k = place_in cycle (i - s) in
          let at : place_of stem cycle i ≡ length stem + k = sym (place_cycle stem cycle i s refl l) in
          let off : length stem + k - length stem ≡ k = omega arith in
          let is : part ≡ drop k cycle =
          ap (part_from stem cycle) at ∙ part_cycle stem cycle (length stem + k) (omega arith)
          ∙ ap (λ (j : ℕ). drop j cycle) off in
          record {
            follow = ap remaining is ∙ t.follow ∙ sym (part_cycle (remaining stem) (remaining cycle) i l);
            some = rw is (omega (arith, length-drop k cycle, t.inside));
            first = ap (λ (xs : List ℕ). remains (get_or xs 0 0)) is ∙ ap remains (begins cycle k) ∙ t.stays;
            letter_i = ap (λ (xs : List ℕ). get_or xs 0 0) is ∙ begins cycle k ∙ t.same
                ∙ sym (letter_cycle (remaining stem) (remaining cycle) i l inside);
          }

      go : Dec (i < s) → Shows stem cycle i
      go (yes l) = in_stem l (place_stands stem i l)
      go (no l) = in_cycle_lem (omega arith) (place_stands cycle (i - s) (omega arith))
