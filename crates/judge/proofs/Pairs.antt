-- The number of pairs in the answer of judge: that of the definition, and never above states times the letters that
-- remain. Assumes nothing.
use Prim.Native.Nat.{ℕ, ◌+◌, ◌*◌, ◌≤◌}
use mathlib.Core.Path.{◌≡◌, refl, sym, ◌∙◌, ap}
use mathlib.Core.List.{List}
use native.Mathlib.Omega.{arith}
use native.Mathlib.Nat.{mul-le-mul}
use lib.ListN.{length}
use Rattle.answer.specs.Result.{Result, accepted, refused, fine}
use Rattle.answer.proofs.Results.{then_accepted, never_both}
use Rattle.lasso.specs.Lasso.{remaining, lasso_check}
use Rattle.lasso.proofs.Checking.{lasso_some, lasso_few, remaining_few}
use Rattle.automaton.specs.Automaton.{Automaton}
use Rattle.automaton.specs.Limits.{max_states}
use Rattle.automaton.proofs.InRange.{InRange}
use Rattle.image.specs.Reader.{read_image}
use Rattle.image.proofs.Contents.{read_of}
use Rattle.image.proofs.Lookup.{automaton_states}
use Rattle.image.proofs.Accepted.{readable}
use Rattle.rest.specs.Rest.{pairs_taken}
use Rattle.rest.proofs.Pairs.{pairs_few}
use Rattle.judge.specs.Judge.{work_bytes, Finding, found, work_check, judgeable, judged_by, judged}
use Rattle.judge.proofs.VerdictIff.{image_in_range}

-- of an automaton that keeps the limit of states, on a lasso that keeps that of letters
pub found_few : (a : Automaton) → InRange a → length a.states ≤ max_states → (stem cycle : List ℕ)
    → fine ≡ lasso_check stem cycle → pairs_taken a (remaining stem) (remaining cycle) ≤ work_bytes
found_few a range few stem cycle fits =
    omega (
      arith,
      pairs_few a (remaining stem) (remaining cycle) range (lasso_some stem cycle fits),
      mul-le-mul few (remaining_few stem cycle (lasso_few stem cycle fits)),
    )

-- what 25, 10 to 13, 8, 9 and 28 have let pass
pub record Judges (stem cycle : List ℕ) (a : Automaton) : Type 0 where
  pub range : InRange a
  pub few : length a.states ≤ max_states
  pub fits : fine ≡ lasso_check stem cycle

judges : (image stem cycle work : List ℕ) (a : Automaton) → judgeable image stem cycle work ≡ accepted a
    → Judges stem cycle a
unfolding judgeable
judges image stem cycle work a e =
    let (_, _, after-work) = then_accepted (work_check work) _ e in
    let (b, read, after-image) = then_accepted (read_image image) _ after-work in
    let (_, fits, same) = then_accepted (lasso_check stem cycle) _ after-image in
    let is : read_image image ≡ accepted a = read ∙ same in
    let known = read_of image a is in
    record {
      range = image_in_range image a is;
      few = rw (known.automaton, automaton_states image) (readable known).few;
      fits = sym fits;
    }

-- R-5, of every answer of judge that is no refusal: the number of pairs is that of the order in which they are taken,
-- and it is never above the states of the image times the letters of stem and cycle that remain
pub judged_pairs : (image stem cycle work : List ℕ) (a : Automaton) → judgeable image stem cycle work ≡ accepted a
    → ((judged image stem cycle work).answer ≡ accepted (found a (remaining stem) (remaining cycle)))
    × (pairs_taken a (remaining stem) (remaining cycle)
    ≤ length a.states * (length (remaining stem) + length (remaining cycle)))
unfolding judged
judged_pairs image stem cycle work a e =
    let known = judges image stem cycle work a e in
    (rw e, pairs_few a (remaining stem) (remaining cycle) known.range (lasso_some stem cycle known.fits))

-- so it fits the bits that the calls for C have for it
pub judged_few : (image stem cycle work : List ℕ) (f : Finding) → (judged image stem cycle work).answer ≡ accepted f
    → f.pairs ≤ work_bytes
unfolding judged
judged_few image stem cycle work f e = go (judgeable image stem cycle work) refl e
  where
    go : (r : Result Automaton) → judgeable image stem cycle work ≡ r
        → (judged_by r stem cycle work).answer ≡ accepted f
        → f.pairs ≤ work_bytes
    go (refused number place) known e = never_both e
    go (accepted a) known e =
        let limits = judges image stem cycle work a known in
        let same : found a (remaining stem) (remaining cycle) ≡ f = cc in
        let most = found_few a limits.range limits.few stem cycle limits.fits in
        rw (← ap (λ (g : Finding). g.pairs) same) most
