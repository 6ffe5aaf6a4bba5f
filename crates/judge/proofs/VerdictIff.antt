-- What a verdict says: kept exactly where the automaton has an accepting pass on the lasso, broken exactly where it has
-- none; and so of every image that is judged. Assumes nothing.
use Prim.Native.Nat.{ℕ, ◌+◌, ◌<◌, ◌≤◌}
use mathlib.Core.Path.{◌≡◌, refl, sym, ◌∙◌, subst}
use mathlib.Core.Logic.{◌↔◌}
use mathlib.Core.List.{List}
use mathlib.Core.Bool.{Bool, true, false, ◌||◌, false≢true}
use native.Mathlib.Omega.{arith}
use lib.ListN.{length}
use borrow.Author.Tests.{le-leb}
use Rattle.answer.specs.Result.{accepted, fine}
use Rattle.answer.proofs.Results.{then_accepted}
use Rattle.automaton.specs.Automaton.{Automaton, AcceptingPass, Recognizes}
use Rattle.automaton.proofs.WellFormed.{WellFormed}
use Rattle.image.specs.Image.{image_bytes}
use Rattle.image.specs.Reader.{read_image}
use Rattle.image.proofs.ImageAccepted.{image_accepted}
use Rattle.image.proofs.Contents.{read_of}
use Rattle.judge.specs.Search.{has_accepting_pass}
use Rattle.judge.specs.Judge.{work_bytes, kept, broken, finding, Exactly, work_check, judgeable, verdict, found}
use Rattle.judge.specs.Judge.{letters_judged, judged}
use Rattle.lasso.specs.Lasso.{remaining, max_letters, lasso_check}
use Rattle.automaton.proofs.InRange.{InRange}
use Rattle.rest.specs.Rest.{rest_taken, pairs_taken}
use Rattle.judge.proofs.HasAcceptingPass.{has_accepting_pass_iff}
use Rattle.judge.proofs.AtRest.{full_search}
use Rattle.image.proofs.Accepted.{readable, readable_in_range}
use Rattle.lasso.proofs.Checking.{lasso_some, lasso_within}

one_verdict : accepted kept ≡ accepted broken → ⊥
one_verdict e =
    let z : ◌≡◌ {A = ℕ} 0 1 = cc in
    omega arith

-- the automaton that is read from an image has its targets and initial numbers among its states
pub image_in_range : (image : List ℕ) (a : Automaton) → read_image image ≡ accepted a → InRange a
image_in_range image a e =
    let read = read_of image a e in
    subst InRange (sym read.automaton) (readable_in_range image (readable read))

-- kept exactly where P holds, if that is where there is an accepting pass
pub verdict_exactly : (a : Automaton) (stem cycle : List ℕ) → InRange a → 0 < length cycle → {P : Type 0}
    → AcceptingPass a stem cycle ↔ P → Exactly (accepted (found a stem cycle)) P
unfolding verdict
verdict_exactly a stem cycle range pos {P} iff = go (rest_taken a stem cycle || has_accepting_pass a stem cycle) refl
  where
    shown : (rest_taken a stem cycle || has_accepting_pass a stem cycle) ≡ true ↔ AcceptingPass a stem cycle
    shown = rw (full_search a range stem cycle pos) (has_accepting_pass_iff a range stem cycle pos)

    go : (b : Bool) → (rest_taken a stem cycle || has_accepting_pass a stem cycle) ≡ b
        → Exactly (accepted (finding (elim b [ true ↦ kept | false ↦ broken ]) (pairs_taken a stem cycle))) P
    go true e =
        let p : P = iff.0 (shown.0 e) in
        ((λ _. p, λ _. refl), (λ w. absurd (one_verdict w), λ no. absurd (no p)))
    go false e =
        let none : P → ⊥ = λ p. false≢true (sym e ∙ shown.1 (iff.1 p)) in
        ((λ w. absurd (one_verdict (sym w)), λ p. absurd (none p)), (λ _. none, λ _. refl))

-- of every image: where 25, 10 to 13, 8, 9 and 28 refuse nothing, the answer is about the automaton that was read, and
-- its passes are over the letters that remain
pub judged_exactly : (image stem cycle work : List ℕ) (a : Automaton) → judgeable image stem cycle work ≡ accepted a
    → Exactly (judged image stem cycle work).answer (AcceptingPass a (remaining stem) (remaining cycle))
unfolding judgeable judged
judged_exactly image stem cycle work a e =
    let (_, _, after-work) = then_accepted (work_check work) _ e in
    let (b, read, after-image) = then_accepted (read_image image) _ after-work in
    let (_, fits, same) = then_accepted (lasso_check stem cycle) _ after-image in
    let is : read_image image ≡ accepted a = read ∙ same in
    rw e
    (verdict_exactly a (remaining stem) (remaining cycle) (image_in_range image a is) (lasso_some stem cycle (sym fits))
    (λ h. h, λ h. h))

-- ---- of a well-formed automaton and its image, whoever made it

module _ (a : Automaton) (formed : WellFormed a) (stem cycle : List ℕ) where
  -- the reader accepts the image, so that the verdict of the automaton is given
  pub image_judged : (work : List ℕ) → lasso_check stem cycle ≡ fine → work_bytes ≤ length work
      → judged (image_bytes a) stem cycle work ≡ letters_judged a (remaining stem) (remaining cycle) work
  unfolding judged judgeable
  image_judged work fits enough = rw (le-leb work_bytes (length work) enough, image_accepted a formed, fits)

  module _ {P : (stem cycle : List ℕ) → Type 0} (recognizes : Recognizes P a)
      (some : 0 < length (remaining cycle)) where
    pub recognized_exactly : Exactly (accepted (found a (remaining stem) (remaining cycle)))
        (P (remaining stem) (remaining cycle))
    recognized_exactly =
        verdict_exactly a (remaining stem) (remaining cycle)
        (image_in_range (image_bytes a) a (image_accepted a formed)) some
        (recognizes (remaining stem) (remaining cycle) some)

    -- with letters within the limit and enough working bytes, judging the image says so
    pub recognized_verdict : (work : List ℕ) → length stem + length cycle ≤ max_letters → work_bytes ≤ length work
        → Exactly (judged (image_bytes a) stem cycle work).answer (P (remaining stem) (remaining cycle))
    recognized_verdict work few enough =
        rw (image_judged work (sym (lasso_within stem cycle some few)) enough) recognized_exactly
