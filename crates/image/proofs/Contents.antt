-- What a table of contents says that 10 does not refuse, and what then decides on the image. Assumes nothing.
use mathlib.Core.Path.{◌≡◌, refl, sym, ap, ◌∙◌}
use mathlib.Core.Bool.{and-eq-true_iff}
use mathlib.Core.List.{List}
use Prim.Native.Nat.{ℕ, ◌-◌}
use lib.ListN.{length, take, drop}
use lib.Dec.{leb}
use borrow.Author.Tests.{eqb-true}
use Rattle.answer.specs.Result.{Result, accepted, refused, and_then, Check, fine}
use Rattle.answer.proofs.Results.{never_both, require_fine}
use Rattle.automaton.specs.Automaton.{Automaton}
use Rattle.automaton.specs.Tables.{Counts, counts}
use Rattle.answer.specs.Bytes.{number_at}
use Rattle.image.specs.Image.{transitions_at, initial_at, image_length, contents_bytes}
use Rattle.image.specs.Reader.{counts_at, contents_check, records_check, read_tables, read_image}
use Rattle.image.specs.Reader.{bodies_check}
use Rattle.image.specs.Lookup.{image_automaton}
use Rattle.image.specs.Calls.{checks}
use Rattle.image.specs.Memory.{Small, Sized}
use Rattle.image.proofs.Before.{follows, passes, refuses}
use Rattle.image.proofs.Stores.{part_whole}
use Rattle.image.proofs.Tests.{counts_small}
use Rattle.image.proofs.Tables.{counts_back}

-- an image that 10 does not refuse
pub record Contents (image : List ℕ) : Type 0 where
  pub kind₁ : number_at image 0 ≡ 1
  pub kind₂ : number_at image 6 ≡ 2
  pub kind₃ : number_at image 12 ≡ 3
  pub small : Small (counts_at image)
  pub offset₁ : number_at image 4 ≡ contents_bytes
  pub offset₂ : number_at image 10 ≡ transitions_at (counts_at image)
  pub offset₃ : number_at image 16 ≡ initial_at (counts_at image)
  pub size : length image ≡ image_length (counts_at image)

pub contents_fine : (image : List ℕ) → contents_check image ≡ fine → Contents image
unfolding contents_check
contents_fine image e =
    let long = (and-eq-true_iff (leb contents_bytes (length image)) _).0 (require_fine _ 10 0 e) in
    let kinds = (and-eq-true_iff _ _).0 long.1 in
    let kind = (and-eq-true_iff _ _).0 kinds.0 in
    let last = (and-eq-true_iff _ _).0 kind.1 in
    let small = (and-eq-true_iff _ _).0 kinds.1 in
    let size = (and-eq-true_iff _ _).0 small.1 in
    let offset = (and-eq-true_iff _ _).0 size.0 in
    let end = (and-eq-true_iff _ _).0 offset.1 in
    record {
      kind₁ = eqb-true (number_at image 0) 1 kind.0;
      kind₂ = eqb-true (number_at image 6) 2 last.0;
      kind₃ = eqb-true (number_at image 12) 3 last.1;
      small = counts_small (counts_at image) small.0;
      offset₁ = eqb-true (number_at image 4) contents_bytes offset.0;
      offset₂ = eqb-true (number_at image 10) (transitions_at (counts_at image)) end.0;
      offset₃ = eqb-true (number_at image 16) (initial_at (counts_at image)) end.1;
      size = eqb-true (length image) (image_length (counts_at image)) size.1;
    }

-- parts that go to the end are what is left there
pub parts_whole : (c : Counts) (image : List ℕ) (a b d : ℕ) {r : Check}
    → let whole : ℕ → List ℕ = λ k. take (length image - k) (drop k image) in
    r ≡ records_check c (whole a) (whole b) (whole d)
    → r ≡ records_check c (drop a image) (drop b image) (drop d image)
parts_whole c image a b d e = rw (part_whole image a, part_whole image b, part_whole image d) at e

-- the counts that an image's contents say, unless 10 refuses them
abbrev pub opened : List ℕ → Result Counts
opened image = and_then (contents_check image) (λ _. accepted (counts_at image))

-- what the code knows of an image that 10 does not refuse
pub sized : (image : List ℕ) {c : Counts} → accepted c ≡ opened image → Sized c image
sized image {c} e =
    let contents = passes (contents_check image) c (counts_at image) e in
    let fits = contents_fine image contents.passed in
    rw contents.same (record { small = fits.small; size = fits.size })

-- what decides on an image, in the order of the checks
pub contents_refused : (image : List ℕ) {number place : ℕ} → refused number place ≡ opened image
    → refused number place ≡ checks image
unfolding checks read_image
contents_refused image e = rw (← refuses (contents_check image) (counts_at image) e)

pub bodies_refused : (image : List ℕ) (c : Counts) {number place : ℕ} → accepted c ≡ opened image
    → refused number place ≡ bodies_check c image → refused number place ≡ checks image
unfolding checks read_image read_tables
bodies_refused image c known e =
    let contents = passes (contents_check image) c (counts_at image) known in
    let f = rw contents.same at e in
    rw (contents.passed, ← f)

pub image_accepted : (image : List ℕ) {c : Counts} → accepted c ≡ opened image → fine ≡ bodies_check c image
    → accepted c ≡ checks image
unfolding checks read_image read_tables
image_accepted image {c} known e =
    let contents = passes (contents_check image) c (counts_at image) known in
    let f : bodies_check (counts_at image) image ≡ fine = sym (rw contents.same at e) in
    let same : c ≡ counts_at image = contents.same in
    rw (contents.passed, f, counts_back (counts_at image) _ _ _ f, same)

-- all of it, for `image::check`
pub ruleset decides = (sized, contents_refused, bodies_refused, image_accepted)

-- an image that is read says what its contents and its bodies are
pub record Read (image : List ℕ) (a : Automaton) : Type 0 where
  pub contents : contents_check image ≡ fine
  pub bodies : bodies_check (counts_at image) image ≡ fine
  pub automaton : a ≡ image_automaton image

pub read_of : (image : List ℕ) (a : Automaton) → read_image image ≡ accepted a → Read image a
unfolding read_image read_tables
read_of image a e =
    let first = follows (contents_check image) _ a e in
    let second = follows (bodies_check (counts_at image) image) _ a first.answer in
    let same = second.answer in
    record { contents = first.passed; bodies = second.passed; automaton = cc }

-- and so does one that check accepts
pub record Checks (image : List ℕ) (c : Counts) : Type 0 where
  pub automaton : Automaton
  pub read : read_image image ≡ accepted automaton
  pub same : c ≡ counts_at image

pub checks_of : (image : List ℕ) (c : Counts) → accepted c ≡ checks image → Checks image c
unfolding checks
checks_of image c e = go (read_image image) refl e
  where
    go : (r : Result Automaton) → read_image image ≡ r → accepted c ≡ and_then r (λ a. accepted (counts a))
        → Checks image c
    go (accepted a) p e =
        let parts = read_of image a p in
        let back = counts_back (counts_at image) _ _ _ parts.bodies in
        let counted : c ≡ counts a = cc in
        record { automaton = a; read = p; same = counted ∙ ap counts parts.automaton ∙ back }
    go (refused number place) p e = never_both (sym e)

pub checks_sized : (image : List ℕ) (c : Counts) → accepted c ≡ checks image → Sized c image
checks_sized image c e =
    let found = checks_of image c e in
    let fits = contents_fine image (read_of image found.automaton found.read).contents in
    rw found.same (record { small = fits.small; size = fits.size })

pub checks_refused : (image : List ℕ) {number place : ℕ} → refused number place ≡ checks image
    → read_image image ≡ refused number place
unfolding checks
checks_refused image {number} {place} e = go (read_image image) e
  where
    go : (r : Result Automaton) → refused number place ≡ and_then r (λ a. accepted (counts a))
        → r ≡ refused number place
    go (accepted a) e = never_both e
    go (refused n p) e = cc
