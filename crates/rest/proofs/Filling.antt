-- Points are met one after another, and the buffers show them: what each turn of a loop meets is put together. Assumes
-- nothing.
use Prim.Native.Nat.{ℕ, ◌+◌, ◌*◌, ◌<◌, ◌≤◌}
use mathlib.Core.Path.{◌≡◌, refl, sym, ◌∙◌, ap, subst}
use mathlib.Core.Logic.{inl, inr}
use mathlib.Core.List.{List, [], ◌∷◌, ◌++◌, map, map-append}
use mathlib.Core.Bool.{Bool, true, false}
use native.Mathlib.Numerals.{add-one}
use lib.ListN.{get_or, drop, set}
use Rattle.sets.specs.Sets.{In}
use Rattle.sets.proofs.Members.{All}
use Rattle.automaton.specs.Automaton.{Transition, no_state, reads}
use Rattle.automaton.specs.Limits.{max_states}
use Rattle.answer.specs.Bytes.{number_at}
use Rattle.image.specs.Image.{initial_at}
use Rattle.image.specs.Reader.{counts_at, transitions_from, numbers_from, automaton_from}
use Rattle.image.specs.Lookup.{image_automaton, record_at, records_at, transition_count_of, Readable}
use Rattle.image.proofs.Lookup.{automaton_transitions, records_more, numbers_more}
use Rattle.image.proofs.Lookup.{target_inside, step_target}
use Rattle.rest.specs.Search.{Point, point, visit, visit_all, read_targets, starts}
use Rattle.rest.specs.Memory.{Buffers, buffers, Shows, Ready, Fills}
use Rattle.rest.proofs.Points.{add_if, targets_in}
use Rattle.rest.proofs.Marking.{visit_old, shows_met, shows_new, shows_full}

visit_append : (xs ys met : List Point) → visit_all (xs ++ ys) met ≡ visit_all ys (visit_all xs met)
unfolding visit_all
visit_append [] ys met = refl
visit_append (x ∷ xs) ys met = visit_append xs ys (visit x met)

visit_none : (xs met : List Point) → All (λ x. visit x met ≡ met) xs → visit_all xs met ≡ met
unfolding visit_all
visit_none [] met all = refl
visit_none (x ∷ xs) met all =
    ap (visit_all xs) (all x (inl refl)) ∙ visit_none xs met (λ y h. all y (inr h))

targets_append : (x p : ℕ) (ts us : List Transition)
    → read_targets x p (ts ++ us) ≡ read_targets x p ts ++ read_targets x p us
unfolding read_targets
targets_append x p [] us = refl
targets_append x p (t ∷ ts) us = go (reads t x) (targets_append x p ts us)
  where
    go : (b : Bool) → read_targets x p (ts ++ us) ≡ read_targets x p ts ++ read_targets x p us
        → add_if b (point p t.target) (read_targets x p (ts ++ us))
        ≡ add_if b (point p t.target) (read_targets x p ts) ++ read_targets x p us
    go true e = ap (λ (xs : List Point). point p t.target ∷ xs) e
    go false e = e

fills_none : {n p : ℕ} {b : Buffers} → Fills n p b b []
unfolding visit_all
fills_none = record { fills = λ older met h. h }

module _ {n p : ℕ} {b : Buffers} {q : ℕ} (state : q < n) where
  -- the byte of the state is 1, or it is set and the state is listed
  pub fills_met : get_or b.work (max_states * p + q) 0 ≡ 1 → Fills n p b b (point p q ∷ [])
  unfolding visit_all
  fills_met e = record { fills = λ older met h. shows_met h q state e }

  pub fills_new : (get_or b.work (max_states * p + q) 0 ≡ 1 → ⊥)
      → Fills n p b (buffers (set b.work (max_states * p + q) 1)
      (record { states = set b.level.states b.level.count q; count = b.level.count + 1 })) (point p q ∷ [])
  unfolding visit_all
  fills_new e = rw (add-one b.level.count) (record { fills = λ older met h. shows_new h q state e })

module _ {n p : ℕ} {b c : Buffers} {xs : List Point} (first : Fills n p b c xs) where
  pub fills_ready : Ready n p b → Ready n p c
  fills_ready r = record {
    older = r.older;
    met = visit_all xs r.met;
    shows = first.fills r.older r.met r.shows;
  }

  fills_on : {d : Buffers} {ys : List Point} → Fills n p c d ys → Fills n p b d (xs ++ ys)
  fills_on {d} {ys} then = record {
    fills = λ older met h.
        subst (Shows n p d older) (sym (visit_append xs ys met))
        (then.fills older (visit_all xs met) (first.fills older met h));
  }

-- where all n states are listed, there is nothing more to meet at the position
fills_full : {n p : ℕ} {b : Buffers} {xs : List Point} → n ≤ b.level.count
    → ((x : Point) → In x xs → (x.position ≡ p) × (x.state < n)) → Fills n p b b xs
fills_full {n} {p} {b} {xs} full inside = record {
  fills = λ older met h. subst (Shows n p b older) (sym (visit_none xs met (λ x m. old older met h x (inside x m)))) h;
}
  where
    old : (older met : List Point) → Shows n p b older met → (x : Point) → (x.position ≡ p) × (x.state < n)
        → visit x met ≡ met
    old older met h x (e, lt) =
        visit_old x met (subst (λ (k : ℕ). In (point k x.state) met) (sym e) (shows_full h full x.state lt))

-- ---- the transitions of a state

module _ {n p : ℕ} {b : Buffers} (x : ℕ) (t : Transition) where
  -- a transition that does not read the letter leads nowhere, one that does to its target
  pub follow_skips : reads t x ≡ false → Fills n p b b (read_targets x p (t ∷ []))
  unfolding read_targets
  follow_skips e = rw (e, read_targets) fills_none

  pub follow_meets : reads t x ≡ true → {c : Buffers} → Fills n p b c (point p t.target ∷ [])
      → Fills n p b c (read_targets x p (t ∷ []))
  unfolding read_targets
  follow_meets e f = rw (e, read_targets) f

-- the points that the first i records from byte `at` on lead to
abbrev pub led_to : (image : List ℕ) (at x p i : ℕ) → List Point
led_to image at x p i = read_targets x p (transitions_from i (drop at image))

module _ {n p : ℕ} {b : Buffers} (image : List ℕ) (at x : ℕ) where
  pub follows_begin : Fills n p b b (led_to image at x p 0)
  unfolding transitions_from read_targets
  follows_begin = fills_none

  pub follows_step : {c d : Buffers} (i : ℕ) → Fills n p b c (led_to image at x p i)
      → Fills n p c d (read_targets x p (record_at image (at + 4 * i) ∷ []))
      → Fills n p b d (led_to image at x p (i + 1))
  follows_step {c} {d} i met f =
      let new : List Point = read_targets x p (record_at image (at + 4 * i) ∷ []) in
      let more : led_to image at x p (i + 1) ≡ led_to image at x p i ++ new =
      ap (led_to image at x p) (add-one i) ∙ ap (read_targets x p) (records_more i at image)
      ∙ targets_append x p (transitions_from i (drop at image)) (record_at image (at + 4 * i) ∷ []) in
      subst (Fills n p b d) (sym more) (fills_on met f)

-- a record of state q leads to a state
pub target_below : {at records : ℕ} (image : List ℕ) → Readable image → (q : ℕ) → q < (counts_at image).states
    → at ≡ records_at image q → records ≡ transition_count_of image q
    → (i : ℕ) → i < records → number_at image (at + 4 * i + 2) < (counts_at image).states
target_below image fine q lq ea er i lt = rw ea (target_inside image fine q i lq (rw er at lt))

-- the points that the transitions of state q lead to
abbrev targets_of : (image : List ℕ) (q x p : ℕ) → List Point
targets_of image q x p = read_targets x p (get_or (image_automaton image).states q no_state).transitions

pub follows_end : {n p at i : ℕ} {b c : Buffers} (image : List ℕ) (q x : ℕ) → q < (counts_at image).states
    → at ≡ records_at image q → i ≡ transition_count_of image q
    → Fills n p b c (led_to image at x p i) → Fills n p b c (targets_of image q x p)
follows_end {n} {p} {at} {i} {b} {c} image q x lq ea ei met =
    let same : led_to image at x p i ≡ targets_of image q x p =
    (λ j. read_targets x p (transitions_from (ei j) (drop (ea j) image)))
    ∙ ap (read_targets x p) (sym (automaton_transitions image q lq)) in
    subst (Fills n p b c) same met

-- all states are listed already
pub follows_full : {n p : ℕ} {b : Buffers} (image : List ℕ) → Readable image → (q x : ℕ)
    → n ≡ (counts_at image).states → n ≤ b.level.count → Fills n p b b (targets_of image q x p)
follows_full {n} {p} image fine q x en full =
    fills_full full (λ y h.
    let (e, step) = targets_in x p (get_or (image_automaton image).states q no_state).transitions y h in
    (e, rw en (step_target image fine q x y.state step)))

-- ---- the initial states

-- the first i numbers from byte `at` on, as points
abbrev pub numbered : (image : List ℕ) (at i : ℕ) → List Point
numbered image at i = map (point 0) (numbers_from i (drop at image))

module _ {n : ℕ} {b : Buffers} (image : List ℕ) (at : ℕ) where
  pub begin_holds : Fills n 0 b b (numbered image at 0)
  unfolding numbers_from
  begin_holds = fills_none

  pub begin_steps : {c d : Buffers} (i : ℕ) → Fills n 0 b c (numbered image at i)
      → Fills n 0 c d (point 0 (number_at image (at + 2 * i)) ∷ []) → Fills n 0 b d (numbered image at (i + 1))
  begin_steps {c} {d} i met f =
      let more : numbered image at (i + 1) ≡ numbered image at i ++ (point 0 (number_at image (at + 2 * i)) ∷ []) =
      ap (numbered image at) (add-one i) ∙ ap (map (point 0)) (numbers_more i at image)
      ∙ map-append (point 0) (numbers_from i (drop at image)) (number_at image (at + 2 * i) ∷ []) in
      subst (Fills n 0 b d) (sym more) (fills_on met f)

pub begin_ends : {n at i : ℕ} {b c : Buffers} (image : List ℕ) → at ≡ initial_at (counts_at image)
    → i ≡ (counts_at image).initial → Fills n 0 b c (numbered image at i)
    → (stem cycle : List ℕ) → Fills n 0 b c (starts (image_automaton image) stem cycle)
unfolding starts automaton_from
begin_ends {n} {b = b} {c = c} image ea ei met stem cycle =
    subst (Fills n 0 b c) (λ j. numbered image (ea j) (ei j)) met
