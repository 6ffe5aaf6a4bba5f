-- What `has_accepting_pass` computes is right: some point that a run reaches accepts and leads back to itself exactly if
-- there is an accepting pass. Assumes that targets and initial numbers are states, and that the cycle has a letter.
use Prim.Native.Nat.{ℕ, zero, suc, ◌+◌, ◌*◌, ◌<◌, ◌≤◌}
use mathlib.Core.Path.{◌≡◌, refl, sym, ◌∙◌, ap, subst}
use mathlib.Core.Logic.{◌↔◌}
use mathlib.Core.List.{List}
use mathlib.Core.Bool.{true, ◌&&◌, and-eq-true_iff}
use native.Mathlib.Omega.{arith}
use native.Mathlib.Nat.{mul-le-mul_right, suc-mul}
use native.Mathlib.Decide.{dec_lt, le_ind}
use lib.ListN.{length}
use Rattle.lasso.specs.Lasso.{letter, after}
use Rattle.automaton.specs.Automaton.{Automaton, Accepts, AcceptingPass}
use Rattle.sets.specs.Sets.{In}
use Rattle.sets.proofs.Members.{All, map_in, in_map, any_iff}
use Rattle.automaton.proofs.Passes.{AutomatonOver, Endless, Pass, numbered, pass_iff, endless_pass, pass_endless}
use Rattle.judge.proofs.Runs.{Leads, same_letter, leads_none, leads_one, leads_on, on_early, on_late, leads_snoc}
use Rattle.rest.specs.Search.{Point, point, member, onward, reached_from, starts}
use Rattle.judge.specs.Search.{accepting, has_accepting_pass}
use Rattle.rest.proofs.Queue.{Within, few_points, member_iff}
use Rattle.rest.proofs.Reached.{Reached, search_reaches}
use Rattle.rest.proofs.Points.{onto, onto_pass, letter_onto, onward_step, step_onward, onward_within}
use Rattle.automaton.proofs.InRange.{InRange}

module _ (a : Automaton) (range : InRange a) (stem cycle : List ℕ) (pos : 0 < length cycle) where
  abbrev word : ℕ → ℕ
  word = letter stem cycle

  abbrev pub s : ℕ
  s = length stem

  abbrev pub n : ℕ
  n = length cycle

  abbrev pub N : ℕ
  N = length a.states

  -- ---- what the searches meet

  -- from point to point
  abbrev pub Go : (i : ℕ) (x y : Point) → Type 0
  Go i x y = In y (onward a stem cycle x)

  -- some run from one of these points comes to x, within bounds
  pub record Comes (from : List Point) (x : Point) : Type 0 where
    pub within : Within N (s + n) x
    pub start : Point
    pub given : In start from
    pub count : ℕ
    pub run : Leads Go count start x

  -- what the search from them meets
  abbrev pub Meeting : List Point → Type 0
  Meeting from = Reached a stem cycle (Comes from) from (reached_from a stem cycle from)

  searched : (from : List Point) → All (Within N (s + n)) from → Meeting from
  unfolding reached_from
  searched from all =
      search_reaches a stem cycle (Comes from) on (N * (s + n))
      (λ xs u h. few_points N (s + n) xs u (λ x m. (h x m).within)) from (N * (s + n)) (omega arith)
      (λ x h. record { within = all x h; start = x; given = h; count = 0; run = leads_none x })
    where
      on : (x : Point) → Comes from x → All (Comes from) (onward a stem cycle x)
      on x c z h = record {
        within = onward_within a stem cycle range pos x z h;
        start = c.start;
        given = c.given;
        count = suc c.count;
        run = leads_snoc c.run h;
      }

  -- an initial state, at position 0
  pub started : (x : Point) → In x (starts a stem cycle) → (x.position ≡ 0) × In x.state a.initial
  unfolding starts
  started x h =
      let (q, m, e) = map_in (point 0) x a.initial h in
      (ap (λ (y : Point). y.position) e, subst (λ (k : ℕ). In k a.initial) (sym (ap (λ (y : Point). y.state) e)) m)

  pub from_starts : Meeting (starts a stem cycle)
  from_starts = searched (starts a stem cycle)
      (λ x h. record { position = omega (arith, (started x h).0); state = range.initial x.state (started x h).1 })

  from_after : (x : Point) → Meeting (onward a stem cycle x)
  from_after x = searched (onward a stem cycle x) (onward_within a stem cycle range pos x)

  -- ---- from a point that leads back to itself to an accepting pass

  -- the points as states, with no letters
  abbrev pointed : AutomatonOver Point
  pointed = record {
    Initial = λ x. In x (starts a stem cycle);
    Step = λ x l y. In y (onward a stem cycle x);
    Accepting = λ x. Accepts a x.state;
  }

  -- an endless run over points is one over the word's letters
  module _ (p : ℕ → Point) (run : Endless (λ i. 0) pointed p) where
    position : (i : ℕ) → (p i).position ≡ onto stem cycle i
    unfolding onto
    position zero = (started (p 0) run.begins).0
    position (suc i) =
        (onward_step a stem cycle (p i) (p (suc i)) (run.steps i)).0 ∙ ap (after stem cycle) (position i)

    states : Endless word (numbered a) (λ i. (p i).state)
    states = record {
      begins = (started (p 0) run.begins).1;
      steps = λ i. same_letter a (ap word (position i) ∙ letter_onto stem cycle pos i) (p i).state (p (suc i)).state
          (onward_step a stem cycle (p i) (p (suc i)) (run.steps i)).1;
      again = run.again;
    }

    few : (i : ℕ) → (p i).state < N
    few zero = range.initial (p 0).state states.begins
    few (suc i) = range.targets _ _ _ (states.steps i)

    endless_accepts : AcceptingPass a stem cycle
    endless_accepts = (pass_iff a stem cycle).1 (endless_pass s n pos word (numbered a) (λ i. (p i).state) states N few)

  -- a run that comes to x, and one from there back that accepts on its way
  module _ (x : Point) (c : Comes (starts a stem cycle) x) (d : ℕ) (some : 0 < d) (round : Leads Go d x x) where
    whole : Leads Go (c.count + d) c.start x
    whole = leads_on (λ i lt y z h. h) c.run round

    whole_first : whole.at c.count ≡ x
    unfolding whole
    whole_first = on_early (λ i lt y z h. h) c.run round c.count (omega arith) ∙ c.run.to

    whole_late : (i : ℕ) → whole.at (c.count + i) ≡ round.at i
    unfolding whole
    whole_late i = on_late (λ i lt y z h. h) c.run round i

    pub looped : (i : ℕ) → i ≤ d → Accepts a (round.at i).state → AcceptingPass a stem cycle
    looped i le acc =
        let (p, run) = pass_endless c.count d some (λ i. 0) (λ i l. refl) pointed turned in
        endless_accepts p run
      where
        turned : Pass c.count d (λ i. 0) pointed
        turned =
            let z : c.count + 0 * d ≡ c.count = omega arith in
            let y : c.count + 1 * d ≡ c.count + d = omega arith in
            record {
              at = whole.at;
              first = 0;
              second = 1;
              later = omega arith;
              begins = rw whole.from c.given;
              steps = λ i l. whole.steps i (omega arith);
              same = ap whole.at z ∙ whole_first ∙ sym (ap whole.at y ∙ whole.to);
              accepts = (c.count + i, omega arith, omega arith, rw (whole_late i) acc);
            }

  -- ---- from an accepting pass to a point that leads back to itself

  module _ (pass : AcceptingPass a stem cycle) where
    abbrev low : ℕ
    low = s + pass.first * n

    abbrev high : ℕ
    high = s + pass.second * n

    low_high : low < high
    low_high = omega (arith, mul-le-mul_right n pass.later, suc-mul pass.first n)

    here : ℕ → Point
    here i = point (onto stem cycle i) (pass.at i)

    here_round : here low ≡ here high
    unfolding here
    here_round =
        let p = onto_pass stem cycle pos pass.first ∙ sym (onto_pass stem cycle pos pass.second) in
        let q = pass.same in
        λ i. point (p i) (q i)

    here_on : (i : ℕ) → i < high → In (here (suc i)) (onward a stem cycle (here i))
    unfolding here onto
    here_on i l = step_onward a stem cycle (onto stem cycle i) (pass.at i) (pass.at (suc i))
        (same_letter a (sym (letter_onto stem cycle pos i)) (pass.at i) (pass.at (suc i)) (pass.steps i l))

    -- a search that meets one point of the run meets those after it
    module _ {P : Point → Type 0} {from points : List Point} (c : Reached a stem cycle P from points) where
      taken_later : (i k : ℕ) → i ≤ k → k ≤ high → In (here i) points → In (here k) points
      taken_later i k l m h = le_ind (λ j. j ≤ high → In (here j) points) (λ le. h)
          (λ j lo ih le. c.closed (here j) (ih (omega arith)) (here (suc j)) (here_on j le)) k l m

    start_in : In (here 0) (starts a stem cycle)
    unfolding here onto starts
    start_in = in_map (point 0) (pass.at 0) a.initial pass.begins

    -- a search from the initial states meets all of it
    pub met_here : (i : ℕ) → i ≤ high
        → In (point (onto stem cycle i) (pass.at i)) (reached_from a stem cycle (starts a stem cycle))
    unfolding here
    met_here i le = taken_later from_starts 0 i (omega arith) le (from_starts.has (here 0) start_in)

    found : (i : ℕ) → low ≤ i → i < high → Accepts a (pass.at i) → has_accepting_pass a stem cycle ≡ true
    unfolding has_accepting_pass
    found i l m acc = (any_iff
        (λ x. accepting a stem cycle x && member x (reached_from a stem cycle (onward a stem cycle x)))
        (reached_from a stem cycle (starts a stem cycle))).1 (
          here i,
          (unfold here in met_here i (omega arith)),
          (and-eq-true_iff (accepting a stem cycle (here i)) _).1 (
            (unfold here in acc),
            (member_iff (here i) (reached_from a stem cycle (onward a stem cycle (here i)))).1 again,
          ),
        )
      where
        again : In (here i) (reached_from a stem cycle (onward a stem cycle (here i)))
        again = taken_later (from_after (here i)) low i l (omega arith)
            (subst (λ (x : Point). In x (reached_from a stem cycle (onward a stem cycle (here i)))) (sym here_round)
            (taken_later (from_after (here i)) (suc i) high m (omega arith)
            ((from_after (here i)).has (here (suc i)) (here_on i m))))

    pass_shows : has_accepting_pass a stem cycle ≡ true
    pass_shows =
        let (i, l, m, acc) = pass.accepts in
        early i l m acc (dec_lt i high)
      where
        early : (i : ℕ) → low ≤ i → i ≤ high → Accepts a (pass.at i) → Dec (i < high)
            → has_accepting_pass a stem cycle ≡ true
        early i l m acc (yes lt) = found i l lt acc
        early i l m acc (no ge) =
            let z : i ≡ high = omega arith in
            found low (omega arith) low_high (subst (λ (k : ℕ). Accepts a k) (ap pass.at z ∙ sym pass.same) acc)

  shown_pass : has_accepting_pass a stem cycle ≡ true → AcceptingPass a stem cycle
  unfolding has_accepting_pass
  shown_pass e =
      let found = (any_iff
      (λ x. accepting a stem cycle x && member x (reached_from a stem cycle (onward a stem cycle x)))
      (reached_from a stem cycle (starts a stem cycle))).0 e in
      let (x, m, t) = found in
      let (acc, again) = (and-eq-true_iff (accepting a stem cycle x) _).0 t in
      let after = (member_iff x (reached_from a stem cycle (onward a stem cycle x))).0 again in
      let b = (from_after x).sound x after in
      let round = leads_on (λ i lt y z h. h) (leads_one b.given) b.run in
      looped x (from_starts.sound x m) (1 + b.count) (omega arith) round 0 (omega arith)
      (subst (λ (y : Point). Accepts a y.state) (sym round.from) acc)

  -- the search is right about accepting passes
  pub has_accepting_pass_iff : (has_accepting_pass a stem cycle ≡ true) ↔ AcceptingPass a stem cycle
  has_accepting_pass_iff = (shown_pass, pass_shows)
