-- A level of the search to rest, state after state: the states listed are the points still to be taken, in order, and
-- what they lead to is listed anew. Assumes that targets and initial numbers are states, and that the cycle has a
-- letter.
use Prim.Native.Nat.{ℕ, suc, ◌+◌, ◌*◌, ◌<◌, ◌≤◌}
use mathlib.Core.Path.{◌≡◌, refl, sym, ◌∙◌, ap, subst}
use mathlib.Core.List.{List, [], ◌++◌, map, append-nil}
use Rattle.std.specs.Prelude.{None}
use mathlib.Core.Bool.{Bool, true, false, cond}
use native.Mathlib.Omega.{arith}
use native.Mathlib.Nat.{mul-le-mul_right}
use native.Mathlib.Numerals.{add-one}
use lib.ListN.{get_or, length, replicate, take, length-append, length-map, get_or-append}
use lib.Seq.{get_or-take, get_or-append-add}
use Rattle.lasso.specs.Lasso.{letter, after}
use Rattle.lasso.proofs.Letters.{after_small}
use Rattle.sets.proofs.Members.{map_at}
use Rattle.automaton.specs.Automaton.{Automaton, no_state, at_rest}
use Rattle.automaton.specs.Limits.{max_states}
use Rattle.automaton.proofs.InRange.{InRange}
use Rattle.image.specs.Reader.{counts_at}
use Rattle.image.specs.Image.{rest_at}
use Rattle.image.specs.Lookup.{image_automaton, Readable}
use Rattle.answer.proofs.Zeros.{zeros_at}
use Rattle.rest.specs.declared.Level.{Level}
use Rattle.rest.specs.Search.{Point, point, visit_all, read_targets, onward, starts}
use Rattle.rest.specs.Rest.{resting, rest_taken, pairs_taken}
use Rattle.rest.specs.Memory.{Marked, Marks, Buffers, buffers, Shows, Fills}
use Rattle.rest.specs.Memory.{Searching, ReachedMarked, Before, Ended}
use Rattle.rest.proofs.Queue.{at}
use Rattle.rest.proofs.Marking.{shows_long}
use Rattle.rest.proofs.Searching.{searching_begins, searching_few, searching_goes, rest_taken_lem, rest_pairs}
use Rattle.rest.proofs.Searching.{searched_all, searched_calm, searched_pairs}

-- ---- the byte of a state

one_true : (b : Bool) → ◌≡◌ {A = ℕ} (cond b 1 0) 1 → b ≡ true
one_true true e = refl
one_true false e = absurd (omega arith)

other_false : (b : Bool) → (◌≡◌ {A = ℕ} (cond b 1 0) 1 → ⊥) → b ≡ false
other_false true e = absurd (e refl)
other_false false e = refl

module _ (image : List ℕ) (fine : Readable image) (q : ℕ) (lt : q < (counts_at image).states) where
  abbrev rests : Bool
  rests = at_rest q (get_or (image_automaton image).states q no_state)

  pub byte_rests : get_or image (rest_at + 4 * q) 0 ≡ 1 → rests ≡ true
  byte_rests e = one_true rests (sym (fine.rests q lt) ∙ e)

  pub byte_calm : (get_or image (rest_at + 4 * q) 0 ≡ 1 → ⊥) → rests ≡ false
  byte_calm e = other_false rests (λ f. e (fine.rests q lt ∙ f))

-- ---- one level

-- an empty list beside the marks
pub fresh_shows : {n p : ℕ} {work : List ℕ} {met : List Point} (states : List ℕ) → n ≤ max_states
    → max_states * suc p ≤ length work → length states ≡ max_states → Marks work met
    → Shows n p (buffers work (record { states = states; count = 0 })) met met
fresh_shows {met = met} states small bytes size marks = record {
  small = small;
  bytes = bytes;
  size = size;
  marks = marks;
  listed = sym (append-nil met);
  below = λ i l. absurd (omega arith);
  apart = λ i j l m e. omega arith;
}

module _ (a : Automaton) (stem cycle : List ℕ) where
  -- the loop over a level at position p, `taken` points having been taken before it, that stands at i
  pub record Taking (n p taken : ℕ) (level : Level) (b : Buffers) (i : ℕ) : Type 0 where
    pub older : List Point
    pub met : List Point
    pub long : length older ≡ taken + level.count
    pub queue : (j : ℕ) → j < level.count → at older (taken + j) ≡ point p (get_or level.states j 0)
    pub shows : Shows n (after stem cycle p) b older met
    pub searching : Searching a stem cycle (taken + i) met

  -- before a level
  module _ {n p taken : ℕ} {b : Buffers} (t : Before a stem cycle n p taken b) where
    abbrev listed : List Point
    listed = map (point p) (take b.level.count b.level.states)

    before_long : length t.met ≡ taken + b.level.count
    before_long =
        ap length t.shows.listed ∙ length-append t.older listed
        ∙ omega (arith, t.long, length-map (take b.level.count b.level.states) (point p), shows_long t.shows)

    -- the pairs taken, with those of the level, are at most as many as there are bytes
    pub before_few : InRange a → 0 < length cycle → n ≡ length a.states
        → max_states * (length stem + length cycle) ≤ length b.work → taken + b.level.count ≤ length b.work
    before_few range pos en bytes =
        let few = searching_few a stem cycle t.searching range pos in
        let product = mul-le-mul_right (length stem + length cycle) t.shows.small in
        let same = ap (λ (k : ℕ). k * (length stem + length cycle)) en in
        omega (arith, few, product, same, before_long)

    before_queue : (j : ℕ) → j < b.level.count → at t.met (taken + j) ≡ point p (get_or b.level.states j 0)
    before_queue j l =
        let e : taken + j ≡ length t.older + j = omega (arith, t.long) in
        ap (λ (xs : List Point). at xs (taken + j)) t.shows.listed ∙ ap (at (t.older ++ listed)) e
        ∙ get_or-append-add t.older listed j (point 0 0)
        ∙ map_at (point p) 0 (point 0 0) (take b.level.count b.level.states) j (omega (arith, shows_long t.shows))
        ∙ ap (point p) (get_or-take b.level.count b.level.states j 0 l)

    -- there is no state in it
    pub before_none : b.level.count ≤ 0 → max_states * (length stem + length cycle) ≤ length b.work
        → (false ≡ rest_taken a stem cycle) × (taken ≡ pairs_taken a stem cycle)
        × ReachedMarked a stem cycle b.work
    before_none none bytes =
        let all : length t.met ≤ taken = omega (arith, before_long) in
        let same = searched_all a stem cycle t.searching all in (
          searched_calm a stem cycle t.searching all,
          searched_pairs a stem cycle t.searching all,
          λ p lt. subst (Marked p b.work) same (t.shows.marks p (omega arith)),
        )

  module _ (range : InRange a) (pos : 0 < length cycle) {n p taken : ℕ} {level : Level} where
    pub taking_begins : {work : List ℕ} (states : List ℕ) → max_states * (length stem + length cycle) ≤ length work
        → length states ≡ max_states → Before a stem cycle n p taken (buffers work level)
        → Taking n p taken level (buffers work (record { states = states; count = 0 })) 0
    taking_begins states bytes size b = record {
      older = b.met;
      met = b.met;
      long = before_long b;
      queue = before_queue b;
      shows = fresh_shows states b.shows.small (omega (arith, after_small stem cycle pos p)) size b.shows.marks;
      searching = subst (λ (k : ℕ). Searching a stem cycle k b.met) (omega arith) b.searching;
    }

    module _ {b : Buffers} (i : ℕ) (t : Taking n p taken level b i) where
      abbrev newer : List Point
      newer = map (point (after stem cycle p)) (take b.level.count b.level.states)

      short : length t.older ≤ length t.met
      short = omega (arith, ap length t.shows.listed, length-append t.older newer)

      pub taking_ends : i ≡ level.count → Ended a stem cycle n p (taken + level.count) None b
      taking_ends e = record {
        older = t.older;
        met = t.met;
        inside = after_small stem cycle pos p;
        shows = t.shows;
        long = t.long;
        searching = subst (λ (k : ℕ). Searching a stem cycle k t.met) (omega arith) t.searching;
      }

      module _ (lt : i < level.count) (q : ℕ) (is : q ≡ get_or level.states i 0) where
        -- the next point to be taken
        next_inside : taken + i < length t.met
        next_inside = omega (arith, t.long, short)

        next_point : at t.met (taken + i) ≡ point p q
        next_point =
            ap (λ (xs : List Point). at xs (taken + i)) t.shows.listed
            ∙ get_or-append t.older newer (point 0 0) (taken + i) (omega (arith, t.long)) ∙ t.queue i lt
            ∙ ap (point p) (sym is)

        -- it is at rest
        module _ (e : at_rest q (get_or a.states q no_state) ≡ true) where
          here : resting a stem cycle (at t.met (taken + i)) ≡ true
          here = ap (resting a stem cycle) next_point ∙ e

          pub taking_rests : (true ≡ rest_taken a stem cycle) × (taken + i + 1 ≡ pairs_taken a stem cycle)
          taking_rests = (
            rest_taken_lem a stem cycle t.searching next_inside here,
            add-one (taken + i) ∙ rest_pairs a stem cycle t.searching next_inside here,
          )

        -- it is not, and what it leads to is met
        module _ (e : at_rest q (get_or a.states q no_state) ≡ false) where
          more : List Point
          more = visit_all (onward a stem cycle (point p q)) t.met

          goes : Searching a stem cycle (suc (taken + i)) more
          unfolding more
          goes =
              let calm = ap (resting a stem cycle) next_point ∙ e in
              let k = suc (taken + i) in
              subst (λ (x : Point). Searching a stem cycle k (visit_all (onward a stem cycle x) t.met)) next_point
              (searching_goes a stem cycle t.searching range pos next_inside calm)

          pub taking_steps : {c : Buffers} {x next : ℕ} → x ≡ letter stem cycle p → next ≡ after stem cycle p
              → Fills n next b c (read_targets x next (get_or a.states q no_state).transitions)
              → Taking n p taken level c (i + 1)
          unfolding onward more
          taking_steps ex en f = record {
            older = t.older;
            met = more;
            long = t.long;
            queue = t.queue;
            shows = (rw (ex, en) at f).fills t.older t.met t.shows;
            searching = subst (λ (k : ℕ). Searching a stem cycle k more) (omega arith) goes;
          }

-- ---- level after level

-- bytes that are all zero mark nothing
pub blank_marks : {work : List ℕ} → work ≡ replicate (length work) 0 → Marks work []
blank_marks {work} e p row = record {
  marked = λ q lq h. absurd h;
  only = λ q lq h.
      let zero : get_or work (max_states * p + q) 0 ≡ 0 =
      ap (λ (xs : List ℕ). get_or xs (max_states * p + q) 0) e ∙ zeros_at (length work) (max_states * p + q) in
      absurd (omega arith);
}

-- the first level: the initial states
pub before_first : (a : Automaton) (stem cycle : List ℕ) → 0 < length cycle → {n : ℕ} {b c : Buffers}
    → Shows n 0 b [] [] → Fills n 0 b c (starts a stem cycle) → Before a stem cycle n 0 0 c
before_first a stem cycle pos {b = b} {c = c} h f = record {
  older = [];
  met = visit_all (starts a stem cycle) [];
  inside = omega arith;
  shows = f.fills [] [] h;
  long = refl;
  searching = searching_begins a stem cycle;
}
