-- The bits of a pass, put together, are exactly the runs over one or more passes from the states in which passes begin:
-- such a state that comes back to itself through an accepting one shows, and so does an accepting pass. Assumes that
-- passes begin in states of the automaton.
use Prim.Native.Nat.{ℕ, suc, ◌+◌, ◌-◌, ◌*◌, ◌%◌, ◌<◌, ◌≤◌}
use mathlib.Core.Path.{◌≡◌, refl, sym, ◌∙◌, ap, subst}
use mathlib.Core.List.{List}
use native.Mathlib.Omega.{arith}
use native.Mathlib.Nat.{mod-eq_of_lt, mul-add-mod_self_right, mul-le-mul_right, suc-mul}
use native.Mathlib.Decide.{dec_lt, le_ind}
use lib.ListN.{length, get_or}
use borrow.Author.Tests.{le-ltb}
use Rattle.lasso.specs.Lasso.{letter}
use Rattle.automaton.specs.Automaton.{Automaton, Step, Accepts, AcceptingPass, pass_begin}
use Rattle.judge.specs.Memory.{After, Linked, one, join, join_met}
use Rattle.judge.specs.Limits.{met_bit}
use Rattle.automaton.specs.Limits.{max_states}
use Rattle.judge.proofs.Runs.{Leads, Over, Meets, same_letter, leads_as, leads_on}
use Rattle.judge.proofs.Runs.{meets_on, on_meets}
use Rattle.judge.proofs.Letters.{after_covered}
use Rattle.judge.proofs.Arrivals.{Arrived, low_runs, high_runs, run_bits, met_bits}

-- ---- the letters of a lasso

-- the cycle round and round
abbrev pub round : (cycle : List ℕ) → ℕ → ℕ
round cycle i = get_or cycle (i % length cycle) 0

pub letter_round : (stem cycle : List ℕ) (i : ℕ) → letter stem cycle (length stem + i) ≡ round cycle i
unfolding letter
letter_round stem cycle i =
    let z : length stem + i - length stem ≡ i = omega arith in
    rw (le-ltb (length stem + i) (length stem) (omega arith)) (ap (round cycle) z)

round_first : (cycle : List ℕ) (i : ℕ) → i < length cycle → round cycle i ≡ get_or cycle i 0
round_first cycle i lt = ap (λ (j : ℕ). get_or cycle j 0) (mod-eq_of_lt lt)

round_later : (cycle : List ℕ) (e i : ℕ) → round cycle (e * length cycle + i) ≡ round cycle i
round_later cycle e i = ap (λ (j : ℕ). get_or cycle j 0) (mul-add-mod_self_right e (length cycle) i)

-- ---- what the rows hold

module _ (a : Automaton) (n : ℕ) (cycle : List ℕ) (Begins : ℕ → Type 0) where
  -- the letters of the cycle once
  abbrev in_cycle : ℕ → ℕ
  in_cycle i = get_or cycle i 0

  -- passes begin in some of the states
  abbrev pub Begun : (q k : ℕ) → Type 0
  Begun q k = Begins q × (k ≡ q)

  -- after one pass
  abbrev pub Passed : (q k : ℕ) → Type 0
  Passed q k = After a in_cycle Begun (length cycle) q k

  abbrev turn : ℕ → ℕ
  turn = round cycle

  module _ (few : n ≤ max_states) (below : (q : ℕ) → Begins q → q < n) where
    -- ---- the bits of one pass are runs

    begun_high : (q p : ℕ) → Begun q (met_bit + p) → ⊥
    begun_high q p (b, e) = omega (arith, below q b)

    -- runs that have met an accepting state are runs
    pub passed_covered : (q k : ℕ) → k < met_bit → Passed q (met_bit + k) → Passed q k
    passed_covered = after_covered a in_cycle (λ q k lt h. absurd (begun_high q k h)) (length cycle)

    -- R of the state where the run began, in which a pass begins
    abbrev From : (R : ℕ → Type 0) (p : ℕ) → Type 0
    From R p = Begins p × R p

    from_begun : {R : (p q : ℕ) → Type 0} {p q : ℕ} → Arrived Begun R q p → From (λ s. R s q) p
    from_begun {R} {p} {q} m =
        let (b, e) = m.held in
        (subst Begins (sym e) b, subst (λ (s : ℕ). R s q) (sym e) m.run)

    passed_low : {q p : ℕ} → p < max_states → Passed q p → From (λ s. Leads (Over a in_cycle) (length cycle) s q) p
    passed_low lt h = from_begun (low_runs a in_cycle Begun (length cycle) (omega arith) h)

    passed_high : {q : ℕ} (p : ℕ) → p < max_states → Passed q (met_bit + p)
        → From (λ s. Meets a in_cycle (length cycle) s q) p
    passed_high p lt h =
        from_begun (high_runs a in_cycle Begun (length cycle) p (λ s b. begun_high s p b) (omega arith) refl h)

    -- ---- and so are those of several

    -- R of the letters of one or more passes
    abbrev Several : (R : ℕ → Type 0) → Type 0
    Several R = (e : ℕ) × R (suc e * length cycle)

    -- runs over so many letters from p to q, and such that have met an accepting state
    abbrev Runs : (p q : ℕ) → Type 0
    Runs p q = Several (λ d. Leads (Over a turn) d p q)

    abbrev pub Mets : (p q : ℕ) → Type 0
    Mets p q = Several (λ d. Meets a turn d p q)

    -- what bit k of row q says once passes are put together
    record Means (q k : ℕ) : Type 0 where
      pub runs : k < max_states → From (λ p. Runs p q) k
      pub mets : (p : ℕ) → p < max_states → k ≡ met_bit + p → From (λ s. Mets s q) p

    once : (R : ℕ → Type 0) → R (length cycle) → Several R
    once R h =
        let z : length cycle ≡ 1 * length cycle = omega arith in
        (0, subst R z h)

    more : (R : ℕ → Type 0) (d e : ℕ) → R (suc d * length cycle + suc e * length cycle) → Several R
    more R d e h =
        let z : suc d * length cycle + suc e * length cycle ≡ suc (d + suc e) * length cycle = omega arith in
        (d + suc e, subst R z h)

    in_turn : {p q : ℕ} → Leads (Over a in_cycle) (length cycle) p q → Leads (Over a turn) (length cycle) p q
    in_turn = leads_as (λ i lt. same_letter a (sym (round_first cycle i lt)))

    means_one : (q k : ℕ) → Passed q k → Means q k
    unfolding in_turn
    means_one q k h = record {
      runs = λ lt.
          let (b, r) = passed_low lt h in
          (b, once (λ d. Leads (Over a turn) d k q) (in_turn r));
      mets = λ p lt e.
          let (b, m) = passed_high p lt (subst (λ (j : ℕ). Passed q j) e h) in (
            b,
            once (λ d. Meets a turn d p q) (record {
              run = in_turn m.run;
              index = m.index;
              after = m.after;
              before = m.before;
              accepts = m.accepts;
            }),
          );
    }

    -- a run on through further passes
    later : (d i p q : ℕ) → Over a turn i p q → Over a turn (suc d * length cycle + i) p q
    later d i = same_letter a (sym (round_later cycle (suc d) i))

    runs_on : {p m q : ℕ} → Runs p m → Runs m q → Runs p q
    runs_on {p} {m} {q} (d, f) (e, g) = more (λ c. Leads (Over a turn) c p q) d e (leads_on (λ i lt. later d i) f g)

    met_on : {p m q : ℕ} → Mets p m → Runs m q → Mets p q
    met_on {p} {m} {q} (d, f) (e, g) = more (λ c. Meets a turn c p q) d e (meets_on (λ i lt. later d i) f g)

    on_met : {p m q : ℕ} → Runs p m → Mets m q → Mets p q
    on_met {p} {m} {q} (d, f) (e, g) = more (λ c. Meets a turn c p q) d e (on_meets (λ i lt. later d i) f g)

    means : {q k : ℕ} → Linked n Passed q k → Means q k
    means (one q k h) = means_one q k h
    means (join m q k lm lq b h) = record {
      runs = λ lt.
          let (s, r) = (means h).runs lt in
          (s, runs_on r ((means b).runs (omega arith)).1);
      mets = λ p lt e.
          let (s, r) = (means h).mets p lt e in
          (s, met_on r ((means b).runs (omega arith)).1);
    }
    means (join_met m q k lm lq lk b h) = record {
      runs = λ lt. absurd (omega arith);
      mets = λ p lt e.
          let z : k ≡ p = omega arith in
          let (s, r) = subst (λ (j : ℕ). From (λ i. Runs i m) j) z ((means h).runs (omega arith)) in
          (s, on_met r ((means b).mets m (omega arith) refl).1);
    }

    -- a state that comes back to itself through an accepting state, in which a pass begins
    pub found_round : (q : ℕ) → q < n → Linked n Passed q (met_bit + q) → Begins q × Mets q q
    found_round q lt h = (means h).mets q (omega arith) refl

    -- ---- runs are bits

    run_passed : {q : ℕ} (p : ℕ) → Begins p → Leads (Over a in_cycle) (length cycle) p q → Passed q p
    run_passed p b r = run_bits a in_cycle Begun (length cycle) (b, refl) r

    met_passed : {q : ℕ} (p : ℕ) → Begins p → Meets a in_cycle (length cycle) p q → Passed q (met_bit + p)
    met_passed p b m = met_bits a in_cycle Begun (length cycle) (omega (arith, below p b)) (b, refl) m

    -- ---- an accepting pass shows in the bits, if passes begin in its states

    module _ (stem : List ℕ) (pass : AcceptingPass a stem cycle)
        (begins : (e : ℕ) → e ≤ pass.second → Begins (pass.at (pass_begin stem cycle e))) where
      -- where pass e begins, and the state there
      abbrev pass_at : ℕ → ℕ
      pass_at = pass_begin stem cycle

      abbrev state : ℕ → ℕ
      state e = pass.at (pass_at e)

      next : (e : ℕ) → e < pass.second → pass_at (suc e) ≤ pass_at pass.second
      next e lt = omega (arith, mul-le-mul_right (length cycle) lt)

      state_inside : (e : ℕ) → e ≤ pass.second → state e < n
      state_inside e le = below (state e) (begins e le)

      pass_letter : (e i : ℕ) → i < length cycle → letter stem cycle (pass_at e + i) ≡ get_or cycle i 0
      pass_letter e i lt =
          let z : pass_at e + i ≡ length stem + (e * length cycle + i) = omega arith in
          ap (letter stem cycle) z ∙ letter_round stem cycle (e * length cycle + i) ∙ round_later cycle e i
          ∙ round_first cycle i lt

      pass_run : (e : ℕ) → e < pass.second → Leads (Over a in_cycle) (length cycle) (state e) (state (suc e))
      pass_run e lt = record {
        at = λ i. pass.at (pass_at e + i);
        from = ap pass.at (omega arith);
        to = ap pass.at (omega arith);
        steps = λ i l.
            let z : suc (pass_at e + i) ≡ pass_at e + suc i = omega arith in
            subst (λ (t : ℕ). Step a (pass.at (pass_at e + i)) (get_or cycle i 0) t) (ap pass.at z)
            (same_letter a (pass_letter e i l) _ _ (pass.steps (pass_at e + i) (omega (arith, next e lt))));
      }

      -- runs over one pass, and from pass to pass

      link : (e : ℕ) → e < pass.second → Linked n Passed (state (suc e)) (state e)
      link e lt = one _ _ (run_passed (state e) (begins e (omega arith)) (pass_run e lt))

      met_link : (e i : ℕ) → e < pass.second → pass_at e < i → i ≤ pass_at (suc e) → Accepts a (pass.at i)
          → Linked n Passed (state (suc e)) (met_bit + state e)
      unfolding pass_run
      met_link e i lt lo hi acc =
          let z : i ≡ pass_at e + (i - pass_at e) = omega arith in
          one _ _ (met_passed (state e) (begins e (omega arith)) (record {
            run = pass_run e lt;
            index = i - pass_at e;
            after = omega arith;
            before = omega arith;
            accepts = subst (λ (j : ℕ). Accepts a (pass.at j)) z acc;
          }))

      through : (e k : ℕ) → e < pass.second → Linked n Passed (state e) k → Linked n Passed (state (suc e)) k
      through e k lt h =
          join (state e) (state (suc e)) k (state_inside e (omega arith)) (state_inside (suc e) lt) (link e lt) h

      -- a run from the state where pass `first` begins to the one where pass e does, and one that has accepted by then
      abbrev Round : ℕ → Type 0
      Round e = e ≤ pass.second → Linked n Passed (state e) (state pass.first)
          × ((i : ℕ) → pass_at pass.first < i → i ≤ pass_at e → Accepts a (pass.at i)
          → Linked n Passed (state e) (met_bit + state pass.first))

      rounds : (e : ℕ) → pass.first < e → Round e
      rounds = le_ind Round (λ le. (link pass.first le, λ i lo hi acc. met_link pass.first i le lo hi acc)) on
        where
          on : (e : ℕ) → pass.first < e → Round e → Round (suc e)
          on e lo ih le = (
            through e (state pass.first) le (ih (omega arith)).0,
            λ i l h acc. pick i l h acc (dec_lt (pass_at e) i),
          )
            where
              pick : (i : ℕ) → pass_at pass.first < i → i ≤ pass_at (suc e) → Accepts a (pass.at i)
                  → Dec (pass_at e < i)
                  → Linked n Passed (state (suc e)) (met_bit + state pass.first)
              pick i l h acc (yes lt) =
                  join_met (state e) (state (suc e)) (state pass.first) (state_inside e (omega arith))
                  (state_inside (suc e) le)
                  (omega (arith, state_inside pass.first (omega arith))) (met_link e i le lt h acc)
                  (ih (omega arith)).0
              pick i l h acc (no ge) = through e _ le ((ih (omega arith)).1 i l (omega arith) acc)

      -- its run shows after the first pass
      pub pass_passed : Passed (state 1) (state 0)
      pass_passed = run_passed (state 0) (begins 0 (omega arith)) (pass_run 0 (omega (arith, pass.later)))

      abbrev pub Found : Type 0
      Found = (q : ℕ) × (q < n) × Linked n Passed q (met_bit + q)

      pub pass_found : 0 < length cycle → Found
      pass_found some =
          let (i, lo, hi, acc) = pass.accepts in
          made i lo hi acc (dec_lt (pass_at pass.first) i)
        where
          -- where the run accepts after it stood in the state for the first time
          shown : (i : ℕ) → pass_at pass.first < i → i ≤ pass_at pass.second → Accepts a (pass.at i) → Found
          shown i lo hi acc = (
            state pass.second,
            state_inside pass.second (omega arith),
            subst (λ (q : ℕ). Linked n Passed (state pass.second) (met_bit + q)) pass.same
                ((rounds pass.second pass.later (omega arith)).1 i lo hi acc),
          )

          -- or then: it stands there again
          made : (i : ℕ) → pass_at pass.first ≤ i → i ≤ pass_at pass.second → Accepts a (pass.at i)
              → Dec (pass_at pass.first < i) → Found
          made i lo hi acc (yes lt) = shown i lt hi acc
          made i lo hi acc (no ge) =
              let e : i ≡ pass_at pass.first = omega arith in
              let le = mul-le-mul_right (length cycle) pass.later in
              shown (pass_at pass.second) (omega (arith, suc-mul pass.first (length cycle))) (omega arith)
              (subst (λ (q : ℕ). Accepts a q) (ap pass.at e ∙ pass.same) acc)
