-- Runs of some number of steps from one state to another: put together, taken apart, carried over to other steps.
-- Assumes nothing.
use Prim.Native.Nat.{ℕ, suc, ◌+◌, ◌-◌, ◌<◌, ◌≤◌}
use mathlib.Core.Path.{◌≡◌, refl, sym, ◌∙◌, ap, subst}
use mathlib.Core.Bool.{cond}
use native.Mathlib.Omega.{arith}
use native.Mathlib.Numerals.{add-one}
use native.Mathlib.Decide.{dec_lt}
use lib.Dec.{eqb, ltb}
use borrow.Author.Tests.{lt-ltb, le-ltb}
use Rattle.automaton.specs.Automaton.{Automaton, Step, Accepts}

-- a run of d steps from p to q; R says which steps there are at each index
pub record Leads {X : Type 0} (R : ℕ → X → X → Type 0) (d : ℕ) (p q : X) : Type 0 where
  pub at : ℕ → X
  pub from : at 0 ≡ p
  pub to : at d ≡ q
  pub steps : (i : ℕ) → i < d → R i (at i) (at (suc i))

-- the steps of an automaton over the letters of w
abbrev pub Over : (a : Automaton) (w : ℕ → ℕ) (i p q : ℕ) → Type 0
Over a w i p q = Step a p (w i) q

-- a run that stands in an accepting state after its first letter or later
pub record Meets (a : Automaton) (w : ℕ → ℕ) (d p q : ℕ) : Type 0 where
  pub run : Leads (Over a w) d p q
  pub index : ℕ
  pub after : 0 < index
  pub before : index ≤ d
  pub accepts : Accepts a (run.at index)

-- a step at a letter, said of the same letter
pub same_letter : (a : Automaton) {x y : ℕ} → x ≡ y → (p q : ℕ) → Step a p x q → Step a p y q
same_letter a e p q s = subst (λ (l : ℕ). Step a p l q) e s

module _ {X : Type 0} where
  pub leads_none : {R : ℕ → X → X → Type 0} (p : X) → Leads R 0 p p
  leads_none p = record { at = λ i. p; from = refl; to = refl; steps = λ i lt. absurd (omega arith) }

  -- one step
  abbrev pub leads_one : {R : ℕ → X → X → Type 0} {p q : X} → R 0 p q → Leads R 1 p q
  leads_one {R} {p} {q} s = record {
    at = λ i. cond (eqb i 0) p q;
    from = refl;
    to = refl;
    steps = λ i lt. go i (omega arith);
  }
    where
      go : (i : ℕ) → i ≡ 0 → R i (cond (eqb i 0) p q) (cond (eqb (suc i) 0) p q)
      go i e = rw e s

  -- the same steps said otherwise
  abbrev pub leads_as : {R S : ℕ → X → X → Type 0} {d : ℕ} {p q : X} → ((i : ℕ) → i < d → (x y : X) → R i x y → S i x y)
      → Leads R d p q → Leads S d p q
  leads_as same r = record { at = r.at; from = r.from; to = r.to; steps = λ i lt. same i lt _ _ (r.steps i lt) }

  -- all steps but the last, and the last
  abbrev pub leads_init : {R : ℕ → X → X → Type 0} {d : ℕ} {p q : X} (r : Leads R (suc d) p q) → Leads R d p (r.at d)
  leads_init r = record { at = r.at; from = r.from; to = refl; steps = λ i lt. r.steps i (omega arith) }

  pub last_step : {R : ℕ → X → X → Type 0} {d : ℕ} {p q : X} (r : Leads R (suc d) p q) → R d (r.at d) q
  last_step {R} {d} r = subst (λ (t : X). R d (r.at d) t) r.to (r.steps d (omega arith))

  -- one run after another, whose steps are those that follow
  module _ {R S : ℕ → X → X → Type 0} {d e : ℕ} {p m q : X}
      (same : (i : ℕ) → i < e → (x y : X) → S i x y → R (d + i) x y) (f : Leads R d p m) (g : Leads S e m q) where
    put : ℕ → X
    put i = cond (ltb i d) (f.at i) (g.at (i - d))

    put_late : (i : ℕ) → put (d + i) ≡ g.at i
    unfolding put
    put_late i =
        let z : d + i - d ≡ i = omega arith in
        rw (le-ltb (d + i) d (omega arith)) (ap g.at z)

    put_early : (i : ℕ) → i ≤ d → put i ≡ f.at i
    put_early i le = go (dec_lt i d)
      where
        go : Dec (i < d) → put i ≡ f.at i
        go (yes lt) = unfold put in rw (lt-ltb i d lt)
        go (no ge) =
            let e : i ≡ d = omega arith in
            let z : d ≡ d + 0 = omega arith in
            rw e (ap put z ∙ put_late 0 ∙ g.from ∙ sym f.to)

    step_at : (i : ℕ) → i < d + e → Dec (i < d) → R i (put i) (put (suc i))
    step_at i lt (yes l) =
        rw (put_early i (omega arith), put_early (suc i) (omega arith)) (f.steps i l)
    step_at i lt (no l) =
        let z : i ≡ d + (i - d) = omega arith in
        let y : suc i ≡ d + suc (i - d) = omega arith in
        let next = subst (λ (j : ℕ). R j (g.at (i - d)) (g.at (suc (i - d)))) (sym z)
        (same (i - d) (omega arith) _ _ (g.steps (i - d) (omega arith))) in
        rw (ap put y ∙ put_late (suc (i - d)), ap put z ∙ put_late (i - d)) next

    pub leads_on : Leads R (d + e) p q
    leads_on = record {
      at = put;
      from = put_early 0 (omega arith) ∙ f.from;
      to = put_late e ∙ g.to;
      steps = λ i lt. step_at i lt (dec_lt i d);
    }

    pub on_early : (i : ℕ) → i ≤ d → leads_on.at i ≡ f.at i
    unfolding leads_on
    on_early i le = put_early i le

    pub on_late : (i : ℕ) → leads_on.at (d + i) ≡ g.at i
    unfolding leads_on
    on_late i = put_late i

  -- a step more
  module _ {R : ℕ → X → X → Type 0} {d : ℕ} {p q t : X} (r : Leads R d p q) (s : R d q t) where
    abbrev pub leads_last : Leads (λ i. R (d + i)) 1 q t
    leads_last =
        let z : d ≡ d + 0 = omega arith in
        leads_one (subst (λ (i : ℕ). R i q t) z s)

    pub leads_snoc : Leads R (suc d) p t
    leads_snoc = subst (λ (i : ℕ). Leads R i p t) (add-one d) (leads_on (λ i lt x y h. h) r leads_last)

-- what was met stays met
pub meets_on : {a : Automaton} {w : ℕ → ℕ} {S : (i p q : ℕ) → Type 0} {d e p m q : ℕ}
    → ((i : ℕ) → i < e → (x y : ℕ) → S i x y → Over a w (d + i) x y) → Meets a w d p m → Leads S e m q
    → Meets a w (d + e) p q
meets_on same f g = record {
  run = leads_on same f.run g;
  index = f.index;
  after = f.after;
  before = omega (arith, f.before);
  accepts = rw (on_early same f.run g f.index f.before) f.accepts;
}

-- what is met later counts
pub on_meets : {a : Automaton} {w v : ℕ → ℕ} {d e p m q : ℕ}
    → ((i : ℕ) → i < e → (x y : ℕ) → Over a v i x y → Over a w (d + i) x y) → Leads (Over a w) d p m → Meets a v e m q
    → Meets a w (d + e) p q
on_meets {a} {w} {v} {d} same f g = record {
  run = leads_on same f g.run;
  index = d + g.index;
  after = omega (arith, g.after);
  before = omega (arith, g.before);
  accepts = rw (on_late same f g.run g.index) g.accepts;
}

module _ {a : Automaton} {w : ℕ → ℕ} {d p q t : ℕ} where
  pub meets_snoc : Meets a w d p q → Over a w d q t → Meets a w (suc d) p t
  meets_snoc m s =
      subst (λ (i : ℕ). Meets a w i p t) (add-one d) (meets_on (λ i lt x y h. h) m (leads_last m.run s))

  pub meets_here : Leads (Over a w) d p q → Over a w d q t → Accepts a t → Meets a w (suc d) p t
  meets_here r s acc =
      subst (λ (i : ℕ). Meets a w i p t) (add-one d) (on_meets {v = λ i. w (d + i)} (λ i lt x y h. h) r (record {
        run = leads_last r s;
        index = 1;
        after = omega arith;
        before = omega arith;
        accepts = acc;
      }))
