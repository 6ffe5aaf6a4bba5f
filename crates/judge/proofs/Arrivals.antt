-- The bits after the letters of a word are exactly the runs over them, letter by letter. Assumes nothing.
use Prim.Native.Nat.{ℕ, zero, suc, ◌+◌, ◌<◌, ◌≤◌}
use mathlib.Core.Path.{◌≡◌, sym, ◌∙◌, ap, subst}
use native.Mathlib.Omega.{arith}
use native.Mathlib.Decide.{ℕ_discrete}
use Rattle.automaton.specs.Automaton.{Automaton, Accepts}
use Rattle.judge.specs.Memory.{moved, lifted, After}
use Rattle.judge.specs.Limits.{met_bit}
use Rattle.judge.proofs.Runs.{Leads, Over, Meets, leads_none, leads_init, last_step, leads_snoc}
use Rattle.judge.proofs.Runs.{meets_snoc, meets_here}

-- a run that began with bit k leads to q; R says from where to where runs lead
pub record Arrived (Held : (q k : ℕ) → Type 0) (R : (p q : ℕ) → Type 0) (q k : ℕ) : Type 0 where
  pub start : ℕ
  pub held : Held start k
  pub run : R start q

module _ (a : Automaton) (w : ℕ → ℕ) (Held : (q k : ℕ) → Type 0) where
  -- ---- a bit is a run

  pub low_runs : (d : ℕ) {q k : ℕ} → k < met_bit → After a w Held d q k → Arrived Held (Leads (Over a w) d) q k
  low_runs zero {q} lt h = record { start = q; held = h; run = leads_none q }
  low_runs (suc d) lt (moved p q k h s) =
      let m = low_runs d lt h in
      record { start = m.start; held = m.held; run = leads_snoc m.run s }
  low_runs (suc d) lt (lifted p q k lk h s acc) = absurd (omega arith)

  -- if none began with bit `met_bit` + j
  pub high_runs : (d : ℕ) {q k : ℕ} (j : ℕ) → ((p : ℕ) → Held p (met_bit + j) → ⊥) → j < met_bit → k ≡ met_bit + j
      → After a w Held d q k → Arrived Held (Meets a w d) q j
  high_runs zero {q} {k} j none lt e h = absurd (none q (subst (λ (i : ℕ). Held q i) e h))
  high_runs (suc d) j none lt e (moved p q k h s) =
      let m = high_runs d j none lt e h in
      record { start = m.start; held = m.held; run = meets_snoc m.run s }
  high_runs (suc d) j none lt e (lifted p q k lk h s acc) =
      let m = low_runs d lk h in
      let f : k ≡ j = omega arith in
      let held = subst (λ (i : ℕ). Held m.start i) f m.held in
      record { start = m.start; held = held; run = meets_here m.run s acc }

  -- ---- a run is a bit

  pub run_bits : (d : ℕ) {p q k : ℕ} → Held p k → Leads (Over a w) d p q → After a w Held d q k
  run_bits zero {p} {q} {k} h r = subst (λ (s : ℕ). Held s k) (sym r.from ∙ r.to) h
  run_bits (suc d) {p} {q} {k} h r = moved (r.at d) q k (run_bits d h (leads_init r)) (last_step r)

  pub met_bits : (d : ℕ) {p q j : ℕ} → j < met_bit → Held p j → Meets a w d p q → After a w Held d q (met_bit + j)
  met_bits zero lt h m = absurd (omega (arith, m.after, m.before))
  met_bits (suc d) {p} {q} {j} lt h m = go (ℕ_discrete m.index (suc d)) (λ le. met_bits d lt h (earlier le))
    where
      earlier : m.index ≤ d → Meets a w d p (m.run.at d)
      earlier le = record {
        run = leads_init m.run;
        index = m.index;
        after = m.after;
        before = le;
        accepts = m.accepts;
      }

      go : Dec (m.index ≡ suc d) → (m.index ≤ d → After a w Held d (m.run.at d) (met_bit + j))
          → After a w Held (suc d) q (met_bit + j)
      go (yes e) below =
          lifted (m.run.at d) q j lt (run_bits d h (leads_init m.run)) (last_step m.run)
          (subst (λ (t : ℕ). Accepts a t) (ap m.run.at e ∙ m.run.to) m.accepts)
      go (no e) below = moved (m.run.at d) q (met_bit + j) (below (omega (arith, m.before))) (last_step m.run)
