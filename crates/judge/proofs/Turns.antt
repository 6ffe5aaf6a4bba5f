-- What each turn of the loops over records and states adds, and what the loops add together. Assumes of the image only
-- that it is not refused.
use Prim.Native.Nat.{ℕ, ◌+◌, ◌*◌, ◌<◌, ◌≤◌}
use mathlib.Core.Path.{◌≡◌, refl}
use mathlib.Core.List.{List}
use native.Mathlib.Omega.{arith}
use lib.ListN.{length}
use Rattle.automaton.specs.Automaton.{Step, Accepts}
use Rattle.answer.specs.Bytes.{number_at}
use Rattle.image.specs.Reader.{counts_at}
use Rattle.judge.specs.Memory.{Token, Lifted, Gains, ByRecord}
use Rattle.image.specs.Lookup.{image_automaton, records_at, Readable, AcceptingByte, transition_count_of}
use Rattle.automaton.specs.Limits.{max_states}
use Rattle.judge.proofs.Gathers.{adds_as, lift_as, Gathering, row_was, row_is}
use Rattle.image.proofs.Lookup.{step_taken, taken_step, accepts_inside, accepts_byte, byte_accepts}
use Rattle.image.proofs.Lookup.{records_end, target_inside}

-- ---- all records of a state

abbrev pub ByRecords : (image row : List ℕ) (x at i t k : ℕ) → Type 0
ByRecords image row x at i t k = ByRecord image (at + 4 * i) x row t k

module _ (image : List ℕ) (q : ℕ) {at n : ℕ} (ea : at ≡ records_at image q) (en : n ≡ transition_count_of image q) where
  module _ (lq : q < (counts_at image).states) where
    pub all_records : {row before after : List ℕ} (x : ℕ)
        → Gains before after (λ t k. (i : ℕ) × (i < n) × ByRecords image row x at i t k)
        → Gains before after (λ t k. Step (image_automaton image) q x t × Token row 0 k)
    all_records {row} x adds = adds_as adds to from
      where
        to : (t k : ℕ) → (i : ℕ) × (i < n) × ByRecords image row x at i t k
            → Step (image_automaton image) q x t × Token row 0 k
        to t k (i, lt, (r, (e, h))) = (
          taken_step image q x t lq (record {
            index = i;
            below = rw en at lt;
            takes = rw ea at r;
            reaches = rw ea at e;
          }),
          h,
        )

        from : (t k : ℕ) → Step (image_automaton image) q x t × Token row 0 k
            → (i : ℕ) × (i < n) × ByRecords image row x at i t k
        from t k (s, h) =
            let d = step_taken image q x t s in
            (d.index, rw en d.below, (rw ea d.takes, (rw ea d.reaches, h)))

    -- where the records of state q lie, and where record i leads
    module _ (fine : Readable image) where
      pub records_fit : at + 4 * n ≤ length image
      records_fit = rw (ea, en) (records_end image fine q lq)

      pub target_fits : (i : ℕ) → i < n → number_at image (at + 4 * i + 2) < max_states
      target_fits i lt = rw ea (omega (arith, fine.few, target_inside image fine q i lq (rw en at lt)))

-- ---- all states

-- the loop over the states that stands at q, with the records of state q at byte `at`
pub record Stepping (image rows : List ℕ) (n x : ℕ) (before after : List ℕ) (at q : ℕ) : Type 0 where
  pub offset : at ≡ records_at image q
  pub turns : Gathering before (λ p t k. Step (image_automaton image) p x t × Token rows p k) n after q

-- what a turn of lifting adds to row p, if state p accepts
abbrev pub Lifts : (image rows : List ℕ) (p k : ℕ) → Type 0
Lifts image rows p k = AcceptingByte image p × Lifted (Token rows) p k

pub turn_lifts : (image : List ℕ) {x y z : List ℕ} {n : ℕ} (i : ℕ)
    → Gathering x (λ p r k. (r ≡ p) × Lifts image x p k) n y i
    → Gains y z (λ r k. (r ≡ i) × Lifts image y i k) → Gains y z (λ r k. (r ≡ i) × Lifts image x i k)
turn_lifts image i inv adds =
    adds_as adds (λ r k h. (h.0, (h.1.0, lift_as h.1.1 (row_was i inv h.1.1.held))))
    (λ r k h. (h.0, (h.1.0, lift_as h.1.1 (row_is i inv h.1.1.held))))

pub all_lifted : (image : List ℕ) {before after : List ℕ} (n : ℕ) → n ≡ (counts_at image).states
    → Gains before after (λ q k. (p : ℕ) × (p < n) × ((q ≡ p) × Lifts image before p k))
    → Gains before after (λ q k. Accepts (image_automaton image) q × Lifted (Token before) q k)
all_lifted image {before} n en adds =
    adds_as adds to (λ q k h. (q, rw en (accepts_inside image q h.0), (refl, (accepts_byte image q h.0, h.1))))
  where
    to : (q k : ℕ) → ((p : ℕ) × (p < n) × ((q ≡ p) × Lifts image before p k))
        → Accepts (image_automaton image) q × Lifted (Token before) q k
    to q k (p, lt, (e, (b, l))) = rw e (byte_accepts image p (rw en at lt) b, l)

-- what is added of each state by itself, said of all
pub all_states : {before after : List ℕ} {P : ℕ → Type 0} (n : ℕ)
    → Gains before after (λ q k. (p : ℕ) × (p < n) × ((q ≡ p) × (P p × (k ≡ p))))
    → Gains before after (λ q k. (q < n) × (P q × (k ≡ q)))
all_states {before} {after} {P} n adds = adds_as adds to (λ q k h. (q, h.0, (refl, h.1)))
  where
    to : (q k : ℕ) → ((p : ℕ) × (p < n) × ((q ≡ p) × (P p × (k ≡ p)))) → (q < n) × (P q × (k ≡ q))
    to q k (p, lt, (e, h)) = rw e (lt, h)
