-- R-10 of the calls: the profile's translate, write, start, then a step for each letter of a lasso as it is lent,
-- skipped ones too. The alarm is raised, by start or by some step, if and only if the lasso breaks the rule; then it is
-- raised once so many letters that remain have gone by: the stem's, and for each state the cycle's once. Raised it stays
-- raised. Start raises it if and only if there is no initial state. Assumes nothing.
use Prim.Native.Nat.{ℕ, ◌+◌, ◌*◌, ◌<◌, ◌≤◌}
use mathlib.Core.Path.{◌≡◌, refl, sym, ◌∙◌, ap}
use mathlib.Core.Logic.{◌↔◌, inl}
use mathlib.Core.List.{List, [], ◌∷◌}
use mathlib.Core.Bool.{Bool, true}
use native.Mathlib.Omega.{arith}
use lib.ListN.{length, take}
use Rattle.answer.specs.Result.{accepted}
use Rattle.answer.specs.Buffer.{buffer}
use Rattle.lasso.specs.Lasso.{remains, remaining, letter, remaining_before, IthRemaining}
use Rattle.lasso.proofs.RemainingLetters.{before_grows, remaining_once, remaining_letters}
use Rattle.sets.specs.Sets.{In}
use Rattle.automaton.specs.Automaton.{Automaton}
use Rattle.automaton.specs.Tables.{Counts, outcome}
use Rattle.normalform.specs.Written.{SatisfiesWritten}
use Rattle.image.specs.Reader.{read_image}
use Rattle.image.specs.Calls.{writes}
use Rattle.field.specs.Watch.{NoneCurrent}
use Rattle.field.specs.Sets.{set_bytes}
use Rattle.field.specs.Calls.{after_steps}
use Rattle.field.proofs.Unit.{Watches, unit_watches}
use Rattle.profile.specs.Profile.{profile_translation, profile_translated}
use Rattle.profile.proofs.Checking.{profile_accepted}
use Rattle.profile.proofs.Alarm.{alarm_stays}
use Rattle.profile.proofs.AlarmIffBroken.{alarm_iff_broken, alarm_by_then}
use Rattle.demands.proofs.RuleImage.{rule_image_accepted}
use Rattle.demands.proofs.TwoCalls.{Imaged, two_calls}

-- a letter that remains is that of the letters that remain with as many before it
remaining_at : (stem cycle : List ℕ) → 0 < length (remaining cycle) → (p : ℕ) → remains (letter stem cycle p) ≡ true
    → letter stem cycle p ≡ letter (remaining stem) (remaining cycle) (remaining_before (letter stem cycle) p)
remaining_at stem cycle some p stays =
    let ith = remaining_letters stem cycle some (remaining_before (letter stem cycle) p) in
    let here : IthRemaining (letter stem cycle) (remaining_before (letter stem cycle) p) (letter stem cycle p) =
    record { place = p; there = refl; stays = stays; before = refl } in
    ap (letter stem cycle) (remaining_once here ith) ∙ ith.there

module _ (rule s t i s' t' i' image image' : List ℕ) (c : Counts) (n : ℕ)
    (translating : outcome (accepted c) s' t' i' ≡ profile_translated rule s t i)
    (writing : buffer (accepted n) image' ≡ writes c s' t' i' image)
    (stem cycle : List ℕ) (some : 0 < length (remaining cycle))
    (set : List ℕ) (room : set_bytes ≤ length set) where
  -- the alarm is raised after start and k steps
  abbrev pub Raised : ℕ → Type 0
  Raised k = (after_steps (take n image') set (letter stem cycle) k).answer ≡ accepted true

  abbrev pub Kept : Type 0
  Kept = SatisfiesWritten rule (remaining stem) (remaining cycle)

  made : Imaged rule c (take n image')
  made =
      two_calls rule s t i s' t' i' image image' c n
      (profile_accepted rule s t i s' t' i' c translating).1 writing

  abbrev a : Automaton
  a = made.automaton

  abbrev word : ℕ → ℕ
  word = letter (remaining stem) (remaining cycle)

  takes : profile_translation rule ≡ accepted a
  unfolding profile_translation
  takes = rw (profile_accepted rule s t i s' t' i' c translating).0 made.translated_to

  read : read_image (take n image') ≡ accepted a
  read = rw made.is_image (rule_image_accepted rule a made.translated_to)

  watches : (k : ℕ) → Watches (take n image') a read word (after_steps (take n image') set (letter stem cycle) k)
      (remaining_before (letter stem cycle) k)
  watches = unit_watches (take n image') a read word (letter stem cycle) (remaining_at stem cycle some) set room

  raised_iff : (k : ℕ) → Raised k ↔ NoneCurrent a word (remaining_before (letter stem cycle) k)
  raised_iff k = (
    λ e. (watches k).raised.0 (cc (sym (watches k).answer ∙ e)),
    λ alarm. (watches k).answer ∙ ap (λ (b : Bool). accepted b) ((watches k).raised.1 alarm),
  )

  -- broken: raised as soon as so many letters that remain have gone by
  pub raised_in_time : (Kept → ⊥) → (k : ℕ)
      → length (remaining stem) + length (remaining cycle) * c.states ≤ remaining_before (letter stem cycle) k
      → Raised k
  raised_in_time broken k enough =
      (raised_iff k).1
      (alarm_by_then rule a takes stem cycle some broken (remaining_before (letter stem cycle) k)
      (let states : c.states ≡ length a.states = ap (λ (d : Counts). d.states) made.counted in rw states at enough))

  -- raised at some step if and only if broken
  pub raised_iff_broken : ((k : ℕ) × Raised k) ↔ (Kept → ⊥)
  raised_iff_broken = (
    λ (k, raised). (alarm_iff_broken rule a takes stem cycle some).0
        (remaining_before (letter stem cycle) k, (raised_iff k).0 raised),
    λ broken.
        let last = remaining_letters stem cycle some (length (remaining stem) + length (remaining cycle) * c.states) in
        (last.place, raised_in_time broken last.place (omega (arith, last.before))),
  )

  -- raised it stays raised
  pub raised_stays : (k m : ℕ) → k ≤ m → Raised k → Raised m
  raised_stays k m le raised =
      (raised_iff m).1
      (alarm_stays a word (remaining_before (letter stem cycle) k) (remaining_before (letter stem cycle) m)
      (before_grows (letter stem cycle) k m le) ((raised_iff k).0 raised))

  -- start raises it if and only if there is no initial state
  pub raised_by_start : Raised 0 ↔ (c.initial ≡ 0)
  unfolding remaining_before
  raised_by_start = (
    λ raised. there a.initial (ap (λ (d : Counts). d.initial) made.counted) ((raised_iff 0).0 raised),
    λ none. (raised_iff 0).1 (back a.initial (ap (λ (d : Counts). d.initial) made.counted) none),
  )
    where
      there : (initial : List ℕ) → c.initial ≡ length initial → ((q : ℕ) → In q initial → ⊥) → c.initial ≡ 0
      there [] counted none = counted
      there (q ∷ qs) counted none = absurd (none q (inl refl))

      back : (initial : List ℕ) → c.initial ≡ length initial → c.initial ≡ 0 → (q : ℕ) → In q initial → ⊥
      back [] counted none q m = m
      back (p ∷ ps) counted none q m = omega arith
