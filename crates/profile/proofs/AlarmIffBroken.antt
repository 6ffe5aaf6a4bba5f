-- R-10 of an automaton: for every rule that the profile takes and every lasso of whose cycle a letter remains, the
-- alarm is raised after some number of the letters that remain if and only if the lasso breaks the rule, and then after
-- the stem's and the cycle's times the number of states. Assumes nothing.
use Prim.Native.Nat.{ℕ, ◌+◌, ◌*◌, ◌<◌, ◌≤◌}
use mathlib.Core.Path.{◌≡◌}
use mathlib.Core.Logic.{◌↔◌}
use mathlib.Core.List.{List}
use native.Mathlib.Omega.{arith}
use lib.ListN.{length}
use Rattle.answer.specs.Result.{accepted}
use Rattle.lasso.specs.Lasso.{remaining, letter}
use Rattle.normalform.specs.Written.{SatisfiesWritten}
use Rattle.normalform.proofs.Holds.{normal_form_holds}
use Rattle.automaton.specs.Automaton.{Automaton}
use Rattle.field.specs.Watch.{NoneCurrent}
use Rattle.profile.specs.Profile.{profile_translation}
use Rattle.profile.proofs.Checking.{Taken, profile_taken}
use Rattle.profile.proofs.Alarm.{alarm_stays, broken_alarm, alarm_broken}

module _ (rule : List ℕ) (a : Automaton) (takes : profile_translation rule ≡ accepted a) (stem cycle : List ℕ)
    (some : 0 < length (remaining cycle)) where
  abbrev pub word : ℕ → ℕ
  word = letter (remaining stem) (remaining cycle)

  abbrev Kept : Type 0
  Kept = SatisfiesWritten rule (remaining stem) (remaining cycle)

  -- how many letters are enough
  abbrev pub enough : ℕ
  enough = length (remaining stem) + length (remaining cycle) * length a.states

  taken : Taken rule a
  taken = profile_taken rule a takes

  -- broken: raised once enough letters have gone by
  pub alarm_by_then : (Kept → ⊥) → (i : ℕ) → enough ≤ i → NoneCurrent a word i
  alarm_by_then broken i le =
      alarm_stays a word enough i le
      (broken_alarm taken.form taken.free (remaining stem) (remaining cycle) a taken.translates some
      (λ sat. broken ((normal_form_holds rule taken.form (remaining stem) (remaining cycle) taken.normal some).0 sat)))

  -- raised at some time if and only if broken
  pub alarm_iff_broken : ((i : ℕ) × NoneCurrent a word i) ↔ (Kept → ⊥)
  alarm_iff_broken = (
    λ (i, raised) kept.
        alarm_broken taken.form taken.free (remaining stem) (remaining cycle) a taken.translates some i raised
        ((normal_form_holds rule taken.form (remaining stem) (remaining cycle) taken.normal some).1 kept),
    λ broken. (enough, alarm_by_then broken enough (omega arith)),
  )
