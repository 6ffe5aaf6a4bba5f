-- What C reads off a packed answer by include/zimboralo.h is the answer: the lowest byte is 0 exactly where nothing was
-- refused, and no count, set of propositions, length or place is cut off. Assumes nothing.
use Prim.Native.Nat.{ℕ, ◌+◌, ◌-◌, ◌*◌, ◌/◌, ◌%◌, ◌^◌, ◌≤◌, ◌<◌}
use mathlib.Core.Path.{◌≡◌, refl, sym, ◌∙◌, ap, subst, subst₂}
use mathlib.Core.List.{List, []}
use mathlib.Core.Bool.{Bool, true, false, cond}
use native.Mathlib.Omega.{arith}
use native.Mathlib.Decide.{dec_lt}
use borrow.Author.Tests.{lt-ltb, le-ltb, eq-eqb, ne_eqb}
use lib.ListN.{length, drop}
use lib.Dec.{eqb}
use Rattle.answer.specs.Result.{Result, accepted, refused, and_then, Check, fine, require}
use Rattle.formula.specs.Limits.{rule_bytes}
use Rattle.formula.specs.Rule.{release_kind}
use Rattle.formula.proofs.Accepted.{formed_fine}
use Rattle.normalform.specs.NormalForm.{normal_form, written_checked}
use Rattle.normalform.specs.Normalize.{rule_room, rule_stored, normalizes}
use Rattle.merge.specs.Merge.{merges}
use Rattle.merge.proofs.Merging.{merged_at}
use Rattle.normalform.proofs.Passes.{normal_form_passes}
use Rattle.answer.proofs.Results.{never_both, require_fine, then_accepted}
use Rattle.automaton.specs.Automaton.{Automaton}
use Rattle.automaton.specs.Tables.{Counts, counts, outcome, table_check}
use Rattle.term.specs.Size.{sizes_checked}
use Rattle.generalized.specs.Generalized.{generalized}
use Rattle.translation.specs.Degeneralized.{translation}
use Rattle.translation.specs.Translate.{written_translation, stored, unless, translated}
use Rattle.translation.specs.Conflicts.{rule_conflicts, written_conflicts, translated_conflicts, translates}
use Rattle.image.specs.Memory.{Small}
use Rattle.image.specs.Image.{image_bytes, image_length, largest_image}
use Rattle.image.specs.Reader.{counts_fit, records_check, automaton_from, read_tables}
use Rattle.image.specs.Calls.{buffer_check, writes, read_into, checks}
use Rattle.answer.specs.Buffer.{buffer}
use Rattle.image.proofs.ImageAccepted.{image_accepted}
use Rattle.image.proofs.Before.{follows, passes}
use Rattle.image.proofs.Tests.{counts_small}
use Rattle.image.proofs.Contents.{checks_sized}
use Rattle.image.proofs.Sizes.{image_size}
use Rattle.image.proofs.Tables.{counts_back}
use Rattle.image.proofs.Outcomes.{writes_of, reads_of}
use Rattle.lasso.specs.Lasso.{remaining, lasso_check}
use Rattle.sameword.specs.Words.{compared}
use Rattle.judge.specs.declared.Verdict.TheVariants.{Kept, Broken}
use Rattle.judge.specs.Judge.{work_bytes, Verdict, Finding, finding, found, judged}
use Rattle.judge.proofs.VerdictIff.{image_in_range}
use Rattle.judge.proofs.Pairs.{found_few, judged_few}
use Rattle.explain.specs.declared.Explanation.TheVariants.{Kept as Holds, Broken as Breaks, NeverComes}
use Rattle.explain.specs.Explain.{part_from, Explanation}
use Rattle.explain.specs.Call.{explained, broken_part}
use Rattle.explain.specs.Satisfied.{satisfied}
use Rattle.explain.proofs.Answered.{told_small, never_small}
use Rattle.explain.proofs.Parts.{part_stem, part_cycle}
use Rattle.field.specs.Calls.{started, stepped}
use Rattle.profile.specs.Profile.{profile_checked, profile_translated, profile_conflicts, profile_translates}
use Rattle.demands.specs.Demand.{room_check, input_check, concluded, decided_by, decided}
use Rattle.automaton.proofs.WellFormed.{few_together}
use Rattle.correctness.proofs.WellFormed.{written_well_formed}
use Rattle.correctness.proofs.BothSigns.{conflicts_byte}
use Rattle.office.proofs.Refusals.{Refusal, Proper, normalizes_proper, merges_proper, translated_proper}
use Rattle.office.proofs.Refusals.{reads_proper, writes_proper}
use Rattle.office.proofs.Refusals.{profile_translated_proper, started_proper, stepped_proper}
use Rattle.office.proofs.Refusals.{explained_proper, satisfied_proper}
use Rattle.office.proofs.Refusals.{judged_proper, decided_proper, compared_proper}
use Rattle.office.specs.Packing.{pack_refusal, pack_three, pack_counts, pack_length, pack_finding, pack_verdict}
use Rattle.office.specs.Packing.{pack_bit, pack_conflicts, pack_translated, pack_clause, pack_part, pack_explained}

-- ---- the parts of an answer, as the header reads them

-- zimboralo_number: answer & 0xff
abbrev pub number_of : ℕ → ℕ
number_of answer = answer % 256

-- zimboralo_place: (uint32_t)(answer >> 8)
abbrev pub place_of : ℕ → ℕ
place_of answer = answer / 256 % 2 ^ 32

-- zimboralo_states: answer >> 8 & 0xff
abbrev pub states_of : ℕ → ℕ
states_of answer = answer / 256 % 256

-- zimboralo_transitions: answer >> 16 & 0xffff
abbrev pub transitions_of : ℕ → ℕ
transitions_of answer = answer / 65536 % 65536

-- zimboralo_initial: answer >> 32 & 0xff
abbrev pub initial_of : ℕ → ℕ
initial_of answer = answer / 2 ^ 32 % 256

-- zimboralo_conflicts: answer >> 40 & 0xff
abbrev pub conflicts_of : ℕ → ℕ
conflicts_of answer = answer / 2 ^ 40 % 256

-- zimboralo_length: answer >> 8 & 0xffffffff
abbrev pub length_of : ℕ → ℕ
length_of answer = answer / 256 % 2 ^ 32

-- zimboralo_kept: answer >> 8 & 1
abbrev pub kept_of : ℕ → ℕ
kept_of answer = answer / 256 % 2

-- zimboralo_pairs: answer >> 16 & 0xffff
abbrev pub pairs_of : ℕ → ℕ
pairs_of answer = answer / 65536 % 65536

-- zimboralo_same, zimboralo_alarm, zimboralo_satisfied: answer >> 8 & 1
abbrev pub bit_of : ℕ → ℕ
bit_of answer = answer / 256 % 2

-- zimboralo_clause, of which it gives one less: answer >> 8 & 0xff
abbrev pub clause_of : ℕ → ℕ
clause_of answer = answer / 256 % 256

-- zimboralo_part: answer >> 16 & 3
abbrev pub slice_of : ℕ → ℕ
slice_of answer = answer / 65536 % 4

-- zimboralo_index: answer >> 24 & 0xffff
abbrev pub part_index : ℕ → ℕ
part_index answer = answer / 2 ^ 24 % 65536

-- ---- values that fit

-- of an accepted normalize, the most bytes of a rule
pub normalizes_small : (rule form : List ℕ) (n : ℕ) → (normalizes rule form).answer ≡ accepted n → n ≤ rule_bytes
unfolding normalizes
normalizes_small rule form n e = first (rule_room form) e
  where
    second : (r : Result (List ℕ)) → normal_form rule ≡ r → (rule_stored r form).answer ≡ accepted n → n ≤ rule_bytes
    second (accepted bytes) known e =
        let size : length bytes ≡ n = cc in
        omega (arith, (formed_fine release_kind bytes (normal_form_passes rule bytes known)).most)
    second (refused number place) known e = never_both e

    first : (check : Check) → (rule_stored (and_then check (λ _. normal_form rule)) form).answer ≡ accepted n
        → n ≤ rule_bytes
    first (accepted u) e = second (normal_form rule) refl e
    first (refused number place) e = never_both e

-- of an accepted merge, the same
pub merges_small : (first second merged : List ℕ) (n : ℕ) → (merges first second merged).answer ≡ accepted n
    → n ≤ rule_bytes
merges_small first second merged n e =
    let bytes = (merges first second merged).bytes in
    let made = merged_at first second merged n bytes (ap (λ (r : Result ℕ). buffer r bytes) e) in
    omega (arith, made.size, made.may.few)

-- of an accepted translate, whose first walk is accepted too
translated_walk : (rule : List ℕ) (a : Automaton) → translation rule ≡ accepted a
    → (states : List ℕ) × (generalized rule ≡ accepted states)
unfolding translation
translated_walk rule a e =
    let (_, _, after-sizes) = then_accepted (sizes_checked rule) _ e in
    let (states, walked, _) = then_accepted (generalized rule) _ after-sizes in
    (states, walked)

-- its counts, whatever is checked before
stored_small : (rule s t i : List ℕ) (check : Check) (c : Counts)
    → (unless check (stored (written_translation rule) s t i) s t i).answer ≡ accepted c → Small c
unfolding stored
stored_small rule s t i check c e = first check e
  where
    second : (r : Result Automaton) → written_translation rule ≡ r → (stored r s t i).answer ≡ accepted c → Small c
    second (accepted a) known e =
        let formed = written_well_formed rule a known in
        let same : counts a ≡ c = cc in
        let together = few_together (length a.states) a.states formed.each in
        subst Small same
        (record { states = formed.states; transitions = omega (arith, formed.states); initial = formed.initial })
    second (refused number place) known e = never_both e

    first : (check : Check) → (unless check (stored (written_translation rule) s t i) s t i).answer ≡ accepted c
        → Small c
    first (accepted u) e = second (written_translation rule) refl e
    first (refused number place) e = never_both e

pub translated_small : (rule s t i : List ℕ) (c : Counts) → (translated rule s t i).answer ≡ accepted c → Small c
unfolding translated
translated_small rule s t i = stored_small rule s t i (and_then (table_check s t i) (λ _. written_checked rule))

pub profile_small : (rule s t i : List ℕ) (c : Counts) → (profile_translated rule s t i).answer ≡ accepted c → Small c
unfolding profile_translated
profile_small rule s t i = stored_small rule s t i (and_then (table_check s t i) (λ _. profile_checked rule))

-- its conflicts
pub translated_byte : (rule s t i : List ℕ) (set : ℕ) → translated_conflicts rule s t i ≡ accepted set → set < 256
unfolding translated_conflicts
translated_byte rule s t i set e =
    let (_, _, carried) = then_accepted (and_then (table_check s t i) (λ _. written_checked rule)) _ e in
    conflicts_byte rule set carried

pub profile_byte : (rule s t i : List ℕ) (set : ℕ) → profile_conflicts rule s t i ≡ accepted set → set < 256
unfolding profile_conflicts
profile_byte rule s t i set e =
    let (_, _, carried) = then_accepted (and_then (table_check s t i) (λ _. profile_checked rule)) _ e in
    conflicts_byte rule set carried

-- two answers that are both accepted, or refused alike
pub data Alike {A B : Type 0} : Result A → Result B → Type 0 where
  both : (a : A) (b : B) → Alike (accepted a) (accepted b)
  neither : (number place : ℕ) → Alike (refused number place) (refused number place)

-- an accepted translation carries conflicts, and a refused one has none but its refusal
stored_alike : (rule s t i : List ℕ) (check : Check)
    → Alike (unless check (stored (written_translation rule) s t i) s t i).answer (and_then check (λ _. written_conflicts rule))
stored_alike rule s t i check = first check
  where
    of_rule : (form : List ℕ) (made : Result Automaton) → translation form ≡ made
        → Alike (stored made s t i).answer (rule_conflicts form)
    of_rule form (refused number place) known = unfold stored rule_conflicts in rw known (neither number place)
    of_rule form (accepted a) known = unfold stored rule_conflicts in
        let (states, walked) = translated_walk form a known in
        rw (known, walked) (both (counts a) _)

    of_written : (form : Result (List ℕ))
        → Alike (stored (and_then form translation) s t i).answer (and_then form rule_conflicts)
    of_written (accepted form) = of_rule form (translation form) refl
    of_written (refused number place) = unfold stored in neither number place

    written_alike : Alike (stored (written_translation rule) s t i).answer (written_conflicts rule)
    written_alike = unfold written_translation written_conflicts in of_written (normal_form rule)

    first : (check : Check)
        → Alike (unless check (stored (written_translation rule) s t i) s t i).answer (and_then check (λ _. written_conflicts rule))
    first (accepted u) = written_alike
    first (refused number place) = neither number place

pub translated_alike : (rule s t i : List ℕ) → Alike (translated rule s t i).answer (translated_conflicts rule s t i)
unfolding translated translated_conflicts
translated_alike rule s t i = stored_alike rule s t i (and_then (table_check s t i) (λ _. written_checked rule))

pub profile_alike : (rule s t i : List ℕ) → Alike (profile_translated rule s t i).answer (profile_conflicts rule s t i)
unfolding profile_translated profile_conflicts
profile_alike rule s t i = stored_alike rule s t i (and_then (table_check s t i) (λ _. profile_checked rule))

-- of an accepted read
pub reads_small : (image s t i : List ℕ) (c : Counts) → (read_into image s t i).answer ≡ accepted c → Small c
unfolding read_into checks
reads_small image s t i c e =
    let o = read_into image s t i in
    let done = reads_of _ c s t i o.states o.transitions o.initial
    (ap (λ (r : Result Counts). outcome r o.states o.transitions o.initial) e) in
    let read = follows (table_check s t i) _ done.automaton done.answer in
    (checks_sized image c (rw read.answer (ap accepted done.counted))).small

-- of an accepted write, ZIMBORALO_IMAGE_BYTES
pub writes_small : (c : Counts) (s t i image : List ℕ) (n : ℕ) → (writes c s t i image).answer ≡ accepted n
    → n ≤ largest_image
unfolding writes read_tables
writes_small c s t i image n e =
    let done = writes_of _ n image (writes c s t i image).bytes
    (ap (λ (r : Result ℕ). buffer r (writes c s t i image).bytes) e) in
    let a = done.automaton in
    let tables = follows (table_check s t i) _ a done.answer in
    let room = follows (buffer_check image) _ a tables.answer in
    let counted = follows (require (counts_fit c) 10 0) _ a room.answer in
    let small = counts_small c (require_fine (counts_fit c) 10 0 counted.passed) in
    let answer = passes (records_check c s t i) a (automaton_from c s t i) (sym counted.answer) in
    let size : n ≡ image_length c =
    done.size
    ∙ image_size a
    ∙ ap (λ (a : Automaton). image_length (counts a)) answer.same
    ∙ ap image_length (counts_back c s t i answer.passed) in
    omega (arith, size, small.states, small.transitions, small.initial)

-- of an accepted decide, as many pairs as there are working bytes; of an accepted judge that is `judged_few`
pub decided_few : (rule stem cycle s t i image work : List ℕ) (f : Finding)
    → (decided rule stem cycle s t i image work).answer ≡ accepted f → f.pairs ≤ work_bytes
unfolding decided input_check
decided_few rule stem cycle s t i image work f e =
    first (input_check rule stem cycle s t i image work) refl e
  where
    fits : input_check rule stem cycle s t i image work ≡ fine → fine ≡ lasso_check stem cycle
    fits e =
        let (_, _, after-room) = then_accepted (room_check s t i image work) _ e in
        let (_, _, lasso) = then_accepted (written_checked rule) _ after-room in
        sym lasso

    second : (r : Result Automaton) → written_translation rule ≡ r → fine ≡ lasso_check stem cycle
        → (concluded r stem cycle s t i image work).answer ≡ accepted f → f.pairs ≤ work_bytes
    second (refused number place) known lasso e = never_both e
    second (accepted a) known lasso e =
        let formed = written_well_formed rule a known in
        let range = image_in_range (image_bytes a) a (image_accepted a formed) in
        let same : found a (remaining stem) (remaining cycle) ≡ f = cc in
        rw (← ap (λ (g : Finding). g.pairs) same) (found_few a range formed.states stem cycle lasso)

    first : (check : Check) → input_check rule stem cycle s t i image work ≡ check
        → (decided_by check (concluded (written_translation rule) stem cycle s t i image work) s t i image work).answer
        ≡ accepted f
        → f.pairs ≤ work_bytes
    first (refused number place) known e = never_both e
    first (accepted u) known e = second (written_translation rule) refl (fits known) e

-- ---- what C reads off

-- of a refusal: the number, which is not 0, and the place
pub record RefusalRead (packed number place : ℕ) : Type 0 where
  pub number_read : number_of packed ≡ number
  pub not_zero : 0 < number_of packed
  pub place_read : place_of packed ≡ place

-- of any answer: the lowest byte is 0 exactly where it is accepted, and then the value is read off, else the refusal
pub record Unpacks {A : Type 0} (Read : ℕ → A → Type 0) (packed : ℕ) (answer : Result A) : Type 0 where
  pub zero_accepted : number_of packed ≡ 0 → (a : A) × (answer ≡ accepted a)
  pub accepted_zero : (a : A) → answer ≡ accepted a → number_of packed ≡ 0
  pub value_read : (a : A) → answer ≡ accepted a → Read packed a
  pub refusal_read : (number place : ℕ) → answer ≡ refused number place → RefusalRead packed number place

-- the counts
pub record CountsRead (packed : ℕ) (c : Counts) : Type 0 where
  pub states : states_of packed ≡ c.states
  pub transitions : transitions_of packed ≡ c.transitions
  pub initial : initial_of packed ≡ c.initial

-- the conflicts, a bit each
abbrev pub ConflictsRead : (packed set : ℕ) → Type 0
ConflictsRead packed set = conflicts_of packed ≡ set

-- the length of what is stored
abbrev pub LengthRead : (packed n : ℕ) → Type 0
LengthRead packed n = length_of packed ≡ n

-- the verdict, 1 for kept and 0 for broken, and how many pairs were taken
pub record VerdictRead (packed : ℕ) (f : Finding) : Type 0 where
  pub verdict : kept_of packed ≡ elim f.verdict [ Kept ↦ 1 | Broken ↦ 0 ]
  pub pairs : pairs_of packed ≡ f.pairs

-- whether two lassos are one word, the alarm is raised, or a rule is satisfied: 1 for yes and 0 for no
abbrev pub BitRead : (packed : ℕ) → Bool → Type 0
BitRead packed b = bit_of packed ≡ elim b [ true ↦ 1 | false ↦ 0 ]

-- a part that begins at an index of stem and cycle: in which of the two, and at which index of it
pub data PartRead (stem packed from : ℕ) : Type 0 where
  of_stem : slice_of packed ≡ 1 → part_index packed ≡ from → from < stem → PartRead stem packed from
  of_cycle : slice_of packed ≡ 2 → stem + part_index packed ≡ from → PartRead stem packed from

-- what is told, for a stem with so many letters: the clause, one higher, and the part
abbrev pub ExplanationRead : (stem packed : ℕ) → Explanation → Type 0
ExplanationRead stem packed Holds = (clause_of packed ≡ 0) × (slice_of packed ≡ 0)
ExplanationRead stem packed (Breaks clause from) = (clause_of packed ≡ clause + 1) × PartRead stem packed from
ExplanationRead stem packed (NeverComes clause) = (clause_of packed ≡ clause + 1) × (slice_of packed ≡ 0)

-- ---- the packings

above_byte : (low high : ℕ) → low < 256 → (low + 256 * high) / 256 ≡ high
above_byte low high lt = omega arith

refusal_unpacks : (number place : ℕ) → Refusal number place → RefusalRead (pack_refusal number place) number place
refusal_unpacks number place h =
    let read : pack_refusal number place % 256 ≡ number = omega (arith, h.byte) in
    let whole : place % 2 ^ 32 ≡ place = omega (arith, h.near) in
    record {
      number_read = read;
      not_zero = omega (arith, h.some);
      place_read = rw (above_byte number (place % 2 ^ 32) h.byte, whole, whole);
    }

unpacks_accepted : {A : Type 0} {Read : ℕ → A → Type 0} (packed : ℕ) (a : A) → number_of packed ≡ 0 → Read packed a
    → Unpacks Read packed (accepted a)
unpacks_accepted {A} {Read} packed a z read = record {
  zero_accepted = λ _. (a, refl);
  accepted_zero = λ _ _. z;
  value_read = λ b e. let same : a ≡ b = cc in subst (Read packed) same read;
  refusal_read = λ number place e. never_both (sym e);
}

unpacks_refused : {A : Type 0} {Read : ℕ → A → Type 0} (number place : ℕ) → Refusal number place
    → Unpacks Read (pack_refusal number place) (refused number place)
unpacks_refused number place h = record {
  zero_accepted = λ z. absurd (omega (arith, (refusal_unpacks number place h).not_zero));
  accepted_zero = λ a e. never_both e;
  value_read = λ a e. never_both e;
  refusal_read = λ n p e.
      let same_number : number ≡ n = cc in
      let same_place : place ≡ p = cc in
      subst₂ (RefusalRead (pack_refusal number place)) same_number same_place (refusal_unpacks number place h);
}

-- counts, with conflicts above them or none
carried_counts : (c : Counts) → Small c → (set : ℕ) → CountsRead (pack_three c + 2 ^ 40 * set) c
carried_counts c small set =
    let s : c.states % 256 ≡ c.states = omega (arith, small.states) in
    let t : c.transitions % 65536 ≡ c.transitions = omega (arith, small.transitions) in
    let i : c.initial % 256 ≡ c.initial = omega (arith, small.initial) in
    rw (s, t, i) whole
  where
    whole : CountsRead (256 * c.states + 65536 * c.transitions + 2 ^ 32 * c.initial + 2 ^ 40 * set) c
    whole = record { states = omega arith; transitions = omega arith; initial = omega arith }

three_read : (c : Counts) → Small c → CountsRead (pack_three c) c
three_read c small =
    let same : pack_three c + 2 ^ 40 * 0 ≡ pack_three c = omega arith in
    subst (λ (packed : ℕ). CountsRead packed c) same (carried_counts c small 0)

counts_unpack : (r : Result Counts) → Proper r → ((c : Counts) → r ≡ accepted c → Small c)
    → Unpacks CountsRead (pack_counts r) r
unfolding pack_counts
counts_unpack (accepted c) p fits = unpacks_accepted _ c (omega arith) (three_read c (fits c refl))
counts_unpack (refused number place) p fits = unpacks_refused number place (p.refusal number place refl)

carried_conflicts : (c : Counts) (set : ℕ) → set < 256 → ConflictsRead (pack_three c + 2 ^ 40 * set) set
carried_conflicts c set lt = omega arith

refusal_carries : {A : Type 0} {Read : ℕ → A → Type 0} (number place : ℕ) → Refusal number place
    → Unpacks Read (pack_refusal number place + 0) (refused number place)
refusal_carries {A} {Read} number place h =
    let same : pack_refusal number place ≡ pack_refusal number place + 0 = omega arith in
    subst (λ (packed : ℕ). Unpacks Read packed (refused number place)) same (unpacks_refused number place h)

translation_unpacks : (r : Result Counts) (f : Result ℕ) → Alike r f → Proper r
    → ((c : Counts) → r ≡ accepted c → Small c) → ((set : ℕ) → f ≡ accepted set → set < 256)
    → Unpacks CountsRead (pack_counts r + pack_conflicts f) r × Unpacks ConflictsRead (pack_counts r + pack_conflicts f) f
unfolding pack_counts pack_conflicts
translation_unpacks r f (both c set) p small byte = (
  unpacks_accepted _ c (omega arith) (carried_counts c (small c refl) set),
  unpacks_accepted _ set (omega arith) (carried_conflicts c set (byte set refl)),
)
translation_unpacks r f (neither number place) p small byte =
    let refusal = p.refusal number place refl in
    (refusal_carries number place refusal, refusal_carries number place refusal)

length_unpacks : (r : Result ℕ) → Proper r → ((n : ℕ) → r ≡ accepted n → n ≤ largest_image)
    → Unpacks LengthRead (pack_length r) r
unfolding pack_length
length_unpacks (accepted n) p fits = unpacks_accepted _ n (omega arith) (omega (arith, fits n refl))
length_unpacks (refused number place) p fits = unpacks_refused number place (p.refusal number place refl)

finding_unpacks : (v : Verdict) (pairs : ℕ) → pairs ≤ work_bytes
    → Unpacks VerdictRead (pack_finding v pairs) (accepted (finding v pairs))
finding_unpacks Kept pairs few =
    unpacks_accepted _ (finding Kept pairs) (omega arith) (record { verdict = omega arith; pairs = omega arith })
finding_unpacks Broken pairs few =
    unpacks_accepted _ (finding Broken pairs) (omega arith) (record { verdict = omega arith; pairs = omega arith })

verdict_unpacks : (r : Result Finding) → Proper r → ((f : Finding) → r ≡ accepted f → f.pairs ≤ work_bytes)
    → Unpacks VerdictRead (pack_verdict r) r
unfolding pack_verdict
verdict_unpacks (accepted f) p fits = finding_unpacks f.verdict f.pairs (fits f refl)
verdict_unpacks (refused number place) p fits = unpacks_refused number place (p.refusal number place refl)

bit_unpacks : (r : Result Bool) → Proper r → Unpacks BitRead (pack_bit r) r
unfolding pack_bit
bit_unpacks (accepted true) p = unpacks_accepted _ true (omega arith) (omega arith)
bit_unpacks (accepted false) p = unpacks_accepted _ false (omega arith) (omega arith)
bit_unpacks (refused number place) p = unpacks_refused number place (p.refusal number place refl)

-- a clause with its part
module _ (stem clause from : ℕ) (few : clause < 255) (near : from < 65536) where
  part_packed : clause_of (pack_clause clause + pack_part stem from) ≡ clause + 1
  part_packed = go (dec_lt from stem)
    where
      c : clause % 255 ≡ clause
      c = omega arith

      go : Dec (from < stem) → clause_of (pack_clause clause + pack_part stem from) ≡ clause + 1
      go (yes l) = rw (lt-ltb from stem l, c) (omega arith)
      go (no l) = rw (le-ltb from stem (omega arith), c) (omega arith)

  part_read : PartRead stem (pack_clause clause + pack_part stem from) from
  part_read = go (dec_lt from stem)
    where
      c : clause % 255 ≡ clause
      c = omega arith

      go : Dec (from < stem) → PartRead stem (pack_clause clause + pack_part stem from) from
      go (yes l) = rw (lt-ltb from stem l, c) (of_stem (omega arith) (omega arith) l)
      go (no l) = rw (le-ltb from stem (omega arith), c) (of_cycle (omega arith) (omega arith))

  part_zero : number_of (pack_clause clause + pack_part stem from) ≡ 0
  part_zero = go (dec_lt from stem)
    where
      go : Dec (from < stem) → number_of (pack_clause clause + pack_part stem from) ≡ 0
      go (yes l) = rw (lt-ltb from stem l) (omega arith)
      go (no l) = rw (le-ltb from stem (omega arith)) (omega arith)

explained_unpacks : (stem : ℕ) (r : Result Explanation) → Proper r
    → ((c from : ℕ) → r ≡ accepted (Breaks c from) → (c < 255) × (from < 65536))
    → ((c : ℕ) → r ≡ accepted (NeverComes c) → c < 255)
    → Unpacks (ExplanationRead stem) (pack_explained stem r) r
unfolding pack_explained
explained_unpacks stem (accepted Holds) p fits never = unpacks_accepted _ Holds (omega arith) (omega arith, omega arith)
explained_unpacks stem (accepted (Breaks c from)) p fits never =
    let (few, near) = fits c from refl in
    unpacks_accepted _ (Breaks c from) (part_zero stem c from few near)
    (part_packed stem c from few near, part_read stem c from few near)
explained_unpacks stem (accepted (NeverComes c)) p fits never =
    let few = never c refl in
    unpacks_accepted _ (NeverComes c) (omega arith) (omega arith, omega arith)
explained_unpacks stem (refused number place) p fits never =
    unpacks_refused number place (p.refusal number place refl)

-- ---- the calls

-- zimboralo_normalize
pub normalize_unpacks : (rule form : List ℕ)
    → Unpacks LengthRead (pack_length (normalizes rule form).answer) (normalizes rule form).answer
normalize_unpacks rule form =
    length_unpacks (normalizes rule form).answer (normalizes_proper rule form)
    (λ n e. omega (arith, normalizes_small rule form n e))

-- zimboralo_merge
pub merge_unpacks : (first second merged : List ℕ)
    → Unpacks LengthRead (pack_length (merges first second merged).answer) (merges first second merged).answer
merge_unpacks first second merged =
    length_unpacks (merges first second merged).answer (merges_proper first second merged)
    (λ n e. omega (arith, merges_small first second merged n e))

-- zimboralo_translate: the counts, and the conflicts
abbrev packed_translation : (rule s t i : List ℕ) → ℕ
packed_translation rule s t i = (pack_translated (translates rule s t i)).answer

pub translate_unpacks : (rule s t i : List ℕ)
    → Unpacks CountsRead (packed_translation rule s t i) (translated rule s t i).answer
    × Unpacks ConflictsRead (packed_translation rule s t i) (translated_conflicts rule s t i)
translate_unpacks rule s t i =
    translation_unpacks (translated rule s t i).answer (translated_conflicts rule s t i) (translated_alike rule s t i)
    (translated_proper rule s t i) (translated_small rule s t i) (translated_byte rule s t i)

-- zimboralo_read
pub read_unpacks : (image s t i : List ℕ)
    → Unpacks CountsRead (pack_counts (read_into image s t i).answer) (read_into image s t i).answer
read_unpacks image s t i =
    counts_unpack (read_into image s t i).answer (reads_proper image s t i) (reads_small image s t i)

-- zimboralo_write
pub write_unpacks : (c : Counts) (s t i image : List ℕ)
    → Unpacks LengthRead (pack_length (writes c s t i image).answer) (writes c s t i image).answer
write_unpacks c s t i image =
    length_unpacks (writes c s t i image).answer (writes_proper c s t i image) (writes_small c s t i image)

-- zimboralo_judge
pub judge_unpacks : (image stem cycle work : List ℕ)
    → Unpacks VerdictRead (pack_verdict (judged image stem cycle work).answer) (judged image stem cycle work).answer
judge_unpacks image stem cycle work =
    verdict_unpacks (judged image stem cycle work).answer (judged_proper image stem cycle work)
    (judged_few image stem cycle work)

-- zimboralo_decide
pub decide_unpacks : (rule stem cycle s t i image work : List ℕ)
    → Unpacks VerdictRead (pack_verdict (decided rule stem cycle s t i image work).answer) (decided rule stem cycle s t i image work).answer
decide_unpacks rule stem cycle s t i image work =
    verdict_unpacks (decided rule stem cycle s t i image work).answer (decided_proper rule stem cycle s t i image work)
    (decided_few rule stem cycle s t i image work)

-- zimboralo_same_word
pub same_word_unpacks : (stem cycle otherStem otherCycle : List ℕ)
    → Unpacks BitRead (pack_bit (compared stem cycle otherStem otherCycle)) (compared stem cycle otherStem otherCycle)
same_word_unpacks stem cycle otherStem otherCycle =
    bit_unpacks (compared stem cycle otherStem otherCycle) (compared_proper stem cycle otherStem otherCycle)

-- zimboralo_field_translate: the counts, and the conflicts
abbrev packed_profile : (rule s t i : List ℕ) → ℕ
packed_profile rule s t i = (pack_translated (profile_translates rule s t i)).answer

pub field_translate_unpacks : (rule s t i : List ℕ)
    → Unpacks CountsRead (packed_profile rule s t i) (profile_translated rule s t i).answer
    × Unpacks ConflictsRead (packed_profile rule s t i) (profile_conflicts rule s t i)
field_translate_unpacks rule s t i =
    translation_unpacks (profile_translated rule s t i).answer (profile_conflicts rule s t i) (profile_alike rule s t i)
    (profile_translated_proper rule s t i) (profile_small rule s t i) (profile_byte rule s t i)

-- zimboralo_field_start
pub field_start_unpacks : (image set : List ℕ)
    → Unpacks BitRead (pack_bit (started image set).answer) (started image set).answer
field_start_unpacks image set = bit_unpacks (started image set).answer (started_proper image set)

-- zimboralo_field_step
pub field_step_unpacks : (image set : List ℕ) (x : ℕ)
    → Unpacks BitRead (pack_bit (stepped image set x).answer) (stepped image set x).answer
field_step_unpacks image set x = bit_unpacks (stepped image set x).answer (stepped_proper image set x)

-- zimboralo_explain
pub explain_unpacks : (rule stem cycle : List ℕ)
    → Unpacks (ExplanationRead (length stem)) (pack_explained (length stem) (explained rule stem cycle))
    (explained rule stem cycle)
explain_unpacks rule stem cycle =
    explained_unpacks (length stem) (explained rule stem cycle) (explained_proper rule stem cycle)
    (λ c from e. let (few, near) = told_small rule stem cycle c from e in (omega arith, omega arith))
    (λ c e. omega (arith, never_small rule stem cycle c e))

-- zimboralo_broken_part: the letters that C cuts out by what it reads
abbrev pub cut_out : (stem cycle : List ℕ) (packed : ℕ) → List ℕ
cut_out stem cycle packed =
    cond (eqb (slice_of packed) 1) (drop (part_index packed) stem)
    (cond (eqb (slice_of packed) 2) (drop (part_index packed) cycle) [])

cut_shown : (stem cycle : List ℕ) (packed from : ℕ) → PartRead (length stem) packed from
    → cut_out stem cycle packed ≡ part_from stem cycle from
cut_shown stem cycle packed from (of_stem of-it at l) =
    rw (eq-eqb (slice_of packed) 1 of-it) (ap (λ (i : ℕ). drop i stem) at ∙ sym (part_stem stem cycle from l))
cut_shown stem cycle packed from (of_cycle of-it at) =
    let off : part_index packed ≡ from - length stem = omega arith in
    rw (ne_eqb (slice_of packed) 1 (λ e. omega arith), eq-eqb (slice_of packed) 2 of-it)
    (ap (λ (i : ℕ). drop i cycle) off ∙ sym (part_cycle stem cycle from (omega arith)))

cut_nothing : (stem cycle : List ℕ) (packed : ℕ) → slice_of packed ≡ 0 → cut_out stem cycle packed ≡ []
cut_nothing stem cycle packed e =
    rw (ne_eqb (slice_of packed) 1 (λ f. omega arith), ne_eqb (slice_of packed) 2 (λ f. omega arith)) refl

-- are the part that shows where the clause is broken
pub cut_is_part : (rule stem cycle : List ℕ) (x : Explanation) → explained rule stem cycle ≡ accepted x
    → cut_out stem cycle (pack_explained (length stem) (explained rule stem cycle)) ≡ broken_part rule stem cycle
unfolding broken_part pack_explained
cut_is_part rule stem cycle Holds e = rw e (cut_nothing stem cycle 0 refl)
cut_is_part rule stem cycle (Breaks c from) e =
    let (few, near) = told_small rule stem cycle c from e in
    rw e (cut_shown stem cycle _ from (part_read (length stem) c from (omega arith) (omega arith)))
cut_is_part rule stem cycle (NeverComes c) e = rw e (cut_nothing stem cycle (pack_clause c) (omega arith))

-- zimboralo_satisfies
pub satisfies_unpacks : (rule stem cycle : List ℕ)
    → Unpacks BitRead (pack_bit (satisfied rule stem cycle)) (satisfied rule stem cycle)
satisfies_unpacks rule stem cycle = bit_unpacks (satisfied rule stem cycle) (satisfied_proper rule stem cycle)
