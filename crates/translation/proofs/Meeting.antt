-- A loop that meets the targets of a row one after another and puts their records behind those before: what is left to
-- meet comes to what all come to, and the numbers in the records stay whatever is met later. Assumes nothing.
use mathlib.Core.Path.{◌≡◌, refl, sym, ◌∙◌}
use mathlib.Core.List.{List, [], ◌∷◌, ◌++◌, map, append-nil, append_assoc}
use Prim.Native.Nat.{ℕ, suc, ◌+◌, ◌-◌, ◌*◌, ◌≤◌, ◌<◌}
use native.Mathlib.Numerals.{add-one}
use native.Mathlib.Omega.{arith}
use lib.ListN.{length, get_or, take, drop, take-append-drop, drop_of_length-le, length-append}
use lib.Seq.{sets, take-suc, take_all, take-length, take-append_seam, drop-cons, length-take-le}
use lib.Dec.{eqb}
use borrow.Author.Tests.{eq-eqb}
use Rattle.answer.specs.Result.{Result, refused}
use Rattle.generalized.specs.Explore.{find, meet, meet_all}
use Rattle.generalized.specs.Memory.{kept_must, kept_must_not}
use Rattle.generalized.proofs.Exploring.{meet_seen, meet_next, meet_full, all_full, all_next, all_met}
use Rattle.generalized.proofs.Numbers.{find_stays, find_next}
use Rattle.automaton.specs.Limits.{max_states}
use Rattle.automaton.specs.Records.{records, transition_bytes}
use Rattle.automaton.proofs.Records.{records_last}
use Rattle.translation.specs.Memory.{code_places, target_n, code_numbering, transition_n, PairsNumbered}
use Rattle.translation.specs.Memory.{NumberedPair, AddsRecords, AddedRows}
use Rattle.translation.proofs.Numbering.{seen, unseen, number_is}
use Rattle.translation.proofs.Filling.{transition_length, adds_more}
use Rattle.answer.proofs.Filling.{front_more}

-- ---- one target

module _ {codes index : List ℕ} {n : ℕ} (inv : PairsNumbered codes index n) {xs : List ℕ} (listed : take n codes ≡ xs)
  where
    pub listed_length : length xs ≡ n
    listed_length = rw (← listed) (length-take-le n codes (omega (arith, inv.room, inv.few)))

    module _ (code : ℕ) (lt : code < code_places) where
      pub late : get_or index code 0 ≡ 0 → length xs ≤ find eqb code xs
      late new = rw (listed_length, ← listed) (unseen codes index n inv code lt new)

      -- a pair met when xs are numbered
      pub met_seen : (get_or index code 0 ≡ 0 → ⊥) → (number : ℕ) → number ≡ get_or index code 0 - 1 → (place : ℕ)
          → NumberedPair code xs (meet eqb max_states 24 place code xs) number xs
      met_seen some number e place =
          let known : find eqb code xs < n = rw (← listed) (seen codes index n inv code lt some) in
          let is : number ≡ find eqb code xs =
          e ∙ rw (← listed) (number_is codes index n inv code lt (rw listed known)) in
          record {
            are = meet_seen eqb max_states 24 place code xs (rw listed_length known);
            few = omega (arith, listed_length, inv.few);
            first = take-length xs;
            found = is;
            inside = omega (arith, listed_length, known, is);
          }

      pub met_full : get_or index code 0 ≡ 0 → max_states ≤ n → (place : ℕ)
          → meet eqb max_states 24 place code xs ≡ refused 24 place
      met_full new le place = meet_full eqb max_states 24 place code xs (late new) (rw listed_length le)

pub met_next : (code : ℕ) {xs ys : List ℕ} {number : ℕ} → length xs < max_states → length xs ≤ find eqb code xs
    → number ≡ length xs → ys ≡ xs ++ (code ∷ []) → (place : ℕ)
    → NumberedPair code xs (meet eqb max_states 24 place code xs) number ys
met_next code {xs} room late is added place =
    let size : length (xs ++ (code ∷ [])) ≡ suc (length xs) = rw length-append (omega arith) in
    record {
      are = meet_next eqb max_states 24 place code xs late room ∙ rw added;
      few = rw (added, size) (omega arith);
      first = rw added (take-append_seam xs (code ∷ []));
      found = rw added (is ∙ sym (find_next eqb code xs (eq-eqb code code refl) late));
      inside = rw (added, size) (omega (arith, is));
    }

-- ---- the targets of a row

-- a loop over a row that stands at i: the targets of the rest, met now, come to what all come to, whatever number of
-- transitions was before; and the records of those before i are written after the first w
pub record Meeting (row : List ℕ) (r level place : ℕ) (all : (count : ℕ) → Result (List ℕ)) (before : List ℕ) (w : ℕ)
    (codes table : List ℕ) (i : ℕ) : Type 0 where
  pub within : i ≤ length row
  pub size : length table ≡ length before
  pub left : (count : ℕ)
      → meet_all code_numbering place (map (target_n r level) (drop i row)) (count + i) codes ≡ all count
  pub written : (more : List ℕ)
      → AddsRecords before w (records (transition_n (codes ++ more) r level) (take i row)) table (w + i)

module _ {row : List ℕ} {r level place : ℕ} where
  pub meeting_begins : {before : List ℕ} {w : ℕ} {codes : List ℕ}
      → Meeting row r level place
      (λ count. meet_all code_numbering place (map (target_n r level) row) count codes) before w codes before 0
  unfolding records
  meeting_begins {w = w} = record {
    within = omega arith;
    size = refl;
    left = λ count.
        let none : count + 0 ≡ count = omega arith in
        rw none;
    written = λ more.
        let none : (w + 0) * 4 ≡ w * 4 = omega arith in
        record { count = omega arith; front = rw (none, append-nil) };
  }

  module _ {all : (count : ℕ) → Result (List ℕ)} {before : List ℕ} {w : ℕ} {codes table : List ℕ} {i : ℕ}
      (inv : Meeting row r level place all before w codes table i) where
    pub meeting_ends : (w + length row) * 4 ≤ length before → length row ≤ i → (count : ℕ)
        → AddedRows (all count) (λ _ codes. records (transition_n codes r level) row) before w (w + length row)
        codes table
    meeting_ends room le count =
        let last : i ≡ length row = omega (arith, inv.within) in
        record {
          are = sym (inv.left count)
              ∙ rw (drop_of_length-le row {i = i} le) (all_met code_numbering place _ codes);
          inside = omega (arith, inv.size);
          written = λ more. rw (← last) (rw (take_all i row le) at (inv.written more));
        }

    module _ (lt : i < length row) where
      -- the transition at i, and the code of the pair that it leads to
      abbrev x : ℕ
      x = get_or row i 0

      abbrev to : ℕ
      to = target_n r level x

      pub record_room : (w + length row) * 4 ≤ length before → (w + i) * 4 + 4 ≤ length table
      record_room room = omega (arith, inv.size)

      left_is : (count : ℕ)
          → meet_all code_numbering place (to ∷ map (target_n r level) (drop (suc i) row)) (count + i) codes ≡ all count
      left_is count = rw (drop-cons row i 0 lt) at (inv.left count)

      module _ {code : ℕ} (is : code ≡ target_n r level (get_or row i 0)) where
        pub meeting_full : ((at : ℕ) → meet eqb max_states 24 at code codes ≡ refused 24 at) → (count : ℕ)
            → all count ≡ refused 24 place
        meeting_full full count =
            sym (left_is count)
            ∙ all_full code_numbering place _ _ (count + i) codes refl (rw (← is) (full place))

        module _ {number : ℕ} {codes' : List ℕ}
            (meets : (at : ℕ) → NumberedPair code codes (meet eqb max_states 24 at code codes) number codes') where
          m : NumberedPair to codes (meet eqb max_states 24 place to codes) number codes'
          m = rw (← is) (meets place)

          pub number_small : number < max_states
          number_small = omega (arith, m.inside, m.few)

          module _ (table' : List ℕ) (same : length table' ≡ length table) (room : (w + length row) * 4 ≤ length before)
              (put : table' ≡ sets table ((w + i) * 4) (transition_bytes (kept_must x) (kept_must_not x) number))
            where
              rest : List ℕ
              rest = drop (length codes) codes'

              grown : codes' ≡ codes ++ rest
              unfolding rest
              grown = sym (take-append-drop (length codes) codes') ∙ rw m.first

              -- the number stays, whatever pairs come after
              stays : (more : List ℕ) → number ≡ find eqb to (codes' ++ more)
              stays more = m.found ∙ sym (find_stays eqb to codes' more (omega (arith, m.found, m.inside)))

              one : (more : List ℕ)
                  → AddsRecords table (w + i) (transition_n (codes' ++ more) r level x) table' (w + i + 1)
              one more =
                  let four = transition_length (kept_must x) (kept_must_not x) in
                  record {
                    count = rw (four (find eqb to (codes' ++ more))) (omega arith);
                    front = rw (← stays more)
                        (front_more table table' ((w + i) * 4) ((w + i + 1) * 4) _
                        (rw (four number) (omega arith)) (omega (arith, record_room room)) put);
                  }

              earlier : (more : List ℕ)
                  → AddsRecords before w (records (transition_n (codes' ++ more) r level) (take i row)) table (w + i)
              earlier more = rw (grown, append_assoc codes rest more) (inv.written (rest ++ more))

              pub meeting_steps : Meeting row r level place all before w codes' table' (i + 1)
              meeting_steps =
                  let up : w + (i + 1) ≡ w + i + 1 = omega arith in
                  record {
                    within = omega arith;
                    size = same ∙ inv.size;
                    left = λ count.
                        let next : count + (i + 1) ≡ suc (count + i) = omega arith in
                        let met_next = all_next code_numbering place _ _ (count + i) codes refl m.are in
                        rw (next, add-one) (sym met_next ∙ left_is count);
                    written = λ more.
                        let bytes = transition_n (codes' ++ more) r level in
                        rw (up, add-one i, take-suc row i 0 lt, records_last bytes (take i row) x)
                        (adds_more before w _ table (w + i) _ table' (w + i + 1) (earlier more) (one more));
                  }
