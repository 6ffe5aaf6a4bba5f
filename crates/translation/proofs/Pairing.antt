-- A loop that takes the pairs in order, meets the targets of each and writes its row: the walk from a place on comes to
-- what the whole walk does, and the rows of the pairs before it are written. Assumes nothing.
use mathlib.Core.Path.{◌≡◌, refl, sym, ap, ◌∙◌}
use mathlib.Core.List.{List, [], ◌∷◌, ◌++◌, map, append_assoc}
use Prim.Native.Nat.{ℕ, suc, ◌+◌, ◌-◌, ◌*◌, ◌/◌, ◌%◌, ◌≤◌, ◌<◌}
use native.Mathlib.Numerals.{add-one}
use native.Mathlib.Omega.{arith}
use lib.ListN.{length, get_or, take, length-append}
use lib.Seq.{take-suc, take_all, take-append-le}
use Rattle.answer.specs.Result.{Result, refused}
use Rattle.answer.specs.Bytes.{two_bytes}
use Rattle.sets.specs.Sets.{In}
use Rattle.sets.proofs.Members.{at_in, map_in}
use Rattle.formula.specs.Limits.{max_untils}
use Rattle.generalized.specs.Explore.{meet_all, Walk, explore, walked}
use Rattle.generalized.specs.Memory.{kept_target}
use Rattle.generalized.proofs.Explored.{Grows, all_grows}
use Rattle.generalized.proofs.Exploring.{explore_next, explore_refused, explore_ends}
use Rattle.automaton.specs.Limits.{max_states, max_of_state, transitions_bytes}
use Rattle.automaton.specs.Records.{records}
use Rattle.automaton.proofs.Records.{records_last, records_length}
use Rattle.translation.specs.Memory.{row, level_places, target_n, targets_n, code_numbering}
use Rattle.translation.specs.Memory.{code_walk, transition_n, row_n, rows_n, Within, Leads, PairRows}
use Rattle.translation.specs.Memory.{AddsRecords, AddedRows}
use Rattle.translation.proofs.Levels.{target_state}
use Rattle.translation.proofs.Within.{state_within, own_size, row_few, own_leads, one_alone}
use Rattle.translation.proofs.Filling.{adds_more}

-- a pair within the tables leads to such pairs
pub targets_within : (ends transitions : List ℕ) (r n : ℕ) → r ≤ max_untils
    → ((s : ℕ) → s < n → (x : ℕ) → In x (row ends transitions s) → kept_target x < n)
    → (code : ℕ) → code / level_places < n → Within n (targets_n ends transitions r code)
targets_within ends transitions r n levels closed code lt x h =
    let (y, m, e) = map_in (target_n r (code % level_places)) x (row ends transitions (code / level_places)) h in
    rw (e, target_state r (code % level_places) y levels) (closed (code / level_places) lt y m)

-- the walk that stands at place, with count transitions before, comes to what it is to come to; m transitions are
-- written
pub record Pairing (ends transitions : List ℕ) (r : ℕ) (all : Result (List ℕ)) (before codes table : List ℕ)
    (m place : ℕ) : Type 0 where
  pub count : ℕ
  pub rows : PairRows ends transitions r codes
  pub reached : place ≤ length codes
  pub left : explore (code_walk ends transitions r) (max_states - place) place count codes ≡ all
  pub size : length table ≡ length before
  pub few : m ≤ place * max_of_state
  pub written : (more : List ℕ)
      → AddsRecords before 0 (rows_n ends transitions r (take place codes) (codes ++ more)) table m

module _ {ends transitions : List ℕ} {r : ℕ} where
  pub pairing_begins : {before codes : List ℕ} → PairRows ends transitions r codes
      → Pairing ends transitions r (walked (code_walk ends transitions r) codes) before codes before 0 0
  unfolding records
  pairing_begins rows = record {
    count = 0;
    rows = rows;
    reached = omega arith;
    left = refl;
    size = refl;
    few = omega arith;
    written = λ more. record { count = refl; front = refl };
  }

  module _ {all : Result (List ℕ)} {before codes table : List ℕ} {m place : ℕ}
      (inv : Pairing ends transitions r all before codes table m place)
      (room : transitions_bytes ≤ length before) (most : length codes ≤ max_states) where
    abbrev walk : Walk ℕ
    walk = code_walk ends transitions r

    pub pairing_ends : length codes ≤ place → AddedRows all (rows_n ends transitions r) before 0 m codes table
    pairing_ends le =
        let last : place ≡ length codes = omega (arith, inv.reached) in
        let end = explore_ends walk (max_states - place) place inv.count codes le in
        record {
          are = sym inv.left ∙ end;
          inside = omega (arith, inv.few, inv.size);
          written = λ more. rw (take_all place codes le) at (inv.written more);
        }

    module _ (lt : place < length codes) where
      abbrev code : ℕ
      code = get_or codes place 0

      abbrev state : ℕ
      state = code / level_places

      abbrev own : List ℕ
      own = row ends transitions state

      here : In code codes
      here = at_in 0 codes place lt

      pub row_alone : {c : ℕ} → c ≡ get_or codes place 0 → PairRows ends transitions r (c ∷ [])
      row_alone is = rw is (one_alone code inv.rows here)

      state_here : state < inv.rows.listed.states
      state_here = state_within inv.rows code here

      few_own : length own ≤ max_of_state
      few_own = omega (arith, own_size inv.rows code here, row_few inv.rows code here)

      -- the pair as the code reads it: its code, its row and its level
      module _ {c level : ℕ} {read : List ℕ} (is : c ≡ get_or codes place 0)
          (read_is : read ≡ row ends transitions (c / level_places)) (el : level ≡ c % level_places) where
        pub row_leads : Leads read
        row_leads = rw (read_is, is) (own_leads inv.rows code here)

        pub row_room : (m + length read) * 4 ≤ length table
        row_room = rw (read_is, is) (omega (arith, few_own, inv.few, inv.size))

        -- the targets of the pair
        abbrev targets : List ℕ
        targets = targets_n ends transitions r code

        abbrev met_all : Result (List ℕ)
        met_all = meet_all code_numbering place targets inv.count codes

        fuel : max_states - place ≡ suc (max_states - suc place)
        fuel = omega arith

        pub pairing_stops : {number at : ℕ}
            → ((count : ℕ)
            → meet_all code_numbering place (map (target_n r level) read) count codes ≡ refused number at)
            → all ≡ refused number at
        pairing_stops stops =
            rw (← inv.left, fuel)
            (explore_refused walk (max_states - suc place) place inv.count codes lt
            (rw (← is, ← read_is, ← el) (stops inv.count)))

        module _ {codes' table' : List ℕ} {after : ℕ}
            (meets : (count : ℕ)
            → AddedRows (meet_all code_numbering place (map (target_n r level) read) count codes)
            (λ _ ys. records (transition_n ys r level) read) table m after codes' table')
            (same : length table' ≡ length table) where
          counted : AddedRows met_all (λ _ ys. row_n ends transitions r ys code) table m after codes' table'
          counted = rw (← is, ← read_is, ← el) (meets inv.count)

          grown : Grows code_numbering targets codes codes'
          grown = all_grows code_numbering place targets inv.count codes codes' counted.are

          rest : List ℕ
          rest = grown.extends.more

          grown_is : codes' ≡ codes ++ rest
          unfolding rest
          grown_is = grown.extends.are

          longer : length codes ≤ length codes'
          longer = omega (arith, ap length grown_is, length-append codes rest)

          within : Within inv.rows.listed.states codes'
          within =
              let states = inv.rows.listed.states in
              let onward = targets_within ends transitions r states inv.rows.levels inv.rows.closed code in
              grown.every (λ c. c / level_places < states) (onward state_here) inv.rows.listed.within

          done_more : take (suc place) codes' ≡ take place codes ++ (code ∷ [])
          done_more =
              ap (take (suc place)) grown_is
              ∙ take-append-le (suc place) codes rest (omega arith)
              ∙ take-suc codes place 0 lt

          earlier : (more : List ℕ)
              → AddsRecords before 0 (rows_n ends transitions r (take place codes) (codes' ++ more)) table m
          earlier more = rw (grown_is, append_assoc codes rest more) (inv.written (rest ++ more))

          left_now : explore walk (max_states - suc place) (suc place) (inv.count + length targets) codes' ≡ all
          left_now =
              let next =
              explore_next walk (max_states - suc place) place inv.count codes {ys = codes'} lt counted.are in
              sym next ∙ rw (← fuel) inv.left

          pub pairing_steps : Pairing ends transitions r all before codes' table' after (place + 1)
          unfolding two_bytes
          pairing_steps =
              let bytes-many =
              records_length (transition_n (codes' ++ []) r (code % level_places)) 4 (λ x. refl) own in
              record {
                count = inv.count + length targets;
                rows = record {
                  listed = record { states = inv.rows.listed.states; rows = inv.rows.listed.rows; within = within };
                  size = inv.rows.size;
                  levels = inv.rows.levels;
                  closed = inv.rows.closed;
                };
                reached = omega (arith, longer);
                left = rw add-one left_now;
                size = same ∙ inv.size;
                few = omega (arith, inv.few, (counted.written []).count, bytes-many, few_own);
                written = λ more.
                    let rows = row_n ends transitions r (codes' ++ more) in
                    rw (add-one, done_more, records_last rows (take place codes) code)
                    (adds_more before 0 _ table m _ table' after (earlier more) (counted.written more));
              }
