-- The bytes under all needed codes: what a loop over rising codes has written. Assumes nothing.
use Prim.Native.Nat.{ℕ, zero, suc, ◌+◌, ◌-◌, ◌*◌, ◌/◌, ◌<◌, ◌≤◌}
use mathlib.Core.Path.{◌≡◌, refl, sym, ◌∙◌, ap, subst}
use mathlib.Core.Bool.{Bool, true, false, not, false≢true}
use mathlib.Core.List.{List, [], ◌∷◌, append-nil}
use native.Mathlib.Omega.{arith}
use native.Mathlib.Numerals.{add-one}
use native.Mathlib.Decide.{dec_lt}
use lib.ListN.{get_or, length, take}
use lib.Seq.{sets, length-sets}
use borrow.Author.Tests.{lt-ltb, le-ltb}
use Rattle.answer.specs.Result.{passes}
use Rattle.answer.proofs.Filling.{front_more}
use Rattle.formula.specs.Rule.{node_count, kind_at, root, one_child}
use Rattle.normalform.specs.Written.{Written, constant, literal, negation, next, binary, future}
use Rattle.normalform.specs.Written.{written_tree, written_check}
use Rattle.normalform.specs.NormalForm.{turned, bit, left_sense, left_constant, pair_code, code, entry}
use Rattle.normalform.specs.NormalForm.{sense, rank, emit, is_needed, number, entry_of, codes_of, code_end}
use Rattle.normalform.specs.NormalForm.{size, normal_bytes}
use Rattle.normalform.specs.Memory.{OwnPlace, Named, flagged, Flags, number_in, code_bytes, Ready}
use Rattle.normalform.proofs.Ranks.{rank_needed, rank_passed, rank_below}
use Rattle.normalform.proofs.Shape.{Fits, bit_low, pair_high, code_low, entry_length}
use Rattle.normalform.proofs.Fitting.{Made, made_constant, made_literal, made_negation, made_next, made_binary}
use Rattle.normalform.proofs.Fitting.{made_future, leaf_made, fits_node, WellWritten, passed_rule}
use Rattle.normalform.proofs.Nodes.{Within, own, walk_low, root_within, within_negation}
use Rattle.normalform.proofs.Placed.{visit}

-- ---- what a needed code names

-- a tree with a place of its own
abbrev Standing : Written → Type 0
Standing (constant v) = ⊥
Standing (literal n v p) = Unit {0}
Standing (negation n a) = ⊥
Standing (next n a) = Unit {0}
Standing (binary n o a b) = Unit {0}
Standing (future n all a) = Unit {0}

not_one : (k : ℕ) → k ≡ 9 → one_child k ≡ true
unfolding one_child
not_one k e = rw e

standing_place : (rule : List ℕ) (n : ℕ) {l : ℕ} {a b t : Written} → Made n l a b (kind_at rule n) t → Standing t
    → OwnPlace rule n
standing_place rule n made h = go _ refl made h
  where
    go : {l : ℕ} {a b t : Written} (k : ℕ) → kind_at rule n ≡ k → Made n l a b k t → Standing t → OwnPlace rule n
    go k e (made_constant _ v low) h = absurd h
    go k e (made_literal _ v low high) h = record { constant = omega arith; negation = λ z. omega arith }
    go k e (made_negation _ nine) h = absurd h
    go k e (made_next _ six) h = record { constant = omega arith; negation = λ z. omega arith }
    go k e (made_binary _ o inner two) h =
        record { constant = omega arith; negation = λ z. false≢true (sym two ∙ not_one k (sym e ∙ z)) }
    go k e (made_future _ all high) h = record { constant = omega arith; negation = λ z. omega arith }

module _ (rule : List ℕ) (passed : passes (written_check rule) ≡ true) where
  abbrev formed : WellWritten rule
  formed = passed_rule rule passed

  abbrev look : ℕ → Written
  look = written_tree rule

  abbrev t : Written
  t = look (root rule)

  abbrev m : ℕ
  m = node_count rule

  abbrev In : Written → Bool → Type 0
  In = Within look t m formed.fits

  -- a node that the walk comes to is one of the rule's
  pair_inside : (n : ℕ) (s : Bool) → is_needed (codes_of rule) (pair_code n s) ≡ true → n < m
  pair_inside n s e =
      let low = walk_low look t m formed.fits (pair_code n s) e in
      omega (arith, low, pair_high n s, code_low look t m false formed.fits)

  -- and is named by its code, if it stands by itself
  module _ (n : ℕ) (s : Bool) (stands : Standing (look n)) (needed : is_needed (codes_of rule) (pair_code n s) ≡ true)
    where
      half : (s : Bool) → (pair_code n s - 2) / 2 ≡ n
      half true = omega arith
      half false = omega arith

      pair_named : Named rule (pair_code n s)
      pair_named le =
          let inside = pair_inside n s needed in
          let (a, b, made) = leaf_made rule n (formed.nodes n inside) in
          rw (half s) (inside, standing_place rule n made stands)

  constant_named : (v : Bool) → Named rule (bit v)
  constant_named true le = absurd (omega arith)
  constant_named false le = absurd (omega arith)

  named : (a : Written) (l : ℕ) (s : Bool) → Fits look a l → In a s → Named rule (code a s)
  unfolding code
  named (constant v) l s f w = constant_named (turned v s)
  named (literal n v p) l s f w =
      pair_named n s (subst Standing (sym f.1) tt) (own look t m formed.fits (literal n v p) s w)
  named (negation n a) l s f w = named a n (not s) f.2 (within_negation look t m formed.fits n a s w)
  named (next n a) l s f w =
      pair_named n s (subst Standing (sym f.1) tt) (own look t m formed.fits (next n a) s w)
  named (binary n o a b) l s f w =
      pair_named n s (subst Standing (sym f.1) tt) (own look t m formed.fits (binary n o a b) s w)
  named (future n all a) l s f w =
      pair_named n s (subst Standing (sym f.1) tt) (own look t m formed.fits (future n all a) s w)

  needed_named : (c : ℕ) → is_needed (codes_of rule) c ≡ true → Named rule c
  needed_named c e =
      let within = root_within look t m formed.fits in
      visit look t m formed.fits (Named rule) named t m false formed.fits within c e

-- ---- numbers in memory

pub rank_agree : (f g : ℕ → Bool) (n : ℕ) → ((c : ℕ) → c < n → f c ≡ g c) → (c : ℕ) → c ≤ n → rank f c ≡ rank g c
unfolding rank
rank_agree f g n h zero l = refl
rank_agree f g n h (suc c) l = rw (rank_agree f g n h c (omega arith), h c (omega arith))

-- an entry has only numbers of codes below its node's
module _ (f g : ℕ → ℕ) (look : ℕ → Written) where
  entry_agree : (t : Written) (m : ℕ) (s : Bool) → Fits look t m → ((c : ℕ) → c < m * 2 + 2 → f c ≡ g c)
      → entry f t s ≡ entry g t s
  unfolding entry
  entry_agree (constant v) m s fits h = refl
  entry_agree (literal n v p) m s fits h = refl
  entry_agree (negation n a) m s fits h = entry_agree a n (not s) fits.2 (λ c l. h c (omega (arith, fits.0)))
  entry_agree (next n a) m s fits h = rw (h (code a s) (omega (arith, fits.0, code_low look a n s fits.2)))
  entry_agree (binary n o a b) m s fits h =
      rw (
        h (code a (left_sense o s)) (omega (arith, fits.0, code_low look a n (left_sense o s) fits.2)),
        h (code b s) (omega (arith, fits.0, code_low look b n s fits.3)),
      )
  entry_agree (future n all a) m s fits h =
      rw (
        h (bit (left_constant all s)) (bit_low (left_constant all s) m),
        h (code a s) (omega (arith, fits.0, code_low look a n s fits.2)),
      )

-- the number of a code by the flags
pub flags_rank : {rule : List ℕ} {needed : List Bool} → Flags rule needed → (c : ℕ) → c ≤ code_end rule
    → rank (flagged needed) c ≡ number (codes_of rule) c
flags_rank {rule} {needed} flags c l =
    rank_agree (flagged needed) (is_needed (codes_of rule)) (code_end rule) flags.each c l

module _ {rule : List ℕ} {needed : List Bool} {numbers : List ℕ} {form : List ℕ}
    (passed : passes (written_check rule) ≡ true) (ready : Ready rule needed numbers form) where
  abbrev codes : List ℕ
  codes = codes_of rule

  at_number : (c : ℕ) → c < code_end rule → number_in numbers c ≡ number codes c
  at_number c l =
      ready.numbered c (omega (arith, ready.flags.size)) ∙ flags_rank ready.flags c (omega arith)

  module _ (c : ℕ) (l : c < code_end rule) (n : flagged needed c ≡ true) where
    is_needed_lem : is_needed codes c ≡ true
    is_needed_lem = sym (ready.flags.each c l) ∙ n

    names : Named rule c
    names = needed_named rule passed c is_needed_lem

    pub code_named : Named rule c × (number_in numbers c * 3 + 3 ≤ length form)
    unfolding size
    code_named = (
      names,
      omega (arith, at_number c l, rank_below (is_needed codes) c (code_end rule) is_needed_lem l, ready.room),
    )

    bytes_are : code_bytes rule numbers c ≡ entry_of codes (written_tree rule) c
    bytes_are = go (dec_lt c 2)
      where
        go : Dec (c < 2) → code_bytes rule numbers c ≡ entry_of codes (written_tree rule) c
        go (yes low) =
            let at : (k : ℕ) → k < 2 → number_in numbers k ≡ number codes k = λ k h. at_number k (omega arith) in
            rw (lt-ltb c 2 low) (entry_agree (number_in numbers) (number codes) (written_tree rule) (constant false) 0
            (sense c) tt at)
        go (no high) =
            let k = (c - 2) / 2 in
            let inside = (names (omega arith)).0 in
            let fits = fits_node rule (passed_rule rule passed).nodes k inside in
            rw (le-ltb c 2 (omega arith))
            (entry_agree (number_in numbers) (number codes) (written_tree rule) (written_tree rule k) (suc k) (sense c)
            fits
            (λ j h. at_number j (omega arith)))

  three : (c : ℕ) → length (entry_of codes (written_tree rule) c) ≡ 3
  three c = entry_length (written_tree rule) (number codes) _ _

-- ---- the loop

three_bytes : (xs : List ℕ) → length xs ≡ 3 → get_or xs 0 0 ∷ (get_or xs 1 0 ∷ (get_or xs 2 0 ∷ [])) ≡ xs
three_bytes [] e = absurd (omega arith)
three_bytes (x ∷ []) e = absurd (omega arith)
three_bytes (x ∷ y ∷ []) e = absurd (omega arith)
three_bytes (x ∷ y ∷ z ∷ []) e = refl
three_bytes (x ∷ y ∷ z ∷ u ∷ xs) e = absurd (omega arith)

-- a loop over the codes that stands at c: the bytes under the needed ones before stand at the form's start
pub record Emitting (rule before form : List ℕ) (c : ℕ) : Type 0 where
  pub room : length form ≡ length before
  pub written : take (number (codes_of rule) c * 3) form
      ≡ emit (is_needed (codes_of rule)) (entry_of (codes_of rule) (written_tree rule)) c

pub emit_begins : (rule before : List ℕ) → Emitting rule before before 0
unfolding rank emit
emit_begins rule before = record { room = refl; written = refl }

module _ {rule : List ℕ} {needed : List Bool} {numbers : List ℕ} {before : List ℕ}
    (passed : passes (written_check rule) ≡ true) (ready : Ready rule needed numbers before) (form : List ℕ) (c : ℕ)
    (inv : Emitting rule before form c) where
  abbrev entries : ℕ → List ℕ
  entries = entry_of (codes_of rule) (written_tree rule)

  abbrev wanted : ℕ → Bool
  wanted = is_needed (codes_of rule)

  module _ (inside : c < length needed) where
    l : c < code_end rule
    l = omega (arith, ready.flags.size)

    pub code_room : flagged needed c ≡ true → Named rule c × (number_in numbers c * 3 + 3 ≤ length form)
    code_room n =
        let (names, fits) = code_named passed ready c l n in
        (names, omega (arith, inv.room))

    -- a needed code, whose bytes are put; and one that is passed over
    pub emit_puts : flagged needed c ≡ true → (after bytes : List ℕ) (at : ℕ) → bytes ≡ code_bytes rule numbers c
        → at ≡ number_in numbers c
        → after ≡ sets form (at * 3) (get_or bytes 0 0 ∷ (get_or bytes 1 0 ∷ (get_or bytes 2 0 ∷ [])))
        → Emitting rule before after (c + 1)
    unfolding emit
    emit_puts n after bytes at is ea put =
        let yes : wanted c ≡ true = is_needed_lem passed ready c l n in
        let (_, fits) = code_room n in
        let place : at * 3 ≡ rank wanted c * 3 = ap (λ (x : ℕ). x * 3) (ea ∙ at_number passed ready c l) in
        let same : bytes ≡ entries c = is ∙ bytes_are passed ready c l n in
        let all = three_bytes bytes (ap length same ∙ three passed ready c) in
        let stored : after ≡ sets form (rank wanted c * 3) (entries c) =
        put ∙ ap (sets form (at * 3)) all ∙ rw (place, same) in
        let long : suc (rank wanted c) * 3 ≡ rank wanted c * 3 + length (entries c) =
        omega (arith, three passed ready c) in
        let fit : suc (rank wanted c) * 3 ≤ length form = omega (arith, at_number passed ready c l) in
        record {
          room = rw stored (length-sets form (rank wanted c * 3) (entries c)) ∙ inv.room;
          written =
              rw (add-one c, rank_needed wanted c yes, yes)
              (front_more form after (rank wanted c * 3) (suc (rank wanted c) * 3) (entries c) long fit stored
              ∙ rw inv.written);
        }

    pub emit_passes : flagged needed c ≡ false → Emitting rule before form (c + 1)
    unfolding emit
    emit_passes n =
        let no : wanted c ≡ false = sym (ready.flags.each c l) ∙ n in
        record { room = inv.room; written = rw (add-one c, rank_passed wanted c no, no, append-nil) inv.written }

  pub emit_ends : c ≡ length needed → take (size rule * 3) form ≡ normal_bytes rule
  unfolding normal_bytes size
  emit_ends e =
      let same : code_end rule ≡ c = sym (e ∙ ready.flags.size) in
      rw same inv.written
