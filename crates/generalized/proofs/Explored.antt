-- A walk that numbers what it meets and is accepted: what it began with comes first, each state that it took was let
-- pass and has its targets among those numbered. Assumes of the test `same` that it tells what is equal.
use mathlib.Core.Path.{◌≡◌, refl, sym, ap, subst, ◌∙◌}
use mathlib.Core.Logic.{inl, inr}
use mathlib.Core.List.{List, [], ◌∷◌, ◌++◌, append-nil, append_assoc}
use mathlib.Core.Bool.{Bool, true, false, false≢true}
use Prim.Native.Nat.{ℕ, zero, suc, ◌+◌, ◌≤◌, ◌<◌}
use native.Mathlib.Decide.{ℕ_discrete, dec_lt}
use native.Mathlib.Omega.{arith}
use lib.ListN.{length, get_or, length-append, get_or-append}
use lib.Seq.{get_or-append-add}
use Rattle.answer.specs.Result.{accepted, fine}
use Rattle.answer.proofs.Results.{never_both, then_accepted}
use Rattle.sets.specs.Sets.{In}
use Rattle.sets.proofs.Members.{All, all_one, at_in, in_append, append_in}
use Rattle.generalized.specs.Explore.{find, meet, Numbering, meet_all, Walk, explore, walked}
use Rattle.generalized.proofs.Numbers.{find_stays, find_next}
use Rattle.generalized.proofs.Exploring.{meet_seen, meet_next, meet_full, explore_is, explore_ends}

-- ys are xs and more after them
pub record Extends {A : Type 0} (xs ys : List A) : Type 0 where
  pub more : List A
  pub are : ys ≡ xs ++ more

extends_self : {A : Type 0} (xs : List A) → Extends xs xs
extends_self xs = record { more = []; are = sym (append-nil xs) }

module _ {A : Type 0} {xs ys : List A} (e : Extends xs ys) where
  pub extends_longer : length xs ≤ length ys
  extends_longer = omega (arith, ap length e.are, length-append xs e.more)

  pub extends_at : (d : A) (k : ℕ) → k < length xs → get_or ys k d ≡ get_or xs k d
  extends_at d k l = ap (λ (zs : List A). get_or zs k d) e.are ∙ get_or-append xs e.more d k l

  extends_in : (x : A) → In x xs → In x ys
  extends_in x m = subst (λ (zs : List A). In x zs) (sym e.are) (in_append x xs e.more (inl m))

  extends_on : {zs : List A} → Extends ys zs → Extends xs zs
  extends_on f = record {
    more = e.more ++ f.more;
    are = f.are ∙ ap (λ (l : List A). l ++ f.more) e.are ∙ append_assoc xs e.more f.more;
  }

module _ {A : Type 0} (same : A → A → Bool) where
  -- what has a number stands there
  pub find_at : ((x y : A) → same x y ≡ true → x ≡ y) → (d x : A) (xs : List A) → find same x xs < length xs
      → get_or xs (find same x xs) d ≡ x
  unfolding find
  find_at sound d x [] l = absurd (omega arith)
  find_at sound d x (y ∷ ys) l = go (same x y) refl l (find_at sound d x ys)
    where
      place : Bool → ℕ
      place b = elim b [ true ↦ 0 | false ↦ suc (find same x ys) ]

      go : (b : Bool) → same x y ≡ b → place b < suc (length ys)
          → (find same x ys < length ys → get_or ys (find same x ys) d ≡ x) → get_or (y ∷ ys) (place b) d ≡ x
      go true q l ih = sym (sound x y q)
      go false q l ih = ih (omega arith)

  -- a member has a number
  find_in : ((x : A) → same x x ≡ true) → (x : A) (xs : List A) → In x xs → find same x xs < length xs
  unfolding find
  find_in self x [] h = absurd h
  find_in self x (y ∷ ys) h = go (same x y) refl h (find_in self x ys)
    where
      go : (b : Bool) → same x y ≡ b → In x (y ∷ ys) → (In x ys → find same x ys < length ys)
          → (elim b [ true ↦ 0 | false ↦ suc (find same x ys) ]) < suc (length ys)
      go true q h ih = omega arith
      go false q (inl e) ih = absurd (false≢true (sym q ∙ sym (ap (same x) e) ∙ self x))
      go false q (inr h) ih = let l = ih h in omega arith

-- each member stands at its number: none stands twice
abbrev pub Once : {A : Type 0} (same : A → A → Bool) (none : A) → List A → Type 0
Once same none xs = (i : ℕ) → i < length xs → find same (get_or xs i none) xs ≡ i

pub once_more : {A : Type 0} (same : A → A → Bool) (none x : A) (xs : List A) → same x x ≡ true
    → length xs ≤ find same x xs → Once same none xs → Once same none (xs ++ (x ∷ []))
once_more same none x xs self new once i lt = pick (dec_lt i (length xs))
  where
    pick : Dec (i < length xs) → find same (get_or (xs ++ (x ∷ [])) i none) (xs ++ (x ∷ [])) ≡ i
    pick (yes l) =
        let here = once i l in
        rw (get_or-append xs (x ∷ []) none i l)
        (find_stays same (get_or xs i none) xs (x ∷ []) (rw here l) ∙ here)
    pick (no ge) =
        let last : i ≡ length xs + 0 = omega (arith, length-append xs (x ∷ [])) in
        let number = find_next same x xs self new in
        rw (last, get_or-append-add xs (x ∷ []) 0 none) (omega (arith, number))

module _ {A : Type 0} (n : Numbering A) where
  -- ys are xs with ts met
  pub record Grows (ts xs ys : List A) : Type 1 where
    pub extends : Extends xs ys
    small : length xs ≤ n.limit → length ys ≤ n.limit
    has : ((x y : A) → n.same x y ≡ true → x ≡ y) → All (λ t. In t ys) ts
    pub every : (P : A → Type 0) → All P ts → All P xs → All P ys
    once : ((x : A) → n.same x x ≡ true) → (none : A) → Once n.same none xs → Once n.same none ys

  meet_grows : (place : ℕ) (x : A) (xs ys : List A) → meet n.same n.limit n.full place x xs ≡ accepted ys
      → Grows (x ∷ []) xs ys
  meet_grows place x xs ys e = pick (dec_lt (find n.same x xs) (length xs)) (dec_lt (length xs) n.limit)
    where
      pick : Dec (find n.same x xs < length xs) → Dec (length xs < n.limit) → Grows (x ∷ []) xs ys
      pick (yes l) room =
          let seen = meet_seen n.same n.limit n.full place x xs l in
          let z : xs ≡ ys = cc in
          subst (Grows (x ∷ []) xs) z (record {
            extends = extends_self xs;
            small = λ le. le;
            has = λ sound. all_one (λ t. In t xs) x
                (subst (λ (y : A). In y xs) (find_at n.same sound x x xs l) (at_in x xs (find n.same x xs) l));
            every = λ P ps all. all;
            once = λ self none all. all;
          })
      pick (no g) (yes l) =
          let next = meet_next n.same n.limit n.full place x xs (omega arith) l in
          let z : xs ++ (x ∷ []) ≡ ys = cc in
          subst (Grows (x ∷ []) xs) z (record {
            extends = record { more = x ∷ []; are = refl };
            small = λ le. omega (arith, length-append xs (x ∷ []));
            has = λ sound t m. in_append t xs (x ∷ []) (inr m);
            every = λ P ps all y m. elim (append_in y xs (x ∷ []) m) [ inl a ↦ all y a | inr b ↦ ps y b ];
            once = λ self none all. once_more n.same none x xs (self x) (omega arith) all;
          })
      pick (no g) (no h) =
          absurd (never_both (sym (meet_full n.same n.limit n.full place x xs (omega arith) (omega arith)) ∙ e))

  grows_on : (ts us : List A) {xs more ys : List A} → Grows ts xs more → Grows us more ys → Grows (ts ++ us) xs ys
  grows_on ts us g h = record {
    extends = extends_on g.extends h.extends;
    small = λ le. h.small (g.small le);
    has = λ sound t m. elim (append_in t ts us m) [
      | inl a ↦ extends_in h.extends t (g.has sound t a)
      | inr b ↦ h.has sound t b
    ];
    every = λ P ps all. h.every P (λ t m. ps t (in_append t ts us (inr m)))
        (g.every P (λ t m. ps t (in_append t ts us (inl m))) all);
    once = λ self none all. h.once self none (g.once self none all);
  }

  pub all_grows : (place : ℕ) (ts : List A) (count : ℕ) (xs ys : List A)
      → meet_all n place ts count xs ≡ accepted ys → Grows ts xs ys
  unfolding meet_all
  all_grows place [] count xs ys e =
      let z : xs ≡ ys = cc in
      subst (Grows [] xs) z (record {
        extends = extends_self xs;
        small = λ le. le;
        has = λ sound t m. absurd m;
        every = λ P ps all. all;
        once = λ self none all. all;
      })
  all_grows place (t ∷ ts) count xs ys e =
      let (u, p, q) = then_accepted (n.each place count) _ e in
      let (more, r, z) = then_accepted (meet n.same n.limit n.full place t xs) _ q in
      grows_on (t ∷ []) ts (meet_grows place t xs more r) (all_grows place ts (suc count) more ys z)

module _ {A : Type 0} (w : Walk A) where
  abbrev same : A → A → Bool
  same = w.numbering.same

  abbrev limit : ℕ
  limit = w.numbering.limit

  abbrev none : A
  none = w.none

  abbrev targets : A → List A
  targets = w.targets

  -- state k was taken: it was let pass, and its targets are numbered
  pub record Taken (ys : List A) (k : ℕ) : Type 0 where
    pub passed : w.before k (get_or ys k none) ≡ fine
    pub closed : All (λ y. In y ys) (targets (get_or ys k none))

  -- a walk that had numbered xs when it stood at place has numbered ys at its end
  pub record Explored (place : ℕ) (xs ys : List A) : Type 1 where
    pub extends : Extends xs ys
    pub small : length ys ≤ limit
    pub taken : (k : ℕ) → place ≤ k → k < length ys → Taken ys k
    -- what xs have and targets inherit all have
    pub every : (P : A → Type 0) → ((x : A) → P x → All P (targets x)) → All P xs → All P ys
    -- the number of a member is a place where it stands
    pub numbered : (x : A) → In x ys → (find same x ys < length ys) × (get_or ys (find same x ys) none ≡ x)
    -- and where none stood twice none does
    pub once : Once same none xs → Once same none ys

  module _ (sound : (x y : A) → same x y ≡ true → x ≡ y) (self : (x : A) → same x x ≡ true) where
    ends : (place : ℕ) (xs ys : List A) → length xs ≤ limit → length xs ≤ place → accepted xs ≡ accepted ys
        → Explored place xs ys
    ends place xs ys le end e =
        let z : xs ≡ ys = cc in
        subst (Explored place xs) z (record {
          extends = extends_self xs;
          small = le;
          taken = λ k a b. absurd (omega arith);
          every = λ P keep all. all;
          numbered = λ x m. let l = find_in same self x xs m in (l, find_at same sound none x xs l);
          once = λ all. all;
        })

    goes_on : (place : ℕ) {xs more ys : List A} → place < length xs → w.before place (get_or xs place none) ≡ fine
        → Grows w.numbering (targets (get_or xs place none)) xs more → Explored (suc place) more ys
        → Explored place xs ys
    goes_on place {xs} {more} {ys} lt f g r = record {
      extends = all;
      small = r.small;
      taken = λ k a b. pick k a b (ℕ_discrete k place);
      every = λ P keep ps. r.every P keep (g.every P (keep _ (ps _ (at_in none xs place lt))) ps);
      numbered = r.numbered;
      once = λ all. r.once (g.once self none all);
    }
      where
        all : Extends xs ys
        all = extends_on g.extends r.extends

        stays : get_or ys place none ≡ get_or xs place none
        stays = extends_at all none place lt

        pick : (k : ℕ) → place ≤ k → k < length ys → Dec (k ≡ place) → Taken ys k
        pick k a b (yes e) = rw e (record {
          passed = rw stays f;
          closed = rw stays (λ y m. extends_in r.extends y (g.has sound y m));
        })
        pick k a b (no n) = r.taken k (omega arith) b

    explored : (fuel place count : ℕ) (xs ys : List A) → length xs ≤ limit → limit ≤ place + fuel
        → explore w fuel place count xs ≡ accepted ys → Explored place xs ys
    explored zero place count xs ys le room e =
        let none_left : length xs ≤ place = omega arith in
        let end = explore_ends w zero place count xs none_left in
        ends place xs ys le none_left (sym end ∙ e)
    explored (suc fuel) place count xs ys le room e =
        pick (dec_lt place (length xs)) (λ more l. explored fuel (suc place) further more ys l (omega arith))
      where
        further : ℕ
        further = count + length (targets (get_or xs place none))

        pick : Dec (place < length xs)
            → ((more : List A) → length more ≤ limit → explore w fuel (suc place) further more ≡ accepted ys
            → Explored (suc place) more ys)
            → Explored place xs ys
        pick (yes lt) rest =
            let is = explore_is w fuel place count xs lt in
            let (more, p, q) = then_accepted _ _ (sym is ∙ e) in
            let (u, f, m) = then_accepted (w.before place (get_or xs place none)) _ p in
            let g = all_grows w.numbering place (targets (get_or xs place none)) count xs more m in
            goes_on place lt f g (rest more (g.small le) q)
        pick (no ge) rest =
            let none_left : length xs ≤ place = omega arith in
            let end = explore_ends w (suc fuel) place count xs none_left in
            ends place xs ys le none_left (sym end ∙ e)

    pub walk_explored : {xs ys : List A} → length xs ≤ limit → walked w xs ≡ accepted ys → Explored 0 xs ys
    walk_explored {xs} {ys} le e = explored limit 0 0 xs ys le (omega arith) e
