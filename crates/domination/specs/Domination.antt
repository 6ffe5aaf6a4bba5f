-- Domination among the terms of a state: a transition that another one makes needless is dropped (R-1).
use Rattle.std.specs.Prelude.{ℕ, List, [], ◌∷◌, Bool, cond, not, ◌&&◌, eqb}
use Rattle.sets.specs.Sets.{any}
use Rattle.term.specs.Term.{Term}
use Rattle.acceptance.specs.Acceptance.{within, fulfilment}

-- whether two terms are one: they ask, forbid and owe the same
abbrev pub same_term : (u t : Term) → Bool
same_term u t = eqb u.must t.must && (eqb u.must_not t.must_not && eqb u.obligations t.obligations)

-- u, another term than t, makes t needless: u reads each letter that t reads, as it asks for no more and forbids no
-- more; it owes no more; and it fulfils each until that t fulfils (R-1, sentence 2)
unfoldable pub dominates : List ℕ → (u t : Term) → Bool
dominates rule u t =
    not (same_term u t) && (within u.must t.must && (within u.must_not t.must_not &&
    (within u.obligations t.obligations && within (fulfilment rule t) (fulfilment rule u))))

-- those of xs of which a test holds, in their order
unfoldable pub sift : {A : Type 0} → (A → Bool) → List A → List A
sift test [] = []
sift test (x ∷ xs) = cond (test x) (x ∷ sift test xs) (sift test xs)

-- whether x stays: none of xs dominates it
abbrev pub stays : {A : Type 0} (dominates : A → A → Bool) (xs : List A) → A → Bool
stays dominates xs x = not (any (λ y. dominates y x) xs)

-- those of xs that none of xs dominates, in their order: all of xs are looked at, the dropped ones too (R-1,
-- sentences 2 and 4)
abbrev pub undominated : {A : Type 0} (dominates : A → A → Bool) → List A → List A
undominated dominates xs = sift (stays dominates xs) xs
