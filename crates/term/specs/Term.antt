-- Obligations, covers and terms (01, Duties, covers and terms). A list of sets or terms is a set itself: it rises and
-- has no repeats. An obligation is document 01's duty: a node that is owed from the next letter on.
use Rattle.std.specs.Prelude.{ℕ, ◌^◌, List, [], ◌∷◌, map, Bool, true, false, cond, eqb, ltb}
use Rattle.std.specs.Int.Bits.{bit_and, bit_or}
use Rattle.sets.specs.Sets.{union, insert_product, product_conflicts}
use Rattle.formula.specs.Formula.{Formula, bottom, top, proposition, negated_proposition, conjunction}
use Rattle.formula.specs.Formula.{disjunction, next, until, release}

-- a term: the propositions that a letter must have and those that it must not have, a bit each, and the obligations
-- that then follow (01, Duties, covers and terms, sentence 3)
pub record Term : Type 0 where
  pub must : ℕ
  pub must_not : ℕ
  pub obligations : ℕ

abbrev pub term : (must must_not obligations : ℕ) → Term
term must must_not obligations = record { must = must; must_not = must_not; obligations = obligations }

-- by x and y, and by rest where they are equal
abbrev pub less_then : (x y : ℕ) → Bool → Bool
less_then x y rest = cond (ltb x y) true (cond (ltb y x) false rest)

-- the order of terms: obligations come first, must decides between equal ones, must_not last (01, First walk and
-- second walk, sentence 5)
abbrev pub less : Term → Term → Bool
less x y = less_then x.obligations y.obligations (less_then x.must y.must (ltb x.must_not y.must_not))

-- the join of two terms: what either of them asks, forbids or owes (01, Duties, covers and terms, sentence 4)
abbrev pub joined : Term → Term → Term
joined x y =
    term (bit_or x.must y.must) (bit_or x.must_not y.must_not) (bit_or x.obligations y.obligations)

-- the propositions that a term asks for and forbids at once (R-8, sentence 2)
abbrev pub conflict : Term → ℕ
conflict t = bit_and t.must t.must_not

-- whether there is none; a join that is not so is dropped (01, Duties, covers and terms, sentence 4)
abbrev pub consistent : Term → Bool
consistent t = eqb (conflict t) 0

-- every consistent join of a term of ts and a term of us (01, Duties, covers and terms, sentence 6)
abbrev pub product : List Term → List Term → List Term
product ts us = insert_product less joined consistent ts us []

-- the propositions for which a join of one of ts and one of us is dropped (R-8, sentence 3)
abbrev pub conflicts_between : List Term → List Term → ℕ
conflicts_between ts us = product_conflicts joined conflict ts us

-- every union of a set of cs and a set of ds
abbrev pub unions : List ℕ → List ℕ → List ℕ
unions cs ds = insert_product ltb bit_or (λ _. true) cs ds []

-- the cover of a formula: the sets of obligations, any one of which is enough for it. None is for bottom, and for top
-- nothing need be owed; what can be an obligation owes itself. An or has the sets of either side, an and every union
-- of a left and a right set (01, Duties, covers and terms, sentence 7)
unfoldable pub cover : Formula → List ℕ
cover bottom = []
cover top = 0 ∷ []
cover (proposition n p) = 2 ^ n ∷ []
cover (negated_proposition n p) = 2 ^ n ∷ []
cover (conjunction a b) = unions (cover a) (cover b)
cover (disjunction a b) = union ltb (cover a) (cover b)
cover (next n a) = 2 ^ n ∷ []
cover (until n a b) = 2 ^ n ∷ []
cover (release n a b) = 2 ^ n ∷ []

-- the terms of a formula: the ways in which one letter and the obligations behind it make it hold. Constants and
-- propositions owe nothing; an and joins a left and a right term, an or has those of either side. A next owes a set
-- of its operand's cover. An until takes its right side, or its left side and owes itself; a release takes its right
-- side, and with it its left side or owes itself (01, Duties, covers and terms, sentence 8)
unfoldable pub terms : Formula → List Term
terms bottom = []
terms top = term 0 0 0 ∷ []
terms (proposition n p) = term (2 ^ p) 0 0 ∷ []
terms (negated_proposition n p) = term 0 (2 ^ p) 0 ∷ []
terms (conjunction a b) = product (terms a) (terms b)
terms (disjunction a b) = union less (terms a) (terms b)
terms (next n a) = map (term 0 0) (cover a)
terms (until n a b) = union less (terms b) (product (terms a) (term 0 0 (2 ^ n) ∷ []))
terms (release n a b) = product (terms b) (union less (terms a) (term 0 0 (2 ^ n) ∷ []))

-- the propositions for which a join is dropped on the way to the terms of a formula or of one below it. A next joins
-- nothing, but its operand has terms of its own (R-8, sentence 4)
unfoldable pub conflicts : Formula → ℕ
conflicts bottom = 0
conflicts top = 0
conflicts (proposition n p) = 0
conflicts (negated_proposition n p) = 0
conflicts (conjunction a b) = bit_or (conflicts_between (terms a) (terms b)) (bit_or (conflicts a) (conflicts b))
conflicts (disjunction a b) = bit_or (conflicts a) (conflicts b)
conflicts (next n a) = conflicts a
conflicts (until n a b) =
    bit_or (conflicts_between (terms a) (term 0 0 (2 ^ n) ∷ [])) (bit_or (conflicts a) (conflicts b))
conflicts (release n a b) =
    bit_or (conflicts_between (terms b) (union less (terms a) (term 0 0 (2 ^ n) ∷ [])))
    (bit_or (conflicts a) (conflicts b))
