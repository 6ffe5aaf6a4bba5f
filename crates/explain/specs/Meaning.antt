-- What is named of a broken rule, by the meaning of rules (02, R-11): first where every letter of the lasso remains,
-- then of a lasso as it is lent.
use Rattle.std.specs.Prelude.{ℕ, ◌+◌, ◌<◌, ◌≡◌, List, ◌∷◌, ◌++◌, true, get_or, length}
use Rattle.sets.specs.Sets.{In}
use Rattle.lasso.specs.Lasso.{remains, remaining, letter}
use Rattle.place.specs.Place.{place_of}
use Rattle.formula.specs.Rule.{kind_at, left_at, right_at}
use Rattle.formula.specs.Formula.{Formula, tree}
use Rattle.formula.specs.Satisfaction.{Holds, Satisfies}
use Rattle.explain.specs.declared.Explanation.TheVariants.{Kept, Broken, NeverComes as Never}
use Rattle.explain.specs.Explain.{clauses, Explanation, part_from}

-- of a release: the right side does not hold at i, and no letter before i has the left side (R-11, sentence 4)
abbrev pub Exposed : (word : ℕ → ℕ) (left right : Formula) → ℕ → Type 0
Exposed word left right i = (Holds word right i → ⊥) × ((j : ℕ) → j < i → Holds word left j → ⊥)

-- of an until: neither side holds at i (R-11, sentence 5)
abbrev pub BothFail : (word : ℕ → ℕ) (left right : Formula) → ℕ → Type 0
BothFail word left right i = (Holds word left i → ⊥) × (Holds word right i → ⊥)

-- and before i it was waiting: at each letter the left side holds, and the right side has not come
abbrev pub Waiting : (word : ℕ → ℕ) (left right : Formula) → ℕ → Type 0
Waiting word left right i = (j : ℕ) → j < i → Holds word left j × (Holds word right j → ⊥)

-- i is the first letter with P
pub record FirstAt (P : ℕ → Type 0) (i : ℕ) : Type 0 where
  pub here : P i
  pub first : (j : ℕ) → j < i → P j → ⊥

-- c is a clause that does not hold at letter 0, and all clauses before it do (R-11, sentence 3)
pub record FirstBroken (rule stem cycle : List ℕ) (c : ℕ) : Type 0 where
  pub earlier : List ℕ
  pub later : List ℕ
  pub parts : clauses rule ≡ earlier ++ (c ∷ later)
  pub kept : (x : ℕ) → In x earlier → Holds (letter stem cycle) (tree rule x) 0
  pub broken : Holds (letter stem cycle) (tree rule c) 0 → ⊥

module _ (rule stem cycle : List ℕ) (c : ℕ) where
  abbrev pub left_side : Formula
  left_side = tree rule (left_at rule c)

  abbrev pub right_side : Formula
  right_side = tree rule (right_at rule c)

  -- letter i is the one from which clause c is shown: by its kind the first one as above, or letter 0 (R-11, sentences
  -- 4 to 6)
  pub record ShownAt (i : ℕ) : Type 0 where
    pub inside : i < length stem + length cycle
    pub release : kind_at rule c ≡ 8 → FirstAt (Exposed (letter stem cycle) left_side right_side) i
    pub until : kind_at rule c ≡ 7
        → FirstAt (BothFail (letter stem cycle) left_side right_side) i × Waiting (letter stem cycle) left_side right_side i
    pub other : (kind_at rule c ≡ 7 → ⊥) → (kind_at rule c ≡ 8 → ⊥) → i ≡ 0

  -- c is an until whose right side never comes, and whose left side so holds for ever (R-11, sentence 5)
  pub record NeverComes : Type 0 where
    pub until : kind_at rule c ≡ 7
    pub never : (i : ℕ) → Holds (letter stem cycle) right_side i → ⊥
    pub always : (i : ℕ) → Holds (letter stem cycle) left_side i

-- what an explanation says (R-11, sentence 8)
abbrev pub Meant : (rule stem cycle : List ℕ) → Explanation → Type 0
Meant rule stem cycle Kept = Satisfies rule stem cycle
Meant rule stem cycle (Broken c i) = FirstBroken rule stem cycle c × ShownAt rule stem cycle c i
Meant rule stem cycle (Never c) = FirstBroken rule stem cycle c × NeverComes rule stem cycle c

-- ---- as it is lent

-- the part from the place of remaining letter i on: of its letters those remain that follow in the word of the
-- remaining letters, up to the end of its stem or of its cycle, and it begins with letter i itself (R-11, sentences 4
-- to 7)
pub record Shows (stem cycle : List ℕ) (i : ℕ) : Type 0 where
  pub follow : remaining (part_from stem cycle (place_of stem cycle i)) ≡ part_from (remaining stem) (remaining cycle) i
  pub some : 0 < length (part_from stem cycle (place_of stem cycle i))
  pub first : remains (get_or (part_from stem cycle (place_of stem cycle i)) 0 0) ≡ true
  pub letter_i : get_or (part_from stem cycle (place_of stem cycle i)) 0 0 ≡ letter (remaining stem) (remaining cycle) i

-- clause c is the first that is broken, and `from` is the place of the letter from which it is shown
pub record Shown (rule stem cycle : List ℕ) (c from : ℕ) : Type 0 where
  pub i : ℕ
  pub at : from ≡ place_of stem cycle i
  pub first : FirstBroken rule (remaining stem) (remaining cycle) c
  pub shown_at : ShownAt rule (remaining stem) (remaining cycle) c i
  pub shows : Shows stem cycle i

-- what an answer of the call says
abbrev pub Told : (rule stem cycle : List ℕ) → Explanation → Type 0
Told rule stem cycle Kept = Satisfies rule (remaining stem) (remaining cycle)
Told rule stem cycle (Broken c from) = Shown rule stem cycle c from
Told rule stem cycle (Never c) =
    FirstBroken rule (remaining stem) (remaining cycle) c × NeverComes rule (remaining stem) (remaining cycle) c
