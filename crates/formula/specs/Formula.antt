-- The formula that a rule encodes, as a tree. A node that can be an obligation carries its number.
use Rattle.std.specs.Prelude.{ℕ, zero, suc, ◌<◌, List, [], ◌∷◌, ◌++◌, get_or, length}
use Rattle.formula.specs.Limits.{propositions}
use Rattle.formula.specs.Rule.{root}

-- the kinds 0 to 8 of a node, in this order; a proposition is document 01's mark (01, Rules and when a plan keeps one,
-- the table of kinds)
pub data Formula : Type 0 where
  bottom top : Formula
  proposition negated_proposition : (node p : ℕ) → Formula
  conjunction disjunction : Formula → Formula → Formula
  next : (node : ℕ) → Formula → Formula
  until release : (node : ℕ) → Formula → Formula → Formula

-- node n of that kind: left is the byte, a and b are the trees of the children. A kind above 8 builds bottom: 3 refuses
-- it, so that no accepted rule has one
abbrev pub build : (kind n left : ℕ) (a b : Formula) → Formula
build zero n left a b = bottom
build (suc zero) n left a b = top
build (suc (suc zero)) n left a b = proposition n left
build (suc (suc (suc zero))) n left a b = negated_proposition n left
build (suc (suc (suc (suc zero)))) n left a b = conjunction a b
build (suc (suc (suc (suc (suc zero))))) n left a b = disjunction a b
build (suc (suc (suc (suc (suc (suc zero)))))) n left a b = next n a
build (suc (suc (suc (suc (suc (suc (suc zero))))))) n left a b = until n a b
build (suc (suc (suc (suc (suc (suc (suc (suc zero)))))))) n left a b = release n a b
build (suc (suc (suc (suc (suc (suc (suc (suc (suc kind))))))))) n left a b = bottom

-- the trees of all nodes, of any type that has a way to build a node's, from those below and the bytes of the rest: a
-- child is looked up among the trees below its parent, and none stands for one that is not there
module _ {A : Type 0} (none : A) (builds : (kind n left : ℕ) (a b : A) → A) where
  unfoldable pub trees : List A → List ℕ → List A
  trees below [] = below
  trees below (kind ∷ []) = below
  trees below (kind ∷ (left ∷ [])) = below
  trees below (kind ∷ (left ∷ (right ∷ rest))) =
      trees (below ++ (builds kind (length below) left (get_or below left none) (get_or below right none) ∷ [])) rest

-- the tree of node n
unfoldable pub tree : List ℕ → ℕ → Formula
tree rule n = get_or (trees bottom build [] rule) n bottom

-- the formula of a rule: its root's tree
unfoldable pub formula : List ℕ → Formula
formula rule = tree rule (root rule)

-- every proposition of a formula is one of those that there are
unfoldable pub InRange : Formula → Type 0
InRange bottom = Unit {0}
InRange top = Unit {0}
InRange (proposition n p) = p < propositions
InRange (negated_proposition n p) = p < propositions
InRange (conjunction a b) = InRange a × InRange b
InRange (disjunction a b) = InRange a × InRange b
InRange (next n a) = InRange a
InRange (until n a b) = InRange a × InRange b
InRange (release n a b) = InRange a × InRange b
