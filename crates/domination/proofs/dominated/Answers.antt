-- `domination::dominated` meets its contract: one of the terms dominates the one that is asked about, or none, whatever
-- the untils are that the bytes tell. Assumes nothing.
use Rattle.std.proofs.Common.{ℕ, Bool, List, [], ◌∷◌, map, refl, rules, tests, ◌≡◌, ◌∙◌}
use Rattle.std.specs.List.{zip, list_any}
use Rattle.std.proofs.lemmas.Iterator.{YieldsList-from_slice, YieldsList-from_zip}
use Rattle.std.proofs.lemmas.Iterator.Search.{any_from_yields_List}
use Rattle.sets.specs.Sets.{any}
use Rattle.domination.specs.Memory.{dominates_byte, dominates_n}
use Rattle.domination.proofs.dominated.Goals as goal

-- the test of a term and its byte
abbrev test : (t byte : ℕ) → ℕ × ℕ → Bool
test t byte p = dominates_byte p.0 p.1 t byte

-- of terms with their bytes it is that of the terms
told_any : (untils : ℕ → ℕ) (t : ℕ) (ts : List ℕ)
    → list_any (test t (untils t)) (zip ts (map untils ts)) ≡ any (λ u. dominates_n untils u t) ts
unfolding any
told_any untils t [] = refl
told_any untils t (x ∷ xs) = rw (told_any untils t xs)

pub returns : goal.returns
returns c untils told own =
    let ts = c.args.ts.now in
    let bytes = c.args.bytes.now in
    let t = c.args.t in
    let found : c.any.result ≡ list_any (test t c.args.byte) (zip ts bytes) =
    any_from_yields_List (test t c.args.byte) c.any.new.self _ _ c.any.ensures.ran
    (YieldsList-from_zip (YieldsList-from_slice ts (cc)) (YieldsList-from_slice bytes (cc)))
    (λ x b q k. search (rules, tests)) in
    found ∙ rw (told, own) (told_any untils t ts)
