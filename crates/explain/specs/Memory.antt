-- The searches as the code makes them, over the table of flags.
use Rattle.std.specs.Prelude.{ℕ, ◌*◌, List, Bool, false, not, ◌&&◌, get_or}
use Rattle.lasso.specs.Lasso.{max_letters}
use Rattle.sets.specs.Sets.{any_below}

-- the flag of node c at position 0
abbrev pub first : List Bool → ℕ → Bool
first table c = get_or table (c * max_letters) false

-- the tests of a release and of an until, by the rows of their sides
abbrev pub exposed_at : (left right : List Bool) (i : ℕ) → Bool
exposed_at left right i = not (get_or right i false) && not (any_below (λ j. get_or left j false) i)

abbrev pub both_fail_at : (left right : List Bool) (i : ℕ) → Bool
both_fail_at left right i = not (get_or left i false) && not (get_or right i false)
