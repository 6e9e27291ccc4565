-- Worked examples of strings cut out of a run of bytes and of numbers written in front. Assumes nothing.
use mathlib.Core.Path.{◌≡◌, refl}
use mathlib.Core.List.{[], ◌∷◌}
use Rattle.input.specs.Strings.{cut_at, strings_from, strings_in, in_front}

-- the second end is below the first, and the last is above the number of bytes
pub strings-cut : strings_in (1 ∷ 2 ∷ 3 ∷ 4 ∷ []) (1 ∷ 0 ∷ 3 ∷ 9 ∷ []) ≡ (1 ∷ []) ∷ [] ∷ (2 ∷ 3 ∷ []) ∷ (4 ∷ []) ∷ []
unfolding strings_from cut_at
strings-cut = refl

-- room for two of three, and room for more
pub front-short : in_front (7 ∷ 8 ∷ 9 ∷ []) (1 ∷ 2 ∷ []) ≡ 7 ∷ 8 ∷ []
unfolding in_front
front-short = refl

pub front_long : in_front (7 ∷ []) (1 ∷ 2 ∷ []) ≡ 7 ∷ 2 ∷ []
unfolding in_front
front_long = refl
