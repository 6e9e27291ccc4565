-- Orders of places, put together from blocks: `before j i` says that place j comes before place i.
use Rattle.std.specs.Prelude.{Bool, ◌&&◌, ◌||◌, ℕ, ltb, eqb}

-- the place with the larger f comes first, and of two with the same f the one that `then` puts first
unfoldable pub larger_first : (ℕ → ℕ) → (ℕ → ℕ → Bool) → ℕ → ℕ → Bool
larger_first f then j i = ltb (f i) (f j) || (eqb (f j) (f i) && then j i)

-- the earlier place comes first
unfoldable pub earlier : ℕ → ℕ → Bool
earlier j i = ltb j i
