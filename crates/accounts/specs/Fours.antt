-- Runs with four places for each member or each round, one for each pool.
use Rattle.std.specs.Prelude.{List, ℕ, ◌+◌, ◌*◌, set}

-- four values, put at places 4 × k, 4 × k + 1, ..
unfoldable pub put_four : {A : Type 0} → List A → ℕ → A → A → A → A → List A
put_four xs k a b c d = set (set (set (set xs (4 * k) a) (4 * k + 1) b) (4 * k + 2) c) (4 * k + 3) d
