-- Numbers of 16, 32 and 64 bits, and what the functions that add in place leave in a run of them.
use Rattle.std.specs.Prelude.{List, map, ℕ, ◌+◌, min, get_or, set}

-- the largest number of 16, 32 and 64 bits
abbrev pub most16 : ℕ
most16 = 65_535

abbrev pub most32 : ℕ
most32 = 4_294_967_295

abbrev pub most64 : ℕ
most64 = 18_446_744_073_709_551_615

-- v added at place k, the sum held to `most`; a place behind the last changes nothing
unfoldable pub add_at : ℕ → List ℕ → ℕ → ℕ → List ℕ
add_at most a k v = set a k (min (get_or a k 0 + v) most)

-- each number held to `most`
unfoldable pub held_to : ℕ → List ℕ → List ℕ
held_to most l = map (λ n. min n most) l
