-- Document 01, "Rank and layers": which of two members is senior, and the rank that follows.
use Rattle.std.specs.Prelude.{Bool, true, false, ◌&&◌, ◌||◌, List, [], ◌∷◌, ℕ, ◌+◌, ◌-◌, ◌*◌, max, leb, ltb, eqb}
use Rattle.lists.specs.Lists.{when◌then◌else◌, count}
use Rattle.sets.specs.Set.{members}

-- what a member's rank depends on: "D sums units won × (price − worst reserve) .., W is units won", and the units expected of it
pub record Standing : Type 0 where
  pub D : ℕ
  pub W : ℕ
  pub expected : ℕ

-- "excess is W less expected units"; where it is negative, "deficit = −excess"
abbrev pub excess : Standing → ℕ
excess s = s.W - s.expected

abbrev pub deficit : Standing → ℕ
deficit s = s.expected - s.W

-- "Category A (excess 0 or more)"; the others are B
abbrev pub in_a : Standing → Bool
in_a s = leb s.expected s.W

-- a fraction, num / den, of which den is above 0
pub record Fraction : Type 0 where
  pub num : ℕ
  pub den : ℕ

abbrev pub over : ℕ → ℕ → Fraction
over p q = record { num = p; den = q }

-- "ΔP = D / W (0 if W = 0)": D is 0 where W is 0, and the fraction is then 0 / 1
abbrev pub divisor : Standing → ℕ
divisor s = max s.W 1

-- what decides within a category, the first first; in each the higher is senior.
-- "Within A: higher ΔP × excess, then higher excess, then higher ΔP."
abbrev pub keys_a : Standing → List Fraction
keys_a s =
    over (s.D * excess s) (divisor s)
    ∷ over (excess s) 1
    ∷ over s.D (divisor s)
    ∷ []

-- "Within B: higher ΔP / deficit (deficit = −excess), then lower deficit, then higher ΔP." The lower deficit has the higher 1 / deficit
abbrev pub keys_b : Standing → List Fraction
keys_b s =
    over s.D (divisor s * deficit s)
    ∷ over 1 (deficit s)
    ∷ over s.D (divisor s)
    ∷ []

-- x > y, or x = y and the rest decides
abbrev pub higher : ℕ → ℕ → Bool → Bool
higher x y rest = ltb y x || (eqb x y && rest)

-- the first key that differs decides: "Compare as whole-number products."
unfoldable pub first_higher : List Fraction → List Fraction → Bool
first_higher [] ys = false
first_higher (x ∷ xs) [] = false
first_higher (x ∷ xs) (y ∷ ys) = higher (x.num * y.den) (y.num * x.den) (first_higher xs ys)

-- whether s is strictly senior to t: "Category A .. stands above B .. Others rank equal."
unfoldable pub senior : Standing → Standing → Bool
senior s t =
    when in_a s then (when in_a t then first_higher (keys_a s) (keys_a t) else true)
    else (when in_a t then false else first_higher (keys_b s) (keys_b t))

-- "Rank = 1 + the number strictly senior", among the members of a set
unfoldable pub rank_in : ℕ → (ℕ → Standing) → ℕ → ℕ
rank_in set standing m = 1 + count (λ o. senior (standing o) (standing m)) (members set)
