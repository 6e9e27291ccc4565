-- About the code. Its functions take any numbers, and first hold each to its limit, within which every product and sum fits 64 bits. Within
-- the limits, which every case keeps, this changes nothing (`ranks-exact`, `charges-exact`).
use Rattle.std.specs.Prelude.{List, ℕ, ◌≤◌, min, get_or}
use Rattle.lists.specs.Lists.{tab}
use Rattle.splitting.specs.Limits.{amount_limit, weight_limit}
use Rattle.waterfall.specs.declared.Performance.{Performance}
use Rattle.waterfall.specs.declared.Charged.{Charged}
use Rattle.waterfall.specs.Seniority.{Standing, rank_in}
use Rattle.waterfall.specs.Charging.{charged, uncovered, charged_by_rank}

-- the most units of a case: 4 pools of 1,000 units
abbrev pub case_unit_limit : ℕ
case_unit_limit = 4_000

-- D of 4,000 units, each won at most 2,000,000 cents above the worst reserve
abbrev pub d_limit : ℕ
d_limit = 8_000_000_000

-- the standing of member m, from the columns of D, units won and units expected
abbrev pub standing_at : List ℕ → List ℕ → List ℕ → ℕ → Standing
standing_at d won expected m = record { D = get_or d m 0; W = get_or won m 0; expected = get_or expected m 0 }

pub record Within (s : Standing) : Type 0 where
  pub D-le : s.D ≤ d_limit
  pub W-le : s.W ≤ case_unit_limit
  pub expected-le : s.expected ≤ case_unit_limit

-- a standing held to the limits
unfoldable pub capped : Standing → Standing
capped s = record { D = min s.D d_limit; W = min s.W case_unit_limit; expected = min s.expected case_unit_limit }

-- the rank of each of the 32 places among the members of a set
unfoldable pub ranks_of : List ℕ → List ℕ → List ℕ → ℕ → List ℕ
ranks_of d won expected set = tab 32 (rank_in set (λ m. capped (standing_at d won expected m)))

-- the code's own record of a standing
abbrev pub standing_of : Performance → Standing
standing_of p = record { D = p.d; W = p.won; expected = p.expected }

-- member m's, held to the limits
abbrev pub performance_at : List ℕ → List ℕ → List ℕ → ℕ → Performance
performance_at d won expected m =
    record { d = min (get_or d m 0) d_limit; won = min (get_or won m 0) case_unit_limit; expected = min (get_or expected m 0) case_unit_limit }

-- a loss charged in turn to six layers, and the rest
abbrev pub charged_layers : ℕ → List ℕ → Charged
charged_layers loss limits = record { charges = charged loss limits; rest = uncovered loss limits }

-- member m's rank, and what it holds, held to the limit of a weight in splitting, from their columns
abbrev pub rank_at : List ℕ → ℕ → ℕ
rank_at ranks m = get_or ranks m 0

abbrev pub held_at : List ℕ → ℕ → ℕ
held_at holds m = min (get_or holds m 0) weight_limit

-- what each of the 32 places is charged, of an amount held to what splitting takes
unfoldable pub charges_of : ℕ → List ℕ → List ℕ → ℕ → List ℕ
charges_of amount ranks holds set = tab 32 (charged_by_rank set (rank_at ranks) (held_at holds) (min amount amount_limit))
