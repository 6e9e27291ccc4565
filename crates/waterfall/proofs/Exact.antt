-- Within the limits, to hold numbers to them changes nothing: the code's ranks and charges are document 01's. Assumes nothing.
use mathlib.Core.Path.{◌≡◌, ap, ◌∙◌}
use mathlib.Core.Bool.{true}
use mathlib.Core.List.{List}
use Prim.Native.Nat.{ℕ, ◌≤◌, ◌<◌}
use native.Mathlib.Nat.{min-eq_left}
use lib.ListN.{get_or}
use Rattle.lists.specs.Lists.{tab}
use Rattle.lists.proofs.Places.{tab-ext}
use Rattle.sets.specs.Set.{member}
use Rattle.splitting.specs.Limits.{amount_limit, weight_limit}
use Rattle.waterfall.specs.Seniority.{Standing, rank_in}
use Rattle.waterfall.specs.Charging.{charged_by_rank}
use Rattle.waterfall.specs.Limits.{standing_at, Within, capped, ranks_of, rank_at, held_at, charges_of}
use Rattle.waterfall.proofs.Ranking.{rank-ext}
use Rattle.waterfall.proofs.ByRank.{charge-ext}

pub capped_same : (s : Standing) → Within s → capped s ≡ s
unfolding capped
capped_same s w = rw (min-eq_left w.D-le, min-eq_left w.W-le, min-eq_left w.expected-le)

-- columns that hold standings within the limits give their ranks
pub ranks-exact : (d won expected : List ℕ) (set : ℕ) (standing : ℕ → Standing) → ((m : ℕ) → m < 32 → standing_at d won expected m ≡ standing m)
    → ((m : ℕ) → m < 32 → Within (standing m)) → ranks_of d won expected set ≡ tab 32 (rank_in set standing)
unfolding ranks_of
ranks-exact d won expected set standing same within =
    tab-ext 32 (rank_in set (λ m. capped (standing_at d won expected m))) (rank_in set standing)
    (λ m l. rank-ext set (λ o. capped (standing_at d won expected o)) standing m (λ o k on. exact o k) (exact m l))
  where
    exact : (m : ℕ) → m < 32 → capped (standing_at d won expected m) ≡ standing m
    exact m l = ap capped (same m l) ∙ capped_same (standing m) (within m l)

-- columns that hold the members' ranks and holdings, within the limits, give their charges
pub charges-exact : (amount : ℕ) (ranks holds : List ℕ) (set : ℕ) (rank hold : ℕ → ℕ)
    → ((m : ℕ) → m < 32 → member set m ≡ true → get_or ranks m 0 ≡ rank m)
    → ((m : ℕ) → m < 32 → member set m ≡ true → get_or holds m 0 ≡ hold m)
    → ((m : ℕ) → m < 32 → member set m ≡ true → hold m ≤ weight_limit)
    → amount ≤ amount_limit
    → charges_of amount ranks holds set ≡ tab 32 (charged_by_rank set rank hold amount)
unfolding charges_of
charges-exact amount ranks holds set rank hold same_rank same-hold within small =
    ap (λ a. tab 32 (charged_by_rank set (rank_at ranks) (held_at holds) a)) (min-eq_left small)
    ∙ tab-ext 32 (charged_by_rank set (rank_at ranks) (held_at holds) amount) (charged_by_rank set rank hold amount)
    (λ m l. charge-ext set (rank_at ranks) rank (held_at holds) hold amount same_rank exact m)
  where
    exact : (m : ℕ) → m < 32 → member set m ≡ true → held_at holds m ≡ hold m
    exact m l on = rw (same-hold m l on, min-eq_left (within m l on))
