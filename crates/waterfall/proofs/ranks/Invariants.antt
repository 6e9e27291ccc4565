-- `waterfall::ranks` meets its contract. The invariant: the places passed hold their ranks.
-- Assumes nothing.
use mathlib.Core.Path.{◌≡◌}
use Prim.Native.Nat.{ℕ, ◌<◌}
use lib.ListN.{get_or}
use Rattle.waterfall.specs.Seniority.{rank_in}
use Rattle.waterfall.specs.Limits.{standing_at, capped}
use Rattle.waterfall.proofs.ranks.Given as goal

abbrev pub invariant-loop-m : goal.invariant-loop-m
invariant-loop-m l = (k : ℕ) → k < l.m → get_or l.rank-items k 0 ≡ rank_in l.set (λ o. capped (standing_at l.columns.d l.columns.won l.columns.expected o)) k
