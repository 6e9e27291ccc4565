-- `accounts::bids::Bids::take_wins` meets its contract. The invariant: the places passed hold what they won, and the others stay as they were. Assumes nothing.
use mathlib.Core.Path.{◌≡◌}
use mathlib.Core.List.{[], ◌∷◌}
use Prim.Native.Nat.{ℕ, ◌≤◌, ◌<◌, min}
use lib.ListN.{length, get_or}
use Rattle.lists.specs.Lists.{when◌then◌else◌}
use Rattle.lists.specs.Adding.{most16}
use Rattle.accounts.specs.Bids.{in_round_at}
use Rattle.accounts.proofs.bids.Bids.take_wins.Given as goal

abbrev pub invariant-loop-i : goal.invariant-loop-i
invariant-loop-i l =
    (length l.won-items ≡ 256) × ((k : ℕ) → k < l.i → get_or l.won-items k 0 ≡ (when in_round_at l.self l.round k then min (get_or (get_or (l.a ∷ l.b ∷ l.c ∷ l.d ∷ []) (get_or l.self.pool k 0) []) k 0) most16 else get_or l.self.won k 0))
    × ((k : ℕ) → l.i ≤ k → get_or l.won-items k 0 ≡ get_or l.self.won k 0)
