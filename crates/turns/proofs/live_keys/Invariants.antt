-- `turns::live_keys` meets its contract. The invariant: the places passed hold their keys. Assumes nothing.
use mathlib.Core.Path.{◌≡◌}
use Prim.Native.Nat.{ℕ, ◌+◌, ◌<◌}
use lib.ListN.{get_or}
use Rattle.turns.specs.Keys.{key_at, live_key}
use Rattle.turns.proofs.live_keys.Given as goal

abbrev pub invariant-loop-j : goal.invariant-loop-j
invariant-loop-j l = (k : ℕ) → k < l.j → get_or l.key-items k 0 ≡ live_key (get_or l.counts (4 + k) 0) (key_at l.allocation l.prices k)
