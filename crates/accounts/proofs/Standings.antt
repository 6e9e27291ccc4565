-- A member's standing, as the machine has it, from the tables. Assumes nothing.
use mathlib.Core.Path.{◌≡◌, ◌∙◌}
use mathlib.Core.Bool.{Bool, false}
use mathlib.Core.List.{List}
use Prim.Native.Nat.{ℕ, ◌≤◌, ◌<◌}
use lib.ListN.{get_or}
use Rattle.lists.specs.Adding.{most64}
use Rattle.machine.specs.Roll.{sold_by_agreement}
use Rattle.machine.specs.State as M
use Rattle.machine.specs.Result.{worst_reserve, standing}
use Rattle.accounts.specs.declared.members.Members.{Members}
use Rattle.accounts.specs.declared.rounds.Rounds.{Rounds}
use Rattle.accounts.specs.declared.bids.Bids.{Bids}
use Rattle.accounts.specs.Members.{over_pools, without_pools, view_members}
use Rattle.accounts.specs.Rounds.{worsts_of, view_rounds}
use Rattle.accounts.specs.Bids.{won_table, gain_table, view_bids}
use Rattle.accounts.proofs.Shortfalls.{expected-over-pools}
use Rattle.accounts.proofs.ViewRounds.{worsts-shown}
use Rattle.accounts.proofs.Tables.{Bidden, won-over-pools, gain-table-at}

-- "D sums units won × (price − worst reserve) over all pools", where it fits 64 bits
pub D-shown : (c : M.Case) (pools : ℕ) (r : Rounds) (b : Bids) (m : ℕ) → c.rounds ≡ view_rounds pools r → c.bids ≡ view_bids b
    → b.kept ≤ 256 → pools ≤ 4 → r.held ≤ 2 → ((i : ℕ) → i < b.kept → get_or b.pool i 0 < pools) → m < 32 → (standing c m).D ≤ most64
    → get_or (gain_table b (worsts_of r)) m 0 ≡ (standing c m).D
unfolding standing
D-shown c pools r b m rounds bids few most held inside l fits =
    gain-table-at b (worsts_of r) (worst_reserve (view_rounds pools r)) m few l (λ i k. worsts-shown pools r (get_or b.pool i 0) most (inside i k) held)
    (rw (rounds, bids) at fits)
    ∙ rw (rounds, bids)

-- "W is units won"
pub W-shown : (c : M.Case) (x : Members) (b : Bids) (m : ℕ) → c.bids ≡ view_bids b → x.won ≡ won_table b
    → b.kept ≤ 256 → Bidden b → m < 32 → get_or (over_pools x.won) m 0 ≡ (standing c m).W
unfolding standing
W-shown c x b m bids won few h l = rw won (won-over-pools b few h m l ∙ rw bids)

-- "expected units over all pools", but for those "in a pool so sold"
pub expected-shown : (c : M.Case) (x : Members) (out : List Bool) (m : ℕ) → c.members ≡ view_members x → ((p : ℕ) → p < 4 → get_or out p false ≡ sold_by_agreement c.roll p) → m < 32
    → get_or (over_pools (without_pools x.expected out)) m 0 ≡ (standing c m).expected
unfolding standing
expected-shown c x out m members same l = expected-over-pools x m l out (sold_by_agreement c.roll) same ∙ rw members
