-- Worked lists of calls for document 02, C-16: the running sums and the reading of the requirement after each call. Above each list stands the sentence that
-- decides it, beside each call what follows from it; every figure is worked out by hand. Assumes nothing.
use mathlib.Core.Path.{◌≡◌, refl}
use mathlib.Core.List.{List, [], ◌∷◌}
use Prim.Native.Nat.{ℕ}
use lib.IntN.{ℤ, neg_ℤ, pos}
use Rattle.machine.specs.Machine.{step}
use Rattle.machine.specs.Running.{Kept, nothing_kept, kept_step, Reading, reading}
use Rattle.machine.specs.Computing.{computing}
use Rattle.machine.proofs.CallBytes.{−◌, head, pool, member, round, bid, close, allocate, tear, call, pay, move, miss, finish, sale, withdraw}

-- after a call: its answer, the running sums of pools 0 and 1, and what is read
abbrev Seen : Type 0
Seen = ℕ × ℤ × ℤ × Reading

pub record Watched : Type 0 where
  pub bytes : List ℕ
  pub seen : Seen

infix 3 ◌gives◌
abbrev ◌gives◌ : List ℕ → Seen → Watched
bytes gives seen = record { bytes = bytes; seen = seen }

-- a number of cents below 0
abbrev minus : ℕ → ℤ
minus n = neg_ℤ (pos n)

-- what is kept and read after each call of a list
abbrev watch : Kept → List Watched → List Watched
watch k [] = []
watch k (w ∷ ws) =
    let next = kept_step k w.bytes in
    record { bytes = w.bytes; seen = ((step k.state w.bytes).answer, next.gone 0, next.gone 1, reading next) } ∷ watch next ws

abbrev pub AllSeen : List (List Watched) → Type 0
AllSeen [] = Unit {0}
AllSeen (ws ∷ lists) = (watch nothing_kept ws ≡ ws) × AllSeen lists

-- "a running sum of the prices of units that have left the house (all that aren't open)": each call that moves the sum of a pool, in one case from before HEAD
-- to FINISH. Losses 100 and 50; two pools, members 0 and 1
abbrev pub each_call : List Watched
each_call =
    -- "with no case the reading is declined by 2", and so are the calls before HEAD
    (close gives (2, pos 0, pos 0, (2, 0)))
    -- "from this sum and the two losses alone": neither margin, fund nor house money
    ∷ (head 2 1 3 100 50 10 10 10 gives (0, pos 0, pos 0, (0, 150)))
    -- the units put up are open
    ∷ (pool 0 4 0 gives (0, pos 0, pos 0, (0, 150)))
    ∷ (pool 1 3 0 gives (0, pos 0, pos 0, (0, 150)))
    ∷ (member 0 40 2 3 0 0 gives (0, pos 0, pos 0, (0, 150)))
    ∷ (member 1 40 2 0 0 0 gives (0, pos 0, pos 0, (0, 150)))
    ∷ (round ((− 20) ∷ (− 20) ∷ []) gives (0, pos 0, pos 0, (0, 150)))
    -- a bid sells nothing before CLOSE
    ∷ (bid 0 0 2 (− 10) gives (0, pos 0, pos 0, (0, 150)))
    ∷ (bid 0 1 1 (− 15) gives (0, pos 0, pos 0, (0, 150)))
    -- below the reserve: it will win nothing
    ∷ (bid 1 1 3 (− 21) gives (0, pos 0, pos 0, (0, 150)))
    -- withdrawn: so will this
    ∷ (bid 1 0 3 (− 20) gives (0, pos 0, pos 0, (0, 150)))
    ∷ (withdraw 0 3 gives (0, pos 0, pos 0, (0, 150)))
    -- 2 at −10 and 1 at −15: 20 + 15 = 35; one unit of pool 0 and three of pool 1 stay open
    ∷ (close gives (0, minus 35, pos 0, (0, 185)))
    -- a unit is open: declined by 11, and nothing is added
    ∷ (call gives (11, minus 35, pos 0, (0, 185)))
    -- the open unit of pool 0 at −5
    ∷ (tear 0 (− 5) gives (0, minus 40, pos 0, (0, 190)))
    -- member 0 lacks 3 in pool 1: 3 units at 7, 190 − 21 = 169
    ∷ (allocate 1 7 gives (0, minus 40, pos 21, (0, 169)))
    -- prefunded is 30 + 80 = 110, so 59 are called: 30 and 29
    ∷ (call gives (0, minus 40, pos 21, (0, 169)))
    ∷ (pay 0 10 gives (0, minus 40, pos 21, (0, 169)))
    -- member 0 owes 20: the unit at −15 and one at −10 pass to it at 0, which saves 25; −40 + 25 = −15
    ∷ (move 0 gives (0, minus 15, pos 21, (0, 144)))
    -- it owes nothing now: declined by 14
    ∷ (move 0 gives (14, minus 15, pos 21, (0, 144)))
    -- its two moved units of pool 0 at −2 instead of 0, its three allocated ones of pool 1 at −2 instead of 7: −15 − 4 = −19 and 21 − 27 = −6
    ∷ (miss 0 (− 2) gives (0, minus 19, minus 6, (0, 175)))
    -- member 1 owes: declined by 15
    ∷ (finish gives (15, minus 19, minus 6, (0, 175)))
    ∷ (pay 1 29 gives (0, minus 19, minus 6, (0, 175)))
    ∷ (finish gives (0, minus 19, minus 6, (0, 175)))
    -- after FINISH nothing is taken, and the reading is there
    ∷ (tear 0 0 gives (2, minus 19, minus 6, (0, 175)))
    ∷ []

-- "hedge loss + other loss − the prices of all units not open, at least 0": the reading is held at 0, the sum is not. Loss 10; pool 0 is sold at a gain
abbrev pub held_at0 : List Watched
held_at0 =
    (head 2 1 1 10 0 5 0 0 gives (0, pos 0, pos 0, (0, 10)))
    ∷ (pool 0 2 1 gives (0, pos 0, pos 0, (0, 10)))
    ∷ (pool 1 2 0 gives (0, pos 0, pos 0, (0, 10)))
    ∷ (member 0 9 0 2 0 0 gives (0, pos 0, pos 0, (0, 10)))
    -- 2 × 20 = 40 are above the loss by 30
    ∷ (sale 0 0 20 gives (0, pos 40, pos 0, (0, 0)))
    ∷ (round ((− 20) ∷ (− 20) ∷ []) gives (0, pos 40, pos 0, (0, 0)))
    ∷ (bid 1 0 1 (− 20) gives (0, pos 40, pos 0, (0, 0)))
    -- 10 − 40 + 20 = −10
    ∷ (close gives (0, pos 40, minus 20, (0, 0)))
    -- 10 − 40 + 20 + 25 = 15
    ∷ (allocate 1 (− 25) gives (0, pos 40, minus 45, (0, 15)))
    -- the allocated unit at 25 instead of −25: 10 − 40 + 20 − 25 = −35
    ∷ (miss 0 25 gives (0, pos 40, pos 5, (0, 0)))
    ∷ (finish gives (0, pos 40, pos 5, (0, 0)))
    ∷ []

-- no case comes of a HEAD that is declined, or of bytes that are no call
abbrev pub no_case : List Watched
no_case =
    (head 0 1 1 10 0 0 0 0 gives (5, pos 0, pos 0, (2, 0)))
    ∷ ([] gives (1, pos 0, pos 0, (2, 0)))
    ∷ ((255 ∷ 0 ∷ 0 ∷ []) gives (1, pos 0, pos 0, (2, 0)))
    ∷ (sale 0 0 5 gives (2, pos 0, pos 0, (2, 0)))
    ∷ []

-- the sums are kept by pool: what one pool gains and the other loses leaves the reading as it is. Units at a price of 0 have left, and add nothing
abbrev pub two_pools : List Watched
two_pools =
    (head 2 1 1 0 7 0 0 50 gives (0, pos 0, pos 0, (0, 7)))
    ∷ (pool 0 3 0 gives (0, pos 0, pos 0, (0, 7)))
    ∷ (pool 1 2 0 gives (0, pos 0, pos 0, (0, 7)))
    ∷ (member 0 0 0 0 0 0 gives (0, pos 0, pos 0, (0, 7)))
    ∷ (round (0 ∷ 0 ∷ []) gives (0, pos 0, pos 0, (0, 7)))
    ∷ (bid 0 0 2 3 gives (0, pos 0, pos 0, (0, 7)))
    ∷ (bid 1 0 1 0 gives (0, pos 0, pos 0, (0, 7)))
    -- 2 at 3, 1 at 0
    ∷ (close gives (0, pos 6, pos 0, (0, 1)))
    ∷ (round ((− 9) ∷ (− 9) ∷ []) gives (0, pos 6, pos 0, (0, 1)))
    -- the bids of the first round add nothing again
    ∷ (bid 0 0 1 (− 6) gives (0, pos 6, pos 0, (0, 1)))
    -- 7 − 6 + 6 = 7
    ∷ (close gives (0, pos 0, pos 0, (0, 7)))
    -- 7 − 7 = 0 is the reading, not less
    ∷ (tear 1 7 gives (0, pos 0, pos 7, (0, 0)))
    ∷ (finish gives (0, pos 0, pos 7, (0, 0)))
    ∷ []

-- MOVE takes allocated units before sold ones, in any pool, and each saves what its own price was; MISS tears what was allocated and what was moved, each at
-- its own old price
abbrev pub moved_and_missed : List Watched
moved_and_missed =
    (head 2 1 3 0 0 0 0 0 gives (0, pos 0, pos 0, (0, 0)))
    ∷ (pool 0 2 0 gives (0, pos 0, pos 0, (0, 0)))
    ∷ (pool 1 2 0 gives (0, pos 0, pos 0, (0, 0)))
    ∷ (member 0 20 0 1 0 0 gives (0, pos 0, pos 0, (0, 0)))
    ∷ (member 1 20 0 1 0 0 gives (0, pos 0, pos 0, (0, 0)))
    ∷ (round ((− 30) ∷ (− 30) ∷ []) gives (0, pos 0, pos 0, (0, 0)))
    ∷ (bid 0 0 2 (− 30) gives (0, pos 0, pos 0, (0, 0)))
    ∷ (close gives (0, minus 60, pos 0, (0, 60)))
    -- one unit each
    ∷ (allocate 1 (− 4) gives (0, minus 60, minus 8, (0, 68)))
    -- prefunded 40: 28 called, 14 each
    ∷ (call gives (0, minus 60, minus 8, (0, 68)))
    -- owes 14: both allocated units, the higher member's first, save 8, and then one sold unit 30
    ∷ (move 0 gives (0, minus 30, pos 0, (0, 30)))
    -- nothing is allocated to member 1 any more: declined by 16
    ∷ (miss 1 (− 1) gives (16, minus 30, pos 0, (0, 30)))
    -- three moved units, one of pool 0 and two of pool 1, at −5 instead of 0
    ∷ (miss 0 (− 5) gives (0, minus 35, minus 10, (0, 45)))
    ∷ []

-- ---- the theorem

pub requirements-hold : AllSeen (each_call ∷ held_at0 ∷ no_case ∷ two_pools ∷ moved_and_missed ∷ [])
unfolding computing
requirements-hold = (refl, (refl, (refl, (refl, (refl, tt)))))
