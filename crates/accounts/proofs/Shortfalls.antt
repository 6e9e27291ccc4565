-- The shortfalls of the members in a pool, and their units over the four pools, as the machine says them. Assumes nothing.
use mathlib.Core.Path.{◌≡◌, sym, ap, ◌∙◌}
use mathlib.Core.Bool.{Bool, false}
use mathlib.Core.List.{List}
use Prim.Native.Nat.{ℕ, ◌+◌, ◌*◌, ◌%◌, ◌≤◌, ◌<◌}
use native.Mathlib.Omega.{arith}
use lib.Dec.{ltb}
use lib.ListN.{length, get_or}
use borrow.Author.Tests.{lt-ltb}
use Rattle.lists.specs.Lists.{when◌then◌else◌, sum, map_from}
use Rattle.lists.proofs.Bools.{either}
use Rattle.lists.proofs.Places.{length-tab, get_or-tab, sum-tab, map_from-tab}
use Rattle.lists.proofs.Sums.{bound-past, sum_to-ext}
use Rattle.sets.specs.Set.{member, of_members}
use Rattle.splitting.specs.Split.{split, split_among}
use Rattle.machine.specs.State as M
use Rattle.machine.specs.Calls.{shortfall, total_shortfall, won_by_member}
use Rattle.accounts.specs.declared.members.Members.{Members}
use Rattle.accounts.specs.declared.bids.Bids.{Bids}
use Rattle.accounts.specs.Bids.{won_table, view_bids}
use Rattle.accounts.specs.Members.{shortfall_at, shortfalls_of, over_pools_at, over_pools, without_pools, view_members}
use Rattle.accounts.proofs.ViewMembers.{member-shown}
use Rattle.accounts.proofs.Tables.{Bidden, won-table-at}
use Rattle.accounts.proofs.OverMembers.{Over, over-sum, over-split, over-members}

-- ---- a member's units in a pool, and over the four pools

module _ (x : Members) (m : ℕ) (l : m < 32) where
  pub expected-shown : (p : ℕ) → p < 4 → get_or (M.member_at (view_members x) m).expected p 0 ≡ get_or x.expected (4 * m + p) 0
  expected-shown p h = rw (member-shown x m l) (get_or-tab 4 (λ p. get_or x.expected (4 * m + p) 0) p 0 h)

  pub allocated-shown : (p : ℕ) → p < 4 → get_or (M.member_at (view_members x) m).allocated p 0 ≡ get_or x.allocated (4 * m + p) 0
  allocated-shown p h = rw (member-shown x m l) (get_or-tab 4 (λ p. get_or x.allocated (4 * m + p) 0) p 0 h)

  -- "expected units over all pools", but for those left out
  pub expected-over-pools : (out : List Bool) (s : ℕ → Bool) → ((p : ℕ) → p < 4 → get_or out p false ≡ s p)
      → get_or (over_pools (without_pools x.expected out)) m 0 ≡ sum (map_from 0 (λ p n. when s p then 0 else n) (M.member_at (view_members x) m).expected)
  unfolding over_pools over_pools_at without_pools
  expected-over-pools out s same =
      let one : ℕ → ℕ = λ p. when s p then 0 else get_or x.expected (4 * m + p) 0 in
      get_or-tab 32 (over_pools_at (without_pools x.expected out)) m 0 l
      ∙ sum_to-ext 4 _ one
      (λ p k.
      let pool : (4 * m + p) % 4 ≡ p = omega arith in
      get_or-tab 128 (λ j. when get_or out (j % 4) false then 0 else get_or x.expected j 0) (4 * m + p) 0 (omega arith) ∙ rw (pool, same p k))
      ∙ sym (rw (member-shown x m l) (ap sum (map_from-tab 4 (λ p n. when s p then 0 else n) (λ p. get_or x.expected (4 * m + p) 0)) ∙ sum-tab 4 one))

-- ---- shortfalls

module _ (s : ℕ) (expected won allocated : List ℕ) (pool : ℕ) where
  pub shortfalls-long : length (shortfalls_of s expected won allocated pool) ≡ 32
  unfolding shortfalls_of of_members
  shortfalls-long = length-tab 32 _

  -- none is above what each is expected to win
  pub shortfalls-le : (most : ℕ) → ((m : ℕ) → m < 32 → get_or expected (4 * m + pool) 0 ≤ most)
      → (k : ℕ) → get_or (shortfalls_of s expected won allocated pool) k 0 ≤ most
  unfolding shortfalls_of of_members shortfall_at
  shortfalls-le most within =
      bound-past most (shortfalls_of s expected won allocated pool)
      (λ k l.
      let low : k < 32 = omega (arith, shortfalls-long) in
      let few : shortfall_at expected won allocated pool k ≤ most = omega (arith, within k low) in
      rw (get_or-tab 32 (λ m. when member s m then (when ltb pool 4 then shortfall_at expected won allocated pool m else 0) else 0) k 0 low)
      (either (λ n. n ≤ most) (member s k) (either (λ n. n ≤ most) (ltb pool 4) few (omega arith)) (omega arith)))

-- a case c of the members x in a pool: the units won are those of the case's bids
pub record Short (c : M.Case) (x : Members) (pool : ℕ) : Type 0 where
  pub inside : pool < 4
  pub shown : c.members ≡ view_members x
  pub won : (m : ℕ) → m < 32 → get_or x.won (4 * m + pool) 0 ≡ won_by_member c.bids m pool

-- where the members have the bids' table of units won
pub short : (c : M.Case) (x : Members) (b : Bids) (pool : ℕ) → c.members ≡ view_members x → c.bids ≡ view_bids b → x.won ≡ won_table b
    → b.kept ≤ 256 → Bidden b → pool < 4 → Short c x pool
short c x b pool members bids won few h inside = record {
  inside = inside;
  shown = members;
  won = λ m l. rw (won, bids) (won-table-at b few h m pool l inside);
}

module _ (c : M.Case) (x : Members) (pool : ℕ) (h : Short c x pool) where
  short-at : (m : ℕ) → m < 32 → (when ltb pool 4 then shortfall_at x.expected x.won x.allocated pool m else 0) ≡ shortfall c pool m
  unfolding shortfall_at shortfall
  short-at m l =
      rw (lt-ltb pool 4 h.inside, h.shown, expected-shown x m l pool h.inside, allocated-shown x m l pool h.inside, h.won m l)

  -- "a member's shortfall", and 0 at the other places
  pub over-shortfalls : Over c.head.set (shortfall c pool) (shortfalls_of c.head.set x.expected x.won x.allocated pool)
  unfolding shortfalls_of
  over-shortfalls = over-members c.head.set (shortfall c pool) _ (λ m l e. short-at m l)

  -- "total shortfall"
  pub total-shown : sum (shortfalls_of c.head.set x.expected x.won x.allocated pool) ≡ total_shortfall c pool
  unfolding total_shortfall
  total-shown = over-sum c.head.set (shortfall c pool) _ over-shortfalls

  -- "split by shortfall, in member order"
  pub split-shown : (q : ℕ) → split_among 32 (M.in_set c.head) q (shortfall c pool) ≡ split q (shortfalls_of c.head.set x.expected x.won x.allocated pool)
  split-shown = over-split c.head.set (shortfall c pool) _ over-shortfalls
