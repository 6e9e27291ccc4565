-- The tables of units won and of gains, as the machine adds them up over the bids. Assumes nothing.
use mathlib.Core.Path.{◌≡◌, refl, sym, ap, ◌∙◌}
use mathlib.Core.Bool.{◌&&◌}
use mathlib.Core.List.{List, map}
use Prim.Native.Nat.{ℕ, ◌+◌, ◌-◌, ◌*◌, ◌≤◌, ◌<◌, min}
use native.Mathlib.Nat.{min-eq_left}
use native.Mathlib.Omega.{arith}
use lib.Dec.{ltb, eqb}
use lib.ListN.{length, get_or, set}
use lib.Seq.{get_or-set_same, get_or-set_other}
use borrow.Author.Tests.{eqb-true, eq-eqb, ltb-true}
use Rattle.lists.specs.Lists.{when◌then◌else◌, sum, sum_to, tab, places, keep, sum_by_key}
use Rattle.lists.specs.Adding.{most16, most64, held_to}
use Rattle.lists.proofs.Bools.{bool-ext, and_left, and_right, and_both, by-test, same-choice}
use Rattle.lists.proofs.Sums.{sum_to-ext, sum_to-next}
use Rattle.lists.proofs.Places.{map-tab, sum-tab, get_or-tab, tab-ext}
use Rattle.lists.proofs.Keep.{keep-and, sum_kept, sum-keys}
use Rattle.lists.proofs.Each.{each-kept, each-tab}
use Rattle.lists.proofs.Adding.{length-sums, length-held, held_at}
use Rattle.machine.specs.Roll as M
use Rattle.machine.specs.Calls.{won_by_member}
use Rattle.accounts.specs.declared.bids.Bids.{Bids}
use Rattle.accounts.specs.Members.{over_pools_at, over_pools}
use Rattle.accounts.specs.Bids.{put_bid, withdraw_bid, won_table, gain_at, gain_table, bid_at, view_bids}
use Rattle.accounts.proofs.ViewBids.{BidsLong}

-- a sum by key over the places that are used
by_key : (n : ℕ) (key value : ℕ → ℕ) (kept : ℕ) → kept ≤ 256
    → sum_by_key n key value (places (min kept 256)) ≡ tab n (λ k. sum_to kept (λ i. when eqb (key i) k then value i else 0))
unfolding sum_by_key
by_key n key value kept few =
    rw (min-eq_left few)
    (tab-ext n _ _
    (λ k l.
    ap sum (map-tab kept (λ i. when eqb (key i) k then value i else 0) (λ i. i))
    ∙ sum-tab kept (λ i. when eqb (key i) k then value i else 0)))

-- one such sum, where it fits what it is held to
held-by-key : (most n : ℕ) (key value : ℕ → ℕ) (kept k total : ℕ) → k < n → kept ≤ 256
    → sum_to kept (λ i. when eqb (key i) k then value i else 0) ≡ total → total ≤ most
    → get_or (held_to most (sum_by_key n key value (places (min kept 256)))) k 0 ≡ total
held-by-key most n key value kept k total l few sums fits =
    let sums_at : ℕ → ℕ = λ k. sum_to kept (λ i. when eqb (key i) k then value i else 0) in
    let at : get_or (sum_by_key n key value (places (min kept 256))) k 0 ≡ total =
    ap (λ (r : List ℕ). get_or r k 0) (by_key n key value kept few) ∙ get_or-tab n sums_at k 0 l ∙ sums in
    held_at most (sum_by_key n key value (places (min kept 256))) k ∙ rw at (min-eq_left fits)

-- a place is that of one member and one pool
place_same : (a b m p : ℕ) → b < 4 → p < 4 → eqb (4 * a + b) (4 * m + p) ≡ (eqb a m && eqb b p)
place_same a b m p low inside =
    bool-ext (eqb (4 * a + b) (4 * m + p)) (eqb a m && eqb b p)
    (λ t.
    let e = eqb-true (4 * a + b) (4 * m + p) t in
    and_both (eqb a m) (eqb b p) (eq-eqb a m (omega arith)) (eq-eqb b p (omega arith)))
    (λ t.
    let e = eqb-true a m (and_left (eqb a m) (eqb b p) t) in
    let f = eqb-true b p (and_right (eqb a m) (eqb b p) t) in
    eq-eqb (4 * a + b) (4 * m + p) (omega arith))

-- ---- units won

-- the bids kept are in pools that a case has, and the units that a member won in a pool fit 16 bits
pub record Bidden (x : Bids) : Type 0 where
  pub pool : (i : ℕ) → i < x.kept → get_or x.pool i 0 < 4
  pub won : (m p : ℕ) → won_by_member (view_bids x) m p ≤ most16

module _ (x : Bids) (few : x.kept ≤ 256) (h : Bidden x) where
  -- the units that a member won in a pool
  pub won-table-at : (m p : ℕ) → m < 32 → p < 4 → get_or (won_table x) (4 * m + p) 0 ≡ won_by_member (view_bids x) m p
  unfolding won_table won_by_member
  won-table-at m p l inside =
      held-by-key most16 128 (λ i. 4 * get_or x.member i 0 + get_or x.pool i 0) (λ i. get_or x.won i 0) x.kept (4 * m + p) _ (omega arith) few
      (sum_to-ext x.kept _ (λ i. when eqb (get_or x.member i 0) m && eqb (get_or x.pool i 0) p then get_or x.won i 0 else 0)
      (λ i k. rw (place_same (get_or x.member i 0) (get_or x.pool i 0) m p (h.pool i k) inside))
      ∙ sym (sum_kept x.kept (λ (b : M.Bid). eqb b.member m && eqb b.pool p) (λ b. b.won) (bid_at x)))
      (h.won m p)

  -- the units that a member won in all pools
  pub won-over-pools : (m : ℕ) → m < 32
      → get_or (over_pools (won_table x)) m 0 ≡ sum (map (λ b. b.won) (keep (λ b. eqb b.member m) (view_bids x)))
  unfolding over_pools over_pools_at won_by_member
  won-over-pools m l =
      let own : List M.Bid = keep (λ b. eqb b.member m) (view_bids x) in
      get_or-tab 32 (over_pools_at (won_table x)) m 0 l
      ∙ sum_to-ext 4 _ (λ p. sum (map (λ b. b.won) (keep (λ b. eqb b.pool p) own)))
      (λ p k.
      won-table-at m p l k
      ∙ ap (λ (bs : List M.Bid). sum (map (λ b. b.won) bs)) (keep-and (λ b. eqb b.member m) (λ b. eqb b.pool p) (view_bids x)))
      ∙ sum-keys 4 (λ b. b.won) (λ b. b.pool) own
      (each-kept (λ b. b.pool < 4) (λ b. eqb b.member m) (view_bids x) (each-tab (λ b. b.pool < 4) x.kept (bid_at x) h.pool))

-- D of a member, where `worst` are the worst reserves of the bids' pools, and the sum fits 64 bits
pub gain-table-at : (x : Bids) (worsts : List ℕ) (worst : ℕ → ℕ) (m : ℕ) → x.kept ≤ 256 → m < 32
    → ((i : ℕ) → i < x.kept → get_or worsts (get_or x.pool i 0) 0 ≡ worst (get_or x.pool i 0))
    → sum (map (λ b. b.won * (b.price - worst b.pool)) (keep (λ b. eqb b.member m) (view_bids x))) ≤ most64
    → get_or (gain_table x worsts) m 0 ≡ sum (map (λ b. b.won * (b.price - worst b.pool)) (keep (λ b. eqb b.member m) (view_bids x)))
unfolding gain_table gain_at
gain-table-at x worsts worst m few l same fits =
    held-by-key most64 32 (λ i. get_or x.member i 0) (gain_at x worsts) x.kept m _ l few
    (sum_to-ext x.kept _ (λ i. when eqb (get_or x.member i 0) m then get_or x.won i 0 * (get_or x.price i 0 - worst (get_or x.pool i 0)) else 0)
    (λ i k. rw (same i k))
    ∙ sym (sum_kept x.kept (λ (b : M.Bid). eqb b.member m) (λ b. b.won * (b.price - worst b.pool)) (bid_at x)))
    fits

pub won-table-long : (x : Bids) → length (won_table x) ≡ 128
unfolding won_table
won-table-long x = length-held most16 _ ∙ length-sums 128 _ _ (places (min x.kept 256))

-- ---- a withdrawal changes no units won, and a new bid has won nothing

pub won-table-withdraw : (x : Bids) (n : ℕ) → won_table (withdraw_bid x n) ≡ won_table x
unfolding withdraw_bid won_table
won-table-withdraw x n = refl

pub won-table-put : (x : Bids) (round pool m units price : ℕ) → BidsLong x → won_table (put_bid x round pool m units price) ≡ won_table x
unfolding put_bid won_table
won-table-put x round pool m units price w =
    by-test (λ (y : Bids). won_table y ≡ won_table x) (ltb x.kept 256) (λ t. ap (held_to most16) (more (ltb-true x.kept 256 t))) (λ t. refl)
  where
    old : ℕ → ℕ → ℕ
    old k i = when eqb (4 * get_or x.member i 0 + get_or x.pool i 0) k then get_or x.won i 0 else 0

    key : ℕ → ℕ
    key i = 4 * get_or (set x.member x.kept m) i 0 + get_or (set x.pool x.kept pool) i 0

    value : ℕ → ℕ
    value i = get_or (set x.won x.kept 0) i 0

    last : (k : ℕ) → x.kept < 256 → (when eqb (key x.kept) k then value x.kept else 0) ≡ 0
    last k room = rw (get_or-set_same x.won x.kept 0 0 (omega (arith, w.won))) (same-choice (eqb (key x.kept) k) 0)

    earlier : (k i : ℕ) → i < x.kept → (when eqb (key i) k then value i else 0) ≡ old k i
    earlier k i l =
        let apart : i ≡ x.kept → ⊥ = omega arith in
        rw (get_or-set_other x.member x.kept i m 0 apart, get_or-set_other x.pool x.kept i pool 0 apart, get_or-set_other x.won x.kept i 0 0 apart)

    more : x.kept < 256
        → sum_by_key 128 key value (places (min (x.kept + 1) 256))
        ≡ sum_by_key 128 (λ i. 4 * get_or x.member i 0 + get_or x.pool i 0) (λ i. get_or x.won i 0) (places (min x.kept 256))
    more room =
        by_key 128 key value (x.kept + 1) (omega arith)
        ∙ tab-ext 128 _ (λ k. sum_to x.kept (old k))
        (λ k l.
        omega (
          arith,
          sum_to-next x.kept (λ i. when eqb (key i) k then value i else 0),
          sum_to-ext x.kept (λ i. when eqb (key i) k then value i else 0) (old k) (earlier k),
          last k room,
        ))
        ∙ sym (by_key 128 (λ i. 4 * get_or x.member i 0 + get_or x.pool i 0) (λ i. get_or x.won i 0) x.kept (omega arith))
