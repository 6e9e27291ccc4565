-- What the bids of a round win in the four pools, taken at once: what the machine gives the bids at CLOSE. Assumes nothing.
use mathlib.Core.Path.{◌≡◌, refl, sym, ap, ◌∙◌}
use mathlib.Core.Bool.{Bool, true, false}
use mathlib.Core.List.{List, [], ◌∷◌}
use Prim.Native.Nat.{ℕ, ◌≤◌, ◌<◌, min}
use native.Mathlib.Nat.{min-eq_left}
use native.Mathlib.Omega.{arith}
use lib.ListN.{get_or}
use borrow.Author.Tests.{lt-ltb}
use Rattle.lists.specs.Lists.{when◌then◌else◌, tab, map_from}
use Rattle.lists.specs.Adding.{most16}
use Rattle.lists.proofs.Places.{get_or-tab, tab-ext, map_from-tab}
use Rattle.auction.specs.Price.{price_limit}
use Rattle.auction.specs.Limits.{unit_limit}
use Rattle.machine.specs.Roll as M
use Rattle.machine.specs.State as S
use Rattle.machine.specs.Calls.{in_round, reserve, won_in, won_given, bids_after}
use Rattle.accounts.specs.declared.bids.Bids.{Bids}
use Rattle.accounts.specs.Bids.{wins_of, in_round_at, with_wins, bid_at, view_bids}
use Rattle.accounts.proofs.ViewBids.{BidsLong}
use Rattle.accounts.proofs.Winning.{wins-in, wins-le}

-- ---- runs of units won

-- a run of units won for each pool, taken, gives what the machine gives the bids, where each bid has at its place in the run of its pool what the
-- machine has there
view-taken : (x : Bids) (round pools : ℕ) (runs : List (List ℕ)) (wins : ℕ → List ℕ) → x.kept ≤ 256
    → ((i : ℕ) → i < x.kept → get_or x.pool i 0 < pools)
    → ((i : ℕ) → i < x.kept → min (get_or (get_or runs (get_or x.pool i 0) []) i 0) most16 ≡ get_or (wins (get_or x.pool i 0)) i 0)
    → view_bids (with_wins x round runs) ≡ map_from 0 (won_given round (tab pools wins)) (view_bids x)
unfolding with_wins in_round_at won_given in_round
view-taken x round pools runs wins few within agree =
    tab-ext x.kept (bid_at (with_wins x round runs)) (λ i. won_given round (tab pools wins) i (bid_at x i)) (λ i l. given i l (in_round round (bid_at x i)) refl)
    ∙ sym (map_from-tab x.kept (won_given round (tab pools wins)) (bid_at x))
  where
    new : ℕ → ℕ
    new i = when in_round_at x round i then min (get_or (get_or runs (get_or x.pool i 0) []) i 0) most16 else get_or x.won i 0

    at : (i : ℕ) → i < x.kept → get_or (tab 256 new) i 0 ≡ (when in_round round (bid_at x i) then get_or (wins (get_or x.pool i 0)) i 0 else get_or x.won i 0)
    at i l = get_or-tab 256 new i 0 (omega arith) ∙ rw (lt-ltb i x.kept l, agree i l)

    given : (i : ℕ) → i < x.kept → (b : Bool) → in_round round (bid_at x i) ≡ b → bid_at (with_wins x round runs) i ≡ won_given round (tab pools wins) i (bid_at x i)
    given i l true e =
        rw e
        (ap (M.with_won (bid_at x i))
        (at i l ∙ rw e (ap (λ (r : List ℕ). get_or r i 0) (sym (get_or-tab pools wins (get_or x.pool i 0) [] (within i l))))))
    given i l false e = rw e (ap (M.with_won (bid_at x i)) (at i l ∙ rw e))

-- ---- CLOSE

-- a case c with the bids x, and the open units and the reserves of its pools in a round
pub record Closing (c : S.Case) (x : Bids) (round : ℕ) (units reserves : ℕ → ℕ) : Type 0 where
  pub shown : c.bids ≡ view_bids x
  pub long : BidsLong x
  pub pools-most : c.head.pools ≤ 4
  pub inside : (i : ℕ) → i < x.kept → get_or x.pool i 0 < c.head.pools
  pub units-shown : (p : ℕ) → p < c.head.pools → units p ≡ M.open_units c.roll p
  pub units_small : (p : ℕ) → p < c.head.pools → units p ≤ unit_limit
  pub reserves-shown : (p : ℕ) → p < c.head.pools → reserves p ≡ reserve c.rounds round p
  pub reserves-low : (p : ℕ) → p < c.head.pools → reserves p ≤ price_limit

module _ (c : S.Case) (x : Bids) (round : ℕ) (units reserves : ℕ → ℕ) (h : Closing c x round units reserves) where
  -- what a bid wins in a pool of the case
  pub wins-closed : (p : ℕ) → p < c.head.pools → (i : ℕ) → i < x.kept → get_or (wins_of x round p (units p) (reserves p)) i 0 ≡ get_or (won_in c round p) i 0
  wins-closed p l =
      wins-in c x round p (units p) (reserves p) h.shown h.long (h.units-shown p l) (h.reserves-shown p l) (h.units_small p l) (h.reserves-low p l)

  abbrev runs : List (List ℕ)
  runs =
      wins_of x round 0 (units 0) (reserves 0)
      ∷ wins_of x round 1 (units 1) (reserves 1)
      ∷ wins_of x round 2 (units 2) (reserves 2)
      ∷ wins_of x round 3 (units 3) (reserves 3)
      ∷ []

  run_at : (p : ℕ) → p < 4 → get_or runs p [] ≡ wins_of x round p (units p) (reserves p)
  unfolding tab
  run_at p l = get_or-tab 4 (λ p. wins_of x round p (units p) (reserves p)) p [] l

  -- the bids after CLOSE; what a run has for a pool that the case lacks does not matter
  pub view-closed : view_bids (with_wins x round (wins_of x round 0 (units 0) (reserves 0) ∷ wins_of x round 1 (units 1) (reserves 1)
      ∷ wins_of x round 2 (units 2) (reserves 2) ∷ wins_of x round 3 (units 3) (reserves 3) ∷ [])) ≡ bids_after c round
  unfolding bids_after
  view-closed =
      view-taken x round c.head.pools runs (won_in c round) h.long.few h.inside
      (λ i l.
      let p : ℕ = get_or x.pool i 0 in
      let low = h.inside i l in
      let won : ℕ = get_or (wins_of x round p (units p) (reserves p)) i 0 in
      let few : won ≤ most16 =
      omega (arith, wins-le x round p (units p) (reserves p) h.long (h.units_small p low) (h.reserves-low p low) i, h.long.unit-limit i) in
      rw (run_at p (omega (arith, h.pools-most))) (min-eq_left few ∙ wins-closed p low i l))
      ∙ rw (← h.shown)
