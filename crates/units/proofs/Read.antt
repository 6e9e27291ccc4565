-- What is read of the units of a case is what the machine shows, for any member, pool and price. Assumes nothing.
use mathlib.Core.Path.{◌≡◌, refl, sym}
use mathlib.Core.Bool.{Bool, false, ◌&&◌, and-false}
use mathlib.Core.Logic.{⊎_elim}
use mathlib.Core.List.{List}
use Prim.Native.Nat.{ℕ, ◌^◌, ◌≤◌, ◌<◌}
use native.Mathlib.Omega.{arith}
use lib.Dec.{ltb, eqb}
use lib.ListN.{length, get_or}
use borrow.Author.Tests.{le-ltb, ne_eqb}
use Rattle.lists.specs.Lists.{count, tab}
use Rattle.lists.proofs.Bools.{lt-or-le}
use Rattle.lists.proofs.Counts.{count_none}
use Rattle.lists.proofs.Each.{each_more}
use Rattle.machine.specs.Roll.{UnitState, Open, Sold, Allocated, Moved, Torn, Agreed, Entry, Bid, no_bid, price_of, held_by, passed_to}
use Rattle.machine.specs.State.{Case}
use Rattle.machine.specs.Run.{five_counts, holding}
use Rattle.machine.proofs.Invariant.{EntryOk, CaseOk}
use Rattle.machine.proofs.Bounds.{entry-pools, bid-ok, in-set-below}
use Rattle.units.specs.declared.Units.{Units}
use Rattle.units.specs.Places.{sold_at}
use Rattle.units.specs.Shown.{count_of, holding_of, passed_of}
use Rattle.units.proofs.Shown as S
use Rattle.units.proofs.Right.{Right, sold-known}

-- the lists that are lent are those of the bids
pub record Listed (bids : List Bid) (members pools prices : List ℕ) : Type 0 where
  pub member : (b : ℕ) → b < length bids → get_or members b 0 ≡ (get_or bids b no_bid).member
  pub pool : (b : ℕ) → b < length bids → get_or pools b 0 ≡ (get_or bids b no_bid).pool
  pub price : (b : ℕ) → b < length bids → get_or prices b 0 ≡ (get_or bids b no_bid).price

module _ (c : Case) (ok : CaseOk c) (bits : c.head.set < 2 ^ 32) (u : Units) (right : Right c u) where
  -- a member that holds a unit is one of the set
  holder-below : (pool : ℕ) (s : UnitState) → EntryOk c.head c.bids pool s → (m : ℕ) → 32 ≤ m → (held_by c.bids m s ≡ false) × (passed_to m s ≡ false)
  unfolding held_by passed_to
  holder-below pool Open o m far = (refl, refl)
  holder-below pool (Sold b) o m far =
      (ne_eqb (get_or c.bids b no_bid).member m (λ e. absurd (omega (arith, in-set-below c ok bits (get_or c.bids b no_bid).member (bid-ok c ok b o.0).member))), refl)
  holder-below pool (Allocated a price) o m far = let no = ne_eqb a m (λ e. absurd (omega (arith, in-set-below c ok bits a o.0))) in (no, no)
  holder-below pool (Moved a) o m far = let no = ne_eqb a m (λ e. absurd (omega (arith, in-set-below c ok bits a o))) in (no, no)
  holder-below pool (Torn price) o m far = (refl, refl)
  holder-below pool (Agreed a price) o m far = (ne_eqb a m (λ e. absurd (omega (arith, in-set-below c ok bits a o.0))), refl)

  pub passed-read : (m : ℕ) → passed_of u m ≡ count (λ e. passed_to m e.state) c.roll
  unfolding passed_of
  passed-read m =
      ⊎_elim
      (λ l. sym (S.passed-shown u c.bids c.roll right.kept m l))
      (λ far.
      rw (le-ltb m 32 far)
      (sym (count_none (λ e. passed_to m e.state) c.roll (each_more _ _ (λ e o. (holder-below e.pool e.state o m far).1) c.roll ok.roll.each))))
      (lt-or-le m 32)

  module _ (members pools prices : List ℕ) (lent : Listed c.bids members pools prices) where
    known : (b : ℕ) → b < 256 → 0 < get_or u.counts (sold_at b) 0 → b < length c.bids
    known = sold-known c ok u right.kept

    pub counts-read : (pool : ℕ) → pool < 4 → tab 5 (count_of u pools pool) ≡ five_counts c.roll pool
    counts-read = S.five-shown u c.bids c.roll right.kept pools (λ b l has. lent.pool b (known b l has))

    abbrev counts-here : ℕ → ℕ → ℕ → Entry → Bool
    counts-here m pool price e = eqb e.pool pool && held_by c.bids m e.state && eqb (price_of c.bids e.state) price

    -- a member or a pool that no case has
    other-member : (m pool price : ℕ) → 32 ≤ m → (e : Entry) → EntryOk c.head c.bids e.pool e.state → counts-here m pool price e ≡ false
    other-member m pool price far e o = rw ((holder-below e.pool e.state o m far).0, and-false (eqb e.pool pool))

    other-pool : (m pool price : ℕ) → 4 ≤ pool → (e : Entry) → e.pool < length c.pools → counts-here m pool price e ≡ false
    other-pool m pool price far e o = rw (ne_eqb e.pool pool (λ x. absurd (omega (arith, ok.pools.few, ok.head.pools-most))))

    pub holding-read : (m pool price : ℕ) → holding_of u members pools prices m pool price ≡ holding c.bids c.roll m pool price
    unfolding holding_of holding
    holding-read m pool price =
        ⊎_elim
        (λ lp. ⊎_elim
        (λ lm. S.holding-shown u c.bids c.roll right.kept members pools prices
        (λ b l has. let n = known b l has in (lent.member b n, lent.pool b n, lent.price b n)) m pool price lm lp)
        (λ far. rw (le-ltb m 32 far, and-false (ltb pool 4)) (sym (count_none (counts-here m pool price) c.roll (each_more _ _ (other-member m pool price far) c.roll ok.roll.each))))
        (lt-or-le m 32))
        (λ far. rw (le-ltb pool 4 far) (sym (count_none (counts-here m pool price) c.roll (each_more _ _ (other-pool m pool price far) c.roll (entry-pools c ok)))))
        (lt-or-le pool 4)
