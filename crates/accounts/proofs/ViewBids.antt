-- The bids kept, as the machine has them: `new` shows none, `put` one more at the end, and the arrays agree with what is shown. Assumes nothing.
use mathlib.Core.Path.{◌≡◌, refl, sym, ap, ◌∙◌}
use mathlib.Core.Bool.{Bool, true, false, ◌&&◌}
use mathlib.Core.Logic.{⊎_elim}
use mathlib.Core.List.{List, [], ◌∷◌, ◌++◌}
use Prim.Native.Nat.{ℕ, ◌≤◌, ◌<◌, min}
use native.Mathlib.Omega.{arith}
use lib.Dec.{ltb, eqb}
use lib.ListN.{length, get_or, set, length-set, get_or-eq_default}
use lib.Seq.{get_or-set_same, get_or-set_other}
use borrow.Author.Tests.{lt-ltb, le-ltb, ltb-true}
use Rattle.lists.proofs.Each.{set_cases}
use Rattle.lists.specs.Lists.{when◌then◌else◌, tab}
use Rattle.lists.specs.Adding.{most16}
use Rattle.lists.proofs.Bools.{by-test, lt-or-le}
use Rattle.lists.proofs.Places.{tab-more, get_or-tab, get_or-tab-past, length-tab, get_or-same, tab-set, tab-of}
use Rattle.auction.specs.Price.{price_limit}
use Rattle.auction.specs.Limits.{unit_limit}
use Rattle.machine.specs.Roll as M
use Rattle.machine.specs.Calls.{new_bid, in_round}
use Rattle.accounts.specs.declared.bids.Bids.{Bids}
use Rattle.accounts.specs.Bids.{no_bids, put_bid, in_round_at, stands_for, withdraw_bid, with_wins, bid_at, view_bids}

-- ---- what holds of every value that a program reaches

pub record BidsLong (x : Bids) : Type 0 where
  pub few : x.kept ≤ 256
  pub round : length x.round ≡ 256
  pub pool : length x.pool ≡ 256
  pub member : length x.member ≡ 256
  pub units : length x.units ≡ 256
  pub price : length x.price ≡ 256
  pub won : length x.won ≡ 256
  pub stands : length x.stands ≡ 256
  pub unit-limit : (k : ℕ) → get_or x.units k 0 ≤ unit_limit
  pub price-limit : (k : ℕ) → get_or x.price k 0 ≤ price_limit
  -- the places behind the bids have won nothing
  pub unused : (k : ℕ) → x.kept ≤ k → get_or x.won k 0 ≡ 0
  -- and none of them stands
  pub none-stands : (k : ℕ) → x.kept ≤ k → get_or x.stands k false ≡ false

pub new-long : BidsLong no_bids
unfolding no_bids
new-long = record {
  few = omega arith;
  round = refl;
  pool = refl;
  member = refl;
  units = refl;
  price = refl;
  won = refl;
  stands = refl;
  unit-limit = λ k. rw (get_or-same {A = ℕ} 256 k 0) (omega arith);
  price-limit = λ k. rw (get_or-same {A = ℕ} 256 k 0) (omega arith);
  unused = λ k l. get_or-same 256 k 0;
  none-stands = λ k l. get_or-same 256 k false;
}

pub put-long : (x : Bids) (round pool m units price : ℕ) → BidsLong x → units ≤ unit_limit → price ≤ price_limit → BidsLong (put_bid x round pool m units price)
unfolding put_bid
put-long x round pool m units price w few low =
    by-test BidsLong (ltb x.kept 256)
    (λ t.
    record {
      few = omega (arith, ltb-true x.kept 256 t);
      round = simp length-set w.round;
      pool = simp length-set w.pool;
      member = simp length-set w.member;
      units = simp length-set w.units;
      price = simp length-set w.price;
      won = simp length-set w.won;
      stands = simp length-set w.stands;
      unit-limit = λ k. set_cases (λ (v : ℕ). v ≤ unit_limit) x.units x.kept units 0 k (λ e. few) (w.unit-limit k);
      price-limit = λ k. set_cases (λ (v : ℕ). v ≤ price_limit) x.price x.kept price 0 k (λ e. low) (w.price-limit k);
      unused = λ k l. get_or-set_other x.won x.kept k 0 0 (omega arith) ∙ w.unused k (omega arith);
      none-stands = λ k l. get_or-set_other x.stands x.kept k true false (omega arith) ∙ w.none-stands k (omega arith);
    })
    (λ t. w)

pub take_long : (x : Bids) (round : ℕ) (wins : List (List ℕ)) → BidsLong x → BidsLong (with_wins x round wins)
unfolding with_wins in_round_at
take_long x round wins w = record {
  few = w.few;
  round = w.round;
  pool = w.pool;
  member = w.member;
  units = w.units;
  price = w.price;
  won = length-tab 256 new;
  stands = w.stands;
  unit-limit = w.unit-limit;
  price-limit = w.price-limit;
  unused = λ k h.
      ⊎_elim
      (λ l. get_or-tab 256 new k 0 l ∙ rw (le-ltb k x.kept h) (w.unused k h))
      (λ g. get_or-tab-past 256 new k g)
      (lt-or-le k 256);
  none-stands = w.none-stands;
}
  where
    new : ℕ → ℕ
    new i = when in_round_at x round i then min (get_or (get_or wins (get_or x.pool i 0) []) i 0) most16 else get_or x.won i 0

-- ---- what is shown

pub length-view : (x : Bids) → length (view_bids x) ≡ x.kept
length-view x = length-tab x.kept (bid_at x)

pub view-new : view_bids no_bids ≡ []
unfolding no_bids tab
view-new = refl

-- BID
pub view-put : (x : Bids) (round pool m units price : ℕ) → BidsLong x → x.kept < 256
    → view_bids (put_bid x round pool m units price) ≡ view_bids x ++ (new_bid round pool m units price ∷ [])
unfolding put_bid
view-put x round pool m units price w room =
    rw (lt-ltb x.kept 256 room)
    (tab-more x.kept (bid_at x) _ _
    (λ i l. λ j. record {
      round = other x.round i round l j;
      pool = other x.pool i pool l j;
      member = other x.member i m l j;
      units = other x.units i units l j;
      price = other x.price i price l j;
      won = other x.won i 0 l j;
      stands = get_or-set_other x.stands x.kept i true false (omega arith) j;
    })
    (λ j. record {
      round = same x.round round w.round j;
      pool = same x.pool pool w.pool j;
      member = same x.member m w.member j;
      units = same x.units units w.units j;
      price = same x.price price w.price j;
      won = same x.won 0 w.won j;
      stands = get_or-set_same x.stands x.kept true false (omega (arith, w.stands)) j;
    }))
  where
    other : (l : List ℕ) (i v : ℕ) → i < x.kept → get_or (set l x.kept v) i 0 ≡ get_or l i 0
    other l i v h = get_or-set_other l x.kept i v 0 (omega arith)

    same : (l : List ℕ) (v : ℕ) → length l ≡ 256 → get_or (set l x.kept v) x.kept 0 ≡ v
    same l v long = get_or-set_same l x.kept v 0 (omega arith)

-- WITHDRAW
pub withdraw-long : (x : Bids) (n : ℕ) → BidsLong x → BidsLong (withdraw_bid x n)
unfolding withdraw_bid
withdraw-long x n w = record {
  few = w.few;
  round = w.round;
  pool = w.pool;
  member = w.member;
  units = w.units;
  price = w.price;
  won = w.won;
  stands = simp length-set w.stands;
  unit-limit = w.unit-limit;
  price-limit = w.price-limit;
  unused = w.unused;
  none-stands = λ k h. set_cases (λ (s : Bool). s ≡ false) x.stands n false false k (λ e. refl) (w.none-stands k h);
}

pub view-withdraw : (x : Bids) (n : ℕ) → BidsLong x → n < x.kept
    → view_bids (withdraw_bid x n) ≡ set (view_bids x) n (M.withdrawn (get_or (view_bids x) n M.no_bid))
unfolding withdraw_bid
view-withdraw x n w l =
    tab-set x.kept (bid_at x) (bid_at (withdraw_bid x n)) n (M.withdrawn (get_or (view_bids x) n M.no_bid))
    (λ k h other. λ j. record {
      round = get_or x.round k 0;
      pool = get_or x.pool k 0;
      member = get_or x.member k 0;
      units = get_or x.units k 0;
      price = get_or x.price k 0;
      won = get_or x.won k 0;
      stands = get_or-set_other x.stands n k false false other j;
    })
    (λ h. ap (λ (b : Bool). stood (bid_at x n) b) (get_or-set_same x.stands n false false (omega (arith, w.stands, w.few)))
    ∙ ap M.withdrawn (sym (get_or-tab x.kept (bid_at x) n M.no_bid h)))
  where
    -- a bid with another mark
    stood : M.Bid → Bool → M.Bid
    stood b s = record { round = b.round; pool = b.pool; member = b.member; units = b.units; price = b.price; won = b.won; stands = s }

-- whether each bid stands, by its place and as the machine has it
pub marks-shown : (x : Bids) → BidsLong x → x.stands ≡ tab 256 (λ n. (get_or (view_bids x) n M.no_bid).stands)
marks-shown x w =
    tab-of 256 _ false x.stands w.stands
    (λ n l.
    ⊎_elim
    (λ h. sym (ap (λ (b : M.Bid). b.stands) (get_or-tab x.kept (bid_at x) n M.no_bid h)))
    (λ h. w.none-stands n h ∙ sym (ap (λ (b : M.Bid). b.stands) (get_or-eq_default (view_bids x) M.no_bid {n = n} (omega (arith, length-view x)))))
    (lt-or-le n x.kept))

-- whether a bid that stands has the number, by its place and as the machine has it
pub stands-shown : (x : Bids) (round m n : ℕ) → stands_for x round m n ≡ (in_round round (get_or (view_bids x) n M.no_bid) && eqb (get_or (view_bids x) n M.no_bid).member m)
unfolding stands_for in_round_at in_round
stands-shown x round m n =
    ⊎_elim
    (λ l. rw (lt-ltb n x.kept l, get_or-tab x.kept (bid_at x) n M.no_bid l))
    (λ h. rw (le-ltb n x.kept h, get_or-eq_default (view_bids x) M.no_bid {n = n} (omega (arith, length-view x))))
    (lt-or-le n x.kept)

-- ---- the arrays agree with what is shown

module _ (x : Bids) (b : ℕ) (l : b < x.kept) where
  pub bid-shown : get_or (view_bids x) b M.no_bid ≡ bid_at x b
  bid-shown = get_or-tab x.kept (bid_at x) b M.no_bid l

  pub round-shown : get_or x.round b 0 ≡ (get_or (view_bids x) b M.no_bid).round
  round-shown = sym (ap (λ (y : M.Bid). y.round) bid-shown)

  pub pool-shown : get_or x.pool b 0 ≡ (get_or (view_bids x) b M.no_bid).pool
  pool-shown = sym (ap (λ (y : M.Bid). y.pool) bid-shown)

  pub member-shown : get_or x.member b 0 ≡ (get_or (view_bids x) b M.no_bid).member
  member-shown = sym (ap (λ (y : M.Bid). y.member) bid-shown)

  pub units-shown : get_or x.units b 0 ≡ (get_or (view_bids x) b M.no_bid).units
  units-shown = sym (ap (λ (y : M.Bid). y.units) bid-shown)

  pub price-shown : get_or x.price b 0 ≡ (get_or (view_bids x) b M.no_bid).price
  price-shown = sym (ap (λ (y : M.Bid). y.price) bid-shown)

  pub won-shown : get_or x.won b 0 ≡ (get_or (view_bids x) b M.no_bid).won
  won-shown = sym (ap (λ (y : M.Bid). y.won) bid-shown)
