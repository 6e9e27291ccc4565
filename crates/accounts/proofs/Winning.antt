-- What the bids of a round win of a pool's open units, as the machine says it, at the bids' places; the places behind them win nothing. Assumes nothing.
use mathlib.Core.Path.{◌≡◌, sym, ap, ◌∙◌}
use mathlib.Core.Logic.{⊎_elim}
use mathlib.Core.List.{List, ◌++◌, map}
use Prim.Native.Nat.{ℕ, ◌+◌, ◌-◌, ◌≤◌, ◌<◌}
use native.Mathlib.Omega.{arith}
use lib.ListN.{length, get_or, drop, replicate, length-drop, take-append-drop, get_or-append}
use borrow.Author.Tests.{lt-ltb, le-ltb}
use Rattle.lists.specs.Lists.{when◌then◌else◌, tab, among}
use Rattle.lists.proofs.Bools.{either, lt-or-le}
use Rattle.lists.proofs.Places.{length-tab, get_or-tab, get_or-tab-past, map-tab, tab-ext, tab-same, tab-append, take_places}
use Rattle.lists.proofs.Each.{length-map}
use Rattle.lists.proofs.Among.{among-length}
use Rattle.splitting.specs.Limits.{Answer}
use Rattle.auction.specs.Price.{price_limit}
use Rattle.auction.specs.Auction.{allot}
use Rattle.auction.specs.Limits.{unit_limit, place_limit, allot_into}
use Rattle.auction.proofs.Answers.{accepted}
use Rattle.auction.proofs.Laws.{allot-le}
use Rattle.auction.proofs.Absent.{allot-among, allot-pad}
use Rattle.machine.specs.Roll as M
use Rattle.machine.specs.State as S
use Rattle.machine.specs.Calls.{in_round, in_auction, won_in, reserve}
use Rattle.accounts.specs.declared.bids.Bids.{Bids}
use Rattle.accounts.specs.Bids.{in_round_at, in_auction_at, units_in, wins_of, bid_at, view_bids}
use Rattle.accounts.proofs.ViewBids.{BidsLong, length-view}

-- what the auction leaves in a run of zeros, as the code calls it
pub wins-left : (x : Bids) (round pool n reserve : ℕ) (units : List ℕ) (answer : ℕ) (left : List ℕ) → units ≡ units_in x round pool
    → ◌≡◌ {A = Answer} (answer, left) (allot_into 0 place_limit n reserve units x.price (replicate 256 0)) → left ≡ wins_of x round pool n reserve
unfolding wins_of
wins-left x round pool n reserve units answer left own e =
    ap (λ (a : Answer). a.1) e ∙ ap (λ (us : List ℕ). (allot_into 0 place_limit n reserve us x.price (replicate 256 0)).1) own

module _ (x : Bids) (round pool n reserve : ℕ) (w : BidsLong x) (small : n ≤ unit_limit) (low : reserve ≤ price_limit) where
  -- the units of a bid that is in the auction, at its place and as the machine has it
  abbrev at : ℕ → ℕ
  at i = when in_auction_at x round pool i then get_or x.units i 0 else 0

  abbrev own : M.Bid → ℕ
  own b = when in_auction round pool b then b.units else 0

  abbrev unused : ℕ
  unused = 256 - x.kept

  -- the units of all bids, and 0 behind them
  units-are : units_in x round pool ≡ map own (view_bids x) ++ replicate unused 0
  unfolding units_in in_auction_at in_round_at in_auction in_round
  units-are =
      let all : 256 ≡ x.kept + unused = omega (arith, w.few) in
      ap (λ (n : ℕ). tab n at) all
      ∙ tab-append x.kept unused at
      ∙ cc (
        tab-ext x.kept at (λ i. own (bid_at x i)) (λ i l. rw (lt-ltb i x.kept l)) ∙ sym (map-tab x.kept own (bid_at x)),
        tab-ext unused (λ k. at (x.kept + k)) (λ k. 0) (λ k l. rw (le-ltb (x.kept + k) x.kept (omega arith))) ∙ tab-same unused 0,
      )

  prices-are : x.price ≡ map (λ (b : M.Bid). b.price) (view_bids x) ++ drop x.kept x.price
  prices-are =
      sym (take-append-drop x.kept x.price)
      ∙ ap (λ (l : List ℕ). l ++ drop x.kept x.price)
      (take_places 0 x.kept x.price (omega (arith, w.few, w.price)) ∙ sym (map-tab x.kept (λ (b : M.Bid). b.price) (bid_at x)))

  units-le : (k : ℕ) → get_or (units_in x round pool) k 0 ≤ get_or x.units k 0
  unfolding units_in
  units-le k =
      ⊎_elim
      (λ l. rw (get_or-tab 256 at k 0 l) (either (λ (v : ℕ). v ≤ get_or x.units k 0) (in_auction_at x round pool k) (omega arith) (omega arith)))
      (λ h. omega (arith, get_or-tab-past 256 at k h))
      (lt-or-le k 256)

  -- none behind the bids
  units-past : (k : ℕ) → x.kept ≤ k → get_or (units_in x round pool) k 0 ≡ 0
  unfolding units_in in_auction_at in_round_at
  units-past k h =
      ⊎_elim
      (λ l. get_or-tab 256 at k 0 l ∙ rw (le-ltb k x.kept h))
      (λ g. get_or-tab-past 256 at k g)
      (lt-or-le k 256)

  length-units : length (units_in x round pool) ≡ 256
  unfolding units_in
  length-units = length-tab 256 _

  -- nothing is refused
  won-is : wins_of x round pool n reserve ≡ allot n reserve (units_in x round pool) x.price
  unfolding wins_of
  won-is =
      ap (λ (a : Answer). a.1)
      (accepted 0 place_limit n reserve (units_in x round pool) x.price (replicate 256 0)
      (record {
        paired = w.price ∙ sym length-units;
        counted = sym length-units;
        few = omega (arith, length-units);
        small = small;
        floor = low;
        units = λ k l. (omega arith, omega (arith, units-le k, w.unit-limit k));
        prices = λ k l. w.price-limit k;
      }))

  abbrev won : List ℕ
  won = among (in_auction round pool) (λ bs. allot n reserve (map (λ b. b.units) bs) (map (λ b. b.price) bs)) (view_bids x)

  pub wins-shown : wins_of x round pool n reserve
      ≡ among (in_auction round pool) (λ bs. allot n reserve (map (λ b. b.units) bs) (map (λ b. b.price) bs)) (view_bids x) ++ replicate (256 - x.kept) 0
  wins-shown =
      let rest : List ℕ = drop x.kept x.price in
      let long : length rest ≡ unused = simp length-drop (omega (arith, w.price)) in
      won-is
      ∙ cc (units-are, prices-are, long)
      ∙ allot-pad n reserve (map own (view_bids x)) (map (λ (b : M.Bid). b.price) (view_bids x)) rest
      (length-map (λ (b : M.Bid). b.price) (view_bids x) ∙ sym (length-map own (view_bids x)))
      ∙ cc (allot-among n reserve (in_auction round pool) (λ (b : M.Bid). b.units) (λ (b : M.Bid). b.price) (view_bids x), long)

  -- at the place of a bid, and behind them
  pub wins-at : (i : ℕ) → i < x.kept
      → get_or (wins_of x round pool n reserve) i 0
      ≡ get_or (among (in_auction round pool) (λ bs. allot n reserve (map (λ b. b.units) bs) (map (λ b. b.price) bs)) (view_bids x)) i 0
  wins-at i l =
      ap (λ (r : List ℕ). get_or r i 0) wins-shown
      ∙ get_or-append won (replicate unused 0) 0 i
      (omega (arith, among-length (in_auction round pool) (λ bs. allot n reserve (map (λ b. b.units) bs) (map (λ b. b.price) bs)) (view_bids x), length-view x))

  -- no bid wins more than its units
  pub wins-le : (i : ℕ) → get_or (wins_of x round pool n reserve) i 0 ≤ get_or x.units i 0
  wins-le i = omega (arith, ap (λ (r : List ℕ). get_or r i 0) won-is, allot-le n reserve (units_in x round pool) x.price i, units-le i)

-- the same in a case that has the bids x, these open units and this reserve
pub wins-in : (c : S.Case) (x : Bids) (round pool n low : ℕ) → c.bids ≡ view_bids x → BidsLong x
    → n ≡ M.open_units c.roll pool → low ≡ reserve c.rounds round pool → n ≤ unit_limit → low ≤ price_limit
    → (i : ℕ) → i < x.kept → get_or (wins_of x round pool n low) i 0 ≡ get_or (won_in c round pool) i 0
unfolding won_in
wins-in c x round pool n low shown w units reserved few cheap i l = wins-at x round pool n low w few cheap i l ∙ rw (shown, units, reserved)
