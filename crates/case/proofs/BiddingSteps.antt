-- BID, WITHDRAW and CLOSE, accepted: the program's case shows the machine's. Assumes nothing.
use mathlib.Core.Path.{◌≡◌, refl, sym, ap, ◌∙◌}
use mathlib.Core.Bool.{true, ◌&&◌}
use mathlib.Core.List.{List}
use mathlib.Core.Option.{some}
use Prim.Native.Nat.{ℕ, ◌<◌}
use native.Mathlib.Omega.{arith}
use lib.Dec.{leb}
use lib.ListN.{length, get_or}
use borrow.Author.Tests.{leb-true, leb-false, not-false}
use Rattle.lists.specs.Lists.{between}
use Rattle.lists.proofs.Bools.{and_left, and_right}
use Rattle.lists.specs.Tests.{Passed}
use Rattle.auction.specs.Price.{price_ok, price_limit}
use Rattle.machine.specs.Wire as Wire
use Rattle.machine.specs.Roll.{Entry, Bid, no_bid}
use Rattle.machine.specs.State as M
use Rattle.machine.specs.State.{letter_of}
use Rattle.machine.specs.Calls.{reserve, in_round, bids_after, after_bid, after_close, after_withdraw, accepted}
use Rattle.machine.specs.Refusals.{tests, bid_ok, none_stands}
use Rattle.machine.proofs.Invariant.{CaseOk}
use Rattle.machine.proofs.Bounds.{won-le-units, pool-ok, reserve-ok}
use Rattle.machine.proofs.CallsKept.{stands-there}
use Rattle.machine.proofs.Stages.{letter-is, bidding-stage}
use Rattle.units.proofs.Kept.{Lent}
use Rattle.units.proofs.Right.{bid-right, withdraw-right, close-right}
use Rattle.accounts.specs.declared.bids.Bids.{Bids}
use Rattle.accounts.specs.Bids.{with_wins, won_table, view_bids}
use Rattle.accounts.specs.Rounds.{reserve_of}
use Rattle.accounts.proofs.ViewMembers.{win-long}
use Rattle.accounts.proofs.ViewRounds as Y
use Rattle.accounts.proofs.ViewBids as Z
use Rattle.accounts.proofs.Tables.{won-table-put, won-table-withdraw, won-table-long}
use Rattle.accounts.proofs.Taking.{Closing, view-closed}
use Rattle.book.specs.Stages.{round_of}
use Rattle.book.specs.Books.{open_in, bid_book, withdraw_book, bids_closed, close_book}
use Rattle.book.proofs.Sound.{Sound}
use Rattle.book.proofs.Shown.{open-shown, bid-pool}
use Rattle.case.specs.declared.Case.{Case}
use Rattle.case.specs.Cases.{case_after}
use Rattle.case.specs.View.{view}
use Rattle.case.proofs.Showing.{Shown, shown_by, case-ext}

-- the arrays of bids are those of the machine's bids
lent_of : (x : Bids) (bids : List Bid) → view_bids x ≡ bids → Lent bids x.round x.pool x.price x.won
lent_of x bids same =
    let kept : length bids ≡ x.kept = sym (ap length same) ∙ Z.length-view x in
    record {
      round = λ b l. Z.round-shown x b (omega arith) ∙ ap (λ (bs : List Bid). (get_or bs b no_bid).round) same;
      pool = λ b l. Z.pool-shown x b (omega arith) ∙ ap (λ (bs : List Bid). (get_or bs b no_bid).pool) same;
      price = λ b l. Z.price-shown x b (omega arith) ∙ ap (λ (bs : List Bid). (get_or bs b no_bid).price) same;
      won = λ b l. Z.won-shown x b (omega arith) ∙ ap (λ (bs : List Bid). (get_or bs b no_bid).won) same;
    }

-- CLOSE keeps as many bids
kept-closed : (x : Bids) (round : ℕ) (wins : List (List ℕ)) → (with_wins x round wins).kept ≡ x.kept
unfolding with_wins
kept-closed x round wins = refl

module _ (c : Case) (roll : List Entry) (s : Sound c.stage c.book roll) (ok : CaseOk (view c roll)) where
  pub bid-shown : (pool m units price : ℕ) → Passed (tests (some (view c roll)) (view c roll) (Wire.BID pool m units price)) → Shown c roll (Wire.BID pool m units price)
  unfolding tests bid_ok case_after accepted bid_book after_bid
  bid-shown pool m units price t =
      let b = c.book in
      let x = b.bids in
      let room : x.kept < 256 = omega (arith, Z.length-view x, leb-false 256 (length (view_bids x)) t.1.1.1.1.1.0) in
      let range : (between 1 1000 units && price_ok price) ≡ true = not-false _ t.1.1.1.0 in
      let few = leb-true units 1000 (and_right (leb 1 units) _ (and_left _ (price_ok price) range)) in
      let low = leb-true price price_limit (and_right (between 1 1000 units) _ range) in
      shown_by c roll (Wire.BID pool m units price)
      (case-ext _ _ refl refl refl refl refl (Z.view-put x (round_of c.stage) pool m units price s.bids room) refl)
      (record {
        set = s.set;
        pools = s.pools;
        members = s.members;
        rounds = s.rounds;
        bids = Z.put-long x (round_of c.stage) pool m units price s.bids few low;
        won = s.won ∙ sym (won-table-put x (round_of c.stage) pool m units price s.bids);
      })
      (bid-right (view c roll) ok pool m units price t b.units s.units)

  -- the bid is one of those kept, since it stands
  pub withdraw-shown : (m n : ℕ) → Passed (tests (some (view c roll)) (view c roll) (Wire.WITHDRAW m n)) → Shown c roll (Wire.WITHDRAW m n)
  unfolding tests none_stands in_round case_after accepted withdraw_book after_withdraw
  withdraw-shown m n t =
      let b = c.book in
      let x = b.bids in
      let found = get_or (view_bids x) n no_bid in
      let stands : found.stands ≡ true = and_left _ _ (and_left _ _ (not-false _ t.1.1.0)) in
      let kept : n < x.kept = omega (arith, Z.length-view x, stands-there (view_bids x) n stands) in
      shown_by c roll (Wire.WITHDRAW m n)
      (case-ext _ _ refl refl refl refl refl (Z.view-withdraw x n s.bids kept) refl)
      (record {
        set = s.set;
        pools = s.pools;
        members = s.members;
        rounds = s.rounds;
        bids = Z.withdraw-long x n s.bids;
        won = s.won ∙ sym (won-table-withdraw x n);
      })
      (withdraw-right (view c roll) ok m n t b.units s.units)

  -- ---- CLOSE

  abbrev round : ℕ
  round = round_of c.stage

  closing : M.letter (view c roll).stage ≡ 2 → Closing (view c roll) c.book.bids round (open_in c.book) (reserve_of c.book.rounds round)
  closing bidding =
      let b = c.book in
      let d = view c roll in
      let at = bidding-stage d.stage (length d.rounds) ok.stage bidding in
      let low : (p : ℕ) → p < b.head.pools → reserve_of b.rounds round p ≡ reserve d.rounds round p =
      λ p l. Y.reserve-shown b.head.pools b.rounds round p ok.head.pools-most l at.1 (omega (arith, at.0, Y.length-view b.head.pools b.rounds)) s.rounds.few in
      record {
        shown = refl;
        long = s.bids;
        pools-most = ok.head.pools-most;
        inside = bid-pool c.stage b roll s ok;
        units-shown = λ p l. open-shown c.stage b roll s ok p;
        units_small = λ p l. omega (arith, open-shown c.stage b roll s ok p, won-le-units d ok p, (pool-ok d ok p).0);
        reserves-shown = low;
        reserves-low = λ p l. omega (arith, low p l, reserve-ok d ok round p);
      }

  pub close-shown : Passed (tests (some (view c roll)) (view c roll) Wire.CLOSE) → Shown c roll Wire.CLOSE
  unfolding tests letter_of case_after accepted close_book after_close
  close-shown t =
      let b = c.book in
      let d = view c roll in
      let x = bids_closed b round in
      let same : view_bids x ≡ bids_after d round = view-closed d b.bids round (open_in b) (reserve_of b.rounds round) (closing (letter-is d.stage 2 t.0)) in
      let kept : length d.bids ≡ x.kept = Z.length-view b.bids ∙ sym (kept-closed b.bids round _) in
      shown_by c roll Wire.CLOSE
      (case-ext _ _ refl refl refl refl refl same refl)
      (record {
        set = s.set;
        pools = s.pools;
        members = win-long b.members (won_table x) (won-table-long x) s.members;
        rounds = s.rounds;
        bids = Z.take_long b.bids round _ s.bids;
        won = refl;
      })
      (rw kept at (close-right d ok t b.units s.units x.round x.pool x.price x.won (lent_of x (bids_after d round) same)))
