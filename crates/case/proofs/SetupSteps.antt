-- HEAD, POOL, MEMBER, ROUND and SALE, accepted: the program's case shows the machine's. Assumes nothing.
use mathlib.Core.Path.{◌≡◌, refl, sym, ap, ◌∙◌}
use mathlib.Core.Bool.{Bool, true, false, not}
use mathlib.Core.List.{List, [], ◌∷◌}
use mathlib.Core.Option.{some}
use Prim.Native.Nat.{ℕ, ◌^◌, ◌<◌}
use native.Mathlib.Omega.{arith}
use lib.Dec.{leb, ltb}
use lib.ListN.{length, get_or, set}
use borrow.Author.Tests.{leb-false, eqb-true, not-false}
use Rattle.lists.specs.Lists.{when◌then◌else◌, sum, sum_by_key, tab}
use Rattle.lists.specs.Adding.{held_to}
use Rattle.lists.proofs.Bools.{either, or_left, or_right}
use Rattle.lists.proofs.Places.{get_or-tab, tab-of}
use Rattle.lists.specs.Tests.{Passed}
use Rattle.machine.specs.Wire as Wire
use Rattle.machine.specs.Roll.{Entry, any_open}
use Rattle.machine.specs.State as M
use Rattle.machine.specs.State.{letter_of}
use Rattle.machine.specs.Calls.{new_member, after_pool, after_member, after_round, sold, after_sale, accepted}
use Rattle.machine.specs.Refusals.{tests, not_in_case, not_in_set}
use Rattle.machine.proofs.Invariant.{CaseOk}
use Rattle.machine.proofs.CallsKept.{round-open}
use Rattle.machine.proofs.Bounds.{in-set-below, member-ok}
use Rattle.machine.proofs.Stages.{letter-some, letter-round, round-stage}
use Rattle.units.proofs.Right.{new-right, pool-right, member_right, round-right, sale-right}
use Rattle.accounts.specs.Pools.{view_pools}
use Rattle.accounts.specs.declared.members.Members.{Members}
use Rattle.accounts.specs.Members.{no_members, put_member, member_of, view_members}
use Rattle.accounts.specs.Bids.{no_bids, won_table}
use Rattle.accounts.proofs.ViewPools as P
use Rattle.accounts.proofs.ViewMembers as X
use Rattle.accounts.proofs.ViewRounds as Y
use Rattle.accounts.proofs.ViewBids as Z
use Rattle.book.specs.declared.Stage.TheVariants.{After}
use Rattle.book.specs.Stages.{view_stage, next_round}
use Rattle.book.specs.Books.{any_open_in, open_in, new_book, pool_book, member_book, round_book, sale_book}
use Rattle.book.proofs.Sound.{Sound}
use Rattle.book.proofs.Shown.{open-shown, any-open-kept}
use Rattle.case.specs.declared.Case.{Case}
use Rattle.case.specs.Cases.{new_case, head_from, case_after}
use Rattle.case.specs.View.{view}
use Rattle.case.proofs.Showing.{Shown, shown_by, case-ext}

-- ---- four numbers

four-at : {A : Type 0} (f : ℕ → A) (z : A) (p : ℕ) → p < 4 → get_or (f 0 ∷ f 1 ∷ f 2 ∷ f 3 ∷ []) p z ≡ f p
unfolding tab
four-at f z p l = get_or-tab 4 f p z l

four-of : (xs : List ℕ) → length xs ≡ 4 → (get_or xs 0 0 ∷ get_or xs 1 0 ∷ get_or xs 2 0 ∷ get_or xs 3 0 ∷ []) ≡ xs
unfolding tab
four-of xs long = sym (tab-of 4 (λ k. get_or xs k 0) 0 xs long (λ k l. refl))

-- ---- HEAD

none-won : no_members.won ≡ won_table no_bids
unfolding no_members no_bids won_table sum_by_key tab sum held_to
none-won = refl

pub head-shown : (h : Wire.Head) → h.set < 2 ^ 32
    → (view (new_case (head_from h)) [] ≡ M.new_case h) × Sound (new_case (head_from h)).stage (new_case (head_from h)).book []
unfolding new_case new_book
head-shown h small =
    let same : view (new_case (head_from h)) [] ≡ M.new_case h = case-ext (view (new_case (head_from h)) []) (M.new_case h) refl refl P.view-new X.view-new (Y.view-new h.pools) Z.view-new refl in
    (same, record { set = small; pools = P.new-long; members = X.new-long; rounds = Y.new-long; bids = Z.new-long; won = none-won; units = rw same (new-right h) })

-- ---- the other calls

module _ (c : Case) (roll : List Entry) (s : Sound c.stage c.book roll) (ok : CaseOk (view c roll)) where
  pub pool-shown : (pool units mark : ℕ) → Passed (tests (some (view c roll)) (view c roll) (Wire.POOL pool units mark)) → Shown c roll (Wire.POOL pool units mark)
  unfolding tests not_in_case case_after accepted pool_book after_pool
  pool-shown pool units mark t =
      let b = c.book in
      let below = leb-false b.head.pools pool (or_left _ _ t.1.0) in
      let next = eqb-true pool (length (view_pools b.pools)) (not-false _ (or_right (leb b.head.pools pool) _ t.1.0)) in
      let room : b.pools.given < 4 = omega (arith, below, next, P.length-view b.pools, ok.head.pools-most) in
      shown_by c roll (Wire.POOL pool units mark)
      (case-ext _ _ refl refl (P.view-put b.pools units mark s.pools room) refl refl refl refl)
      (record { set = s.set; pools = P.put-long b.pools units mark s.pools; members = s.members; rounds = s.rounds; bids = s.bids; won = s.won })
      (pool-right (view c roll) ok pool units mark t b.units s.units)

  pub member-shown : (m contribution : ℕ) (es : List ℕ) → length es ≡ 4 → Passed (tests (some (view c roll)) (view c roll) (Wire.MEMBER m contribution es))
      → Shown c roll (Wire.MEMBER m contribution es)
  unfolding tests not_in_set case_after accepted member_book put_member after_member
  member-shown m contribution es long t =
      let b = c.book in
      let x = b.members in
      let inside = in-set-below (view c roll) ok s.set m (not-false _ (or_left _ _ t.1.0)) in
      let new : member_of x m ≡ M.no_member =
      sym (X.member-shown x m inside) ∙ (member-ok (view c roll) ok m).absent (or_right (not (M.in_set (view c roll).head m)) _ t.1.0) in
      shown_by c roll (Wire.MEMBER m contribution es)
      (case-ext _ _ refl refl refl
      (X.view-put x m contribution (get_or es 0 0) (get_or es 1 0) (get_or es 2 0) (get_or es 3 0) s.members inside new
      ∙ ap (λ (l : List ℕ). set (view_members x) m (new_member contribution l)) (four-of es long))
      refl refl refl)
      (record {
        set = s.set;
        pools = s.pools;
        members = X.put-long x m contribution (get_or es 0 0) (get_or es 1 0) (get_or es 2 0) (get_or es 3 0) s.members;
        rounds = s.rounds;
        bids = s.bids;
        won = either (λ (y : Members). y.won ≡ won_table b.bids) (ltb m 32) s.won s.won;
      })
      (member_right (view c roll) ok m contribution es t b.units s.units)

  pub round-shown : (rs : List ℕ) → Passed (tests (some (view c roll)) (view c roll) (Wire.ROUND rs)) → Shown c roll (Wire.ROUND rs)
  unfolding tests case_after accepted round_book next_round after_round letter_of
  round-shown rs t =
      let b = c.book in
      let stage = (view c roll).stage in
      let most = ok.head.pools-most in
      let long : length rs ≡ b.head.pools = eqb-true (length rs) b.head.pools (not-false _ (rw (letter-some stage) at t.0)) in
      let from = round-stage stage (length (view c roll).rounds) ok.stage (round-open (view c roll) ok rs t) (letter-round stage t.1.0) in
      let room : b.rounds.held < 2 = omega (arith, from.0, from.1, Y.length-view b.head.pools b.rounds) in
      shown_by c roll (Wire.ROUND rs)
      (case-ext _ _
      (ap M.Bidding (omega (arith, from.1)))
      refl refl refl
      (Y.view-put-round b.head.pools b.rounds _ _ roll rs s.rounds room most long
      (λ p l. four-at (λ k. get_or rs k 0) 0 p (omega arith))
      (λ p l. four-at (λ k. ltb 0 (open_in b k)) false p (omega arith) ∙ ap (ltb 0) (open-shown c.stage b roll s ok p)))
      refl refl)
      (record { set = s.set; pools = s.pools; members = s.members; rounds = Y.put-long b.rounds _ _ s.rounds; bids = s.bids; won = s.won })
      (round-right (view c roll) ok rs t b.units s.units)

  pub sale-shown : (pool m price : ℕ) → Passed (tests (some (view c roll)) (view c roll) (Wire.SALE pool m price)) → Shown c roll (Wire.SALE pool m price)
  unfolding case_after accepted sale_book after_sale
  sale-shown pool m price t =
      let next = sale_book c.book pool m price in
      let right = sale-right (view c roll) ok pool m price t c.book.units s.units in
      let open' : any_open_in next ≡ any_open (sold pool m price roll) = any-open-kept next (view c roll).bids (sold pool m price roll) right.kept in
      shown_by c roll (Wire.SALE pool m price)
      (case-ext _ _ (staged (any_open_in next) ∙ rw open') refl refl refl refl refl refl)
      (record { set = s.set; pools = s.pools; members = s.members; rounds = s.rounds; bids = s.bids; won = s.won })
      right
    where
      staged : (b : Bool) → view_stage (when b then c.stage else After 1) ≡ (when b then view_stage c.stage else M.After 1)
      staged true = refl
      staged false = refl
