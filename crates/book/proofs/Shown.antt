-- What is read of a book is what the machine reads of the case that the stage, the book and the roll show. Assumes nothing.
use mathlib.Core.Path.{◌≡◌, refl, sym, ap, ◌∙◌}
use mathlib.Core.Bool.{Bool, false, not}
use mathlib.Core.Logic.{⊎_elim}
use mathlib.Core.List.{List}
use Prim.Native.Nat.{ℕ, zero, suc, ◌+◌, ◌*◌, ◌≤◌, ◌<◌}
use native.Mathlib.Omega.{arith}
use lib.Dec.{ltb, eqb}
use lib.IntN.{sub_ℕ}
use lib.ListN.{length, get_or}
use borrow.Author.Tests.{lt-ltb, le-ltb, ne_eqb}
use Rattle.lists.specs.Lists.{sum, count}
use Rattle.lists.proofs.Bools.{and-false, lt-or-le, ltb-same}
use Rattle.lists.proofs.Each.{Each, each_more}
use Rattle.lists.proofs.Sums.{sum_to-ext}
use Rattle.lists.proofs.Counts.{count_none, any-count, any_sum}
use Rattle.sets.specs.Set.{member}
use Rattle.auction.specs.Price.{zero_price}
use Rattle.auction.proofs.Cents.{sub_same, sum-cents}
use Rattle.machine.specs.Roll as M
use Rattle.machine.specs.Roll.{Entry, open_units, any_open, passed_to, sold_by_agreement}
use Rattle.machine.specs.State as State
use Rattle.machine.specs.State.{Case}
use Rattle.machine.specs.Requirement.{requirement, contributions, prefunded, owes}
use Rattle.machine.specs.Calls.{total_shortfall, sold}
use Rattle.machine.specs.Refusals.{none_passed, someone_owes, sale_too_dear}
use Rattle.machine.specs.Result.{payments}
use Rattle.machine.specs.Run.{sum_of_prices}
use Rattle.machine.specs.Running.{left_prices, left_sum}
use Rattle.machine.proofs.Invariant.{CaseOk}
use Rattle.machine.proofs.Bounds.{entry-pools, bid-ok, outside-nothing, won-by-member-small}
use Rattle.machine.proofs.Selling.{setup-prices, sale-adds}
use Rattle.units.specs.Steps.{zero_sum}
use Rattle.units.specs.Shown.{open_of, agreed_of, sold_of, sum_of, zero_prices}
use Rattle.units.proofs.Kept as K
use Rattle.units.proofs.Shown as T
use Rattle.units.proofs.Read.{Listed, passed-read}
use Rattle.accounts.specs.Members.{owes_of, someone_owes_in, member_of, view_members}
use Rattle.accounts.specs.Bids.{view_bids}
use Rattle.accounts.proofs.ViewMembers.{member-shown, owes-shown}
use Rattle.accounts.proofs.ViewBids as VB
use Rattle.accounts.proofs.Tables.{Bidden}
use Rattle.accounts.proofs.OverMembers as O
use Rattle.accounts.proofs.Shortfalls as S
use Rattle.book.specs.declared.Stage.{Stage}
use Rattle.book.specs.declared.Book.{Book}
use Rattle.book.specs.Stages.{letter_of}
use Rattle.book.specs.Books.{open_in, any_open_in, sold_pools, passed_in, prices_in, too_dear_in, requirement_in, over_members, contributions_in, prefunded_in, short_in}
use Rattle.book.specs.View.{view_of}
use Rattle.book.proofs.Sound.{Sound}

-- none is counted
none-counted : (n : ℕ) → eqb n 0 ≡ not (ltb 0 n)
none-counted zero = refl
none-counted (suc n) = rw (ne_eqb (suc n) 0 (λ e. absurd (omega arith)), lt-ltb 0 (suc n) (omega arith))

-- whether any unit is open, from the units alone
pub any-open-kept : (b : Book) (bids : List M.Bid) (roll : List Entry) → K.Kept b.units bids roll → any_open_in b ≡ any_open roll
unfolding any_open_in open_of
any-open-kept b bids roll kept =
    any_sum 4 (open_in b)
    ∙ ap (ltb 0) (sum_to-ext 4 (open_in b) (λ p. get_or b.units.counts p 0) (λ p l. rw (lt-ltb p 4 l)))
    ∙ sym (T.any-open-shown b.units bids roll kept)

module _ (stage : Stage) (b : Book) (roll : List Entry) (w : Sound stage b roll) (ok : CaseOk (view_of stage b roll)) where
  abbrev c : Case
  c = view_of stage b roll

  -- ---- open units

  -- every entry is in a pool below 4
  pub pools-below : Each (λ e. e.pool < 4) roll
  pools-below = each_more _ _ (λ e l. omega (arith, ok.pools.few, ok.head.pools-most)) roll (entry-pools c ok)

  none-beyond : (pool : ℕ) → 4 ≤ pool → open_units roll pool ≡ 0
  unfolding open_units M.open_in
  none-beyond pool g =
      count_none (M.open_in pool) roll (each_more _ _ (λ e l. rw (ne_eqb e.pool pool (omega arith)) (and-false (M.is_open e))) roll pools-below)

  pub open-shown : (pool : ℕ) → open_in b pool ≡ open_units roll pool
  unfolding open_of
  open-shown pool =
      ⊎_elim
      (λ l. rw (lt-ltb pool 4 l) (sym (K.open-shown b.units c.bids roll w.units.kept pool l)))
      (λ g. rw (le-ltb pool 4 g) (sym (none-beyond pool g)))
      (lt-or-le pool 4)

  pub any-open-shown : any_open_in b ≡ any_open roll
  any-open-shown = any-open-kept b c.bids roll w.units.kept

  -- ---- pools sold by agreement

  pub sold-shown : (pool : ℕ) → pool < 4 → get_or (sold_pools b) pool false ≡ sold_by_agreement roll pool
  unfolding agreed_of
  sold-shown pool l = at pool l ∙ rw (lt-ltb pool 4 l) (sym (T.agreed-shown b.units c.bids roll w.units.kept pool l))
    where
      at : (p : ℕ) → p < 4 → get_or (sold_pools b) p false ≡ sold_of b.units p
      at zero l = refl
      at (suc zero) l = refl
      at (suc (suc zero)) l = refl
      at (suc (suc (suc zero))) l = refl
      at (suc (suc (suc (suc p)))) l = absurd (omega arith)

  -- ---- prices

  prices-shown : prices_in b + zero_price * length (M.prices c.bids roll) ≡ zero_prices + sum (M.prices c.bids roll)
  prices-shown = T.prices-shown b.units c.bids roll w.units.kept pools-below

  pub requirement-shown : requirement_in b ≡ requirement (view_of stage b roll)
  unfolding requirement_in requirement
  requirement-shown = omega (arith, prices-shown)

  -- in setup, what 17 compares
  pub too-dear-shown : letter_of stage ≡ 1 → (pool m price : ℕ) → too_dear_in b pool price ≡ sale_too_dear (view_of stage b roll) pool m price
  unfolding too_dear_in sale_too_dear
  too-dear-shown setup pool m price =
      let adds = sale-adds c.bids pool m price roll in
      let early = setup-prices c ok setup in
      let ps = M.agreed_prices c.bids roll in
      let qs = M.agreed_prices c.bids (sold pool m price roll) in
      let n = open_units roll pool in
      let held : prices_in b + zero_price * length ps ≡ zero_prices + sum ps = rw (← early) prices-shown in
      rw (open-shown pool)
      (ltb-same (b.head.margin + b.head.fund + prices_in b + n * price) (b.head.hedge + b.head.other + zero_prices + n * zero_price)
      (b.head.margin + b.head.fund + sum qs) (b.head.hedge + b.head.other + zero_price * length qs)
      (λ l. omega (arith, held, adds.many, adds.sums))
      (λ l. omega (arith, held, adds.many, adds.sums)))

  -- in cents, by pool and in all
  pub pool-sum-shown : (pool : ℕ) → sub_ℕ (sum_of b.units pool) zero_sum ≡ left_sum (view_of stage b roll) pool
  unfolding left_sum
  pool-sum-shown pool =
      let ps = left_prices c.bids roll pool in
      sub_same (sum_of b.units pool) zero_sum (sum ps) (zero_price * length ps)
      (omega (arith, T.pool-prices-shown b.units c.bids roll w.units.kept pools-below pool))
      ∙ sym (sum-cents ps)

  pub sum-of-prices-shown : sub_ℕ (prices_in b) zero_prices ≡ sum_of_prices (view_of stage b roll)
  unfolding sum_of_prices
  sum-of-prices-shown =
      let ps = M.prices c.bids roll in
      sub_same (prices_in b) zero_prices (sum ps) (zero_price * length ps) (omega (arith, prices-shown)) ∙ sym (sum-cents ps)

  -- ---- members

  -- who is not in the set has nothing
  pub outside-shown : (m : ℕ) → m < 32 → member b.head.set m ≡ false → member_of b.members m ≡ State.no_member
  outside-shown m l e = sym (member-shown b.members m l) ∙ outside-nothing c ok m e

  pub contributions-shown : contributions_in b ≡ contributions (view_of stage b roll)
  unfolding contributions_in
  contributions-shown = O.contributions-shown c b.members refl

  pub prefunded-shown : prefunded_in b ≡ prefunded (view_of stage b roll)
  unfolding prefunded_in prefunded
  prefunded-shown = rw contributions-shown

  -- "payments", all of them
  pub payments-shown : over_members b b.members.paid ≡ payments (view_of stage b roll)
  payments-shown = O.payments-shown c b.members refl

  pub debt-shown : (m : ℕ) → owes_of b.members m ≡ owes (view_members b.members) m
  debt-shown m = owes-shown b.members m w.members

  pub someone-owes-shown : someone_owes_in b.members b.head.set ≡ someone_owes (view_of stage b roll)
  someone-owes-shown = O.someone-owes-shown c b.members refl w.members

  -- ---- bids

  -- a bid is in a pool of the case
  pub bid-pool : (i : ℕ) → i < b.bids.kept → get_or b.bids.pool i 0 < b.head.pools
  bid-pool i l = omega (arith, VB.pool-shown b.bids i l, (bid-ok c ok i (omega (arith, VB.length-view b.bids))).pool)

  pub bidden : Bidden b.bids
  bidden = record { pool = λ i l. omega (arith, bid-pool i l, ok.head.pools-most); won = λ m p. omega (arith, won-by-member-small c ok m p) }

  -- the lists of the bids that are lent are the machine's
  pub listed : Listed (view_bids b.bids) b.bids.member b.bids.pool b.bids.price
  listed =
      let kept = VB.length-view b.bids in
      record {
        member = λ i l. VB.member-shown b.bids i (omega arith);
        pool = λ i l. VB.pool-shown b.bids i (omega arith);
        price = λ i l. VB.price-shown b.bids i (omega arith);
      }

  -- ---- shortfalls

  -- the members and bids of a book are those of a case as the shortfalls are counted
  pub shorts : (pool : ℕ) → pool < 4 → S.Short (view_of stage b roll) b.members pool
  shorts pool inside = S.short c b.members b.bids pool refl refl w.won w.bids.few bidden inside

  pub short-shown : (pool : ℕ) → pool < 4 → short_in b pool ≡ total_shortfall (view_of stage b roll) pool
  unfolding short_in
  short-shown pool inside = S.total-shown c b.members pool (shorts pool inside)

  -- ---- units passed to a member

  pub passed-shown : (m : ℕ) → eqb (passed_in b m) 0 ≡ none_passed roll m
  unfolding none_passed
  passed-shown m =
      let p : Entry → Bool = λ e. passed_to m e.state in
      ap (λ (n : ℕ). eqb n 0) (passed-read c ok w.set b.units w.units m) ∙ none-counted (count p roll) ∙ ap not (sym (any-count p roll))
