-- What is read of the ledger is what the machine shows: the counts, the holdings, the sum of prices and the result. Assumes nothing.
use Rattle.std.specs.Prelude.{is_some, Ok, Err}
use mathlib.Core.Path.{◌≡◌, sym, ap, ◌∙◌}
use mathlib.Core.Bool.{true, false}
use mathlib.Core.List.{List, map}
use mathlib.Core.Option.{none, some}
use Prim.Native.Nat.{ℕ, ◌<◌}
use native.Mathlib.Omega.{arith}
use lib.Dec.{eqb}
use lib.ListN.{length}
use Rattle.lists.specs.Lists.{when◌then◌else◌, count, keep, tab}
use Rattle.lists.proofs.Each.{each_more, each-always, map-ext}
use Rattle.lists.proofs.Places.{tab-ext}
use Rattle.sets.specs.Set.{member, members}
use Rattle.sets.proofs.Bits.{members-none}
use Rattle.sets.proofs.Members.{members-each}
use Rattle.auction.specs.Price.{sum_cents}
use Rattle.machine.specs.Roll as R
use Rattle.machine.specs.State as M
use Rattle.machine.specs.Requirement.{requirement, owes}
use Rattle.machine.specs.Result.{rank, on_contribution, on_payments}
use Rattle.machine.specs.Run.{MemberResult, five_counts, holding, sum_of_prices, result_of, observed}
use Rattle.machine.specs.Running.{left_prices, left_sum}
use Rattle.machine.proofs.Invariant.{CaseOk}
use Rattle.units.specs.declared.Units.{Units}
use Rattle.units.proofs.Read.{Listed, counts-read, holding-read}
use Rattle.accounts.proofs.ViewPools as P
use Rattle.accounts.proofs.ViewMembers as VM
use Rattle.book.proofs.Sound.{Sound}
use Rattle.case.specs.declared.Case.{Case}
use Rattle.case.specs.Cases.{Held, case_in}
use Rattle.case.specs.View.{view}
use Rattle.case.specs.Readings.{counts_in, holding_in, sum_of_prices_in, pool_prices_in, reading_in, called_in, owed_in, member_result_in, shown_result, seen}
use Rattle.book.proofs.Shown.{listed, requirement-shown, pool-sum-shown, sum-of-prices-shown, debt-shown}
use Rattle.book.proofs.ResultShown.{loss-shown, charges-shown, uncovered-shown, rank-shown, on-contribution-shown, on-payments-shown}

module _ (c : Case) (roll : List R.Entry) (sound : Sound c.stage c.book roll) (ok : CaseOk (view c roll)) where
  abbrev units : Units
  units = c.book.units

  -- the lists of the bids that are lent
  lent : Listed (view c roll).bids c.book.bids.member c.book.bids.pool c.book.bids.price
  lent = listed c.stage c.book roll sound ok

  -- ---- the counts

  pub counts-at : (pool : ℕ) → pool < 4 → counts_in c pool ≡ five_counts roll pool
  unfolding counts_in
  counts-at pool l = counts-read (view c roll) ok sound.set units sound.units _ _ _ lent pool l

  pub counts-shown : tab c.book.pools.given (counts_in c) ≡ tab (length (view c roll).pools) (five_counts roll)
  counts-shown =
      tab-ext c.book.pools.given (counts_in c) (five_counts roll) (λ pool l. counts-at pool (omega (arith, sound.pools.few)))
      ∙ ap (λ (n : ℕ). tab n (five_counts roll)) (sym (P.length-view c.book.pools))

  -- ---- the holdings

  pub holdings-shown : (m pool price : ℕ) → holding_in c m pool price ≡ holding (view c roll).bids roll m pool price
  unfolding holding_in
  holdings-shown = holding-read (view c roll) ok sound.set units sound.units _ _ _ lent

  -- ---- the sum of prices

  pub prices-shown : sum_of_prices_in c ≡ sum_of_prices (view c roll)
  unfolding sum_of_prices_in
  prices-shown = sum-of-prices-shown c.stage c.book roll sound ok

  -- ---- the sum of a pool, and the requirement

  pub pool-sum-read : (h : Held) → is_some h ≡ true → case_in h ≡ c → (pool : ℕ) → pool_prices_in h pool ≡ left_sum (view c roll) pool
  unfolding pool_prices_in
  pool-sum-read h present is pool = rw (present, is) (pool-sum-shown c.stage c.book roll sound ok pool)

  pub requirement-read : (h : Held) → is_some h ≡ true → case_in h ≡ c → reading_in h ≡ Ok (requirement (view c roll))
  unfolding reading_in
  requirement-read h present is = rw (present, is) (λ i. Ok (requirement-shown c.stage c.book roll sound ok i))

  -- ---- the calls on members, and what each owes

  abbrev set : ℕ
  set = c.book.head.set

  pub called-read : (h : Held) → is_some h ≡ true → case_in h ≡ c → called_in h ≡ map (λ m. (M.member_at (view c roll).members m).called) (members set)
  unfolding called_in
  called-read h present is = rw (present, is)
      (map-ext _ _ (members set)
      (each_more (λ m. (m < 32) × (member set m ≡ true)) _
      (λ m h. sym (ap (λ (x : M.Member). x.called) (VM.member-shown c.book.members m h.0))) (members set) (members-each set)))

  pub owed-read : (h : Held) → is_some h ≡ true → case_in h ≡ c → owed_in h ≡ map (owes (view c roll).members) (members set)
  unfolding owed_in
  owed-read h present is = rw (present, is) (map-ext _ _ (members set) (each-always _ (debt-shown c.stage c.book roll sound ok) (members set)))

  -- ---- the result

  abbrev member_result : ℕ → MemberResult
  member_result m = record { member = m; rank = rank (view c roll) m; on_contribution = on_contribution (view c roll) m; on_payments = on_payments (view c roll) m }

  member-shown : (m : ℕ) → member set m ≡ true → member_result_in c.book m ≡ member_result m
  member-shown m in-set =
      rw (
        rank-shown c.stage c.book roll sound ok m in-set,
        on-contribution-shown c.stage c.book roll sound ok m in-set,
        on-payments-shown c.stage c.book roll sound ok m,
      )

  pub result-shown : shown_result c.book ≡ result_of (view c roll)
  unfolding shown_result result_of
  result-shown =
      rw (
        loss-shown c.stage c.book roll sound ok,
        charges-shown c.stage c.book roll sound ok,
        uncovered-shown c.stage c.book roll sound ok,
        map-ext (member_result_in c.book) member_result (members set)
            (each_more (λ m. (m < 32) × (member set m ≡ true)) _ (λ m h. member-shown m h.1) (members set) (members-each set)),
      )

  -- ---- all that is observed

  pub case-observed : (n : ℕ) (h : Held) → is_some h ≡ true → case_in h ≡ c → seen n h ≡ observed n (some (view c roll))
  unfolding seen observed M.letter_of
  case-observed n h present is = rw (present, is) (λ i.
      record {
        answer = n;
        counts = counts-shown i;
        holdings = λ m pool price. holdings-shown m pool price i;
        prices = prices-shown i;
        result = when eqb (M.letter (view c roll).stage) 5 then some (result-shown i) else none;
      })

-- where no case is held
pub none-observed : (n : ℕ) (h : Held) → is_some h ≡ false → seen n h ≡ observed n none
unfolding seen observed M.letter_of tab holding count sum_of_prices sum_cents R.prices keep
none-observed n h absent = rw absent

pub none_left : (h : Held) → is_some h ≡ false → (pool : ℕ) → pool_prices_in h pool ≡ left_sum (M.the_case none) pool
unfolding pool_prices_in left_sum left_prices keep sum_cents
none_left h absent pool = rw absent

pub none_read : (h : Held) → is_some h ≡ false → reading_in h ≡ Err 2
unfolding reading_in
none_read h absent = rw absent

pub none-called : (h : Held) → is_some h ≡ false → called_in h ≡ map (λ m. (M.member_at (M.the_case none).members m).called) (M.member_list (M.the_case none).head)
unfolding called_in
none-called h absent = rw (absent, members-none)

pub none-owed : (h : Held) → is_some h ≡ false → owed_in h ≡ map (owes (M.the_case none).members) (M.member_list (M.the_case none).head)
unfolding owed_in
none-owed h absent = rw (absent, members-none)
