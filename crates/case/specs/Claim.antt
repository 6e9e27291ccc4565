-- THE CLAIM of document 01 about the ledger, over every list of calls, those of document 02 among them: "the ledger's answers, counts, members' holdings and sum of prices after
-- each call are those of the roll's machine", and after FINISH the loss, the charges and the ranks. All of it is one record, `Claim`, at the end
-- of this file; it is proved in proofs/Claims.antt (`claim`).
--
-- How it is tied to the code: the function `apply` takes what is held and any bytes, and its contract is `r ≡ applied held bytes`, with no
-- `requires`. So whoever starts with `None` and calls `apply` in turn gets what `ledger_from` iterates. The function `run` does so over
-- the fields of a whole input, and its contract says it for the code itself. The contracts of the methods are `r ≡ outcome_of self call`,
-- and of HEAD `r ≡ head_outcome head`. Prices are cents + 1,000,000 throughout.
use Rattle.std.specs.Prelude.{Some, is_some, Ok, Err}
use Rattle.std.specs.Prelude as R
use Rattle.std.specs.Prelude.{◌≡◌, true, List, [], ◌∷◌, map, ℕ, ◌+◌, ◌≤◌, ◌<◌, ◌^◌, pos, ◌-ℤ◌, length, get_or, take}
use Rattle.std.proofs.Math.Option.{none, some}
use Rattle.lists.specs.Lists.{sum, count, Each, Bytes}
use Rattle.lists.specs.Tests.{Passed, First}
use Rattle.sets.specs.Set.{member, members}
use Rattle.auction.specs.Price.{at_least0}
use Rattle.machine.specs.Wire.{Call, HEAD, POOL, MEMBER, ROUND, BID, CLOSE, ALLOCATE, TEAR, CALL, PAY, MOVE, MISS, FINISH, SALE, WITHDRAW, decode}
use Rattle.machine.specs.Roll.{Entry, Agreed, agreed_in}
use Rattle.machine.specs.State as M
use Rattle.machine.specs.Requirement.{requirement}
use Rattle.machine.specs.Refusals.{tests}
use Rattle.machine.specs.Machine.{answered}
use Rattle.machine.specs.Result.{limits}
use Rattle.machine.specs.Run.{Result, Observed, observed, run, run_from}
use Rattle.machine.specs.Running.{left_sum, nothing_kept, kept_from, reading}
use Rattle.reserves.specs.Reserves.{SameButReserves, Outside, outside_of, outside}
use Rattle.wire.specs.declared.Head.{Head}
use Rattle.wire.specs.Asked.{head_of}
use Rattle.units.specs.declared.Units.{Units}
use Rattle.units.specs.Shown.{agreed_of, buyer_of, sale_price_of}
use Rattle.accounts.specs.Bids.{view_bids}
use Rattle.book.specs.declared.Book.{Book}
use Rattle.book.specs.Results.{limits_in, result_in}
use Rattle.case.specs.declared.Case.{Case}
use Rattle.case.specs.Cases.{Held, case_in}
use Rattle.case.specs.Cases.{applied, no_held, head_outcome, outcome_of}
use Rattle.case.specs.Readings.{sum_of_prices_in, pool_prices_in, reading_in, as_read, called_in, owed_in, shown_result, seen}
use Rattle.case.specs.Input.{ledger_answers, ledger_after}

-- what is observed after each call of a list, from what is held
unfoldable pub ledger_from : Held → List (List ℕ) → List Observed
ledger_from h [] = []
ledger_from h (call ∷ calls) =
    let next = applied h call in
    seen next.answer next.held ∷ ledger_from next.held calls

-- the ledger and the roll's machine agree in every answer and every observation, after every call of every list of byte strings
abbrev pub Agrees : Type 0
Agrees = (calls : List (List ℕ)) → Each Bytes calls → ledger_from no_held calls ≡ run calls

-- ---- one call: "the first number that applies"

-- what is answered to any bytes, where the machine is in state s
pub record Answers (h : Held) (s : M.State) (bytes : List ℕ) : Type 0 where
  -- bytes that are no call are refused with 1
  pub no_call : decode bytes ≡ none → (applied h bytes).answer ≡ 1
  -- a call to which no reason of its list applies is accepted
  pub passed-accepted : (call : Call) → decode bytes ≡ some call → Passed (tests s (M.the_case s) call) → (applied h bytes).answer ≡ 0
  -- any other is refused with the first number that applies
  pub answer-first : (call : Call) → decode bytes ≡ some call → ((applied h bytes).answer ≡ 0 → ⊥) → First (applied h bytes).answer (tests s (M.the_case s) call)
  -- "a refused call leaves all as it was"
  pub refused-unchanged : ((applied h bytes).answer ≡ 0 → ⊥) → (applied h bytes).held ≡ h

-- so it is after every list of calls
abbrev pub AnswersFirst : Type 0
AnswersFirst = (calls : List (List ℕ)) → Each Bytes calls → (bytes : List ℕ) → Bytes bytes → Answers (ledger_after no_held calls) (run_from none calls) bytes

-- ---- each unit is exactly one of five

-- the five counts that are read of a pool add up to the units that POOL put up
abbrev pub OneOfFive : Type 0
OneOfFive =
    (calls : List (List ℕ)) → Each Bytes calls → (c : M.Case) → run_from none calls ≡ some c → (n pool : ℕ) → pool < length c.pools
    → sum (get_or (seen n (ledger_after no_held calls)).counts pool []) ≡ (get_or c.pools pool M.no_pool).units

-- ---- the calls as methods

-- a call as it is read, or as the types of a method give it: a set of 32 bits, units expected in four pools, at most four reserves
abbrev pub Read : Call → Type 0
Read (HEAD h) = h.set < 2 ^ 32
Read (POOL pool units mark) = Unit {0}
Read (MEMBER m contribution expected) = length expected ≡ 4
Read (ROUND reserves) = length reserves ≤ 4
Read (BID pool m units price) = Unit {0}
Read CLOSE = Unit {0}
Read (ALLOCATE pool price) = Unit {0}
Read (TEAR pool price) = Unit {0}
Read CALL = Unit {0}
Read (PAY m amount) = Unit {0}
Read (MOVE m) = Unit {0}
Read (MISS m price) = Unit {0}
Read FINISH = Unit {0}
Read (SALE pool m price) = Unit {0}
Read (WITHDRAW m n) = Unit {0}

-- a method of a case that a list of calls has led to answers as the machine, and what is then observed of the case is what is observed of the machine
abbrev pub MethodsAgree : Type 0
MethodsAgree =
    (calls : List (List ℕ)) → Each Bytes calls → (c : M.Case) → run_from none calls ≡ some c → (call : Call) → Read call
    → let o = outcome_of (case_in (ledger_after no_held calls)) (some call) in
    let a = answered (some c) (some call) in
    seen o.answer (Some o.case) ≡ observed a.answer a.state

-- HEAD makes a case where there is none
abbrev pub HeadAgrees : Type 0
HeadAgrees =
    (h : Head) → h.set < 2 ^ 32
    → let o = head_outcome h in
    let a = answered none (some (HEAD (head_of h))) in
    seen o.answer o.held ≡ observed a.answer a.state

-- ---- document 02, C-12: units sold by agreement

-- what the case keeps of a pool, how many of its units were sold by agreement, to whom and at what price, is what the roll has
pub record KeepsSale (u : Units) (roll : List Entry) (pool : ℕ) : Type 0 where
  pub units : agreed_of u pool ≡ count (agreed_in pool) roll
  pub entries : Each (λ e. agreed_in pool e ≡ true → e.state ≡ Agreed (buyer_of u pool) (sale_price_of u pool)) roll

-- so it is after every list of calls
abbrev pub KeepsSales : Type 0
KeepsSales =
    (calls : List (List ℕ)) → Each Bytes calls → (c : M.Case) → run_from none calls ≡ some c → (pool : ℕ) → pool < 4
    → KeepsSale (case_in (ledger_after no_held calls)).book.units c.roll pool

-- ---- document 02, C-14: "A bid record in the case now says whether it stands"

-- the bids that the case keeps are the machine's, each at its number, with its round, what it won and whether it stands, after every list of calls
abbrev pub KeepsBids : Type 0
KeepsBids =
    (calls : List (List ℕ)) → Each Bytes calls → (c : M.Case) → run_from none calls ≡ some c
    → view_bids (case_in (ledger_after no_held calls)).book.bids ≡ c.bids

-- ---- document 02, C-16: "the case shall keep a running sum of the prices of units that have left the house"

-- what the case keeps of a pool is its running sum, to which each call adds what it changes, and the full addition over the roll
pub record KeepsSum (h : Held) (calls : List (List ℕ)) (pool : ℕ) : Type 0 where
  pub running : pool_prices_in h pool ≡ (kept_from nothing_kept calls).gone pool
  pub full : pool_prices_in h pool ≡ left_sum (M.the_case (run_from none calls)) pool

-- so it is after every list of calls
abbrev pub KeepsSums : Type 0
KeepsSums = (calls : List (List ℕ)) → Each Bytes calls → (pool : ℕ) → KeepsSum (ledger_after no_held calls) calls pool

-- what is read of the requirement: as it is read from the running sums and the two losses; "After any list of calls that begins with no case and makes one, the
-- reading equals the full addition over the roll"; "with no case the reading is declined by 2"
pub record Reads (r : R.Result ℕ ℕ) (calls : List (List ℕ)) : Type 0 where
  pub running : as_read r ≡ reading (kept_from nothing_kept calls)
  pub full : (c : M.Case) → run_from none calls ≡ some c → r ≡ Ok (requirement c)
  pub declined : run_from none calls ≡ none → r ≡ Err 2

abbrev pub ReadsRequirement : Type 0
ReadsRequirement = (calls : List (List ℕ)) → Each Bytes calls → Reads (reading_in (ledger_after no_held calls)) calls

-- ---- document 02, C-17: "Reserves stay inside the house"

-- what is seen outside the house of what is held: all but the ranks and the members' parts of the contribution layer
unfoldable pub outside_in : Held → Outside
outside_in h = outside_of (seen 0 h) (pool_prices_in h) (as_read (reading_in h)) (called_in h) (owed_in h)

-- after every list of calls it is what is seen of the machine
abbrev pub ShowsOutside : Type 0
ShowsOutside = (calls : List (List ℕ)) → Each Bytes calls → outside_in (ledger_after no_held calls) ≡ outside (kept_from nothing_kept calls)

-- the ledger looks the same from outside over two lists of calls: every answer, and after any number of calls all that is seen
pub record ShowsAlike (calls others : List (List ℕ)) : Type 0 where
  pub answers : ledger_answers no_held calls ≡ ledger_answers no_held others
  pub shown : (k : ℕ) → outside_in (ledger_after no_held (take k calls)) ≡ outside_in (ledger_after no_held (take k others))

-- so it does over any two lists that are the same but for reserves, by which the same bids are valid
abbrev pub KeepsReserves : Type 0
KeepsReserves = (calls others : List (List ℕ)) → Each Bytes calls → Each Bytes others → SameButReserves calls others → ShowsAlike calls others

-- ---- after an accepted FINISH

-- what a layer is charged, and its limit; the layers are counted from 0
abbrev pub charge_in : Book → ℕ → ℕ
charge_in b layer = get_or (result_in b).charges layer 0

abbrev pub limit_in : Book → ℕ → ℕ
limit_in b layer = get_or (limits_in b) layer 0

-- what holds of the result of a case
pub record Charges (c : Case) : Type 0 where
  -- the loss is "hedge loss + other loss − the prices of all units not open, at least 0"
  pub loss : (result_in c.book).loss ≡ at_least0 (pos (c.book.head.hedge + c.book.head.other) -ℤ sum_of_prices_in c)
  -- the six charges and the uncovered rest add up to it
  pub add-up : sum (result_in c.book).charges + (result_in c.book).uncovered ≡ (result_in c.book).loss
  -- what members are charged on their contributions adds up to layer four, and on their payments to layer six
  pub on-contributions : sum (map (λ m. get_or (result_in c.book).contributions m 0) (members c.book.head.set)) ≡ charge_in c.book 3
  pub on-payments : sum (map (λ m. get_or (result_in c.book).payments m 0) (members c.book.head.set)) ≡ charge_in c.book 5
  -- no member is charged above its contribution or its payments
  pub contribution-most : (m : ℕ) → member c.book.head.set m ≡ true → get_or (result_in c.book).contributions m 0 ≤ get_or c.book.members.contribution m 0
  pub payment-most : (m : ℕ) → member c.book.head.set m ≡ true → get_or (result_in c.book).payments m 0 ≤ get_or c.book.members.paid m 0
  -- "most junior rank first": a member is charged on its contribution only if all members of a rank junior to its own are charged all of theirs
  pub juniors-first : (senior junior : ℕ) → member c.book.head.set senior ≡ true → member c.book.head.set junior ≡ true
      → get_or (result_in c.book).ranks senior 0 < get_or (result_in c.book).ranks junior 0 → 0 < get_or (result_in c.book).contributions senior 0
      → get_or (result_in c.book).contributions junior 0 ≡ get_or c.book.members.contribution junior 0
  -- no layer is charged above its limit, none while an earlier one has money left, and nothing is uncovered unless all six are spent
  pub within : (layer : ℕ) → charge_in c.book layer ≤ limit_in c.book layer
  pub in-turn : (earlier later : ℕ) → earlier < later → 0 < charge_in c.book later → charge_in c.book earlier ≡ limit_in c.book earlier
  pub uncovered-last : 0 < (result_in c.book).uncovered → (layer : ℕ) → charge_in c.book layer ≡ limit_in c.book layer

-- what is held after a FINISH that is answered 0: a case that shows its result
pub record AfterFinish (h : Held) : Type 0 where
  pub present : is_some h ≡ true
  pub shown : (n : ℕ) → (seen n h).result ≡ some (shown_result (case_in h).book)
  pub charges : Charges (case_in h)

-- so it is after every list of calls and a FINISH. It is proved in proofs/Finishes.antt
abbrev pub Finishes : Type 0
Finishes =
    (calls : List (List ℕ)) → Each Bytes calls → (finish : List ℕ) → decode finish ≡ some FINISH
    → (applied (ledger_after no_held calls) finish).answer ≡ 0 → AfterFinish (applied (ledger_after no_held calls) finish).held

-- ---- every list whose case is finished

-- a result by the requirement and the six limits of the machine's case, which are read off its roll
pub record Covers (r : Result) (c : M.Case) : Type 0 where
  pub loss : r.loss ≡ requirement c
  -- "the charges add up"
  pub add-up : sum r.charges + r.uncovered ≡ r.loss
  -- no layer is charged above its limit, none while an earlier one has money left, and nothing is uncovered before all six are spent
  pub within : (layer : ℕ) → get_or r.charges layer 0 ≤ get_or (limits c) layer 0
  pub in-turn : (earlier later : ℕ) → earlier < later → 0 < get_or r.charges later 0 → get_or r.charges earlier 0 ≡ get_or (limits c) earlier 0
  pub uncovered-last : 0 < r.uncovered → (layer : ℕ) → get_or r.charges layer 0 ≡ get_or (limits c) layer 0

-- what is shown of the ledger where the machine's case is finished
pub record ShownFinished (h : Held) (c : M.Case) : Type 0 where
  pub result : Result
  pub shown : (n : ℕ) → (seen n h).result ≡ some result
  pub covers : Covers result c

abbrev pub Finished : Type 0
Finished =
    (calls : List (List ℕ)) → Each Bytes calls → (c : M.Case) → run_from none calls ≡ some c → M.letter c.stage ≡ 5
    → ShownFinished (ledger_after no_held calls) c

-- ---- the claim

pub record Claim : Type 0 where
  pub answers : AnswersFirst
  pub agrees : Agrees
  pub one-of-five : OneOfFive
  pub methods : MethodsAgree
  pub head : HeadAgrees
  pub sales : KeepsSales
  pub bids : KeepsBids
  pub sums : KeepsSums
  pub requirement : ReadsRequirement
  pub outside : ShowsOutside
  pub reserves : KeepsReserves
  pub finishes : Finishes
  pub finished : Finished
