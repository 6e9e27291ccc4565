-- The program's case and its calls, over its own structs.
use Rattle.std.specs.Prelude as R
use Rattle.std.specs.Prelude.{Some, None, is_some, List, ℕ, ltb, eqb, length, get_or}
use Rattle.std.proofs.Math.Option.{Option, none, some}
use Rattle.lists.specs.Lists.{when◌then◌else◌, between}
use Rattle.machine.specs.Wire as Wire
use Rattle.wire.specs.declared.Head.{Head}
use Rattle.book.specs.declared.Book.{Book}
use Rattle.book.specs.declared.Stage.{Stage}
use Rattle.book.specs.declared.Stage.TheVariants.{Setup, Bidding, After, CallsOut, Finished}
use Rattle.book.specs.Stages.{round_of, next_round}
use Rattle.book.specs.Books.{any_open_in, new_book, pool_book, member_book, round_book, bid_book, close_book, allocate_book, tear_book, call_book, pay_book, move_book, miss_book, sale_book, withdraw_book}
use Rattle.refusals.specs.Answers.{head_answer, pool_answer, member_answer, round_answer, bid_answer, close_answer, allocate_answer, tear_answer, call_answer, pay_answer, move_answer, miss_answer, finish_answer, sale_answer, withdraw_answer}
use Rattle.case.specs.declared.Case.{Case}
use Rattle.case.specs.declared.Outcome.{Outcome}
use Rattle.case.specs.declared.Applied.{Applied}

-- a stage and a book
abbrev pub case_of : Stage → Book → Case
case_of stage b = record { stage = stage; book = b }

-- ---- what is held

-- HEAD
unfoldable pub new_case : Head → Case
new_case h = case_of Setup (new_book h)

-- no case, or a case
abbrev pub Held : Type 0
Held = R.Option Case

-- no case is held
abbrev pub no_held : Held
no_held = None

-- a case of which every number is 0
unfoldable pub empty_case : Case
empty_case = new_case (record { pools = 0; least = 0; set = 0; hedge = 0; other = 0; margin = 0; fund = 0; house = 0 })

-- the case that is held, and the empty one where none is
abbrev pub case_in : Held → Case
case_in None = empty_case
case_in (Some c) = c

-- ---- the answer to a call

-- the numbers of HEAD as the program holds them
abbrev pub head_from : Wire.Head → Head
head_from h =
    record {
      pools = h.pools;
      least = h.least_bid;
      set = h.set;
      hedge = h.hedge_loss;
      other = h.other_loss;
      margin = h.margin;
      fund = h.fund;
      house = h.house;
    }

-- the answer to a call, where a case is held
unfoldable pub case_answer : Case → Wire.Call → ℕ
case_answer c (Wire.HEAD h) = 2
case_answer c (Wire.POOL pool units mark) = pool_answer c.stage c.book pool units mark
case_answer c (Wire.MEMBER m contribution es) = member_answer c.stage c.book m contribution (get_or es 0 0) (get_or es 1 0) (get_or es 2 0) (get_or es 3 0)
case_answer c (Wire.ROUND rs) = round_answer c.stage c.book (length rs) (get_or rs 0 0) (get_or rs 1 0) (get_or rs 2 0) (get_or rs 3 0)
case_answer c (Wire.BID pool m units price) = bid_answer c.stage c.book pool m units price
case_answer c Wire.CLOSE = close_answer c.stage
case_answer c (Wire.ALLOCATE pool price) = allocate_answer c.stage c.book pool price
case_answer c (Wire.TEAR pool price) = tear_answer c.stage c.book pool price
case_answer c Wire.CALL = call_answer c.stage c.book
case_answer c (Wire.PAY m amount) = pay_answer c.stage c.book m amount
case_answer c (Wire.MOVE m) = move_answer c.stage c.book m
case_answer c (Wire.MISS m price) = miss_answer c.stage c.book m price
case_answer c Wire.FINISH = finish_answer c.stage c.book
case_answer c (Wire.SALE pool m price) = sale_answer c.stage c.book pool m price
case_answer c (Wire.WITHDRAW m n) = withdraw_answer c.stage c.book m n

-- the answer to a call, where none is held: only HEAD has a stage
unfoldable pub first_answer : Wire.Call → ℕ
first_answer (Wire.HEAD h) = head_answer (head_from h)
first_answer (Wire.POOL pool units mark) = 2
first_answer (Wire.MEMBER m contribution es) = 2
first_answer (Wire.ROUND rs) = 2
first_answer (Wire.BID pool m units price) = 2
first_answer Wire.CLOSE = 2
first_answer (Wire.ALLOCATE pool price) = 2
first_answer (Wire.TEAR pool price) = 2
first_answer Wire.CALL = 2
first_answer (Wire.PAY m amount) = 2
first_answer (Wire.MOVE m) = 2
first_answer (Wire.MISS m price) = 2
first_answer Wire.FINISH = 2
first_answer (Wire.SALE pool m price) = 2
first_answer (Wire.WITHDRAW m n) = 2

-- the answer to what is asked; bytes that are no call are answered 1
unfoldable pub case_answer_to : Case → Option Wire.Call → ℕ
case_answer_to c none = 1
case_answer_to c (some call) = case_answer c call

unfoldable pub first_answer_to : Option Wire.Call → ℕ
first_answer_to none = 1
first_answer_to (some call) = first_answer call

unfoldable pub answer_to : Held → Option Wire.Call → ℕ
answer_to h asked = when is_some h then case_answer_to (case_in h) asked else first_answer_to asked

-- reserve i of n, and 0 behind the last
abbrev pub reserve_if : ℕ → ℕ → ℕ → ℕ
reserve_if n i x = when ltb i n then x else 0

-- the answer to ROUND with n reserves; it has one to four of them
unfoldable pub reserves_answer : Case → ℕ → ℕ → ℕ → ℕ → ℕ → ℕ
reserves_answer c n p q r s =
    when between 1 4 n then round_answer c.stage c.book n (reserve_if n 0 p) (reserve_if n 1 q) (reserve_if n 2 r) (reserve_if n 3 s) else 1

-- ---- the case after an accepted call

unfoldable pub case_after : Case → Wire.Call → Case
case_after c (Wire.HEAD h) = new_case (head_from h)
case_after c (Wire.POOL pool units mark) = case_of c.stage (pool_book c.book pool units mark)
case_after c (Wire.MEMBER m contribution es) = case_of c.stage (member_book c.book m contribution (get_or es 0 0) (get_or es 1 0) (get_or es 2 0) (get_or es 3 0))
case_after c (Wire.ROUND rs) =
    case_of (Bidding (next_round (round_of c.stage))) (round_book c.book (get_or rs 0 0) (get_or rs 1 0) (get_or rs 2 0) (get_or rs 3 0))
case_after c (Wire.BID pool m units price) = case_of c.stage (bid_book c.book (round_of c.stage) pool m units price)
case_after c Wire.CLOSE = case_of (After (round_of c.stage)) (close_book c.book (round_of c.stage))
case_after c (Wire.ALLOCATE pool price) = case_of c.stage (allocate_book c.book pool price)
case_after c (Wire.TEAR pool price) = case_of c.stage (tear_book c.book pool price)
case_after c Wire.CALL = case_of CallsOut (call_book c.book)
case_after c (Wire.PAY m amount) = case_of c.stage (pay_book c.book m amount)
case_after c (Wire.MOVE m) = case_of c.stage (move_book c.book m)
case_after c (Wire.MISS m price) = case_of c.stage (miss_book c.book m price)
case_after c Wire.FINISH = case_of Finished c.book
case_after c (Wire.SALE pool m price) =
    let b = sale_book c.book pool m price in
    case_of (when any_open_in b then c.stage else After 1) b
case_after c (Wire.WITHDRAW m n) = case_of c.stage (withdraw_book c.book n)

-- the case after what is asked, if it is accepted
unfoldable pub after_asked : Case → Option Wire.Call → Case
after_asked c none = c
after_asked c (some call) = case_after c call

-- ---- a call taken

-- "Each gives its number and the unchanged case (none where there was none); 0 is accepted."
unfoldable pub take_asked : Held → Option Wire.Call → Applied
take_asked h asked =
    let n = answer_to h asked in
    record { answer = n; held = when eqb n 0 then Some (after_asked (case_in h) asked) else h }

-- one call, from any bytes
unfoldable pub applied : Held → List ℕ → Applied
applied h bytes = take_asked h (Wire.decode bytes)

-- ---- the calls as methods: "Each call takes the case and hands the case back"

-- HEAD makes a case, or none where its numbers are out of range
unfoldable pub head_outcome : Head → Applied
head_outcome h =
    let n = head_answer h in
    record { answer = n; held = when eqb n 0 then Some (new_case h) else no_held }

unfoldable pub outcome_of : Case → Option Wire.Call → Outcome
outcome_of c asked =
    let n = case_answer_to c asked in
    record { answer = n; case = when eqb n 0 then after_asked c asked else c }
