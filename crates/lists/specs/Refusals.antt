-- The numbers of the reasons for which a call is declined, and of its answer. "Each gives its number .. 0 is accepted."
use Rattle.std.specs.Prelude.{ℕ, Result, Ok, Err}
use Rattle.lists.specs.declared.refusal.Refusal.{Refusal}
use Rattle.lists.specs.declared.refusal.Refusal.TheVariants.{Unreadable, WrongStage, WrongPool, WrongMember, OutOfRange, BelowLeastBid, BidsFull, NoOpenUnit, PositiveMark, Missing, OpenUnit, EnoughPrefunded, TooLittlePrefunded, NotOwed, MemberOwes, NothingPassed, TooDear, NoStandingBid}

abbrev pub number_of : Refusal → ℕ
number_of Unreadable = 1
number_of WrongStage = 2
number_of WrongPool = 3
number_of WrongMember = 4
number_of OutOfRange = 5
number_of BelowLeastBid = 6
number_of BidsFull = 7
number_of NoOpenUnit = 8
number_of PositiveMark = 9
number_of Missing = 10
number_of OpenUnit = 11
number_of EnoughPrefunded = 12
number_of TooLittlePrefunded = 13
number_of NotOwed = 14
number_of MemberOwes = 15
number_of NothingPassed = 16
number_of TooDear = 17
number_of NoStandingBid = 18

-- the answer to a call: 0 where it is accepted
abbrev pub answer_of : Result (Unit {0}) Refusal → ℕ
answer_of (Ok u) = 0
answer_of (Err e) = number_of e
