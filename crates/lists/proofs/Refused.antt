-- No refusal has the number 0, which an accepted call is answered. Assumes nothing.
use mathlib.Core.Path.{◌≡◌}
use Prim.Native.Nat.{◌<◌}
use native.Mathlib.Omega.{arith}
use Rattle.lists.specs.declared.refusal.Refusal.{Refusal}
use Rattle.lists.specs.declared.refusal.Refusal.TheVariants.{Unreadable, WrongStage, WrongPool, WrongMember, OutOfRange, BelowLeastBid, BidsFull, NoOpenUnit, PositiveMark, Missing, OpenUnit, EnoughPrefunded, TooLittlePrefunded, NotOwed, MemberOwes, NothingPassed, TooDear, NoStandingBid}
use Rattle.lists.specs.Refusals.{number_of}

pub above-0 : (r : Refusal) → 0 < number_of r
above-0 Unreadable = omega arith
above-0 WrongStage = omega arith
above-0 WrongPool = omega arith
above-0 WrongMember = omega arith
above-0 OutOfRange = omega arith
above-0 BelowLeastBid = omega arith
above-0 BidsFull = omega arith
above-0 NoOpenUnit = omega arith
above-0 PositiveMark = omega arith
above-0 Missing = omega arith
above-0 OpenUnit = omega arith
above-0 EnoughPrefunded = omega arith
above-0 TooLittlePrefunded = omega arith
above-0 NotOwed = omega arith
above-0 MemberOwes = omega arith
above-0 NothingPassed = omega arith
above-0 TooDear = omega arith
above-0 NoStandingBid = omega arith

pub not-accepted : (r : Refusal) → number_of r ≡ 0 → ⊥
not-accepted r e = omega (arith, above-0 r, e)
