-- What every stage, book and roll of a case have besides what they show: array lengths, the units won as they are counted, and the units that are the roll's.
use mathlib.Core.Path.{◌≡◌}
use mathlib.Core.List.{List}
use Prim.Native.Nat.{◌^◌, ◌<◌}
use Rattle.machine.specs.Roll.{Entry}
use Rattle.units.proofs.Right.{Right}
use Rattle.accounts.specs.Bids.{won_table}
use Rattle.accounts.proofs.ViewPools.{PoolsLong}
use Rattle.accounts.proofs.ViewMembers.{MembersLong}
use Rattle.accounts.proofs.ViewRounds.{RoundsLong}
use Rattle.accounts.proofs.ViewBids.{BidsLong}
use Rattle.book.specs.declared.Stage.{Stage}
use Rattle.book.specs.declared.Book.{Book}
use Rattle.book.specs.View.{view_of}

pub record Sound (stage : Stage) (b : Book) (roll : List Entry) : Type 0 where
  pub set : b.head.set < 2 ^ 32
  pub pools : PoolsLong b.pools
  pub members : MembersLong b.members
  pub rounds : RoundsLong b.rounds
  pub bids : BidsLong b.bids
  pub won : b.members.won ≡ won_table b.bids
  pub units : Right (view_of stage b roll) b.units
