-- What is to be shown of the case after an accepted call: with the machine's roll after it, it shows the machine's case, and it is sound. Assumes nothing.
use mathlib.Core.Path.{◌≡◌, sym, subst}
use mathlib.Core.List.{List}
use Prim.Native.Nat.{◌^◌, ◌<◌}
use Rattle.machine.specs.Roll.{Entry}
use Rattle.machine.specs.Wire as Wire
use Rattle.machine.specs.State as M
use Rattle.machine.specs.Calls.{accepted}
use Rattle.units.proofs.Right.{Right}
use Rattle.accounts.specs.Bids.{won_table}
use Rattle.accounts.proofs.ViewPools.{PoolsLong}
use Rattle.accounts.proofs.ViewMembers.{MembersLong}
use Rattle.accounts.proofs.ViewRounds.{RoundsLong}
use Rattle.accounts.proofs.ViewBids.{BidsLong}
use Rattle.book.proofs.Sound.{Sound}
use Rattle.case.specs.declared.Case.{Case}
use Rattle.case.specs.Cases.{case_after}
use Rattle.case.specs.View.{view}

pub record Shown (c : Case) (roll : List Entry) (call : Wire.Call) : Type 0 where
  pub shows : view (case_after c call) (accepted (view c roll) call).roll ≡ accepted (view c roll) call
  pub sound : Sound (case_after c call).stage (case_after c call).book (accepted (view c roll) call).roll

-- the parts of a book that a call leaves sound
pub record Parts (c : Case) : Type 0 where
  pub set : c.book.head.set < 2 ^ 32
  pub pools : PoolsLong c.book.pools
  pub members : MembersLong c.book.members
  pub rounds : RoundsLong c.book.rounds
  pub bids : BidsLong c.book.bids
  pub won : c.book.members.won ≡ won_table c.book.bids

pub shown_by : (c : Case) (roll : List Entry) (call : Wire.Call) → view (case_after c call) (accepted (view c roll) call).roll ≡ accepted (view c roll) call
    → Parts (case_after c call) → Right (accepted (view c roll) call) (case_after c call).book.units → Shown c roll call
shown_by c roll call same parts right = record {
  shows = same;
  sound = record {
    set = parts.set;
    pools = parts.pools;
    members = parts.members;
    rounds = parts.rounds;
    bids = parts.bids;
    won = parts.won;
    units = subst (λ (d : M.Case). Right d (case_after c call).book.units) (sym same) right;
  };
}

-- cases with the same parts
pub case-ext : (a b : M.Case) → a.stage ≡ b.stage → a.head ≡ b.head → a.pools ≡ b.pools → a.members ≡ b.members → a.rounds ≡ b.rounds
    → a.bids ≡ b.bids → a.roll ≡ b.roll → a ≡ b
case-ext a b stage head pools members rounds bids roll =
    λ j. record {
      stage = stage j;
      head = head j;
      pools = pools j;
      members = members j;
      rounds = rounds j;
      bids = bids j;
      roll = roll j;
    }
