-- The machine's case that a stage, a book and a roll show. The program keeps no roll: its units are counted (`Rattle.units`).
use Rattle.std.specs.Prelude.{List}
use Rattle.machine.specs.Roll.{Entry}
use Rattle.machine.specs.State as M
use Rattle.wire.specs.Asked.{head_of}
use Rattle.accounts.specs.Pools.{view_pools}
use Rattle.accounts.specs.Members.{view_members}
use Rattle.accounts.specs.Rounds.{view_rounds}
use Rattle.accounts.specs.Bids.{view_bids}
use Rattle.book.specs.declared.Stage.{Stage}
use Rattle.book.specs.declared.Book.{Book}
use Rattle.book.specs.Stages.{view_stage}

abbrev pub view_of : Stage → Book → List Entry → M.Case
view_of stage b roll =
    record {
      stage = view_stage stage;
      head = head_of b.head;
      pools = view_pools b.pools;
      members = view_members b.members;
      rounds = view_rounds b.head.pools b.rounds;
      bids = view_bids b.bids;
      roll = roll;
    }
