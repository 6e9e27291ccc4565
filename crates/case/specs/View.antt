-- The machine's case that the program's case and a roll show.
use Rattle.std.specs.Prelude.{List}
use Rattle.machine.specs.Roll.{Entry}
use Rattle.machine.specs.State as M
use Rattle.book.specs.View.{view_of}
use Rattle.case.specs.declared.Case.{Case}

abbrev pub view : Case → List Entry → M.Case
view c roll = view_of c.stage c.book roll
