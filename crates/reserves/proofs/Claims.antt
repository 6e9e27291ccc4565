-- Document 02, C-17: reserves stay inside the house (specs/Reserves.antt), in the printed text too (specs/Text.antt). Assumes nothing.
use mathlib.Core.List.{List}
use Prim.Native.Nat.{ℕ}
use Rattle.machine.specs.Printed.{printed}
use Rattle.reserves.specs.Reserves.{SameButReserves, SameAtClose, ReservesStayInside, OnlyStandingTell}
use Rattle.reserves.specs.Text.{fields_of, TextStaysAlike}
use Rattle.reserves.proofs.Alike.{same-answers, same-states}
use Rattle.reserves.proofs.Seen.{same-outside}
use Rattle.reserves.proofs.Text.{same_text}

-- where the same bids are valid after any number of calls, they are where a round is closed
at-close : (calls others : List (List ℕ)) → SameButReserves calls others → SameAtClose calls others
at-close calls others same = record { fields = same.fields; bids = λ k is i here there stands. same.bids k i here there }

pub only-standing-tell : OnlyStandingTell
only-standing-tell calls others same =
    record { answers = same-answers calls others same; shown = same-outside calls others same; cases = same-states calls others same }

pub reserves-stay-inside : ReservesStayInside
reserves-stay-inside calls others same = only-standing-tell calls others (at-close calls others same)

pub text-stays-alike : TextStaysAlike
unfolding printed
text-stays-alike input other same = same_text (fields_of input) (fields_of other) (at-close (fields_of input) (fields_of other) same)
