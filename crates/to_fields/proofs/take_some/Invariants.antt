-- `to_fields::take_some` meets its contract. Assumes nothing.
use Rattle.std.proofs.Common.{◌≡◌, ◌-◌, length, drop}
use Rattle.to_fields.specs.Turns.{NextLine}
use Rattle.to_fields.proofs.Sizes.{Taking}
use Rattle.to_fields.proofs.take_some.Given as goal

abbrev pub invariant-loop-line : goal.invariant-loop-line
invariant-loop-line l =
    Taking l.last l.input l.initial.out l.out l.count l.used l.to × NextLine (length l.out - l.to) l.last (drop l.used l.input) l.line × (length l.out ≡ length l.initial.out)

abbrev pub decreases-loop-line : goal.decreases-loop-line
decreases-loop-line l = length l.input - l.used
