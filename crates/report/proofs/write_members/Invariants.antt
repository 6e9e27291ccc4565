-- `report::write_members` meets its contract. The invariant: the lines of the members left, put behind those that are put, give the whole. Assumes nothing.
use mathlib.Core.Path.{◌≡◌}
use mathlib.Core.List.{map}
use lib.ListN.{length}
use Rattle.sets.specs.Set.{members}
use Rattle.report.specs.Texts.{placed_lines, m_line_of}
use Rattle.report.proofs.write_members.Given as goal

abbrev pub invariant-loop-m : goal.invariant-loop-m
invariant-loop-m l =
    (length l.out ≡ length l.initial.out)
    × (placed_lines (map (m_line_of l.res) (members l.m-iterator.left)) l.out l.to ≡ placed_lines (map (m_line_of l.res) (members l.set)) l.initial.out l.at)
