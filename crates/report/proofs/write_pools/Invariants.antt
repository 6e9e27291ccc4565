-- `report::write_pools` meets its contract. The invariant: the lines left, put behind those that are put, give the whole. Assumes nothing.
use mathlib.Core.Path.{◌≡◌}
use lib.ListN.{length}
use Rattle.report.proofs.Placing.{tab_from}
use Rattle.lists.specs.Lists.{tab}
use Rattle.report.specs.Texts.{placed_lines, p_line_of}
use Rattle.report.proofs.write_pools.Given as goal

abbrev pub invariant-loop-pool : goal.invariant-loop-pool
invariant-loop-pool l =
    (length l.out ≡ length l.initial.out)
    × (placed_lines (tab_from l.pool l.pool-end (p_line_of l.case)) l.out l.to ≡ placed_lines (tab l.pool-end (p_line_of l.case)) l.initial.out l.at)
