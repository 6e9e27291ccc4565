-- `report::write_answers` meets its contract. The invariant: the lines left, put behind those that are put, give the whole. Assumes nothing.
use mathlib.Core.Path.{◌≡◌}
use lib.ListN.{length}
use Rattle.lists.specs.Lists.{tab}
use Rattle.report.specs.Texts.{start_of, answer_line, placed_lines}
use Rattle.report.proofs.Placing.{tab_from}
use Rattle.report.proofs.write_answers.Given as goal

abbrev pub invariant-loop-k : goal.invariant-loop-k
invariant-loop-k l =
    let k = l.k in
    let n = length l.ends in
    let f = answer_line l.input l.ends l.answers in
    (l.start ≡ start_of l.ends k) × (length l.out ≡ length l.initial.out) × (placed_lines (tab_from k n f) l.out l.to ≡ placed_lines (tab n f) l.initial.out l.at)
