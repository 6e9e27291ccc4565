-- `stream::last_text` meets its contract. Assumes nothing.
use native.Mathlib.Omega.{arith}
use Rattle.report.specs.Texts.{cut_lines, held_lines}
use Rattle.report.proofs.Placing.{lines_then, lines-within}
use Rattle.stream.proofs.last_text.Goals as goal

pub returns : goal.returns
returns c =
    let a = c.args in
    let cut = c.write_cut-to in
    let end = c.write_end in
    let h = lines-within _ _ 0 cut.result _ cut.ensures (omega arith) in
    let k = lines-within _ _ _ end.result _ end.ensures h in
    record {
      is = lines_then (cut_lines a.rest.now) (held_lines a.held) _ _ _ 0 cut.result end.result cut.ensures end.ensures;
      fits = omega (arith, k);
    }
