-- `stream::run_to_end` meets its contract. Assumes nothing.
use Rattle.std.proofs.Common.{refl, arith}
use Rattle.stream.proofs.Turning.{ends-not, ends}
use Rattle.stream.proofs.run_to_end.Goals as goal

pub returns-in_err-rest : goal.returns-in_err-rest
returns-in_err-rest c = ends-not _ _ _ c.from_residual.ensures.1

pub returns : goal.returns
returns c =
    let t = c.take_input in
    let rest = c.in_ok-rest.rest in
    let e = c.last_text in
    ends t.new.buf _ t.new.out _ rest.held rest.len e.result (omega (arith, c.requires.1, t.auto.out)) c.in_ok-rest.ensures refl e.ensures
