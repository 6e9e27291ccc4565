-- `to_text::run_to_end` meets its contract. Assumes nothing.
use Rattle.std.proofs.Common.{refl, arith}
use Rattle.to_text.proofs.Turning.{ends-not, last-room, ends}
use Rattle.to_text.proofs.run_to_end.Goals as goal

pub returns-in_err-len : goal.returns-in_err-len
returns-in_err-len c = ends-not _ _ _ c.from_residual.ensures.1

pub last_text-requires : goal.last_text-requires
last_text-requires c =
    let t = c.take_input in
    last-room _ _ t.new.out _ c.in_ok-len.ensures refl (omega (arith, c.requires, t.auto.out))

pub returns : goal.returns
returns c = ends _ _ _ _ c.in_ok-len.ensures refl _ _ c.last_text.ensures
