-- `spelling::put_member` meets its contract. Assumes nothing.
use mathlib.Core.List.{[], ◌∷◌}
use Rattle.forms.proofs.Puts.{put_then}
use Rattle.machine.specs.Printed.{decimal}
use Rattle.spelling.proofs.put_member.Goals as goal

pub returns : goal.returns
returns c = put_then (44 ∷ []) (decimal 20 c.args.m) c.put-a.ensures c.put_decimal.ensures
