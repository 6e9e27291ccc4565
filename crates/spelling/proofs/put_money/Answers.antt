-- `spelling::put_money` meets its contract. Assumes nothing.
use mathlib.Core.List.{[], ◌∷◌}
use Prim.Native.Nat.{◌+◌, ◌/◌, ◌%◌}
use Rattle.forms.proofs.Puts.{put_then}
use Rattle.machine.specs.Printed.{decimal}
use Rattle.spelling.specs.Text.{money_text}
use Rattle.spelling.proofs.put_money.Goals as goal

pub returns : goal.returns
unfolding money_text
returns c =
    let n = c.args.n in
    put_then (decimal 20 (n / 100)) (46 ∷ (48 + n / 10 % 10) ∷ (48 + n % 10) ∷ []) c.put_decimal-a.ensures
    (put_then (46 ∷ []) ((48 + n / 10 % 10) ∷ (48 + n % 10) ∷ []) c.put-b.ensures
    (put_then ((48 + n / 10 % 10) ∷ []) ((48 + n % 10) ∷ []) c.put_digit-c.ensures c.put_digit.ensures))
