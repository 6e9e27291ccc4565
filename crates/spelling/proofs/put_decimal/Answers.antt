-- `spelling::put_decimal` meets its contract: a number that fits is put. Assumes nothing.
use mathlib.Core.Path.{◌≡◌, ap, ◌∙◌}
use mathlib.Core.List.{List}
use Prim.Native.Nat.{ℕ, ◌+◌, ◌≤◌}
use native.Mathlib.Omega.{arith}
use lib.ListN.{length}
use lib.Seq.{length-sets}
use Rattle.machine.specs.Printed.{decimal}
use Rattle.lines.specs.Placed.{Placed, placed}
use Rattle.lines.proofs.Decimals.{decimal-le}
use Rattle.lines.proofs.Numbers.{placed-fits}
use Rattle.forms.specs.Put.{Put}
use Rattle.spelling.proofs.put_decimal.Goals as goal

-- a text that is placed where it fits is put
put-placed : (t old : List ℕ) (at most r : ℕ) (new : List ℕ) → length t ≤ most → at + most ≤ length old → ◌≡◌ {A = Placed} (r, new) (placed t old at) → Put old at t most r new
put-placed t old at most r new short room e =
    let f = e ∙ placed-fits t old at (omega arith) in
    let stored = ap (λ (p : Placed). p.1) f in
    record { behind = ap (λ (p : Placed). p.0) f; stored = stored; short = short; same = ap length stored ∙ length-sets old at t }

pub returns : goal.returns
returns c =
    let a = c.args in
    put-placed (decimal 20 a.n) a.out.now a.at 20 _ _ (decimal-le 20 a.n) (omega arith) c.number.ensures
