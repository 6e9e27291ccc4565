use mathlib.Core.Path.{refl, ap}
use mathlib.Core.List.{[], ◌∷◌}
use Prim.Native.Nat.{◌+◌, ◌%◌}
use native.Mathlib.Omega.{arith}
use lib.ListN.{length}
use borrow.Author.Rules.{rules}
use Rattle.lines.proofs.Decimals.{spelling-none, spelling-turn, spelling-done}
use Rattle.lines.proofs.digits.Goals as goal

pub loop-rest-init : goal.loop-rest-init
loop-rest-init c = record { spelled = []; spelling = spelling-none c.args.n (search rules); count = refl }

pub overflow_add-k : goal.overflow_add-k
overflow_add-k c = let d = c.loop-rest.invariant in omega (arith, d.count, d.spelling.digits)

pub loop-rest-preserved : goal.loop-rest-preserved
loop-rest-preserved c =
    let d = c.loop-rest.invariant in
    record {
      spelled = (48 + c.loop-rest.rest % 10) ∷ d.spelled;
      spelling = spelling-turn _ _ d.spelled d.spelling (search rules);
      count = omega (arith, d.count);
    }

pub returns : goal.returns
returns c =
    let d = c.loop-rest.invariant in
    (omega (arith, d.count, ap length (spelling-done _ _ d.spelled d.spelling (search rules))), omega (arith, d.count, d.spelling.digits, d.spelling.some))
