-- `accounts::members::over_pools_at` meets its contract. Assumes nothing.
use native.Mathlib.Nat.{add-zero}
use native.Mathlib.Omega.{arith}
use Prim.Native.Nat.{◌*◌}
use Rattle.lists.specs.Lists.{sum_to}
use Rattle.accounts.specs.Members.{over_pools_at}
use Rattle.accounts.proofs.members.over_pools_at.Goals as goal

pub returns : goal.returns
unfolding over_pools_at sum_to
returns c = rw (add-zero (4 * c.args.m)) (omega (arith, c.from-a.ensures, c.from-b.ensures, c.from-c.ensures, c.from-d.ensures))
