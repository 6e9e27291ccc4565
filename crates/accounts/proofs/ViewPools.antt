-- The pools given, as the machine has them: `new` shows none, `put` one more at the end. Assumes nothing.
use mathlib.Core.Path.{◌≡◌, refl, sym, ap}
use mathlib.Core.List.{[], ◌∷◌, ◌++◌}
use Prim.Native.Nat.{ℕ, ◌≤◌, ◌<◌}
use native.Mathlib.Omega.{arith}
use lib.ListN.{length, get_or, length-set}
use lib.Seq.{get_or-set_same, get_or-set_other}
use borrow.Author.Tests.{lt-ltb, ltb-true}
use lib.Dec.{ltb}
use Rattle.lists.specs.Lists.{tab}
use Rattle.lists.proofs.Bools.{by-test}
use Rattle.lists.proofs.Places.{tab-more, get_or-tab, length-tab}
use Rattle.machine.specs.State as M
use Rattle.accounts.specs.declared.pools.Pools.{Pools}
use Rattle.accounts.specs.Pools.{no_pools, put_pool, view_pools}

-- what holds of every value that a program reaches
pub record PoolsLong (x : Pools) : Type 0 where
  pub few : x.given ≤ 4
  pub units : length x.units ≡ 4
  pub marks : length x.marks ≡ 4

pub new-long : PoolsLong no_pools
unfolding no_pools
new-long = record { few = omega arith; units = refl; marks = refl }

pub put-long : (x : Pools) (units mark : ℕ) → PoolsLong x → PoolsLong (put_pool x units mark)
unfolding put_pool
put-long x units mark w =
    by-test PoolsLong (ltb x.given 4)
    (λ t.
    record {
      few = omega (arith, ltb-true x.given 4 t);
      units = simp length-set w.units;
      marks = simp length-set w.marks;
    })
    (λ t. w)

pub view-new : view_pools no_pools ≡ []
unfolding no_pools tab
view-new = refl

pub view-put : (x : Pools) (units mark : ℕ) → PoolsLong x → x.given < 4
    → view_pools (put_pool x units mark) ≡ view_pools x ++ (record { units = units; mark = mark } ∷ [])
unfolding put_pool
view-put x units mark w room =
    rw (lt-ltb x.given 4 room)
    (tab-more x.given _ _ _
    (λ p l. λ j. record {
      units = get_or-set_other x.units x.given p units 0 (omega arith) j;
      mark = get_or-set_other x.marks x.given p mark 0 (omega arith) j;
    })
    (λ j. record {
      units = get_or-set_same x.units x.given units 0 (omega (arith, w.units)) j;
      mark = get_or-set_same x.marks x.given mark 0 (omega (arith, w.marks)) j;
    }))

pub length-view : (x : Pools) → length (view_pools x) ≡ x.given
length-view x = length-tab x.given _

-- a pool's units and its mark
module _ (x : Pools) (p : ℕ) (l : p < x.given) where
  pub units-shown : get_or x.units p 0 ≡ (get_or (view_pools x) p M.no_pool).units
  units-shown = sym (ap (λ (q : M.Pool). q.units) (get_or-tab x.given _ p M.no_pool l))

  pub mark-shown : get_or x.marks p 0 ≡ (get_or (view_pools x) p M.no_pool).mark
  mark-shown = sym (ap (λ (q : M.Pool). q.mark) (get_or-tab x.given _ p M.no_pool l))
