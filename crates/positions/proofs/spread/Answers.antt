use Rattle.std.proofs.Common.{◌≡◌, ℕ, ◌+◌, set, sym, ap, ◌∙◌, arith}
use Rattle.lists.proofs.Stores.{front-turn}
use Rattle.lists.proofs.Sums.{sum_to-none, count_small}
use Rattle.sets.specs.Set.{member, of_members}
use Rattle.positions.specs.Days.{by_member}
use Rattle.positions.proofs.Ends.{placed, place-next, placed-is, one-is}
use Rattle.positions.proofs.Taking.{begin}
use Rattle.positions.proofs.spread.Goals as goal

pub loop-m-init : goal.loop-m-init
loop-m-init c = (sym (sum_to-none _), omega arith, sym (begin _ _ _))

pub loop-m-preserved : goal.loop-m-preserved
loop-m-preserved c =
    let a = c.args in
    let at = c.loop-m in
    let one = c.from-j.ensures ∙ one-is c.has-is.result in
    let next = place-next a.set at.m at.j _ _ c.has-is.ensures one at.invariant.0 in (
      next,
      omega (arith, next, count_small (at.m + 1) (member a.set)),
      ap (λ (k : ℕ). set at.shares k c.number_if.result) c.from.ensures
          ∙ front-turn _ _ at.m _ (placed a.set a.xs) at.invariant.2 (placed-is a.set at.m at.j _ a.xs _ c.has-is.ensures at.invariant.0 c.number_if.ensures),
    )

pub returns : goal.returns
unfolding by_member of_members
returns c =
    let at = c.loop-m in
    let all : at.m ≡ 32 = omega arith in
    rw all at at.invariant.2
