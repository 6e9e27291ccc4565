-- What FINISH charges, of any case: the layers add up and are charged in turn, and the members' charges add up to their layers. Assumes nothing.
use mathlib.Core.Path.{◌≡◌, sym, ap}
use mathlib.Core.Bool.{true}
use mathlib.Core.List.{List, map}
use Prim.Native.Nat.{ℕ, ◌+◌, ◌*◌, ◌≤◌, ◌<◌}
use native.Mathlib.Nat.{div-le_of_le-mul}
use native.Mathlib.Omega.{arith}
use lib.IntN.{pos, ◌-ℤ◌}
use lib.ListN.{get_or}
use borrow.Author.Tests.{eq-eqb}
use Rattle.lists.specs.Lists.{sum}
use Rattle.sets.specs.Set.{members}
use Rattle.splitting.proofs.Among.{shares-kept-sum, share-le}
use Rattle.auction.proofs.Cents.{less-prices}
use Rattle.waterfall.specs.Charging.{uncovered}
use Rattle.waterfall.proofs.Layers.{adds-up, charge-le, earlier-spent, uncovered-last as all-spent}
use Rattle.waterfall.proofs.Ranking.{rank-low, rank-at-most-32}
use Rattle.waterfall.proofs.ByRank.{charge-within, charges-add-up, members-in-turn}
use Rattle.auction.specs.Price.{at_least0}
use Rattle.machine.specs.Roll.{prices}
use Rattle.machine.specs.State.{Case, in_set, member_list, member_at}
use Rattle.machine.specs.Requirement.{requirement, contribution_of, contributions, prefunded, first_tranche, second_tranche}
use Rattle.machine.specs.Result.{standing, rank, payment_of, payments, limits, six_charges, charge, uncovered_rest, spent, on_contribution, on_payments}
use Rattle.machine.specs.Run.{sum_of_prices}

-- the two tranches are the house money
pub tranches-add-up : (house : ℕ) → first_tranche house + second_tranche house ≡ house
unfolding first_tranche second_tranche
tranches-add-up house = omega (arith, div-le_of_le-mul 5 {m = 3 * house} {n = house} (omega arith))

module _ (c : Case) where
  -- "Requirement: hedge loss + other loss − the prices of all units not open, at least 0", in signed cents
  pub requirement-in-cents : requirement c ≡ at_least0 (pos (c.head.hedge_loss + c.head.other_loss) -ℤ sum_of_prices c)
  unfolding requirement sum_of_prices
  requirement-in-cents = sym (less-prices (c.head.hedge_loss + c.head.other_loss) (prices c.bids c.roll))

  -- ---- the six layers

  -- the six charges and the uncovered rest add up to the loss
  pub layers-add-up : sum (six_charges c) + uncovered_rest c ≡ requirement c
  unfolding six_charges uncovered_rest
  layers-add-up = adds-up (requirement c) (limits c)

  -- no layer is charged above its limit
  pub layer-within : (layer : ℕ) → charge c layer ≤ get_or (limits c) layer 0
  unfolding charge six_charges
  layer-within layer = charge-le (requirement c) (limits c) layer

  -- none is charged while an earlier one has money left
  pub layers-in-turn : (earlier later : ℕ) → earlier < later → 0 < charge c later → spent c earlier ≡ true
  unfolding charge six_charges spent
  layers-in-turn earlier later h some = eq-eqb _ _ (earlier-spent (requirement c) (limits c) later earlier h some)

  -- nothing is uncovered unless all six are spent
  pub uncovered-last : 0 < uncovered_rest c → (layer : ℕ) → spent c layer ≡ true
  unfolding charge six_charges spent uncovered_rest
  uncovered-last some layer = eq-eqb _ _ (ap (λ (l : List ℕ). get_or l layer 0) (all-spent (requirement c) (limits c) some))

  -- what is prefunded covers a requirement up to it
  pub prefunded-covers : requirement c ≤ prefunded c → uncovered_rest c ≡ 0
  unfolding uncovered_rest uncovered limits prefunded sum
  prefunded-covers h = omega (arith, tranches-add-up c.head.house)

  -- ---- the members

  contributions-reach : charge c 3 ≤ sum (map (contribution_of c) (members c.head.set))
  unfolding limits contributions
  contributions-reach = layer-within 3

  payments-reach : charge c 5 ≤ sum (map (payment_of c) (members c.head.set))
  unfolding limits payments
  payments-reach = layer-within 5

  -- the members' charges on contributions add up to layer four, those on payments to layer six
  pub on-contribution-sum : sum (map (on_contribution c) (member_list c.head)) ≡ charge c 3
  unfolding on_contribution
  on-contribution-sum = charges-add-up c.head.set (rank c) (contribution_of c) (charge c 3) contributions-reach

  pub on-payments-sum : sum (map (on_payments c) (member_list c.head)) ≡ charge c 5
  unfolding on_payments members
  on-payments-sum = shares-kept-sum 32 (in_set c.head) (charge c 5) (payment_of c) payments-reach

  -- no member is charged above its contribution, or above its payments
  pub on-contribution-le : (m : ℕ) → on_contribution c m ≤ (member_at c.members m).contribution
  unfolding on_contribution
  on-contribution-le m = charge-within c.head.set (rank c) (contribution_of c) (charge c 3) m

  pub on-payments-le : (m : ℕ) → on_payments c m ≤ (member_at c.members m).paid
  unfolding on_payments members
  on-payments-le m = share-le 32 (in_set c.head) (charge c 5) (payment_of c) payments-reach m

  -- "most junior rank first": a member is charged on its contribution only if every member of a rank junior to its own is charged all of its own
  pub juniors-first : (senior junior : ℕ) → junior < 32 → in_set c.head junior ≡ true → rank c senior < rank c junior → 0 < on_contribution c senior
      → on_contribution c junior ≡ (member_at c.members junior).contribution
  unfolding on_contribution
  juniors-first senior junior l on h some =
      members-in-turn c.head.set (rank c) (contribution_of c) (charge c 3) senior junior l on h some

  -- a rank is 1 to 32
  pub rank-ok : (m : ℕ) → m < 32 → in_set c.head m ≡ true → (1 ≤ rank c m) × (rank c m ≤ 32)
  unfolding rank
  rank-ok m l on = (rank-low c.head.set (standing c) m, rank-at-most-32 c.head.set (standing c) m l on)
