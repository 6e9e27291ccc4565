-- Document 01, "Requirement": the loss, the tranches, what is prefunded, and what a member owes.
use Rattle.std.specs.Prelude.{List, map, ℕ, ◌+◌, ◌-◌, ◌*◌, ◌/◌, length}
use Rattle.lists.specs.Lists.{when◌then◌else◌, sum}
use Rattle.auction.specs.Price.{zero_price}
use Rattle.machine.specs.Roll.{prices}
use Rattle.machine.specs.State.{Case, Member, member_list, member_at}

-- "Requirement: hedge loss + other loss − the prices of all units not open, at least 0": each price is held 1,000,000 too high, and `-` stops
-- at 0. In signed cents: `requirement-in-cents`
unfoldable pub requirement : Case → ℕ
requirement c =
    let ps = prices c.bids c.roll in
    c.head.hedge_loss + c.head.other_loss + zero_price * length ps - sum ps

-- "First tranche = floor(3 × house money / 5), the second the rest."
unfoldable pub first_tranche : ℕ → ℕ
first_tranche house = 3 * house / 5

unfoldable pub second_tranche : ℕ → ℕ
second_tranche house = house - first_tranche house

-- what each member contributed
abbrev pub contribution_of : Case → ℕ → ℕ
contribution_of c m = (member_at c.members m).contribution

-- "all contributions"
unfoldable pub contributions : Case → ℕ
contributions c = sum (map (contribution_of c) (member_list c.head))

-- "Prefunded = margin, defaulter's fund, house money and all contributions added."
unfoldable pub prefunded : Case → ℕ
prefunded c = c.head.margin + c.head.fund + c.head.house + contributions c

-- "It owes its call less payments, and 0 after MOVE."
unfoldable pub owes : List Member → ℕ → ℕ
owes ms m = let x = member_at ms m in when x.moved then 0 else x.called - x.paid
