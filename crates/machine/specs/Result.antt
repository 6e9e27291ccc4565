-- Document 01, "Rank and layers": each member's rank, and what FINISH charges.
use Rattle.std.specs.Prelude.{Bool, false, List, [], ◌∷◌, map, ℕ, ◌-◌, ◌*◌, eqb, get_or}
use Rattle.lists.specs.Lists.{when◌then◌else◌, sum, keep, least, map_from}
use Rattle.splitting.specs.Split.{split_among}
use Rattle.waterfall.specs.Seniority.{Standing, rank_in}
use Rattle.waterfall.specs.Charging.{charged, uncovered, charged_by_rank}
use Rattle.machine.specs.Roll.{sold_by_agreement}
use Rattle.machine.specs.State.{Round, Case, in_set, member_list, member_at}
use Rattle.machine.specs.Requirement.{requirement, first_tranche, second_tranche, contribution_of, contributions}

-- "A pool's worst reserve is the lower of those of the rounds in which it had open units."
unfoldable pub worst_reserve : List Round → ℕ → ℕ
worst_reserve rounds pool = least (map (λ r. get_or r.reserves pool 0) (keep (λ r. get_or r.opened pool false) rounds))

-- "Units won are those given at CLOSE; later moves don't lower them. .. D sums units won × (price − worst reserve) over all pools, W is units
-- won, excess is W less expected units over all pools." A bid that won has a price at or above its pool's worst reserve (`won-above-reserve`),
-- so no difference is cut off.
-- Document 02, C-12: "Such units, and the units expected in a pool so sold, don't count for rank."
unfoldable pub standing : Case → ℕ → Standing
standing c m =
    let bids = keep (λ b. eqb b.member m) c.bids in
    record {
      D = sum (map (λ b. b.won * (b.price - worst_reserve c.rounds b.pool)) bids);
      W = sum (map (λ b. b.won) bids);
      expected = sum (map_from 0 (λ pool n. when sold_by_agreement c.roll pool then 0 else n) (member_at c.members m).expected);
    }

-- "Rank = 1 + the number strictly senior."
unfoldable pub rank : Case → ℕ → ℕ
rank c m = rank_in c.head.set (standing c) m

-- what each member paid
abbrev pub payment_of : Case → ℕ → ℕ
payment_of c m = (member_at c.members m).paid

unfoldable pub payments : Case → ℕ
payments c = sum (map (payment_of c) (member_list c.head))

-- "to: margin; defaulter's fund; first tranche; contributions ..; second tranche; payments", each "up to its limit, the amount it holds (for
-- payments, what was paid)"
unfoldable pub limits : Case → List ℕ
limits c =
    c.head.margin
    ∷ c.head.fund
    ∷ first_tranche c.head.house
    ∷ contributions c
    ∷ second_tranche c.head.house
    ∷ payments c
    ∷ []

-- "FINISH charges the requirement in turn": the six charges
unfoldable pub six_charges : Case → List ℕ
six_charges c = charged (requirement c) (limits c)

-- what a layer is charged; the layers are counted from 0, as in `limits`
unfoldable pub charge : Case → ℕ → ℕ
charge c layer = get_or (six_charges c) layer 0

-- "The rest is uncovered."
unfoldable pub uncovered_rest : Case → ℕ
uncovered_rest c = uncovered (requirement c) (limits c)

-- "A layer charged its whole limit is spent; one charged less has money left."
unfoldable pub spent : Case → ℕ → Bool
spent c layer = eqb (charge c layer) (get_or (limits c) layer 0)

-- "contributions, most junior rank first, an equal rank split by contribution in member order": what a member is charged on its contribution
unfoldable pub on_contribution : Case → ℕ → ℕ
on_contribution c m = charged_by_rank c.head.set (rank c) (contribution_of c) (charge c 3) m

-- "payments, split by payment": what a member is charged on its payments
unfoldable pub on_payments : Case → ℕ → ℕ
on_payments c m = get_or (split_among 32 (in_set c.head) (charge c 5) (payment_of c)) m 0
