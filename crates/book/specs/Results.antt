-- What FINISH charges, read off the program's book.
use Rattle.std.specs.Prelude.{List, [], ◌∷◌, ℕ, ◌-◌, ◌*◌, ◌/◌, get_or, replicate}
use Rattle.splitting.specs.Limits.{split_into}
use Rattle.waterfall.specs.Charging.{charged, uncovered}
use Rattle.waterfall.specs.Limits.{ranks_of, charges_of}
use Rattle.accounts.specs.Members.{over_pools, without_pools}
use Rattle.accounts.specs.Rounds.{worsts_of}
use Rattle.accounts.specs.Bids.{gain_table}
use Rattle.book.specs.declared.Book.{Book}
use Rattle.book.specs.declared.Result.{Result}
use Rattle.book.specs.Books.{sold_pools, requirement_in, over_members, contributions_in}

-- "First tranche = floor(3 × house money / 5), the second the rest."
abbrev pub first_tranche_in : Book → ℕ
first_tranche_in b = 3 * b.head.house / 5

-- the six limits, in the order in which they are charged
unfoldable pub limits_in : Book → List ℕ
limits_in b =
    b.head.margin
    ∷ b.head.fund
    ∷ first_tranche_in b
    ∷ contributions_in b
    ∷ (b.head.house - first_tranche_in b)
    ∷ over_members b b.members.paid
    ∷ []

-- the rank of each of the 32 places; document 02, C-12: "the units expected in a pool so sold, don't count for rank"
unfoldable pub ranks_in : Book → List ℕ
ranks_in b =
    ranks_of (gain_table b.bids (worsts_of b.rounds)) (over_pools b.members.won) (over_pools (without_pools b.members.expected (sold_pools b))) b.head.set

-- the loss, the six charges, the uncovered rest, and of each of the 32 places its rank and its charges
unfoldable pub result_in : Book → Result
result_in b =
    let charges = charged (requirement_in b) (limits_in b) in
    record {
      loss = requirement_in b;
      charges = charges;
      uncovered = uncovered (requirement_in b) (limits_in b);
      ranks = ranks_in b;
      contributions = charges_of (get_or charges 3 0) (ranks_in b) b.members.contribution b.head.set;
      payments = (split_into (get_or charges 5 0) b.members.paid (replicate 32 0)).1;
    }
