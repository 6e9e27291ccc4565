-- Document 01, "Rank and layers": "FINISH charges the requirement in turn, each layer and each rank up to its limit, the amount it holds".
use Rattle.std.specs.Prelude.{Bool, ◌&&◌, List, [], ◌∷◌, map, ℕ, ◌-◌, min, ltb, eqb, get_or}
use Rattle.lists.specs.Lists.{sum, keep}
use Rattle.sets.specs.Set.{member, members}
use Rattle.splitting.specs.Split.{split_among}

-- a loss charged in turn to limits, each up to what it holds
unfoldable pub charged : ℕ → List ℕ → List ℕ
charged loss [] = []
charged loss (limit ∷ limits) = min loss limit ∷ charged (loss - limit) limits

-- "The rest is uncovered."
unfoldable pub uncovered : ℕ → List ℕ → ℕ
uncovered loss limits = loss - sum limits

-- what the members of a set hold whose rank passes the test
unfoldable pub held_by : ℕ → (ℕ → ℕ) → (ℕ → ℕ) → (ℕ → Bool) → ℕ
held_by set rank holds who = sum (map holds (keep (λ m. who (rank m)) (members set)))

-- "contributions, most junior rank first": a rank is charged what the ranks junior to it leave of the amount, up to what its members hold
unfoldable pub rank_charge : ℕ → (ℕ → ℕ) → (ℕ → ℕ) → ℕ → ℕ → ℕ
rank_charge set rank holds amount r = min (amount - held_by set rank holds (ltb r)) (held_by set rank holds (eqb r))

-- "an equal rank split by contribution in member order": what member m is charged
unfoldable pub charged_by_rank : ℕ → (ℕ → ℕ) → (ℕ → ℕ) → ℕ → ℕ → ℕ
charged_by_rank set rank holds amount m =
    get_or (split_among 32 (λ o. member set o && eqb (rank m) (rank o)) (rank_charge set rank holds amount (rank m)) holds) m 0
