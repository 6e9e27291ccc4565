-- An amount of cents with its sign.
use Rattle.std.specs.Prelude.{true, false, ℕ, ◌-◌, ltb}
use Rattle.lists.specs.Lists.{when◌then◌else◌}
use Rattle.words.specs.declared.Amount.{Amount}

-- a − b
unfoldable pub difference_of : ℕ → ℕ → Amount
difference_of a b = when ltb a b then record { negative = true; cents = b - a } else record { negative = false; cents = a - b }

-- a price that is held as cents + 1,000,000 modulo 2^32, where the cents are any number of 32 bits in two's complement
unfoldable pub amount_of : ℕ → Amount
amount_of p = when ltb p 2148483648 then difference_of p 1000000 else difference_of p 4295967296
