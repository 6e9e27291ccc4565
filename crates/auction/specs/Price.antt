-- Document 01, "Ground": "Money is whole cents. A price is cents per unit: positive is paid to the house, negative by the house."
-- A price is held as a natural number, its cents + 1,000,000: 0 is -1,000,000 cents and 2,000,000 is 1,000,000 cents.
-- Two prices compare, and differ, as their cents do.
use Rattle.std.specs.Prelude.{Bool, List, [], ◌∷◌, ℕ, leb, ltb, ℤ, pos, negsuc, ◌+ℤ◌}
use Rattle.std.proofs.Math.IntN.{sub_ℕ}

-- a price of 0 cents
abbrev pub zero_price : ℕ
zero_price = 1_000_000

-- the highest price
abbrev pub price_limit : ℕ
price_limit = 2_000_000

-- what a price means: its cents, with their sign
unfoldable pub cents : ℕ → ℤ
cents price = sub_ℕ price zero_price

-- the sum of prices, in cents
unfoldable pub sum_cents : List ℕ → ℤ
sum_cents [] = pos 0
sum_cents (p ∷ ps) = cents p +ℤ sum_cents ps

-- "prices and reserves −10^6 to 10^6"
abbrev pub price_ok : ℕ → Bool
price_ok price = leb price price_limit

-- "a negative price"
abbrev pub negative : ℕ → Bool
negative price = ltb price zero_price

-- a number of cents, at least 0
abbrev pub at_least0 : ℤ → ℕ
at_least0 (pos n) = n
at_least0 (negsuc n) = 0
