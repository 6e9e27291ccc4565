-- Document 02, C-12: in S the units that have left are those sold by agreement, so that the test of 17 can be read from the requirement. Assumes nothing.
use mathlib.Core.Path.{◌≡◌, refl, ap, ◌∙◌}
use mathlib.Core.Bool.{Bool, true, false, ◌||◌, not, false≢true}
use mathlib.Core.List.{List, [], ◌∷◌, map}
use Prim.Native.Nat.{ℕ, ◌+◌, ◌-◌, ◌*◌}
use native.Mathlib.Nat.{zero-mul, suc-mul}
use native.Mathlib.Omega.{arith}
use lib.Dec.{eqb, ltb}
use lib.ListN.{length}
use Rattle.lists.specs.Lists.{when◌then◌else◌, sum, keep, count, one_if}
use Rattle.lists.proofs.Bools.{cases, either, ltb-same}
use Rattle.lists.proofs.Each.{Each, each_map}
use Rattle.auction.specs.Price.{zero_price}
use Rattle.machine.specs.Roll.{UnitState, Open, Sold, Allocated, Moved, Torn, Agreed, Entry, Bid, with_state, kind, is_open, is_agreed, open_in, changed_if, price_of, prices, open_units, agreed_prices}
use Rattle.machine.specs.State.{Case, letter}
use Rattle.machine.specs.Requirement.{requirement}
use Rattle.machine.specs.Calls.{sold, after_sale}
use Rattle.machine.specs.Refusals.{sale_too_dear}
use Rattle.machine.proofs.Invariant.{CaseOk}
use Rattle.machine.proofs.AgreedStay.{open-in-free}

-- open, or sold by agreement
abbrev pub Early : Entry → Type 0
Early e = (is_open e || is_agreed e.state) ≡ true

early-kept : (e : Entry) → Early e → not (is_open e) ≡ is_agreed e.state
unfolding is_open kind is_agreed
early-kept e h = go e.state h
  where
    go : (s : UnitState) → (eqb (kind s) 0 || is_agreed s) ≡ true → not (eqb (kind s) 0) ≡ is_agreed s
    go Open h = refl
    go (Sold bid) h = absurd (false≢true h)
    go (Allocated m price) h = absurd (false≢true h)
    go (Moved m) h = absurd (false≢true h)
    go (Torn price) h = absurd (false≢true h)
    go (Agreed m price) h = refl

early-keeps : (roll : List Entry) → Each Early roll → keep (λ e. not (is_open e)) roll ≡ keep (λ e. is_agreed e.state) roll
unfolding keep
early-keeps [] h = refl
early-keeps (e ∷ es) h =
    let rest = early-keeps es h.1 in
    ap (λ (b : Bool). when b then e ∷ keep (λ x. not (is_open x)) es else keep (λ x. not (is_open x)) es) (early-kept e h.0)
    ∙ ap (λ (l : List Entry). when is_agreed e.state then e ∷ l else l) rest

-- the prices of all units not open are those of the units sold by agreement
early-prices : (bids : List Bid) (roll : List Entry) → Each Early roll → prices bids roll ≡ agreed_prices bids roll
unfolding prices agreed_prices
early-prices bids roll h = ap (map (λ (e : Entry). price_of bids e.state)) (early-keeps roll h)

pub sold-early : (pool m price : ℕ) (roll : List Entry) → Each Early roll → Each Early (sold pool m price roll)
unfolding sold is_agreed is_open kind
sold-early pool m price roll h =
    each_map Early Early (changed_if (open_in pool) (Agreed m price))
    (λ e o. either Early (open_in pool e) {x = with_state e (Agreed m price)} {y = e} refl o) roll h

-- ---- the prices of units sold by agreement, entry by entry

agreed-none : (bids : List Bid) → agreed_prices bids [] ≡ []
unfolding agreed_prices keep
agreed-none bids = refl

agreed-more : (bids : List Bid) (e : Entry) (es : List Entry) → is_agreed e.state ≡ true → agreed_prices bids (e ∷ es) ≡ price_of bids e.state ∷ agreed_prices bids es
unfolding agreed_prices keep
agreed-more bids e es h = rw h

agreed-other : (bids : List Bid) (e : Entry) (es : List Entry) → is_agreed e.state ≡ false → agreed_prices bids (e ∷ es) ≡ agreed_prices bids es
unfolding agreed_prices keep
agreed-other bids e es h = rw h

-- a SALE adds the open units of its pool, each at its price
pub record Adds (bids : List Bid) (pool m price : ℕ) (roll : List Entry) : Type 0 where
  pub many : length (agreed_prices bids (sold pool m price roll)) ≡ length (agreed_prices bids roll) + open_units roll pool
  pub sums : sum (agreed_prices bids (sold pool m price roll)) ≡ sum (agreed_prices bids roll) + open_units roll pool * price

pub sale-adds : (bids : List Bid) (pool m price : ℕ) (roll : List Entry) → Adds bids pool m price roll
unfolding sold open_units count sum one_if is_agreed price_of
sale-adds bids pool m price [] = record { many = rw (agreed-none bids); sums = rw (agreed-none bids) (omega (arith, zero-mul price)) }
sale-adds bids pool m price (e ∷ es) =
    let rest = sale-adds bids pool m price es in
    let next = map (changed_if (open_in pool) (Agreed m price)) es in
    cases (open_in pool e) _
    (λ t.
    let was = agreed-other bids e es (open-in-free pool e t) in
    let is = agreed-more bids (with_state e (Agreed m price)) next refl in
    record { many = rw (t, was, is) (omega (arith, rest.many)); sums = rw (t, was, is) (omega (arith, rest.sums, suc-mul (open_units es pool) price)) })
    (λ t. cases (is_agreed e.state) _
    (λ a.
    let was = agreed-more bids e es a in
    let is = agreed-more bids e next a in
    record { many = rw (t, was, is) (omega (arith, rest.many)); sums = rw (t, was, is) (omega (arith, rest.sums)) })
    (λ a.
    let was = agreed-other bids e es a in
    let is = agreed-other bids e next a in
    record { many = rw (t, was, is) (omega (arith, rest.many)); sums = rw (t, was, is) (omega (arith, rest.sums)) }))

module _ (c : Case) (ok : CaseOk c) (setup : letter c.stage ≡ 1) where
  -- "the prices of all units so sold" are in S the prices of all units not open
  pub setup-prices : prices c.bids c.roll ≡ agreed_prices c.bids c.roll
  setup-prices = early-prices c.bids c.roll (ok.units.setup setup)

  -- 17: the requirement after the sale passes margin and defaulter's fund together
  pub sale-by-requirement : (pool m price : ℕ) → sale_too_dear c pool m price ≡ ltb (c.head.margin + c.head.fund) (requirement (after_sale c pool m price))
  unfolding sale_too_dear requirement after_sale
  sale-by-requirement pool m price =
      let roll = sold pool m price c.roll in
      let ps = agreed_prices c.bids roll in
      let all = early-prices c.bids roll (sold-early pool m price c.roll (ok.units.setup setup)) in
      rw all
      (ltb-same (c.head.margin + c.head.fund + sum ps) (c.head.hedge_loss + c.head.other_loss + zero_price * length ps)
      (c.head.margin + c.head.fund) (c.head.hedge_loss + c.head.other_loss + zero_price * length ps - sum ps) (λ l. omega arith) (λ l. omega arith))
