-- What the functions give, from what the functions that they call give. Assumes nothing.
use mathlib.Core.Path.{◌≡◌, ap}
use mathlib.Core.Bool.{Bool, cond, ◌&&◌, and-false}
use mathlib.Core.List.{List}
use Prim.Native.Nat.{ℕ, ◌+◌, ◌*◌, ◌%◌, ◌-◌, ◌≤◌, ◌<◌, min}
use native.Mathlib.Omega.{arith}
use lib.Dec.{ltb, eqb}
use lib.ListN.{length, get_or, set, get_or-eq_default}
use borrow.Author.Tests.{lt-ltb, le-ltb, eq-eqb, ne_eqb}
use mathlib.Core.Logic.{⊎_elim}
use Rattle.lists.specs.Lists.{sum_to}
use Rattle.lists.proofs.Bools.{lt-or-le}
use Rattle.lists.proofs.Places.{get_or-in}
use Rattle.lists.specs.Adding.{most16, most32, add_at}
use Rattle.auction.specs.Price.{zero_price}
use Rattle.units.specs.Steps.{transferred, repriced, with_counts, put_up_units, noted_at, tear_units, with_buyer, sale_units}
use Rattle.units.specs.Shown.{agreed_of, buyer_of, sale_price_of, column, sold_in, kind_of, count_of, sold_for, holding_of, passed_of}
use Rattle.units.specs.declared.Units.{Units}

-- what stands for a pool among four numbers, and d for a pool that no case has
pub pool-of : (xs : List ℕ) (pool d : ℕ) → length xs ≡ 4 → get_or xs pool d ≡ cond (ltb pool 4) (get_or xs pool 0) d
pool-of xs pool d long =
    ⊎_elim
    (λ l. rw (lt-ltb pool 4 l) (get_or-in xs pool d 0 (omega arith)))
    (λ l. rw (le-ltb pool 4 l) (get_or-eq_default xs d {n = pool} (omega arith)))
    (lt-or-le pool 4)

-- ---- units counted elsewhere at a price that is noted

module _ (u : Units) (k to old price : ℕ) (counts sums : List ℕ) (n : ℕ) (is : n ≡ get_or u.counts k 0)
    (passed : counts ≡ transferred u.counts k to n) (priced : sums ≡ repriced u.sums (k % 4) n old price) where
  pub torn-none : n ≡ 0 → with_counts u counts sums ≡ noted_at u k to old price
  unfolding noted_at
  torn-none e = rw (passed, priced, ← is, eq-eqb n 0 e)

  pub torn-some : (n ≡ 0 → ⊥) → record { counts = counts; sums = sums; allocation = u.allocation; noted = set u.noted (to - 516) price; buyers = u.buyers } ≡ noted_at u k to old price
  unfolding noted_at
  torn-some e = rw (passed, priced, ← is, ne_eqb n 0 e)

-- MISS in one pool: the units of one place, then those of the other
pub torn-twice : (u v r : Units) (j k to to' old old' price price' : ℕ) → old ≡ old' → v ≡ noted_at u j to old price → r ≡ noted_at v k to' price' price
    → r ≡ noted_at (noted_at u j to old' price) k to' price' price
torn-twice u v r j k to to' old old' price price' e p q = rw (← e, ← p) q

pub tear-past : (u : Units) (pool price : ℕ) → 4 ≤ pool → u ≡ tear_units u pool price
unfolding tear_units
tear-past u pool price h = rw (le-ltb pool 4 h)

pub tear-there : (u r : Units) (pool at price : ℕ) → pool < 4 → at ≡ pool → r ≡ noted_at u at (516 + at) zero_price price → r ≡ tear_units u pool price
unfolding tear_units
tear-there u r pool at price h e p = rw (lt-ltb pool 4 h, ← e) p

pub sale-past : (u : Units) (pool m price : ℕ) → 4 ≤ pool → u ≡ sale_units u pool m price
unfolding sale_units
sale-past u pool m price h = rw (le-ltb pool 4 h)

pub sale-there : (u r : Units) (pool at m price : ℕ) → pool < 4 → at ≡ pool → r ≡ noted_at (with_buyer u at m) at (776 + at) zero_price price → r ≡ sale_units u pool m price
unfolding sale_units
sale-there u r pool at m price h e p = rw (lt-ltb pool 4 h, ← e) p

-- ---- units put up

pub put-past : (u : Units) (pool n : ℕ) → 4 ≤ pool → u ≡ put_up_units u pool n
unfolding put_up_units
put-past u pool n h = rw (le-ltb pool 4 h)

pub put-there : (u : Units) (pool at n : ℕ) (counts : List ℕ) → pool < 4 → at ≡ pool → counts ≡ add_at most16 u.counts at n
    → with_counts u counts u.sums ≡ put_up_units u pool n
unfolding put_up_units
put-there u pool at n counts h e p = rw (lt-ltb pool 4 h, ← e, p)

-- ---- counts

pub count_past : (u : Units) (pools : List ℕ) (pool kind : ℕ) → 4 ≤ pool → 0 ≡ count_of u pools pool kind
unfolding count_of
count_past u pools pool kind h = rw (le-ltb pool 4 h)

pub count-there : (u : Units) (pools : List ℕ) (pool kind k r : ℕ) → pool < 4 → kind ≡ k → r ≡ kind_of u pools pool k → r ≡ count_of u pools pool kind
unfolding count_of
count-there u pools pool kind k r h e p = rw (lt-ltb pool 4 h, e) p

-- the units sold to bids, and those sold by agreement
pub sold-there : (u : Units) (pools : List ℕ) (pool kind a b : ℕ) → pool < 4 → kind ≡ 1 → a ≡ sold_in u.counts pools pool → b ≡ agreed_of u pool
    → a + b ≡ count_of u pools pool kind
sold-there u pools pool kind a b h e ea eb = count-there u pools pool kind 1 (a + b) h e (rw (ea, eb))

-- what is added up stands where the pool does
pub column-from : (counts : List ℕ) (first at pool n r : ℕ) → at ≡ pool → r ≡ column counts (first + at) n → r ≡ column counts (first + pool) n
column-from counts first at pool n r e p = rw (← e) p

-- ---- what a member has

pub passed-past : (u : Units) (m : ℕ) → 32 ≤ m → 0 ≡ passed_of u m
unfolding passed_of
passed-past u m h = rw (le-ltb m 32 h)

pub passed-there : (u : Units) (m p a b : ℕ) → m < 32 → p ≡ m
    → a ≡ get_or u.counts (4 + 4 * p) 0 + get_or u.counts (5 + 4 * p) 0 + get_or u.counts (6 + 4 * p) 0 + get_or u.counts (7 + 4 * p) 0
    → b ≡ get_or u.counts (388 + 4 * p) 0 + get_or u.counts (389 + 4 * p) 0 + get_or u.counts (390 + 4 * p) 0 + get_or u.counts (391 + 4 * p) 0
    → a + b ≡ passed_of u m
unfolding passed_of sum_to
passed-there u m p a b h e ea eb =
    let at : (x y : ℕ) → x ≡ y → get_or u.counts x 0 ≡ get_or u.counts y 0 = λ x y q. ap (λ (k : ℕ). get_or u.counts k 0) q in
    let a4 = at (4 + 4 * p) (4 + (4 * p + 0)) (omega arith) in
    let a5 = at (5 + 4 * p) (4 + (4 * p + 1)) (omega arith) in
    let a6 = at (6 + 4 * p) (4 + (4 * p + 2)) (omega arith) in
    let a7 = at (7 + 4 * p) (4 + (4 * p + 3)) (omega arith) in
    let b4 = at (388 + 4 * p) (388 + (4 * p + 0)) (omega arith) in
    let b5 = at (389 + 4 * p) (388 + (4 * p + 1)) (omega arith) in
    let b6 = at (390 + 4 * p) (388 + (4 * p + 2)) (omega arith) in
    let b7 = at (391 + 4 * p) (388 + (4 * p + 3)) (omega arith) in
    rw (lt-ltb m 32 h, ← e) (omega arith)

pub holding-past : (u : Units) (members pools prices : List ℕ) (m pool price : ℕ) → 4 ≤ pool → 0 ≡ holding_of u members pools prices m pool price
unfolding holding_of
holding-past u members pools prices m pool price h = rw (le-ltb pool 4 h)

pub holding-none : (u : Units) (members pools prices : List ℕ) (m pool price : ℕ) → 32 ≤ m → 0 ≡ holding_of u members pools prices m pool price
unfolding holding_of
holding-none u members pools prices m pool price h = rw (le-ltb m 32 h, and-false (ltb pool 4))

module _ (u : Units) (members pools prices : List ℕ) (m pool price n at sold a wa b wb d wd : ℕ) (here : Bool) (hp : pool < 4) (hm : m < 32) (ep : at ≡ pool) (em : n ≡ m)
    (es : sold ≡ sold_for u.counts members pools prices m pool price)
    (ewa : wa ≡ get_or u.counts (4 + (4 * n + at)) 0) (ea : a ≡ cond (eqb (get_or u.allocation at 0) price) wa 0)
    (ewb : wb ≡ get_or u.counts (388 + (4 * n + at)) 0) (eb : b ≡ cond (eqb price zero_price) wb 0)
    (eh : here ≡ (eqb (buyer_of u pool) m && eqb (sale_price_of u pool) price)) (ewd : wd ≡ agreed_of u pool) (ed : d ≡ cond here wd 0) where
  pub holding-there : sold + a + b + d ≡ holding_of u members pools prices m pool price
  unfolding holding_of
  holding-there = rw (lt-ltb pool 4 hp, lt-ltb m 32 hm, es, ea, ewa, eb, ewb, ed, ewd, eh, ep, em)

-- ---- sums of prices

pub repriced-is : (sums : List ℕ) (pool n old new a b c d e f r : ℕ) → a ≡ get_or sums pool 0 → b ≡ n → c ≡ new → d ≡ n → e ≡ old → f ≡ a + b * c - d * e → r ≡ min f most32
    → set sums pool r ≡ repriced sums pool n old new
unfolding repriced
repriced-is sums pool n old new a b c d e f r ea eb ec ed ee ef er = rw (er, ef, ea, eb, ec, ed, ee)
