-- Document 02, C-16: "After any list of calls that begins with no case and makes one, the reading equals the full addition over the roll." The running sum
-- of each pool is, after every list of calls, the sum of prices of its units not open. Assumes nothing.
use mathlib.Core.Path.{◌≡◌, refl, sym, ap, ◌∙◌}
use mathlib.Core.Bool.{Bool, true, false, ◌&&◌, ◌||◌, not, false≢true}
use mathlib.Core.Logic.{⊎_elim}
use mathlib.Core.List.{List, [], ◌∷◌, ◌++◌, map}
use mathlib.Core.Option.{Option, none, some}
use Prim.Native.Nat.{ℕ, zero, suc, ◌+◌, ◌-◌, ◌*◌, ◌≤◌, ◌<◌, min}
use native.Mathlib.Omega.{arith}
use lib.Dec.{eqb}
use lib.IntN.{ℤ, pos, sub_ℕ, ◌+ℤ◌}
use lib.ListN.{length, get_or, set, drop, replicate, get_or-map, get_or-append, get_or-eq_default}
use borrow.Author.Tests.{ltb-true, eqb-true, ne_eqb, eq-eqb, not-false}
use Rattle.lists.specs.Lists.{when◌then◌else◌, one_if, sum, sum_to, count, keep, change_first, map_from, tab}
use Rattle.lists.specs.Tests.{Passed}
use Rattle.lists.proofs.Bools.{either, cases, and_left, and_right, lt-or-le, one_if-choice}
use Rattle.lists.proofs.Sums.{sum_to-ext, sum-none, sum-append}
use Rattle.lists.proofs.Keep.{keep-and, sum-keep, sum-keep-cons, sum-keep-ext, sum_ones, sum-keys, count-keep}
use Rattle.lists.proofs.Each.{Each, each-always, each_more, each-replicate, each-kept, drop-step, map-append, map-ext, length-map, set_cases, same-map_from}
use Rattle.auction.specs.Price.{zero_price, sum_cents}
use Rattle.auction.proofs.Cents.{sub_same, sub-add, pos-sub, sum-cents}
use Rattle.machine.specs.Wire.{Call, HEAD, POOL, MEMBER, ROUND, BID, CLOSE, ALLOCATE, TEAR, CALL, PAY, MOVE, MISS, FINISH, SALE, WITHDRAW, decode}
use Rattle.machine.specs.Roll.{UnitState, Open, Sold, Allocated, Moved, Torn, Agreed, Entry, Bid, no_bid, with_state, withdrawn, kind, is_agreed, is_open, open_in, give_lowest, changed_if, price_of, prices, passed_to, open_units, put_up}
use Rattle.machine.specs.State.{Case, State, the_case, letter, letter_of, member_list, round_of}
use Rattle.machine.specs.Requirement.{requirement, owes}
use Rattle.machine.specs.Move.{Found, may_move, next_from, move_units, move_all}
use Rattle.machine.specs.Calls.{give_shares, in_round, in_auction, won_in, won_given, sell, new_bid, accepted, after_pool, after_member, after_round, after_bid, bids_after, after_close, total_shortfall, allocation, after_allocate, after_tear, after_call, after_pay, after_move, after_miss, sold, after_sale, after_withdraw}
use Rattle.machine.specs.Refusals.{tests}
use Rattle.machine.specs.Machine.{step}
use Rattle.machine.specs.Run.{sum_of_prices, run_from}
use Rattle.machine.specs.Running.{left_in, left_prices, left_sum, in_cents, at_price, sold_for, saved_in, missed_in, torn_for, added, added_by, Kept, nothing_kept, kept_step, kept_from, Reading, over_pools, read_from, reading}
use Rattle.machine.proofs.Answers.{step-cases}
use Rattle.machine.proofs.RollChanges.{no_entry}
use Rattle.machine.proofs.Giving.{won_where, give-open, give-other}
use Rattle.machine.proofs.Closing.{given-same}
use Rattle.machine.proofs.Invariant.{EntryOk, CaseOk}
use Rattle.machine.proofs.Stages.{letter-some, letter-is}
use Rattle.machine.proofs.Shares.{allocation-sum}
use Rattle.machine.proofs.Bounds.{entry-pools}
use Rattle.machine.proofs.AgreedStay.{Finds, finds-next}
use Rattle.machine.proofs.CallsKept.{close-sold}
use Rattle.machine.proofs.Reached.{StateOk, step_ok, reached, first-call}
use Rattle.machine.proofs.Finish.{requirement-in-cents}

-- ---- sums over a list, one part changed

-- the first n that pass a test, which counted for nothing, count for v each
sum-given : {A : Type 0} (t : A → Bool) (f : A → A) (w : A → ℕ) (v : ℕ) → ((x : A) → t x ≡ true → w x ≡ 0) → ((x : A) → t x ≡ true → w (f x) ≡ v)
    → (n : ℕ) (xs : List A) → n ≤ count t xs → sum (map w (change_first t f n xs)) ≡ sum (map w xs) + n * v
unfolding count change_first one_if sum
sum-given t f w v idle new zero xs l = omega arith
sum-given t f w v idle new (suc n) [] l = absurd (omega arith)
sum-given t f w v idle new (suc n) (x ∷ xs) l = go (t x) refl l (sum-given t f w v idle new n xs) (sum-given t f w v idle new (suc n) xs)
  where
    go : (b : Bool) → t x ≡ b → suc n ≤ one_if b + count t xs
        → (n ≤ count t xs → sum (map w (change_first t f n xs)) ≡ sum (map w xs) + n * v)
        → (suc n ≤ count t xs → sum (map w (change_first t f (suc n) xs)) ≡ sum (map w xs) + suc n * v)
        → sum (map w (elim b [ true ↦ f x ∷ change_first t f n xs | false ↦ x ∷ change_first t f (suc n) xs ])) ≡ w x + sum (map w xs) + suc n * v
    go true e l a b = omega (arith, a (omega arith), idle x e, new x e)
    go false e l a b = omega (arith, b (omega arith))

-- one place
sum-set : {A : Type 0} (w : A → ℕ) (xs : List A) (i : ℕ) (v d : A) → i < length xs → sum (map w (set xs i v)) + w (get_or xs i d) ≡ sum (map w xs) + w v
unfolding sum
sum-set w [] i v d l = absurd (omega arith)
sum-set w (x ∷ xs) zero v d l = omega arith
sum-set w (x ∷ xs) (suc i) v d l = omega (arith, sum-set w xs i v d (omega arith))

-- all that pass a test, which count for something else then
sum-changed : (w : Entry → ℕ) (p : Entry → Bool) (s : UnitState) (roll : List Entry)
    → sum (map w (map (changed_if p s) roll)) + sum (map w (keep p roll)) ≡ sum (map w roll) + sum (map (λ e. w (with_state e s)) (keep p roll))
unfolding sum keep
sum-changed w p s [] = omega arith
sum-changed w p s (e ∷ es) = go (p e) (sum-changed w p s es)
  where
    go : (b : Bool)
        → sum (map w (map (changed_if p s) es)) + sum (map w (keep p es)) ≡ sum (map w es) + sum (map (λ x. w (with_state x s)) (keep p es))
        → w (when b then with_state e s else e) + sum (map w (map (changed_if p s) es)) + sum (map w (when b then e ∷ keep p es else keep p es))
        ≡ w e + sum (map w es) + sum (map (λ x. w (with_state x s)) (when b then e ∷ keep p es else keep p es))
    go true rest = omega (arith, rest)
    go false rest = omega (arith, rest)

-- as many times the same
sum-const : {A : Type 0} (v : ℕ) (xs : List A) → sum (map (λ x. v) xs) ≡ length xs * v
unfolding sum
sum-const v [] = omega arith
sum-const v (x ∷ xs) = omega (arith, sum-const v xs)

-- what passes a test and counts for v each
sum-each : {A : Type 0} (w : A → ℕ) (p : A → Bool) (v : ℕ) (xs : List A) → ((x : A) → p x ≡ true → w x ≡ v) → sum (map w (keep p xs)) ≡ count p xs * v
sum-each w p v xs h = sum-keep-ext p w (λ x. v) xs h ∙ sum-const v (keep p xs) ∙ ap (λ (n : ℕ). n * v) (sym (count-keep p xs))

-- what passes two tests
sum_both : {A : Type 0} (w : A → ℕ) (p r : A → Bool) (xs : List A) → sum (map (λ x. when r x then w x else 0) (keep p xs)) ≡ sum (map w (keep (λ x. p x && r x) xs))
sum_both w p r xs = sym (sum-keep r w (keep p xs)) ∙ ap (λ (l : List _). sum (map w l)) (sym (keep-and p r xs))

-- ---- a roll weighed: f of each entry of pool q that is not open

module _ (q : ℕ) (f : UnitState → ℕ) where
  abbrev weigh : ℕ → UnitState → ℕ
  weigh p s = when not (eqb (kind s) 0) && eqb p q then f s else 0

  abbrev weight : Entry → ℕ
  weight e = weigh e.pool e.state

  abbrev total : List Entry → ℕ
  total roll = sum (map weight roll)

  open-weighs-none : (pool : ℕ) (e : Entry) → open_in pool e ≡ true → weight e ≡ 0
  unfolding open_in is_open
  open-weighs-none pool e o = rw (and_left (eqb (kind e.state) 0) (eqb e.pool pool) o)

  -- an entry that is open in a pool, changed to a state
  changed-weighs : (pool : ℕ) (s : UnitState) (e : Entry) → open_in pool e ≡ true → weight (with_state e s) ≡ weigh pool s
  unfolding open_in
  changed-weighs pool s e o = ap (λ (p : ℕ). weigh p s) (eqb-true e.pool pool (and_right (is_open e) (eqb e.pool pool) o))

  give-total : (pool : ℕ) (s : UnitState) (n : ℕ) (roll : List Entry) → n ≤ open_units roll pool → total (give_lowest pool s n roll) ≡ total roll + n * weigh pool s
  unfolding give_lowest open_units
  give-total pool s n roll l = sum-given (open_in pool) (λ e. with_state e s) weight (weigh pool s) (open-weighs-none pool) (changed-weighs pool s) n roll l

  -- all open units of a pool
  take-total : (pool : ℕ) (s : UnitState) (roll : List Entry) → total (map (changed_if (open_in pool) s) roll) ≡ total roll + open_units roll pool * weigh pool s
  unfolding open_units
  take-total pool s roll =
      omega (
        arith,
        sum-changed weight (open_in pool) s roll,
        sum-each weight (open_in pool) 0 roll (open-weighs-none pool),
        sum-each (λ e. weight (with_state e s)) (open_in pool) (weigh pool s) roll (changed-weighs pool s),
      )

  put-total : (pool n : ℕ) (roll : List Entry) → total (put_up pool n roll) ≡ total roll
  unfolding put_up kind sum
  put-total pool n roll =
      let new : Entry = record { pool = pool; state = Open } in
      omega (
        arith,
        ap sum (map-append weight roll (replicate n new)),
        sum-append (map weight roll) (map weight (replicate n new)),
        sum-none weight (replicate n new) (each-replicate (λ e. weight e ≡ 0) n new refl),
      )

  shares-total : (pool price v : ℕ) → ((m : ℕ) → weigh pool (Allocated m price) ≡ v) → (shares ms : List ℕ) (roll : List Entry)
      → sum (map (λ m. get_or shares m 0) ms) ≤ open_units roll pool
      → total (give_shares pool price shares ms roll) ≡ total roll + sum (map (λ m. get_or shares m 0) ms) * v
  unfolding give_shares sum kind
  shares-total pool price v new shares [] roll l = omega arith
  shares-total pool price v new shares (m ∷ ms) roll l =
      let n = get_or shares m 0 in
      let next = give_lowest pool (Allocated m price) n roll in
      let given = give-open pool (Allocated m price) refl n roll (omega arith) in
      let rest = shares-total pool price v new shares ms next (omega (arith, given)) in
      let here : total next ≡ total roll + n * v = rw (sym (new m)) (give-total pool (Allocated m price) n roll (omega arith)) in
      omega (arith, rest, here)

-- each unit
abbrev one : UnitState → ℕ
one s = 1

prices-total : (bids : List Bid) (roll : List Entry) (q : ℕ) → sum (left_prices bids roll q) ≡ total q (price_of bids) roll
unfolding left_prices is_open
prices-total bids roll q = sum-keep (left_in q) (λ e. price_of bids e.state) roll

prices-count : (bids : List Bid) (roll : List Entry) (q : ℕ) → length (left_prices bids roll q) ≡ total q one roll
unfolding left_prices is_open
prices-count bids roll q =
    length-map (λ (e : Entry). price_of bids e.state) (keep (left_in q) roll) ∙ sym (count-keep (left_in q) roll) ∙ sym (sum_ones (weight q one) (left_in q) (λ e. one_if-choice (left_in q e)) roll)

-- ---- the sum of a pool in cents

cents-of : (c : Case) (q : ℕ) → left_sum c q ≡ in_cents (total q one c.roll) (total q (price_of c.bids) c.roll)
unfolding left_sum in_cents
cents-of c q =
    let ps = left_prices c.bids c.roll q in
    sum-cents ps
    ∙ ap (λ (n : ℕ). sub_ℕ n (zero_price * length ps)) (prices-total c.bids c.roll q)
    ∙ ap (λ (n : ℕ). sub_ℕ (total q (price_of c.bids) c.roll) (zero_price * n)) (prices-count c.bids c.roll q)

module _ (q : ℕ) (c d : Case) where
  abbrev count0 : ℕ
  count0 = total q one c.roll

  abbrev count1 : ℕ
  count1 = total q one d.roll

  abbrev price0 : ℕ
  price0 = total q (price_of c.bids) c.roll

  abbrev price1 : ℕ
  price1 = total q (price_of d.bids) d.roll

  -- n units more are gone, whose prices add up to `more`
  gone-more : (n more : ℕ) → count1 ≡ count0 + n → price1 ≡ price0 + more → left_sum d q ≡ left_sum c q +ℤ in_cents n more
  unfolding in_cents
  gone-more n more e f =
      cents-of d q
      ∙ sub_same price1 (zero_price * count1) (price0 + more) (zero_price * count0 + zero_price * n) (omega arith)
      ∙ sym (sub-add price0 (zero_price * count0) more (zero_price * n))
      ∙ ap (λ (z : ℤ). z +ℤ sub_ℕ more (zero_price * n)) (sym (cents-of c q))

  -- as many units, at prices that add up to `more` instead of `less`
  gone-changed : (more less : ℕ) → count1 ≡ count0 → price1 + less ≡ price0 + more → left_sum d q ≡ left_sum c q +ℤ sub_ℕ more less
  unfolding in_cents
  gone-changed more less e f =
      cents-of d q
      ∙ sub_same price1 (zero_price * count1) (price0 + more) (zero_price * count0 + less) (omega arith)
      ∙ sym (sub-add price0 (zero_price * count0) more less)
      ∙ ap (λ (z : ℤ). z +ℤ sub_ℕ more less) (sym (cents-of c q))

  gone_same : count1 ≡ count0 → price1 ≡ price0 → left_sum d q ≡ left_sum c q +ℤ pos 0
  gone_same e f = gone-changed 0 0 e (omega arith)

  -- n units of a pool at one price
  gone_at : (pool n price : ℕ) → count1 ≡ count0 + n * (when eqb pool q then 1 else 0) → price1 ≡ price0 + n * (when eqb pool q then price else 0)
      → left_sum d q ≡ left_sum c q +ℤ at_price pool n price q
  unfolding at_price
  gone_at pool n price = go (eqb pool q)
    where
      go : (b : Bool) → count1 ≡ count0 + n * (when b then 1 else 0) → price1 ≡ price0 + n * (when b then price else 0)
          → left_sum d q ≡ left_sum c q +ℤ (when b then in_cents n (n * price) else pos 0)
      go true e f = gone-more n (n * price) (omega arith) f
      go false e f = gone_same (omega arith) (omega arith)

-- ---- bids that change, and the prices of entries do not

same_total : (q : ℕ) (f g : UnitState → ℕ) (roll : List Entry) → Each (λ e. f e.state ≡ g e.state) roll → total q f roll ≡ total q g roll
same_total q f g roll h = ap sum (map-ext (weight q f) (weight q g) roll (each-weighed roll h))
  where
    each-weighed : (es : List Entry) → Each (λ e. f e.state ≡ g e.state) es → Each (λ e. weight q f e ≡ weight q g e) es
    each-weighed [] h = tt
    each-weighed (e ∷ es) h = (ap (λ (n : ℕ). when not (eqb (kind e.state) 0) && eqb e.pool q then n else 0) h.0, each-weighed es h.1)

-- bids with the same prices
price-same : (old new : List Bid) → ((i : ℕ) → (get_or new i no_bid).price ≡ (get_or old i no_bid).price) → (s : UnitState) → price_of new s ≡ price_of old s
unfolding price_of
price-same old new h Open = refl
price-same old new h (Sold bid) = h bid
price-same old new h (Allocated m price) = refl
price-same old new h (Moved m) = refl
price-same old new h (Torn price) = refl
price-same old new h (Agreed m price) = refl

-- one bid more
price-more : (c : Case) (b : Bid) (pool : ℕ) (s : UnitState) → EntryOk c.head c.bids pool s → price_of (c.bids ++ (b ∷ [])) s ≡ price_of c.bids s
unfolding price_of
price-more c b pool Open o = refl
price-more c b pool (Sold i) o = ap (λ (x : Bid). x.price) (get_or-append c.bids (b ∷ []) no_bid i o.0)
price-more c b pool (Allocated m price) o = refl
price-more c b pool (Moved m) o = refl
price-more c b pool (Torn price) o = refl
price-more c b pool (Agreed m price) o = refl

-- ---- CLOSE

module _ (q : ℕ) (f : UnitState → ℕ) (w : Bid → ℕ) (all : List Bid) (at : (i : ℕ) → f (Sold i) ≡ w (get_or all i no_bid)) (round : ℕ) where
  -- what the bids of this round weigh, in pool q
  abbrev sale : Bid → ℕ
  sale b = b.won * (when eqb b.pool q then w b else 0)

  abbrev sales : List Bid → ℕ
  sales bs = sum (map sale (keep (in_round round) bs))

  abbrev Enough : List Bid → List Entry → Type 0
  Enough bs roll = (pool : ℕ) → won_where (in_auction round pool) bs ≤ open_units roll pool

  sell-total : (i : ℕ) (bs : List Bid) (roll : List Entry) → drop i all ≡ bs → Enough bs roll → total q f (sell round i bs roll) ≡ total q f roll + sales bs
  unfolding sell keep sum in_auction kind
  sell-total i [] roll e h = omega arith
  sell-total i (b ∷ bs) roll e h =
      let r = drop-step all i b no_bid bs e in
      go (in_round round b) refl (λ (x : ℕ). rw (sum-keep-cons (in_auction round x) (λ (y : Bid). y.won) b bs) at (h x)) (ap w (sym r.1) ∙ sym (at i))
      (λ next n. sell-total (suc i) bs next r.2 n)
    where
      go : (t : Bool) → in_round round b ≡ t
          → ((pool : ℕ) → (when in_round round b && eqb b.pool pool then b.won else 0) + won_where (in_auction round pool) bs ≤ open_units roll pool)
          → w b ≡ f (Sold i)
          → ((next : List Entry) → Enough bs next → total q f (sell round (suc i) bs next) ≡ total q f next + sales bs)
          → total q f (sell round (suc i) bs (when t then give_lowest b.pool (Sold i) b.won roll else roll))
          ≡ total q f roll + sum (map sale (when t then b ∷ keep (in_round round) bs else keep (in_round round) bs))
      go true t fits same rest =
          let next = give_lowest b.pool (Sold i) b.won roll in
          let own : b.won + won_where (in_auction round b.pool) bs ≤ open_units roll b.pool = rw (t, eq-eqb b.pool b.pool refl) at (fits b.pool) in
          let given = give-open b.pool (Sold i) refl b.won roll (omega (arith, own)) in
          let enough : Enough bs next =
          λ pool. cases (eqb b.pool pool) (won_where (in_auction round pool) bs ≤ open_units next pool)
          (λ y.
          let here = eqb-true b.pool pool y in
          omega (arith, own, given, ap (λ (k : ℕ). won_where (in_auction round k) bs) here, ap (open_units next) here))
          (λ y. omega (arith, fits pool, give-other b.pool pool y (Sold i) b.won roll)) in
          let here : total q f next ≡ total q f roll + b.won * (when eqb b.pool q then f (Sold i) else 0) = give-total q f b.pool (Sold i) b.won roll (omega (arith, own)) in
          omega (arith, rest next enough, here, ap (λ (k : ℕ). b.won * (when eqb b.pool q then k else 0)) same)
      go false t fits same rest = rest roll (λ pool. omega (arith, fits pool))

  -- the same over the bids of this round in the pool
  sales-in : (bs : List Bid) → sales bs ≡ sum (map (λ b. b.won * w b) (keep (in_auction round q) bs))
  unfolding in_auction
  sales-in bs =
      ap sum (map-ext sale (λ (b : Bid). when eqb b.pool q then b.won * w b else 0) (keep (in_round round) bs) (each-always _ (λ b. times (eqb b.pool q) b.won (w b)) (keep (in_round round) bs)))
      ∙ sum_both (λ (b : Bid). b.won * w b) (in_round round) (λ b. eqb b.pool q) bs
    where
      times : (b : Bool) (n v : ℕ) → n * (when b then v else 0) ≡ (when b then n * v else 0)
      times true n v = refl
      times false n v = omega arith

-- ---- MOVE

may-move : (bids : List Bid) (e : Entry) → may_move bids e ≡ true → (eqb (kind e.state) 0 ≡ false) × (price_of bids e.state < zero_price)
unfolding may_move
may-move bids e h =
    let first : ((eqb (kind e.state) 1 || eqb (kind e.state) 2) && not (is_agreed e.state)) ≡ true = and_left _ _ h in (
      closed (kind e.state) (and_left _ _ first),
      ltb-true (price_of bids e.state) zero_price (and_right ((eqb (kind e.state) 1 || eqb (kind e.state) 2) && not (is_agreed e.state)) _ h),
    )
  where
    closed : (k : ℕ) → (eqb k 1 || eqb k 2) ≡ true → eqb k 0 ≡ false
    closed zero t = absurd (false≢true t)
    closed (suc k) t = ne_eqb (suc k) 0 (omega arith)

module _ (q : ℕ) (bids : List Bid) (m : ℕ) where
  found-there : (roll : List Entry) (x : Found) → Finds bids roll (some x) → x.place < length roll
  unfolding may_move kind
  found-there roll x at =
      ⊎_elim (λ l. l)
      (λ g. absurd (false≢true (rw (sym (sym (get_or-eq_default roll no_entry {n = x.place} g) ∙ at.0)) at at.1)))
      (lt-or-le x.place (length roll))

  -- the prices of pool q grow by what is saved there, and as many units are gone as before
  abbrev Moves : (ℕ → ℕ → List Entry → Type 0)
  Moves k owed roll =
      (total q (price_of bids) (move_units k bids m owed roll) ≡ total q (price_of bids) roll + saved_in q k bids m owed roll)
      × (total q one (move_units k bids m owed roll) ≡ total q one roll)

  raised : (b : Bool) (z p : ℕ) → p < z → (when b then z else 0) ≡ (when b then p else 0) + (when b then z - p else 0)
  raised true z p l = omega arith
  raised false z p l = omega arith

  move-total : (k owed : ℕ) (roll : List Entry) → Moves k owed roll
  unfolding move_units saved_in kind price_of
  move-total zero owed roll = (omega arith, refl)
  move-total (suc k) owed roll =
      go (when eqb owed 0 then none else next_from bids 0 roll none)
      (either (Finds bids roll) (eqb owed 0) {x = none} {y = next_from bids 0 roll none} tt (finds-next bids roll 0 roll none refl tt))
      (λ o r. move-total k o r)
    where
      saving : Found → ℕ
      saving x = zero_price - price_of bids x.entry.state

      after : Found → List Entry
      after x = set roll x.place (with_state x.entry (Moved m))

      go : (found : Option Found) → Finds bids roll found → ((o : ℕ) (r : List Entry) → Moves k o r)
          → (total q (price_of bids) (elim found [ none ↦ roll | some x ↦ move_units k bids m (owed - saving x) (after x) ])
          ≡ total q (price_of bids) roll + elim found [ none ↦ 0 | some x ↦ (when eqb x.entry.pool q then saving x else 0) + saved_in q k bids m (owed - saving x) (after x) ])
          × (total q one (elim found [ none ↦ roll | some x ↦ move_units k bids m (owed - saving x) (after x) ]) ≡ total q one roll)
      go none at rest = (omega arith, refl)
      go (some x) at rest =
          let e = x.entry in
          let new = with_state e (Moved m) in
          let may = may-move bids e at.1 in
          let there = found-there roll x at in
          let next = rest (owed - saving x) (after x) in
          let old : weight q (price_of bids) (get_or roll x.place no_entry) ≡ (when eqb e.pool q then price_of bids e.state else 0) = rw (at.0, may.0) refl in
          let was : weight q one (get_or roll x.place no_entry) ≡ (when eqb e.pool q then 1 else 0) = rw (at.0, may.0) refl in (
            omega (arith, next.0, sum-set (weight q (price_of bids)) roll x.place new no_entry there, old, raised (eqb e.pool q) zero_price (price_of bids e.state) may.1),
            omega (arith, next.1, sum-set (weight q one) roll x.place new no_entry there, was),
          )

-- ---- every accepted call

passed-closed : (m : ℕ) (s : UnitState) → passed_to m s ≡ true → eqb (kind s) 0 ≡ false
unfolding passed_to kind
passed-closed m Open e = absurd (false≢true e)
passed-closed m (Sold bid) e = refl
passed-closed m (Allocated a price) e = refl
passed-closed m (Moved a) e = refl
passed-closed m (Torn price) e = refl
passed-closed m (Agreed a price) e = refl

-- all open units of a pool go to a state at a price
taken_at : (q : ℕ) (c : Case) (pool price : ℕ) (s : UnitState) → eqb (kind s) 0 ≡ false → price_of c.bids s ≡ price → (d : Case) → d.bids ≡ c.bids
    → d.roll ≡ map (changed_if (open_in pool) s) c.roll → left_sum d q ≡ left_sum c q +ℤ at_price pool (open_units c.roll pool) price q
taken_at q c pool price s closed at d same roll =
    let changed : (f : UnitState → ℕ) → total q f (map (changed_if (open_in pool) s) c.roll) ≡ total q f c.roll + open_units c.roll pool * (when eqb pool q then f s else 0) =
    λ f. rw closed at (take-total q f pool s c.roll) in
    gone_at q c d pool (open_units c.roll pool) price (rw roll (changed one)) (rw (roll, same) (rw at at (changed (price_of c.bids))))

module _ (q : ℕ) (c : Case) (ok : CaseOk c) where
  -- a call that leaves the roll and the bids as they were
  untouched : (d : Case) → d.roll ≡ c.roll → d.bids ≡ c.bids → left_sum d q ≡ left_sum c q +ℤ pos 0
  untouched d e f = gone_same q c d (rw e refl) (rw (e, f) refl)

  bid-adds : (b : Bid) (d : Case) → d.roll ≡ c.roll → d.bids ≡ c.bids ++ (b ∷ []) → left_sum d q ≡ left_sum c q +ℤ pos 0
  bid-adds b d e f =
      gone_same q c d (rw e refl)
      (rw (e, f) (same_total q (price_of (c.bids ++ (b ∷ []))) (price_of c.bids) c.roll (each_more _ _ (λ x o. price-more c b x.pool x.state o) c.roll ok.roll.each)))

  -- bids with the same prices
  bids-same : (new : List Bid) → ((i : ℕ) → (get_or new i no_bid).price ≡ (get_or c.bids i no_bid).price) → total q (price_of new) c.roll ≡ total q (price_of c.bids) c.roll
  bids-same new h = same_total q (price_of new) (price_of c.bids) c.roll (each-always _ (λ x. price-same c.bids new h x.state) c.roll)

  withdraw-adds : (n : ℕ) → left_sum (after_withdraw c n) q ≡ left_sum c q +ℤ pos 0
  unfolding after_withdraw
  withdraw-adds n =
      let new = withdrawn (get_or c.bids n no_bid) in
      gone_same q c (after_withdraw c n) refl
      (bids-same (set c.bids n new)
      (λ i. set_cases (λ (x : Bid). x.price ≡ (get_or c.bids i no_bid).price) c.bids n new no_bid i (λ e. ap (λ (k : ℕ). (get_or c.bids k no_bid).price) (sym e)) refl))

  close-adds : letter c.stage ≡ 2 → left_sum (after_close c) q ≡ left_sum c q +ℤ sold_for (round_of c.stage) (bids_after c (round_of c.stage)) q
  unfolding after_close bids_after sold_for price_of
  close-adds bidding =
      let round = round_of c.stage in
      let wins = tab c.head.pools (won_in c round) in
      let new = map_from 0 (won_given round wins) c.bids in
      let bs = keep (in_auction round q) new in
      let enough = close-sold c ok bidding in
      let sold-for : (f : UnitState → ℕ) (w : Bid → ℕ) → ((i : ℕ) → f (Sold i) ≡ w (get_or new i no_bid))
      → total q f (sell round 0 new c.roll) ≡ total q f c.roll + sum (map (λ (b : Bid). b.won * w b) bs) =
      λ f w at. sell-total q f w new at round 0 new c.roll refl enough ∙ ap (λ (k : ℕ). total q f c.roll + k) (sales-in q f w new at round new) in
      let price_at : Bid → ℕ = λ b. b.price in
      let same = bids-same new (λ i. sym (get_or-map price_at new i no_bid)
      ∙ ap (λ (l : List ℕ). get_or l i 0) (same-map_from price_at (won_given round wins) (given-same round wins price_at (λ b v. refl)) 0 c.bids)
      ∙ get_or-map price_at c.bids i no_bid) in
      gone-more q c (after_close c) (sum (map (λ (b : Bid). b.won) bs)) (sum (map (λ (b : Bid). b.won * b.price) bs))
      (sold-for one (λ b. 1) (λ i. refl)
      ∙ ap (λ (k : ℕ). total q one c.roll + k) (ap sum (map-ext (λ (b : Bid). b.won * 1) (λ (b : Bid). b.won) bs (each-always _ (λ b. omega arith) bs))))
      (sold-for (price_of new) price_at (λ i. refl) ∙ ap (λ (k : ℕ). k + sum (map (λ (b : Bid). b.won * b.price) bs)) same)

  allocate-adds : (pool price : ℕ) → left_sum (after_allocate c pool price) q ≡ left_sum c q +ℤ at_price pool (min (open_units c.roll pool) (total_shortfall c pool)) price q
  unfolding after_allocate price_of kind
  allocate-adds pool price =
      let n = min (open_units c.roll pool) (total_shortfall c pool) in
      let shares = allocation c pool in
      let ms = member_list c.head in
      let whole = allocation-sum c pool in
      let given : (f : UnitState → ℕ) (v : ℕ) → ((m : ℕ) → weigh q f pool (Allocated m price) ≡ v) → total q f (give_shares pool price shares ms c.roll) ≡ total q f c.roll + n * v =
      λ f v at. shares-total q f pool price v at shares ms c.roll (omega (arith, whole)) ∙ ap (λ (k : ℕ). total q f c.roll + k * v) whole in
      gone_at q c (after_allocate c pool price) pool n price (given one (when eqb pool q then 1 else 0) (λ m. refl)) (given (price_of c.bids) (when eqb pool q then price else 0) (λ m. refl))

  move-adds : (m : ℕ) → left_sum (after_move c m) q ≡ left_sum c q +ℤ pos (saved_in q (length c.roll) c.bids m (owes c.members m) c.roll)
  unfolding after_move move_all in_cents
  move-adds m =
      let saved = saved_in q (length c.roll) c.bids m (owes c.members m) c.roll in
      let moved = move-total q c.bids m (length c.roll) (owes c.members m) c.roll in
      gone-more q c (after_move c m) 0 saved (omega (arith, moved.1)) moved.0 ∙ ap (λ (z : ℤ). left_sum c q +ℤ z) (sym (pos-sub saved))

  miss-adds : (m price : ℕ) → left_sum (after_miss c m price) q ≡ left_sum c q +ℤ torn_for c.bids m price c.roll q
  unfolding after_miss torn_for kind price_of
  miss-adds m price =
      let p : Entry → Bool = λ e. passed_to m e.state in
      let here : Entry → Bool = λ e. eqb e.pool q in
      let bids = c.bids in
      let roll = c.roll in
      -- what is weighed of an entry that is passed to the member, before and after
      let before : (f : UnitState → ℕ) → sum (map (weight q f) (keep p roll)) ≡ sum (map (λ (e : Entry). f e.state) (keep (missed_in m q) roll)) =
      λ f. sum-keep-ext p (weight q f) (λ (e : Entry). when here e then f e.state else 0) roll (λ e o. rw (passed-closed m e.state o) refl)
      ∙ sum_both (λ (e : Entry). f e.state) p here roll in
      let after : (v : ℕ) → sum (map (λ (e : Entry). when here e then v else 0) (keep p roll)) ≡ count (missed_in m q) roll * v =
      λ v. sum_both (λ (e : Entry). v) p here roll ∙ sum-each (λ (e : Entry). v) (missed_in m q) v roll (λ e o. refl) in
      gone-changed q c (after_miss c m price) (count (missed_in m q) roll * price) (sum (map (λ (e : Entry). price_of bids e.state) (keep (missed_in m q) roll)))
      (omega (arith, sum-changed (weight q one) p (Torn price) roll, before one, after 1, sum-each (λ (e : Entry). 1) (missed_in m q) 1 roll (λ e o. refl)))
      (omega (arith, sum-changed (weight q (price_of bids)) p (Torn price) roll, before (price_of bids), after price))

  pub call-adds : (call : Call) → Passed (tests (some c) c call) → left_sum (accepted c call) q ≡ left_sum c q +ℤ added c call q
  unfolding accepted added tests letter_of kind price_of after_pool after_member after_round after_bid after_tear after_call after_pay sold after_sale
  call-adds (HEAD h) t = absurd (false≢true (sym (letter-some c.stage) ∙ not-false _ t.0))
  call-adds (POOL pool units mark) t =
      gone_same q c (after_pool c pool units mark) (put-total q one pool units c.roll) (put-total q (price_of c.bids) pool units c.roll)
  call-adds (MEMBER m contribution expected) t = untouched (after_member c m contribution expected) refl refl
  call-adds (ROUND reserves) t = untouched (after_round c reserves) refl refl
  call-adds (BID pool m units price) t = bid-adds (new_bid (round_of c.stage) pool m units price) (after_bid c pool m units price) refl refl
  call-adds CLOSE t = close-adds (letter-is c.stage 2 t.0)
  call-adds (ALLOCATE pool price) t = allocate-adds pool price
  call-adds (TEAR pool price) t = taken_at q c pool price (Torn price) refl refl (after_tear c pool price) refl refl
  call-adds CALL t = untouched (after_call c) refl refl
  call-adds (PAY m amount) t = untouched (after_pay c m amount) refl refl
  call-adds (MOVE m) t = move-adds m
  call-adds (MISS m price) t = miss-adds m price
  call-adds FINISH t = untouched (accepted c FINISH) refl refl
  call-adds (SALE pool m price) t = taken_at q c pool price (Agreed m price) refl refl (after_sale c pool m price) refl refl
  call-adds (WITHDRAW m n) t = withdraw-adds n

-- ---- the pools together

-- the prices of all units not open, by pool
left-all : (f : Entry → ℕ) (roll : List Entry) → Each (λ e. e.pool < 4) roll
    → sum_to 4 (λ pool. sum (map f (keep (left_in pool) roll))) ≡ sum (map f (keep (λ e. not (is_open e)) roll))
left-all f roll below =
    let gone : Entry → Bool = λ e. not (is_open e) in
    sum_to-ext 4 _ (λ pool. sum (map f (keep (λ e. eqb e.pool pool) (keep gone roll)))) (λ pool l. ap (λ (es : List Entry). sum (map f es)) (keep-and gone (λ e. eqb e.pool pool) roll))
    ∙ sum-keys 4 f (λ e. e.pool) (keep gone roll) (each-kept (λ (e : Entry). e.pool < 4) gone roll below)

module _ (bids : List Bid) (roll : List Entry) (below : Each (λ e. e.pool < 4) roll) where
  -- how many there are, and what they add up to as they are held
  pub left-count : length (left_prices bids roll 0) + length (left_prices bids roll 1) + length (left_prices bids roll 2) + length (left_prices bids roll 3) ≡ length (prices bids roll)
  unfolding left_prices prices sum_to
  left-count = omega (arith, many (left_in 0), many (left_in 1), many (left_in 2), many (left_in 3), many (λ e. not (is_open e)), left-all (λ e. 1) roll below)
    where
      many : (p : Entry → Bool) → length (map (λ e. price_of bids e.state) (keep p roll)) ≡ sum (map (λ e. 1) (keep p roll))
      many p = omega (arith, length-map (λ (e : Entry). price_of bids e.state) (keep p roll), sum-const 1 (keep p roll))

  pub left-sum : sum (left_prices bids roll 0) + sum (left_prices bids roll 1) + sum (left_prices bids roll 2) + sum (left_prices bids roll 3) ≡ sum (prices bids roll)
  unfolding left_prices prices sum_to
  left-sum = omega (arith, left-all (λ e. price_of bids e.state) roll below)

-- four differences add up
four-add : (a b c d m n o p : ℕ) → sub_ℕ a m +ℤ sub_ℕ b n +ℤ sub_ℕ c o +ℤ sub_ℕ d p ≡ sub_ℕ (a + b + c + d) (m + n + o + p)
four-add a b c d m n o p =
    ap (λ (z : ℤ). z +ℤ sub_ℕ c o +ℤ sub_ℕ d p) (sub-add a m b n) ∙ ap (λ (z : ℤ). z +ℤ sub_ℕ d p) (sub-add (a + b) (m + n) c o) ∙ sub-add (a + b + c) (m + n + o) d p

-- the sums of the pools add up to the sum of prices
pub pools-add-up : (c : Case) → CaseOk c → over_pools (left_sum c) ≡ sum_of_prices c
unfolding left_sum sum_of_prices
pools-add-up c ok =
    let ps : ℕ → List ℕ = left_prices c.bids c.roll in
    let all = prices c.bids c.roll in
    let below = each_more (λ (e : Entry). e.pool < length c.pools) (λ (e : Entry). e.pool < 4) (λ e l. omega (arith, ok.pools.few, ok.head.pools-most)) c.roll (entry-pools c ok) in
    let n : ℕ → ℕ = λ pool. zero_price * length (ps pool) in
    rw (sum-cents (ps 0), sum-cents (ps 1), sum-cents (ps 2), sum-cents (ps 3))
    (four-add (sum (ps 0)) (sum (ps 1)) (sum (ps 2)) (sum (ps 3)) (n 0) (n 1) (n 2) (n 3)
    ∙ sub_same (sum (ps 0) + sum (ps 1) + sum (ps 2) + sum (ps 3)) (n 0 + n 1 + n 2 + n 3) (sum all) (zero_price * length all)
    (omega (arith, left-count c.bids c.roll below, left-sum c.bids c.roll below))
    ∙ sym (sum-cents all))

-- ---- every list of calls

-- the sum of a pool; where there is no case there is no unit
abbrev gone : State → ℕ → ℤ
gone s pool = left_sum (the_case s) pool

state-adds : (q : ℕ) (s : State) → StateOk s → (call : Call) → Passed (tests s (the_case s) call) → gone (some (accepted (the_case s) call)) q ≡ gone s q +ℤ added (the_case s) call q
unfolding accepted added left_sum left_prices keep sum_cents
state-adds q none ok call t =
    first-call (λ call. left_sum (accepted (the_case none) call) q ≡ left_sum (the_case none) q +ℤ added (the_case none) call q) (λ h. refl) call t
state-adds q (some c) ok call t = call-adds q c ok call t

kept_step_lem : (q : ℕ) (s : State) → StateOk s → (z : ℤ) → z ≡ gone s q → (bytes : List ℕ)
    → (when eqb (step s bytes).answer 0 then z +ℤ added_by (the_case s) (decode bytes) q else z) ≡ gone (step s bytes).state q
unfolding added_by
kept_step_lem q s ok z e bytes =
    step-cases (λ n next. (when eqb n 0 then z +ℤ added_by (the_case s) (decode bytes) q else z) ≡ gone next q) s bytes
    (λ n h. rw (ne_eqb n 0 h) e)
    (λ call d t. rw (d, e) (sym (state-adds q s ok call t)))

-- the state that is kept is the machine's, and the sums are those of the roll
kept_run : (k : Kept) → StateOk k.state → ((pool : ℕ) → k.gone pool ≡ gone k.state pool) → (calls : List (List ℕ))
    → ((kept_from k calls).state ≡ run_from k.state calls) × ((pool : ℕ) → (kept_from k calls).gone pool ≡ gone (run_from k.state calls) pool)
unfolding kept_from kept_step run_from
kept_run k ok e [] = (refl, e)
kept_run k ok e (bytes ∷ calls) = kept_run (kept_step k bytes) (step_ok k.state ok bytes) (λ pool. kept_step_lem pool k.state ok (k.gone pool) (e pool) bytes) calls

-- the answer and the cents of the requirement of a state, by the full addition
abbrev pub reading_of : State → Reading
reading_of none = (2, 0)
reading_of (some c) = (0, requirement c)

module _ (calls : List (List ℕ)) where
  none-gone : (pool : ℕ) → pos 0 ≡ gone none pool
  unfolding left_sum left_prices keep sum_cents
  none-gone pool = refl

  pub kept-state : (kept_from nothing_kept calls).state ≡ run_from none calls
  kept-state = (kept_run nothing_kept tt none-gone calls).0

  -- the running sum of a pool is the sum of the prices of its units on the roll that have left, in signed cents
  pub running-sum : (pool : ℕ) → (kept_from nothing_kept calls).gone pool ≡ left_sum (the_case (run_from none calls)) pool
  running-sum = (kept_run nothing_kept tt none-gone calls).1

  module _ (c : Case) (here : run_from none calls ≡ some c) where
    -- and the running sums of the four pools add up to the sum of prices of all units not open
    pub running-total : over_pools (kept_from nothing_kept calls).gone ≡ sum_of_prices c
    running-total =
        let at : (pool : ℕ) → (kept_from nothing_kept calls).gone pool ≡ left_sum c pool = λ pool. running-sum pool ∙ ap (λ (s : State). gone s pool) here in
        rw (at 0, at 1, at 2, at 3) (pools-add-up c (rw here at (reached calls)))

    -- "After any list of calls that begins with no case and makes one, the reading equals the full addition over the roll"
    pub reading-full : reading (kept_from nothing_kept calls) ≡ (0, requirement c)
    unfolding reading read_from
    reading-full = rw (kept-state, here, running-total) (ap (λ (n : ℕ). the-reading n) (sym (requirement-in-cents c)))
      where
        the-reading : ℕ → Reading
        the-reading n = (0, n)

  -- "with no case the reading is declined by 2"
  pub reading-declined : run_from none calls ≡ none → reading (kept_from nothing_kept calls) ≡ (2, 0)
  unfolding reading read_from
  reading-declined here = rw (kept-state, here) refl

  -- both in one
  pub reading-is : reading (kept_from nothing_kept calls) ≡ reading_of (run_from none calls)
  reading-is = by_state (run_from none calls) refl
    where
      by_state : (s : State) → run_from none calls ≡ s → reading (kept_from nothing_kept calls) ≡ reading_of s
      by_state none here = reading-declined here
      by_state (some c) here = reading-full c here
