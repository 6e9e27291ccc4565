-- MOVE by groups: units of the place whose turn it is, moved at once, are the units that the machine moves one by one. Assumes nothing.
use mathlib.Core.Path.{◌≡◌, refl, sym, ap, subst, ◌∙◌}
use mathlib.Core.Bool.{true}
use mathlib.Core.Logic.{⊎_elim}
use mathlib.Core.List.{List}
use mathlib.Core.Option.{Option, none, some}
use Prim.Native.Nat.{ℕ, zero, suc, ◌+◌, ◌-◌, ◌*◌, ◌/◌, ◌%◌, ◌≤◌, ◌<◌, min}
use native.Mathlib.Nat.{suc-mul, zero-mul, zero-add, sub-zero}
use native.Mathlib.Omega.{arith}
use lib.Dec.{leb, ltb, eqb}
use lib.ListN.{length, get_or, set}
use borrow.Author.Tests.{leb-true, le-leb, lt-ltb, le-ltb, ltb-true, ne_eqb, eq-eqb, eqb-true, eqb-false}
use Rattle.lists.specs.Lists.{when◌then◌else◌}
use Rattle.lists.proofs.Bools.{cases, lt-or-le, and_both}
use Rattle.lists.proofs.Each.{Each, each_at, each_more}
use Rattle.auction.specs.Price.{zero_price}
use Rattle.machine.specs.Roll.{Entry, Bid, no_bid, Moved, with_state, price_of}
use Rattle.machine.specs.Move.{Found, next_from, move_units}
use Rattle.units.specs.Places.{sold_at, moved_at, unit_at, Counted}
use Rattle.units.specs.Steps.{transferred, repriced}
use Rattle.turns.specs.Keys.{no_key, sold_keys, allocated_key, sold_key, key_at, key_place, key_price}
use Rattle.units.specs.Groups.{pool_at}
use Rattle.units.proofs.Places.{unit-open, unit-allocated, unit-sold, unit-moved, unit-torn, unit-agreed, by_place}
use Rattle.units.proofs.Weighing.{each-entry, each-unit}
use Rattle.units.proofs.Over.{Swap, open_unit, over-set}
use Rattle.units.proofs.Tied.{Tied, transfer-tied}
use Rattle.units.proofs.Kept.{passed-from, passed-other, passed-less}
use Rattle.turns.proofs.Turns.{unit_key, fits, may-low, key-tells, sold-low, allocated_low}
use Rattle.units.proofs.Next.{Fine, found_key, Least, next-least}

-- ---- what a key tells

low_digit : (x y : ℕ) → y < 32 → (x * 32 + y) % 32 ≡ y
low_digit x y l = omega arith

high_digit : (x y : ℕ) → y < 32 → (x * 32 + y) / 32 ≡ x
high_digit x y l = omega arith

low_byte : (x y : ℕ) → y < 256 → (x * 256 + y) % 256 ≡ y
low_byte x y l = omega arith

price-part : (x y : ℕ) → y < 256 → x < zero_price → (x * 256 + y) / 256 % 1048576 ≡ x
price-part x y l u = let e : (x * 256 + y) / 256 ≡ x = omega arith in rw e (omega arith)

told-allocated : (price pool m : ℕ) → pool < 4 → m < 32 → allocated_key price pool m < no_key
    → (key_place (allocated_key price pool m) ≡ 4 * m + pool) × (key_price (allocated_key price pool m) ≡ price) × (price < zero_price)
unfolding allocated_key key_place key_price
told-allocated price pool m lp lm low =
    let n = allocated_low price pool m low in
    let under = ltb-true price zero_price n in
    let r = (3 - pool) * 32 + (31 - m) in
    let below : price * 256 + r < sold_keys = omega arith in
    rw n (
      rw (lt-ltb (price * 256 + r) sold_keys below, low_byte price r (omega arith), low_digit (3 - pool) (31 - m) (omega arith), high_digit (3 - pool) (31 - m) (omega arith)) (omega arith),
      price-part price r (omega arith) under,
      under,
    )

told-sold : (price b : ℕ) → b < 256 → sold_key price b < no_key → (key_place (sold_key price b) ≡ 128 + b) × (key_price (sold_key price b) ≡ price) × (price < zero_price)
unfolding sold_key key_place key_price
told-sold price b lb low =
    let n = sold-low price b low in
    let under = ltb-true price zero_price n in
    let key = sold_keys + (price * 256 + (255 - b)) in
    rw n (rw (le-ltb key sold_keys (omega arith)) (omega arith), omega arith, under)

-- ---- the places from 4 to 387, numbered from 0

by-held : (P : ℕ → Type 0) → ((pool m : ℕ) → pool < 4 → m < 32 → P (4 * m + pool)) → ((b : ℕ) → b < 256 → P (128 + b)) → (j : ℕ) → j < 384 → P j
by-held P allocated sold j l =
    ⊎_elim
    (λ h. subst P (omega arith) (allocated (j % 4) (j / 4) (omega arith) (omega arith)))
    (λ h. subst P (omega arith) (sold (j - 128) (omega arith)))
    (lt-or-le j 128)

module _ (allocation prices : List ℕ) where
  key-allocated : (pool m : ℕ) → pool < 4 → m < 32 → key_at allocation prices (4 * m + pool) ≡ allocated_key (get_or allocation pool 0) pool m
  unfolding key_at
  key-allocated pool m lp lm =
      let j = 4 * m + pool in
      let p : j % 4 ≡ pool = omega arith in
      let q : j / 4 ≡ m = omega arith in
      rw (lt-ltb j 128 (omega arith), p, q)

  key-sold : (b : ℕ) → b < 256 → key_at allocation prices (128 + b) ≡ sold_key (get_or prices b 0) b
  unfolding key_at
  key-sold b l = let q : 128 + b - 128 ≡ b = omega arith in rw (le-ltb (128 + b) 128 (omega arith), q)

  -- the key of a place tells the place
  pub key-place : (j : ℕ) → j < 384 → key_at allocation prices j < no_key → key_place (key_at allocation prices j) ≡ j
  key-place =
      by-held (λ j. key_at allocation prices j < no_key → key_place (key_at allocation prices j) ≡ j)
      (λ pool m lp lm. rw (key-allocated pool m lp lm) (λ low. (told-allocated (get_or allocation pool 0) pool m lp lm low).0))
      (λ b l. rw (key-sold b l) (λ low. (told-sold (get_or prices b 0) b l low).0))

pool-allocated : (pools : List ℕ) (pool m : ℕ) → pool < 4 → m < 32 → pool_at pools (4 * m + pool) ≡ pool
unfolding pool_at
pool-allocated pools pool m lp lm = let p : (4 * m + pool) % 4 ≡ pool = omega arith in rw (lt-ltb (4 * m + pool) 128 (omega arith), p)

pool-sold : (pools : List ℕ) (b : ℕ) → b < 256 → pool_at pools (128 + b) ≡ min (get_or pools b 0) 3
unfolding pool_at
pool-sold pools b l = let q : 128 + b - 128 ≡ b = omega arith in rw (le-ltb (128 + b) 128 (omega arith), q)

-- ---- the machine's moves one by one

module _ (bids : List Bid) (m : ℕ) where
  abbrev choice : ℕ → ℕ → List Entry → Option Found → List Entry
  choice t owed roll o = elim o [
    | none ↦ roll
    | some x ↦ move_units t bids m (owed - (zero_price - price_of bids x.entry.state)) (set roll x.place (with_state x.entry (Moved m)))
  ]

  pub move-saved : (t : ℕ) (roll : List Entry) → move_units t bids m 0 roll ≡ roll
  unfolding move_units
  move-saved zero roll = refl
  move-saved (suc t) roll = refl

  -- nothing may move
  pub move-none : (t owed : ℕ) (roll : List Entry) → next_from bids 0 roll none ≡ none → move_units t bids m owed roll ≡ roll
  unfolding move_units
  move-none zero owed roll e = refl
  move-none (suc t) owed roll e =
      let stop : (when eqb owed 0 then none else next_from bids 0 roll none) ≡ none = cases (eqb owed 0) _ (λ z. rw z) (λ z. rw z e) in
      ap (choice t owed roll) stop

  move-one : (t owed : ℕ) (roll : List Entry) (x : Found) → 0 < owed → next_from bids 0 roll none ≡ some x
      → move_units (suc t) bids m owed roll ≡ move_units t bids m (owed - (zero_price - price_of bids x.entry.state)) (set roll x.place (with_state x.entry (Moved m)))
  unfolding move_units
  move-one t owed roll x owes e =
      let here : (when eqb owed 0 then none else next_from bids 0 roll none) ≡ some x = rw (ne_eqb owed 0 (omega arith)) e in
      ap (choice t owed roll) here

-- ---- the units that may move, and what is lent of the bids

module _ (allocation noted buyers prices pools : List ℕ) (bids : List Bid) (many : length bids ≤ 256) (priced : (b : ℕ) → b < length bids → get_or prices b 0 ≡ (get_or bids b no_bid).price)
    (pooled : (b : ℕ) → b < length bids → get_or pools b 0 ≡ (get_or bids b no_bid).pool) (below : (b : ℕ) → b < length bids → (get_or bids b no_bid).pool < 4) where
  abbrev unit : ℕ → Entry
  unit = unit_at allocation noted buyers bids

  abbrev key : ℕ → ℕ
  key j = key_at allocation prices j

  -- units are sold to bids that are there
  abbrev pub Known : List ℕ → Type 0
  Known counts = (b : ℕ) → b < 256 → 0 < get_or counts (sold_at b) 0 → b < length bids

  -- the labels of a place that has units
  pub record Labels (j : ℕ) : Type 0 where
    pub key-is : unit_key bids (unit (4 + j)) ≡ key j
    pub pool-is : (unit (4 + j)).pool ≡ pool_at pools j
    pub pool-few : pool_at pools j < 4
    pub price-is : key j < no_key → price_of bids (unit (4 + j)).state ≡ key_price (key j)
    pub negative-is : key j < no_key → key_price (key j) < zero_price

  pub labels : (counts : List ℕ) → Known counts → (j : ℕ) → j < 384 → 0 < get_or counts (4 + j) 0 → Labels j
  unfolding unit_key price_of
  labels counts known =
      by-held (λ j. 0 < get_or counts (4 + j) 0 → Labels j)
      (λ pool m lp lm live.
      let is = unit-allocated allocation noted buyers bids pool m lp lm in
      let k = key-allocated allocation prices pool m lp lm in
      let p = pool-allocated pools pool m lp lm in
      record {
        key-is = rw (is, k);
        pool-is = rw (is, p);
        pool-few = rw p lp;
        price-is = rw (is, k) (λ low. sym (told-allocated (get_or allocation pool 0) pool m lp lm low).1);
        negative-is = rw k (λ low. let t = told-allocated (get_or allocation pool 0) pool m lp lm low in rw t.1 t.2);
      })
      (λ b l live.
      let at : 4 + (128 + b) ≡ sold_at b = omega arith in
      let here = known b l (rw at at live) in
      let is = unit-sold allocation noted buyers bids b l in
      let k = key-sold allocation prices b l in
      let p : pool_at pools (128 + b) ≡ (get_or bids b no_bid).pool = pool-sold pools b l ∙ rw (pooled b here) (omega (arith, below b here)) in
      record {
        key-is = rw (at, is, k, priced b here);
        pool-is = rw (at, is, p);
        pool-few = rw p (below b here);
        price-is = rw (at, is, k, priced b here) (λ low. sym (told-sold (get_or bids b no_bid).price b l low).1);
        negative-is = rw k (λ low. let t = told-sold (get_or prices b 0) b l low in rw t.1 t.2);
      })

  -- the key of place j, if it has units, is at most that of each place that has units
  abbrev pub LeastOf : List ℕ → ℕ → Type 0
  LeastOf counts j = (key j < no_key) × ((i : ℕ) → i < 384 → 0 < get_or counts (4 + i) 0 → key j ≤ key i)

  module _ (counts : List ℕ) (roll : List Entry) (counted : Counted counts unit roll) (known : Known counts) where
    -- a bound on the keys of the places is one on the keys of the entries
    bounded : (v : ℕ) → v ≤ no_key → ((j : ℕ) → j < 384 → 0 < get_or counts (4 + j) 0 → v ≤ key j) → Each (λ e. leb v (unit_key bids e) ≡ true) roll
    unfolding unit_key
    bounded v top low =
        each-entry counts unit roll counted (λ e. leb v (unit_key bids e))
        (by_place (λ k. 0 < get_or counts k 0 → leb v (unit_key bids (unit k)) ≡ true)
        (λ p l live. rw (unit-open allocation noted buyers bids p l) (le-leb v no_key top))
        (λ p m lp lm live. rw (labels counts known (4 * m + p) (omega arith) live).key-is (le-leb v _ (low (4 * m + p) (omega arith) live)))
        (λ b l live.
        let at : 4 + (128 + b) ≡ sold_at b = omega arith in
        let k : unit_key bids (unit (sold_at b)) ≡ key (128 + b) = rw at at (labels counts known (128 + b) (omega arith) (rw at live)).key-is in
        rw k (le-leb v _ (low (128 + b) (omega arith) (rw at live))))
        (λ p m lp lm live. rw (unit-moved allocation noted buyers bids p m lp lm) (le-leb v no_key top))
        (λ i l live. rw (unit-torn allocation noted buyers bids i l) (le-leb v no_key top))
        (λ p l live. rw (unit-agreed allocation noted buyers bids p l) (le-leb v no_key top)))

    fit-here : (k : ℕ) → k < 780 → fits bids (unit k) ≡ true
    unfolding fits
    fit-here =
        by_place (λ k. fits bids (unit k) ≡ true)
        (λ p l. rw (unit-open allocation noted buyers bids p l))
        (λ p m lp lm. rw (unit-allocated allocation noted buyers bids p m lp lm) (and_both (ltb m 32) (ltb p 4) (lt-ltb m 32 lm) (lt-ltb p 4 lp)))
        (λ b l.
        let p = (get_or bids b no_bid).pool in
        rw (unit-sold allocation noted buyers bids b l) (and_both (ltb b 256) (eqb p p) (lt-ltb b 256 l) (eq-eqb p p refl)))
        (λ p m lp lm. rw (unit-moved allocation noted buyers bids p m lp lm))
        (λ i l. rw (unit-torn allocation noted buyers bids i l))
        (λ p l. rw (unit-agreed allocation noted buyers bids p l))

    all_fit : Each (λ e. fits bids e ≡ true) roll
    all_fit = each-entry counts unit roll counted (fits bids) (λ k l live. fit-here k l)

    found : Least bids roll none roll (next_from bids 0 roll none)
    found = next-least bids roll 0 roll none refl tt

    -- no place may move: nothing is found
    pub next-none : ((j : ℕ) → j < 384 → 0 < get_or counts (4 + j) 0 → no_key ≤ key j) → next_from bids 0 roll none ≡ none
    next-none low = go (next_from bids 0 roll none) found.fine
      where
        go : (o : Option Found) → Fine bids roll o → o ≡ none
        go none f = refl
        go (some x) f =
            let b : leb no_key (unit_key bids x.entry) ≡ true = rw f.1 at (each_at _ roll x.place (open_unit 0) f.0 (bounded no_key (omega arith) low)) in
            absurd (omega (arith, leb-true no_key (unit_key bids x.entry) b, may-low bids x.entry f.2))

    -- the place of the least key: a unit of it is found
    next-some : (j : ℕ) → j < 384 → 0 < get_or counts (4 + j) 0 → LeastOf counts j
        → (x : Found) × (next_from bids 0 roll none ≡ some x) × (x.place < length roll) × (get_or roll x.place (open_unit 0) ≡ x.entry) × (x.entry ≡ unit (4 + j))
    next-some j l live least = go (next_from bids 0 roll none) refl found.fine found.each
      where
        is_key : unit_key bids (unit (4 + j)) ≡ key j
        is_key = (labels counts known j l live).key-is

        -- what is found has at most the place's key
        at_most : (v : ℕ) → Each (λ e. v ≤ unit_key bids e) roll → v ≤ key j
        at_most v h =
            let t = each-unit counts unit roll counted (λ e. leb v (unit_key bids e)) (each_more _ _ (λ e i. le-leb v (unit_key bids e) i) roll h) (4 + j) (omega arith) live in
            rw is_key at (leb-true v (unit_key bids (unit (4 + j))) t)

        go : (o : Option Found) → next_from bids 0 roll none ≡ o → Fine bids roll o → Each (λ e. found_key bids o ≤ unit_key bids e) roll
            → (x : Found) × (next_from bids 0 roll none ≡ some x) × (x.place < length roll) × (get_or roll x.place (open_unit 0) ≡ x.entry) × (x.entry ≡ unit (4 + j))
        go none e f h = absurd (omega (arith, at_most no_key h, least.0))
        go (some x) e f h =
            let low : leb (key j) (unit_key bids x.entry) ≡ true = rw f.1 at (each_at _ roll x.place (open_unit 0) f.0 (bounded (key j) (omega (arith, least.0)) least.1)) in
            let fit : fits bids x.entry ≡ true = rw f.1 at (each_at _ roll x.place (open_unit 0) f.0 all_fit) in
            let same : unit_key bids x.entry ≡ unit_key bids (unit (4 + j)) =
            omega (arith, is_key, at_most (unit_key bids x.entry) h, leb-true (key j) (unit_key bids x.entry) low) in
            (x, e, f.0, f.1, key-tells bids x.entry (unit (4 + j)) fit (fit-here (4 + j) (omega arith)) (may-low bids x.entry f.2) same)

  -- ---- n units of the place whose turn it is

  module _ (m : ℕ) (small : m < 32) (counts sums : List ℕ) (roll : List Entry) (tied : Tied counts sums unit bids roll) (known : Known counts) (j : ℕ) (l : j < 384) (least : LeastOf counts j)
      (live : 0 < get_or counts (4 + j) 0) where
    abbrev saving : ℕ
    saving = zero_price - key_price (key j)

    abbrev to : ℕ
    to = moved_at (pool_at pools j) m

    abbrev here : Labels j
    here = labels counts known j l live

    abbrev after : ℕ → List ℕ
    after n = transferred counts (4 + j) to n

    -- after n of them
    abbrev sums_after : ℕ → List ℕ
    sums_after n = repriced sums (pool_at pools j) n (key_price (key j)) zero_price

    abbrev pub Passes : ℕ → ℕ → ℕ → Type 0
    Passes n t owed = (next : List Entry) × (move_units (n + t) bids m owed roll ≡ move_units t bids m (owed - n * saving) next) × Swap roll next n (unit (4 + j)) (unit to)

    to_is : unit to ≡ record { pool = pool_at pools j; state = Moved m }
    to_is = unit-moved allocation noted buyers bids (pool_at pools j) m here.pool-few small

    -- what n units that have passed leave
    passes-tied : (n : ℕ) → n ≤ get_or counts (4 + j) 0 → (next : List Entry) → Swap roll next n (unit (4 + j)) (unit to) → Tied (after n) (sums_after n) unit bids next
    unfolding price_of
    passes-tied n few next swap =
        rw (here.price-is least.0, to_is) at
        (transfer-tied counts sums unit bids roll tied (4 + j) to n (pool_at pools j) (omega arith) (omega (arith, here.pool-few)) (λ e. absurd (omega arith)) few here.pool-few
        here.pool-is (ap (λ (e : Entry). e.pool) to_is) next swap)

    known-after : (n : ℕ) → Known (after n)
    known-after n b lb has = known b lb (omega (arith, passed-less counts (4 + j) to n (sold_at b) (λ e. absurd (omega (arith, here.pool-few)))))

    -- one unit more, which is found
    module _ (n : ℕ) (few : suc n ≤ get_or counts (4 + j) 0) (old : List Entry) (swap : Swap roll old n (unit (4 + j)) (unit to)) where
      from : Tied (after n) (sums_after n) unit bids old
      from = passes-tied n (omega arith) old swap

      left_over : get_or (after n) (4 + j) 0 ≡ get_or counts (4 + j) 0 - n
      left_over = passed-from counts (4 + j) to n (omega (arith, tied.long)) (λ e. absurd (omega arith))

      still-least : LeastOf (after n) j
      still-least = (
        least.0,
        λ i li has. cases (eqb i j) _
            (λ e. omega (arith, ap key (eqb-true i j e)))
            (λ e.
            let other = eqb-false i j e in
            least.1 i li (rw (passed-other counts (4 + j) to n (4 + i) (λ x. other (omega arith)) (λ x. absurd (omega arith))) at has)),
      )

      module _ (x : Found) (next : next_from bids 0 old none ≡ some x) (inside : x.place < length old) (there : get_or old x.place (open_unit 0) ≡ x.entry) (is : x.entry ≡ unit (4 + j)) where
        abbrev new : List Entry
        new = set old x.place (with_state x.entry (Moved m))

        new-entry : with_state x.entry (Moved m) ≡ unit to
        new-entry = ap (λ (e : Entry). with_state e (Moved m)) is ∙ rw here.pool-is (sym to_is)

        new-swap : Swap roll new (suc n) (unit (4 + j)) (unit to)
        new-swap f =
            omega (
              arith,
              swap f,
              over-set f old x.place (with_state x.entry (Moved m)) (open_unit 0) inside,
              ap f (there ∙ is),
              ap f new-entry,
              suc-mul n (f (unit (4 + j))),
              suc-mul n (f (unit to)),
            )

        moved-one : (t owed : ℕ) → n * saving < owed → move_units (suc t) bids m (owed - n * saving) old ≡ move_units t bids m (owed - suc n * saving) new
        moved-one t owed owes =
            let price : price_of bids x.entry.state ≡ key_price (key j) = ap (λ (e : Entry). price_of bids e.state) is ∙ here.price-is least.0 in
            let left : owed - n * saving - saving ≡ owed - suc n * saving = omega (arith, suc-mul n saving) in
            move-one bids m t (owed - n * saving) old x (omega arith) next ∙ rw (price, left)

        one_more : (t owed : ℕ) → n * saving < owed → move_units (n + suc t) bids m owed roll ≡ move_units (suc t) bids m (owed - n * saving) old → Passes (suc n) t owed
        one_more t owed owes before =
            let both : suc n + t ≡ n + suc t = omega arith in
            (new, rw both (before ∙ moved-one t owed owes), new-swap)

    pass-more : (n t owed : ℕ) → suc n ≤ get_or counts (4 + j) 0 → n * saving < owed → Passes n (suc t) owed → Passes (suc n) t owed
    pass-more n t owed few owes (old, before, swap) =
        let x = next-some (after n) old (from n few old swap).counted (known-after n) j l (omega (arith, left_over n few old swap)) (still-least n few old swap) in
        one_more n few old swap x.0 x.1 x.2 x.3 x.4 t owed owes before

    pub pass : (n t owed : ℕ) → n ≤ get_or counts (4 + j) 0 → n * saving < owed + saving → Passes n t owed
    pass zero t owed few owes = (roll, rw (zero-mul saving, zero-add t, sub-zero owed), λ f. rw (zero-mul (f (unit (4 + j))), zero-mul (f (unit to))))
    pass (suc n) t owed few owes = pass-more n t owed few (omega (arith, suc-mul n saving)) (pass n (suc t) owed (omega arith) (omega (arith, suc-mul n saving)))

    pub moved-tied : (n t owed : ℕ) → n ≤ get_or counts (4 + j) 0 → (passed : Passes n t owed) → Tied (after n) (sums_after n) unit bids passed.0
    moved-tied n t owed few passed = passes-tied n few passed.0 passed.2
