-- Document 02, C-14: "CLOSE allots as though a withdrawn bid had not been sent". Assumes nothing.
use mathlib.Core.Path.{◌≡◌, refl, sym, ap, ◌∙◌, fun_ext}
use mathlib.Core.Bool.{Bool, true, false, ◌&&◌, not, false≢true}
use mathlib.Core.List.{List, [], ◌∷◌, ◌++◌, map}
use mathlib.Core.Option.{none, some}
use Prim.Native.Nat.{ℕ, zero, suc, ◌+◌, ◌≤◌, ◌<◌}
use native.Mathlib.Nat.{zero-add}
use native.Mathlib.Numerals.{one-add}
use native.Mathlib.Omega.{arith}
use lib.Dec.{eqb}
use lib.ListN.{length, get_or, take, drop, length-append, get_or-append, get_or-map}
use lib.Seq.{take-append-le}
use borrow.Author.Tests.{eq-eqb}
use Rattle.lists.specs.Lists.{when◌then◌else◌, one_if, count, keep, put_back, among, map_from, tab}
use Rattle.lists.proofs.Bools.{cases, and_left}
use Rattle.lists.proofs.Keep.{keep-and, keep-ext}
use Rattle.lists.proofs.Among.{place, place_if, at_place}
use Rattle.lists.proofs.Places.{tab-ext}
use Rattle.lists.proofs.Counts.{map-change_first, count-of-map, count-ext}
use Rattle.lists.proofs.Each.{Each, each-always, each_at}
use Rattle.auction.specs.Price.{sum_cents}
use Rattle.machine.specs.Wire.{Head}
use Rattle.machine.specs.Roll.{UnitState, Open, Sold, Allocated, Moved, Torn, Agreed, Entry, Bid, no_bid, withdrawn, with_state, kind, is_open, open_in, give_lowest, open_units, price_of, held_by, prices}
use Rattle.machine.specs.State.{Stage, After, Case, round_of, letter, letter_of, with_bids, with_roll}
use Rattle.machine.specs.Calls.{in_round, in_auction, won_in, won_given, bids_after, sell, after_close}
use Rattle.machine.specs.Run.{five_counts, holding, sum_of_prices, result_of, observed}
use Rattle.machine.proofs.RollChanges.{sold_is, sold_to}
use Rattle.machine.proofs.Invariant.{EntryOk, CaseOk}
use Rattle.machine.proofs.Closing.{given-same}

-- ---- the case without the withdrawn bids

abbrev pub standing_bids : List Bid → List Bid
standing_bids bids = keep (λ b. b.stands) bids

-- the number that the j-th of the bids that stand has among all bids
abbrev pub number_of : List Bid → ℕ → ℕ
number_of bids j = place (λ b. b.stands) bids j

-- an entry with its bid's number changed
abbrev renumbered_state : (ℕ → ℕ) → UnitState → UnitState
renumbered_state f Open = Open
renumbered_state f (Sold j) = Sold (f j)
renumbered_state f (Allocated m price) = Allocated m price
renumbered_state f (Moved m) = Moved m
renumbered_state f (Torn price) = Torn price
renumbered_state f (Agreed m price) = Agreed m price

abbrev pub renumbered : (ℕ → ℕ) → Entry → Entry
renumbered f e = with_state e (renumbered_state f e.state)

-- d is c without its withdrawn bids: the others are numbered from 0 again, and all else is alike
pub record Without (c d : Case) : Type 0 where
  pub stage : d.stage ≡ c.stage
  pub head : d.head ≡ c.head
  pub pools : d.pools ≡ c.pools
  pub members : d.members ≡ c.members
  pub rounds : d.rounds ≡ c.rounds
  pub bids : d.bids ≡ standing_bids c.bids
  pub roll : c.roll ≡ map (renumbered (number_of c.bids)) d.roll

-- ---- entries

module _ (f : ℕ → ℕ) where
  same_kind : (s : UnitState) → kind (renumbered_state f s) ≡ kind s
  unfolding kind
  same_kind Open = refl
  same_kind (Sold j) = refl
  same_kind (Allocated m price) = refl
  same_kind (Moved m) = refl
  same_kind (Torn price) = refl
  same_kind (Agreed m price) = refl

  same-open : (pool : ℕ) (e : Entry) → open_in pool (renumbered f e) ≡ open_in pool e
  unfolding open_in is_open
  same-open pool e = rw (same_kind e.state)

  count-alike : (p q : Entry → Bool) → ((e : Entry) → p (renumbered f e) ≡ q e) → (roll : List Entry) → count p (map (renumbered f) roll) ≡ count q roll
  count-alike p q h roll = count-of-map p (renumbered f) roll ∙ count-ext (λ e. p (renumbered f e)) q roll (each-always _ h roll)

  open-alike : (pool : ℕ) (roll : List Entry) → open_units (map (renumbered f) roll) pool ≡ open_units roll pool
  unfolding open_units
  open-alike pool roll = count-alike (open_in pool) (open_in pool) (same-open pool) roll

  give-alike : (pool i j n : ℕ) → f j ≡ i → (roll : List Entry)
      → give_lowest pool (Sold i) n (map (renumbered f) roll) ≡ map (renumbered f) (give_lowest pool (Sold j) n roll)
  unfolding give_lowest
  give-alike pool i j n e roll =
      sym (map-change_first (renumbered f) (open_in pool) (λ x. with_state x (Sold j)) (open_in pool) (λ x. with_state x (Sold i)) (same-open pool) (λ x o. rw e) n roll)

  -- what CLOSE sells, where f gives the number in the longer list to each number in the shorter
  sell-alike : (round i j : ℕ) (bs : List Bid) → ((k : ℕ) → f (j + k) ≡ i + number_of bs k) → (roll : List Entry)
      → sell round i bs (map (renumbered f) roll) ≡ map (renumbered f) (sell round j (standing_bids bs) roll)
  unfolding sell keep in_round
  sell-alike round i j [] h roll = refl
  sell-alike round i j (b ∷ bs) h roll = go b.stands refl h (λ j h roll. sell-alike round (suc i) j bs h roll)
    where
      given : (t : Bool) → f j ≡ i
          → (when t then give_lowest b.pool (Sold i) b.won (map (renumbered f) roll) else map (renumbered f) roll)
          ≡ map (renumbered f) (when t then give_lowest b.pool (Sold j) b.won roll else roll)
      given true e = give-alike b.pool i j b.won e roll
      given false e = refl

      go : (t : Bool) → b.stands ≡ t → ((k : ℕ) → f (j + k) ≡ i + place_if t (number_of bs) k)
          → ((j : ℕ) → ((k : ℕ) → f (j + k) ≡ suc i + number_of bs k) → (roll : List Entry)
          → sell round (suc i) bs (map (renumbered f) roll) ≡ map (renumbered f) (sell round j (standing_bids bs) roll))
          → sell round (suc i) bs (when in_round round b then give_lowest b.pool (Sold i) b.won (map (renumbered f) roll) else map (renumbered f) roll)
          ≡ map (renumbered f) (sell round j (when t then b ∷ standing_bids bs else standing_bids bs) roll)
      go true e h rest =
          ap (sell round (suc i) bs) (given (in_round round b) (ap f (omega arith) ∙ h 0 ∙ omega arith))
          ∙ rest (suc j) (λ k. ap f (omega arith) ∙ h (suc k) ∙ omega arith) (when in_round round b then give_lowest b.pool (Sold j) b.won roll else roll)
      go false e h rest = rw e (rest j (λ k. h k ∙ omega arith) roll)

-- ---- the units won

module _ (p q : Bid → Bool) (within : (b : Bid) → q b ≡ true → p b ≡ true) where
  -- a test that passes only where another does keeps the same of those that the other keeps
  kept-alike : (bs : List Bid) → keep q (keep p bs) ≡ keep q bs
  kept-alike bs = sym (keep-and p q bs) ∙ keep-ext (λ b. p b && q b) q bs (λ b. both (p b) (q b) (within b))
    where
      both : (t u : Bool) → (u ≡ true → t ≡ true) → (t && u) ≡ u
      both true u h = refl
      both false true h = absurd (false≢true (h refl))
      both false false h = refl

  -- and what is put back at the places of those is what is put back among all
  put-alike : (bs : List Bid) (ys : List ℕ) (k : ℕ) → get_or (put_back q bs ys) (place p bs k) 0 ≡ get_or (put_back q (keep p bs) ys) k 0
  unfolding keep put_back
  put-alike [] ys k = refl
  put-alike (b ∷ bs) ys k = go (p b) refl k (put-alike bs)
    where
      go : (t : Bool) → p b ≡ t → (k : ℕ) → ((ys : List ℕ) (k : ℕ) → get_or (put_back q bs ys) (place p bs k) 0 ≡ get_or (put_back q (keep p bs) ys) k 0)
          → get_or ((when q b then get_or ys 0 0 else 0) ∷ put_back q bs (when q b then drop 1 ys else ys)) (place_if t (place p bs) k) 0
          ≡ get_or (put_back q (when t then b ∷ keep p bs else keep p bs) ys) k 0
      go true e zero rest = refl
      go true e (suc k) rest = rest (when q b then drop 1 ys else ys) k
      go false e k rest = rw (out (q b) refl) (rest ys k)
        where
          out : (u : Bool) → q b ≡ u → q b ≡ false
          out true f = absurd (false≢true (sym e ∙ within b f))
          out false f = f

-- a table of lists, one for each pool
table-alike : (n : ℕ) (f g : ℕ → List ℕ) (i j : ℕ) → ((pool : ℕ) → get_or (f pool) i 0 ≡ get_or (g pool) j 0)
    → (pool : ℕ) → get_or (get_or (tab n f) pool []) i 0 ≡ get_or (get_or (tab n g) pool []) j 0
unfolding tab
table-alike zero f g i j h pool = refl
table-alike (suc n) f g i j h zero = h 0
table-alike (suc n) f g i j h (suc pool) = table-alike n (λ k. f (suc k)) (λ k. g (suc k)) i j (λ k. h (suc k)) pool

module _ (round : ℕ) (wins : List (List ℕ)) where
  same-stands : (i : ℕ) (b : Bid) → (won_given round wins i b).stands ≡ b.stands
  same-stands = given-same round wins (λ b. b.stands) (λ b v. refl)

  -- the numbers of the bids that stand are as before
  same_numbers : (i : ℕ) (bs : List Bid) (k : ℕ) → number_of (map_from i (won_given round wins) bs) k ≡ number_of bs k
  unfolding map_from
  same_numbers i [] k = refl
  same_numbers i (b ∷ bs) k = rw (same-stands i b) (go b.stands k (same_numbers (suc i) bs))
    where
      go : (t : Bool) (k : ℕ) → ((k : ℕ) → number_of (map_from (suc i) (won_given round wins) bs) k ≡ number_of bs k)
          → place_if t (number_of (map_from (suc i) (won_given round wins) bs)) k ≡ place_if t (number_of bs) k
      go true zero rest = refl
      go true (suc k) rest = ap suc (rest k)
      go false k rest = ap suc (rest k)

  -- the bids given what two tables say, where both say the same of the bids that stand
  given-alike : (without : List (List ℕ)) (i j : ℕ) (bs : List Bid) → ((pool k : ℕ) → get_or (get_or wins pool []) (i + number_of bs k) 0 ≡ get_or (get_or without pool []) (j + k) 0)
      → standing_bids (map_from i (won_given round wins) bs) ≡ map_from j (won_given round without) (standing_bids bs)
  unfolding map_from keep won_given
  given-alike without i j [] h = refl
  given-alike without i j (b ∷ bs) h = rw (same-stands i b) (go b.stands h (λ j h. given-alike without (suc i) j bs h))
    where
      at : (table : List (List ℕ)) (pool : ℕ) {m n : ℕ} → m ≡ n → get_or (get_or table pool []) m 0 ≡ get_or (get_or table pool []) n 0
      at table pool e = ap (λ (k : ℕ). get_or (get_or table pool []) k 0) e

      won : get_or (get_or wins b.pool []) i 0 ≡ get_or (get_or without b.pool []) j 0 → won_given round wins i b ≡ won_given round without j b
      won e = rw e

      go : (t : Bool) → ((pool k : ℕ) → get_or (get_or wins pool []) (i + place_if t (number_of bs) k) 0 ≡ get_or (get_or without pool []) (j + k) 0)
          → ((j : ℕ) → ((pool k : ℕ) → get_or (get_or wins pool []) (suc i + number_of bs k) 0 ≡ get_or (get_or without pool []) (j + k) 0)
          → standing_bids (map_from (suc i) (won_given round wins) bs) ≡ map_from j (won_given round without) (standing_bids bs))
          → (when t then won_given round wins i b ∷ standing_bids (map_from (suc i) (won_given round wins) bs) else standing_bids (map_from (suc i) (won_given round wins) bs))
          ≡ map_from j (won_given round without) (when t then b ∷ standing_bids bs else standing_bids bs)
      go true h rest =
          cc (
            won (at wins b.pool (omega arith) ∙ h b.pool 0 ∙ at without b.pool (omega arith)),
            rest (suc j) (λ pool k. at wins pool (omega arith) ∙ h pool (suc k) ∙ at without pool (omega arith)),
          )
      go false h rest = rest j (λ pool k. at wins pool (omega arith) ∙ h pool k)

-- ---- CLOSE

pub in-stands : (round pool : ℕ) (b : Bid) → in_auction round pool b ≡ true → b.stands ≡ true
unfolding in_auction in_round
in-stands round pool b e = and_left _ _ (and_left _ _ e)

module _
    (c d : Case)
    (head : d.head ≡ c.head)
    (rounds : d.rounds ≡ c.rounds)
    (bids : d.bids ≡ standing_bids c.bids)
    (units : (pool : ℕ) → open_units c.roll pool ≡ open_units d.roll pool)
    (round : ℕ)
  where
    -- the units won in a pool, at the places of the bids that stand
    won-alike : (pool k : ℕ) → get_or (won_in c round pool) (number_of c.bids k) 0 ≡ get_or (won_in d round pool) k 0
    unfolding won_in among
    won-alike pool k =
        let p : Bid → Bool = λ b. b.stands in
        let q = in_auction round pool in
        rw (bids, rounds, units pool, kept-alike p q (in-stands round pool) c.bids) (put-alike p q (in-stands round pool) c.bids _ k)

    bids-alike : standing_bids (bids_after c round) ≡ bids_after d round
    unfolding bids_after
    bids-alike =
        let n = c.head.pools in
        given-alike round (tab n (won_in c round)) (tab n (won_in d round)) 0 0 c.bids
        (λ pool k. rw (zero-add (number_of c.bids k), zero-add k)
        (table-alike n (won_in c round) (won_in d round) (number_of c.bids k) k (λ q. won-alike q k) pool))
        ∙ ap (λ (bs : List Bid). map_from 0 (won_given round (tab n (won_in d round))) bs) (sym bids)
        ∙ ap (λ (h : Head). map_from 0 (won_given round (tab h.pools (won_in d round))) d.bids) (sym head)

-- the bids that stand are given what they are given where the others are not there
pub standing-win : (c : Case) (round : ℕ) → standing_bids (bids_after c round) ≡ bids_after (with_bids c (standing_bids c.bids)) round
standing-win c round = bids-alike c (with_bids c (standing_bids c.bids)) refl refl refl (λ pool. refl) round

module _ (c d : Case) (w : Without c d) where
  -- "CLOSE allots as though a withdrawn bid had not been sent"
  pub close-without : Without (after_close c) (after_close d)
  unfolding after_close bids_after
  close-without =
      let round = round_of c.stage in
      let bids = bids_after c round in
      let same =
      bids-alike c d w.head w.rounds w.bids
      (λ pool. ap (λ (r : List Entry). open_units r pool) w.roll ∙ open-alike (number_of c.bids) pool d.roll) round in
      let after : bids_after d (round_of d.stage) ≡ standing_bids bids = ap (λ (s : Stage). bids_after d (round_of s)) w.stage ∙ sym same in
      let numbers : number_of bids ≡ number_of c.bids = fun_ext (same_numbers round (tab c.head.pools (won_in c round)) 0 c.bids) in
      record {
        stage = ap (λ (s : Stage). After (round_of s)) w.stage;
        head = w.head;
        pools = w.pools;
        members = w.members;
        rounds = w.rounds;
        bids = after;
        roll =
            ap (sell round 0 bids) w.roll
            ∙ ap (λ (f : ℕ → ℕ). sell round 0 bids (map (renumbered f) d.roll)) (sym numbers)
            ∙ sell-alike (number_of bids) round 0 0 bids (λ k. ap (number_of bids) (zero-add k) ∙ sym (zero-add (number_of bids k))) d.roll
            ∙ ap (λ (bs : List Bid). map (renumbered (number_of bids)) (sell round 0 bs d.roll)) (sym after)
            ∙ ap (λ (s : Stage). map (renumbered (number_of bids)) (sell (round_of s) 0 (bids_after d (round_of d.stage)) d.roll)) (sym w.stage);
      }

-- ---- what is observed

module _ (bids : List Bid) where
  abbrev f : ℕ → ℕ
  f = number_of bids

  -- a number means the same bid
  bid-alike : (j : ℕ) → get_or bids (f j) no_bid ≡ get_or (standing_bids bids) j no_bid
  bid-alike j =
      let own : Bid → Bid = λ b. b in
      sym (get_or-map own bids (f j) no_bid) ∙ at_place (λ b. b.stands) no_bid own own (λ b e. refl) bids j ∙ get_or-map own (standing_bids bids) j no_bid

  price-alike : (s : UnitState) → price_of bids (renumbered_state f s) ≡ price_of (standing_bids bids) s
  unfolding price_of
  price-alike Open = refl
  price-alike (Sold j) = ap (λ (b : Bid). b.price) (bid-alike j)
  price-alike (Allocated m price) = refl
  price-alike (Moved m) = refl
  price-alike (Torn price) = refl
  price-alike (Agreed m price) = refl

  held-alike : (m : ℕ) (s : UnitState) → held_by bids m (renumbered_state f s) ≡ held_by (standing_bids bids) m s
  unfolding held_by
  held-alike m Open = refl
  held-alike m (Sold j) = ap (λ (b : Bid). eqb b.member m) (bid-alike j)
  held-alike m (Allocated a price) = refl
  held-alike m (Moved a) = refl
  held-alike m (Torn price) = refl
  held-alike m (Agreed a price) = refl

  counts-alike : (roll : List Entry) (pool : ℕ) → five_counts (map (renumbered f) roll) pool ≡ five_counts roll pool
  unfolding five_counts
  counts-alike roll pool = tab-ext 5 _ _ (λ k l. count-alike f _ _ (λ e. rw (same_kind f e.state)) roll)

  holdings-alike : (roll : List Entry) (m pool price : ℕ) → holding bids (map (renumbered f) roll) m pool price ≡ holding (standing_bids bids) roll m pool price
  unfolding holding
  holdings-alike roll m pool price = count-alike f _ _ (λ e. rw (held-alike m e.state, price-alike e.state)) roll

  prices-alike : (roll : List Entry) → prices bids (map (renumbered f) roll) ≡ prices (standing_bids bids) roll
  unfolding prices keep is_open
  prices-alike [] = refl
  prices-alike (e ∷ es) = rw (same_kind f e.state) (go (not (eqb (kind e.state) 0)) (prices-alike es))
    where
      go : (t : Bool) → prices bids (map (renumbered f) es) ≡ prices (standing_bids bids) es
          → map (λ x. price_of bids x.state) (when t then renumbered f e ∷ keep (λ x. not (is_open x)) (map (renumbered f) es) else keep (λ x. not (is_open x)) (map (renumbered f) es))
          ≡ map (λ x. price_of (standing_bids bids) x.state) (when t then e ∷ keep (λ x. not (is_open x)) es else keep (λ x. not (is_open x)) es)
      go true rest = cc (price-alike e.state)
      go false rest = rest

-- a case in any stage but F, and the same without its withdrawn bids
pub without-observed : (c d : Case) → Without c d → eqb (letter c.stage) 5 ≡ false → (n : ℕ) → observed n (some c) ≡ observed n (some d)
unfolding observed letter_of sum_of_prices
without-observed c d w unfinished n =
    let bids = c.bids in
    let counts : five_counts c.roll ≡ five_counts d.roll = fun_ext (λ pool. ap (λ (r : List Entry). five_counts r pool) w.roll ∙ counts-alike bids d.roll pool) in
    let holdings : holding bids c.roll ≡ holding d.bids d.roll =
    fun_ext (λ m. fun_ext (λ pool. fun_ext (λ price.
    ap (λ (r : List Entry). holding bids r m pool price) w.roll
    ∙ holdings-alike bids d.roll m pool price
    ∙ ap (λ (bs : List Bid). holding bs d.roll m pool price) (sym w.bids)))) in
    let held : prices bids c.roll ≡ prices d.bids d.roll =
    ap (prices bids) w.roll ∙ prices-alike bids d.roll ∙ ap (λ (bs : List Bid). prices bs d.roll) (sym w.bids) in
    λ i. record {
      answer = n;
      counts = tab (length (sym w.pools i)) (counts i);
      holdings = holdings i;
      prices = sum_cents (held i);
      result = (ap (λ (b : Bool). when b then some (result_of c) else none) unfinished ∙ ap (λ (b : Bool). when b then some (result_of d) else none) (sym (ap (λ (s : Stage). eqb (letter s) 5) w.stage ∙ unfinished))) i;
    }

-- so that after CLOSE the counts, the holdings and the sum of prices are those of the case without the withdrawn bids
pub close-observed : (c d : Case) → Without c d → (n : ℕ) → observed n (some (after_close c)) ≡ observed n (some (after_close d))
unfolding letter after_close
close-observed c d w = without-observed (after_close c) (after_close d) (close-without c d w) refl

-- ---- every case reached has one without its withdrawn bids

-- how many bids before number n stand: its number among those that stand
abbrev pub number_among_standing : List Bid → ℕ → ℕ
number_among_standing bids n = count (λ b. b.stands) (take n bids)

abbrev pub without : Case → Case
without c = with_roll (with_bids c (standing_bids c.bids)) (map (renumbered (number_among_standing c.bids)) c.roll)

number-back : (bids : List Bid) (n : ℕ) → n < length bids → (get_or bids n no_bid).stands ≡ true → number_of bids (number_among_standing bids n) ≡ n
unfolding count one_if
number-back [] n l e = absurd (omega arith)
number-back (b ∷ bs) zero l e = rw e
number-back (b ∷ bs) (suc n) l e = go b.stands (number-back bs n (omega arith) e)
  where
    go : (t : Bool) → number_of bs (number_among_standing bs n) ≡ n → place_if t (number_of bs) (one_if t + number_among_standing bs n) ≡ suc n
    go true rest = rw (one-add (number_among_standing bs n)) (ap suc rest)
    go false rest = rw (zero-add (number_among_standing bs n)) (ap suc rest)

state-back : (f g : ℕ → ℕ) (s : UnitState) → ((b : ℕ) → s ≡ Sold b → f (g b) ≡ b) → renumbered_state f (renumbered_state g s) ≡ s
state-back f g Open h = refl
state-back f g (Sold b) h = ap (λ (k : ℕ). Sold k) (h b refl)
state-back f g (Allocated m price) h = refl
state-back f g (Moved m) h = refl
state-back f g (Torn price) h = refl
state-back f g (Agreed m price) h = refl

module _ (c : Case) (ok : CaseOk c) where
  -- a bid that has an entry won it, and so it stands
  won-stands : (b : ℕ) → b < length c.bids → 1 ≤ (get_or c.bids b no_bid).won → (get_or c.bids b no_bid).stands ≡ true
  won-stands b l won = cases (get_or c.bids b no_bid).stands _ (λ e. e) (λ e. absurd (omega (arith, each_at _ c.bids b no_bid l ok.won.withdrawn e)))

  -- the roll, its bids' numbers changed by g and back by f
  module _ (f g : ℕ → ℕ) (back : (b : ℕ) → b < length c.bids → (get_or c.bids b no_bid).stands ≡ true → f (g b) ≡ b) where
    entries-back : (roll : List Entry) → ((b : ℕ) → count (sold_to b) roll ≤ (get_or c.bids b no_bid).won)
        → Each (λ e. EntryOk c.head c.bids e.pool e.state) roll → roll ≡ map (renumbered f) (map (renumbered g) roll)
    unfolding count one_if sold_is
    entries-back [] sold fit = refl
    entries-back (e ∷ es) sold fit =
        ap (λ (x : UnitState). with_state e x ∷ es) (sym (state-back f g e.state here))
        ∙ ap (λ l. renumbered f (renumbered g e) ∷ l) (entries-back es (λ b. omega (arith, sold b)) fit.1)
      where
        one : (b : ℕ) → e.state ≡ Sold b → one_if (sold_to b e) ≡ 1
        one b is = rw (is, eq-eqb b b refl)

        here : (b : ℕ) → e.state ≡ Sold b → f (g b) ≡ b
        here b is = let l = (rw is at fit.0).0 in back b l (won-stands b l (omega (arith, sold b, one b is)))

    roll-back : c.roll ≡ map (renumbered f) (map (renumbered g) c.roll)
    roll-back = entries-back c.roll ok.won.sold ok.roll.each

  pub without-there : Without c (without c)
  without-there =
      record {
        stage = refl;
        head = refl;
        pools = refl;
        members = refl;
        rounds = refl;
        bids = refl;
        roll = roll-back (number_of c.bids) (number_among_standing c.bids) (number-back c.bids);
      }

  -- ---- more bids are sent

  -- the case with the bids that stand among all that were sent
  abbrev sent_without : List Bid → Case
  sent_without more = with_roll (with_bids c (standing_bids (c.bids ++ more))) (map (renumbered (number_among_standing c.bids)) c.roll)

  sent-without : (more : List Bid) → Without (with_bids c (c.bids ++ more)) (sent_without more)
  sent-without more =
      record {
        stage = refl;
        head = refl;
        pools = refl;
        members = refl;
        rounds = refl;
        bids = refl;
        roll =
            roll-back (number_of (c.bids ++ more)) (number_among_standing c.bids)
            (λ b l e. ap (λ (bs : List Bid). number_of (c.bids ++ more) (count (λ x. x.stands) bs)) (sym (take-append-le b c.bids more (omega arith)))
            ∙ number-back (c.bids ++ more) b (omega (arith, length-append c.bids more)) (rw (get_or-append c.bids more no_bid b l) e));
      }

  -- a withdrawn bid among them, and those after it
  pub close-not-sent : (b : Bid) (bs : List Bid) (n : ℕ)
      → observed n (some (after_close (with_bids c (c.bids ++ (withdrawn b ∷ bs))))) ≡ observed n (some (after_close (with_bids c (c.bids ++ bs))))
  unfolding keep
  close-not-sent b bs n =
      close-observed _ _ (sent-without (withdrawn b ∷ bs)) n
      ∙ ap (λ (bids : List Bid). observed n (some (after_close (with_roll (with_bids c bids) (map (renumbered (number_among_standing c.bids)) c.roll))))) (dropped c.bids)
      ∙ sym (close-observed _ _ (sent-without bs) n)
    where
      dropped : (first : List Bid) → standing_bids (first ++ (withdrawn b ∷ bs)) ≡ standing_bids (first ++ bs)
      dropped [] = refl
      dropped (x ∷ xs) = ap (λ (l : List Bid). when x.stands then x ∷ l else l) (dropped xs)
