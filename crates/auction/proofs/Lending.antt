-- What the flat arrays of a lent run hold, and that the auction over them is the auction over the records. Assumes nothing.
use mathlib.Core.Path.{◌≡◌, refl, sym, ap, ◌∙◌}
use mathlib.Core.Logic.{⊎_elim}
use mathlib.Core.Bool.{false, ◌&&◌, and-false}
use mathlib.Core.List.{List, [], ◌∷◌, map, foldl}
use Prim.Native.Nat.{ℕ, suc, ◌+◌, ◌≤◌, ◌<◌, min}
use native.Mathlib.Numerals.{add-one}
use native.Mathlib.Omega.{arith}
use lib.Dec.{leb, eqb}
use lib.IntN.{ℤ, pos}
use lib.ListN.{length, get_or, set, take, drop, replicate, length-map, length-replicate, length-take, drop_of_length-le}
use lib.Seq.{get_or-take, sets, sets-eq, take_at, take_all, drop-cons}
use borrow.Author.Tests.{lt-ltb, le-leb, lt-leb, eqb-true}
use Rattle.lists.specs.Tests.{first_of}
use Rattle.lists.proofs.Bools.{cases, lt-or-le}
use Rattle.auction.specs.Limits.{bid_limit, refusal, allot_into}
use Rattle.auction.specs.Lent.{held, alone_lent}
use Rattle.auction.specs.Gathered.{no_bids, with_bid, bids_of, gathered, alone_over}
use Rattle.auction.specs.declared.BidRecord.{BidRecord}
use Rattle.auction.specs.declared.Bids.{Bids}

abbrev units_of : BidRecord → ℕ
units_of b = b.units

abbrev price_of : BidRecord → ℕ
price_of b = held b.price

-- one bid more, where there is room
abbrev next : Bids → BidRecord → Bids
next f b = record { units = set f.units f.n b.units; prices = set f.prices f.n (held b.price); n = f.n + 1 }

with-room : (f : Bids) (b : BidRecord) → f.n < bid_limit → with_bid f b ≡ next f b
unfolding with_bid
with-room f b l = rw (lt-ltb f.n bid_limit l)

-- where there is room for all of them, the bids are laid one after the other
laid : (bs : List BidRecord) (f : Bids) → f.n + length bs ≤ bid_limit
    → ((foldl with_bid f bs).units ≡ sets f.units f.n (map units_of bs)) × ((foldl with_bid f bs).prices ≡ sets f.prices f.n (map price_of bs))
laid [] f h = (refl, refl)
laid (b ∷ bs) f h =
    let e = with-room f b (omega arith) in
    let rest = laid bs (next f b) (omega arith) in (
      ap (λ (g : Bids). (foldl with_bid g bs).units) e ∙ rest.0
          ∙ ap (λ (k : ℕ). sets (set f.units f.n (units_of b)) k (map units_of bs)) (add-one f.n),
      ap (λ (g : Bids). (foldl with_bid g bs).prices) e ∙ rest.1
          ∙ ap (λ (k : ℕ). sets (set f.prices f.n (price_of b)) k (map price_of bs)) (add-one f.n),
    )

-- the front of an array in which a list was laid is that list
front : (f : BidRecord → ℕ) (bs : List BidRecord) → length bs ≤ bid_limit → take (length bs) (sets (replicate bid_limit 0) 0 (map f bs)) ≡ map f bs
front f bs h =
    let zeros : List ℕ = replicate bid_limit 0 in
    ap (take (length bs)) (sets-eq (map f bs) zeros 0 (omega (arith, length-map bs f, length-replicate {A = ℕ} bid_limit 0)))
    ∙ take_at (map f bs) (drop (0 + length (map f bs)) zeros) (length bs) (length-map bs f)

module _ (bs : List BidRecord) (short : length bs ≤ bid_limit) where
  all_read : gathered bs ≡ bids_of bs
  unfolding gathered
  all_read = ap bids_of (take_all bid_limit bs short)

  -- the used part of each array holds the numbers of the records
  pub gathered-units : take (length bs) (gathered bs).units ≡ map (λ b. b.units) bs
  unfolding bids_of no_bids
  gathered-units = ap (λ (f : Bids). take (length bs) f.units) all_read ∙ ap (take (length bs)) (laid bs no_bids (omega arith)).0 ∙ front units_of bs short

  pub gathered-prices : take (length bs) (gathered bs).prices ≡ map (λ b. held b.price) bs
  unfolding bids_of no_bids
  gathered-prices = ap (λ (f : Bids). take (length bs) f.prices) all_read ∙ ap (take (length bs)) (laid bs no_bids (omega arith)).1 ∙ front price_of bs short

-- a run that is too long is refused by 1, whatever the counts
too_long : (least places n reserve : ℕ) (us ps counts : List ℕ) → places < length us → allot_into least places n reserve us ps counts ≡ (1, counts)
unfolding allot_into refusal first_of
too_long least places n reserve us ps counts h =
    let c = length counts in
    let off : (eqb (length ps) (length us) && eqb c (length us) && leb c places) ≡ false
    = cases (eqb c (length us)) ((eqb (length ps) (length us) && eqb c (length us) && leb c places) ≡ false)
    (λ e. rw (lt-leb c places (omega (arith, eqb-true c (length us) e))) (and-false (eqb (length ps) (length us) && eqb c (length us))))
    (λ e. rw (e, and-false (eqb (length ps) (length us)))) in
    rw off

-- the auction over the arrays is the auction over the records
pub same-auction : (bs : List BidRecord) (n : ℕ) (reserve : ℤ) (counts : List ℕ)
    → alone_over (gathered bs) (length bs) n reserve counts ≡ alone_lent bs n reserve counts
unfolding alone_over alone_lent
same-auction bs n reserve counts =
    ⊎_elim
    (λ long.
    rw (lt-leb (length bs) bid_limit long)
    (sym (too_long 1 bid_limit n (held reserve) (map units_of bs) (map price_of bs) counts (omega (arith, length-map bs units_of)))))
    (λ short. rw (le-leb (length bs) bid_limit short, gathered-units bs short, gathered-prices bs short))
    (lt-or-le bid_limit (length bs))

-- ---- the loop that reads the records

-- what stands past the end of a run
abbrev pub no_bid : BidRecord
no_bid = record { units = 0; price = pos 0 }

-- how many records are read, and which
abbrev pub cap : List BidRecord → ℕ
cap ys = min (length ys) bid_limit

abbrev pub taken : List BidRecord → List BidRecord
taken ys = take bid_limit ys

taken-length : (ys : List BidRecord) → length (taken ys) ≡ cap ys
taken-length ys = omega (arith, length-take bid_limit ys)

-- the arrays, of which the first i places are used
abbrev pub bids_in : List ℕ → List ℕ → ℕ → Bids
bids_in us ps i = record { units = us; prices = ps; n = i }

-- none is read yet
pub read_none : (ys : List BidRecord) → foldl with_bid (bids_in (replicate bid_limit 0) (replicate bid_limit 0) 0) (drop 0 (taken ys)) ≡ gathered ys
unfolding gathered bids_of no_bids
read_none ys = refl

-- a turn: what is left, added to the bids with one more, is what was left before
pub read_more : (ys : List BidRecord) (us ps : List ℕ) (i : ℕ) → i < cap ys → foldl with_bid (bids_in us ps i) (drop i (taken ys)) ≡ gathered ys
    → foldl with_bid (bids_in (set us i (get_or ys i no_bid).units) (set ps i (held (get_or ys i no_bid).price)) (i + 1)) (drop (i + 1) (taken ys)) ≡ gathered ys
read_more ys us ps i l so_far =
    let b = get_or ys i no_bid in
    let f = bids_in us ps i in
    let left : drop i (taken ys) ≡ b ∷ drop (i + 1) (taken ys)
    = rw (add-one i) (drop-cons (taken ys) i no_bid (omega (arith, taken-length ys)) ∙ ap (λ (c : BidRecord). c ∷ drop (suc i) (taken ys)) (get_or-take bid_limit ys i no_bid (omega arith))) in
    ap (λ (g : Bids). foldl with_bid g (drop (i + 1) (taken ys))) (sym (with-room f b (omega arith))) ∙ ap (foldl with_bid f) (sym left) ∙ so_far

-- none is left
pub read_all : (ys : List BidRecord) (us ps : List ℕ) (i : ℕ) → cap ys ≤ i → foldl with_bid (bids_in us ps i) (drop i (taken ys)) ≡ gathered ys → bids_in us ps i ≡ gathered ys
read_all ys us ps i l so_far =
    let none : length (taken ys) ≤ i = omega (arith, taken-length ys) in
    rw (drop_of_length-le (taken ys) none) at so_far
