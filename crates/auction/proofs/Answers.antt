-- What an auction answers: 0 exactly within its limits, and then the counts hold the allotment; otherwise they are untouched. Assumes nothing.
use mathlib.Core.Path.{◌≡◌, refl, ap}
use mathlib.Core.Bool.{Bool, true, ◌&&◌, not}
use mathlib.Core.List.{List}
use Prim.Native.Nat.{ℕ, ◌≤◌, ◌<◌}
use native.Mathlib.Omega.{arith}
use lib.Dec.{leb, eqb}
use lib.ListN.{length, get_or}
use borrow.Author.Tests.{leb-true, eqb-true, le-leb, eq-eqb, not-false}
use Rattle.lists.specs.Lists.{between, all}
use Rattle.lists.proofs.Bools.{and_left, and_right, and_both}
use Rattle.lists.proofs.Sums.{bound-past}
use Rattle.lists.proofs.Counts.{all-get, all_of, each_all}
use Rattle.lists.proofs.Each.{each_at}
use Rattle.lists.proofs.Passed.{passed, accepted as none-applies}
use Rattle.splitting.specs.Limits.{Answer}
use Rattle.splitting.proofs.Answers.{answered-0, answered-not-0}
use Rattle.auction.specs.Price.{price_limit, price_ok}
use Rattle.auction.specs.Auction.{allot}
use Rattle.auction.specs.Limits.{unit_limit, place_limit, refusal, allot_into}
use Rattle.auction.specs.Edge.{Ready}

-- the limits of an auction of n open units, with c counts
pub record Within (least places n reserve : ℕ) (us ps : List ℕ) (c : ℕ) : Type 0 where
  pub paired : length ps ≡ length us
  pub counted : c ≡ length us
  pub few : length us ≤ places
  pub small : n ≤ unit_limit
  pub floor : reserve ≤ price_limit
  pub units : (k : ℕ) → k < length us → (least ≤ get_or us k 0) × (get_or us k 0 ≤ unit_limit)
  pub prices : (k : ℕ) → k < length ps → get_or ps k 0 ≤ price_limit

module _ (least places n reserve : ℕ) (us ps : List ℕ) (c : ℕ) where
  abbrev paired : Bool
  paired = eqb (length ps) (length us) && eqb c (length us)

  abbrev numbers : Bool
  numbers = leb n unit_limit && price_ok reserve

  abbrev sized : Bool
  sized = all (between least unit_limit) us

  -- an auction that is not refused is within the limits
  pub refusal-within : refusal least places n reserve us ps c ≡ 0 → Within least places n reserve us ps c
  unfolding refusal
  refusal-within e =
      let t = passed _ refl e in
      let lengths = not-false (paired && leb c places) t.0 in
      let ranges = not-false (numbers && sized && all price_ok ps) t.1.0 in
      let same = and_left paired (leb c places) lengths in
      let bids = and_left (numbers && sized) (all price_ok ps) ranges in
      let counted : c ≡ length us = eqb-true c (length us) (and_right (eqb (length ps) (length us)) (eqb c (length us)) same) in
      let most : c ≤ places = leb-true c places (and_right paired (leb c places) lengths) in
      record {
        paired = eqb-true (length ps) (length us) (and_left (eqb (length ps) (length us)) (eqb c (length us)) same);
        counted = counted;
        few = omega arith;
        small = leb-true n unit_limit (and_left (leb n unit_limit) (price_ok reserve) (and_left numbers sized bids));
        floor = leb-true reserve price_limit (and_right (leb n unit_limit) (price_ok reserve) (and_left numbers sized bids));
        units = λ k l.
            let u = get_or us k 0 in
            let fits = each_at (λ x. between least unit_limit x ≡ true) us k 0 l (each_all (between least unit_limit) us (and_right numbers sized bids)) in
            (leb-true least u (and_left (leb least u) (leb u unit_limit) fits), leb-true u unit_limit (and_right (leb least u) (leb u unit_limit) fits));
        prices = λ k l. leb-true (get_or ps k 0) price_limit (all-get price_ok ps 0 refl (and_right (numbers && sized) (all price_ok ps) ranges) k);
      }

  -- and an auction within the limits is not refused
  pub within-refusal : Within least places n reserve us ps c → refusal least places n reserve us ps c ≡ 0
  unfolding refusal
  within-refusal w =
      let fits : (k : ℕ) → k < length us → between least unit_limit (get_or us k 0) ≡ true
      = λ k l.
      let u = get_or us k 0 in
      and_both (leb least u) (leb u unit_limit) (le-leb least u (w.units k l).0) (le-leb u unit_limit (w.units k l).1) in
      none-applies _ (
        ap not
            (and_both paired (leb c places)
            (and_both (eqb (length ps) (length us)) (eqb c (length us)) (eq-eqb (length ps) (length us) w.paired) (eq-eqb c (length us) w.counted))
            (le-leb c places (omega arith))),
        (
          ap not
              (and_both (numbers && sized) (all price_ok ps)
              (and_both numbers sized
              (and_both (leb n unit_limit) (price_ok reserve) (le-leb n unit_limit w.small) (le-leb reserve price_limit w.floor))
              (all_of (between least unit_limit) us 0 fits))
              (all_of price_ok ps 0 (λ k l. le-leb (get_or ps k 0) price_limit (w.prices k l)))),
          tt,
        ),
      )

  -- within the limits the parts of the code may run
  pub within-ready : places ≤ place_limit → Within least places n reserve us ps c → Ready n reserve us ps
  within-ready h w = record {
    bids = record {
      few = omega arith;
      paired = w.paired;
      units = bound-past unit_limit us (λ k l. (w.units k l).1);
      prices = bound-past price_limit ps w.prices;
    };
    small = w.small;
    floor = w.floor;
  }

-- ---- the functions

module _ (least places n reserve : ℕ) (us ps counts : List ℕ) where
  -- within the limits the answer is 0 and the counts hold the allotment
  pub accepted : Within least places n reserve us ps (length counts) → allot_into least places n reserve us ps counts ≡ (0, allot n reserve us ps)
  unfolding allot_into
  accepted w =
      answered-0 (refusal least places n reserve us ps (length counts)) (allot n reserve us ps) counts
      (within-refusal least places n reserve us ps (length counts) w)

  -- and back: where the answer is 0 the limits hold
  pub accepted-within : (allot_into least places n reserve us ps counts).0 ≡ 0 → Within least places n reserve us ps (length counts)
  unfolding allot_into
  accepted-within e = refusal-within least places n reserve us ps (length counts) e

  -- where the answer is not 0 the counts are untouched
  pub refused-untouched : ((allot_into least places n reserve us ps counts).0 ≡ 0 → ⊥) → (allot_into least places n reserve us ps counts).1 ≡ counts
  unfolding allot_into
  refused-untouched h =
      ap (λ (a : Answer). a.1) (answered-not-0 (refusal least places n reserve us ps (length counts)) (allot n reserve us ps) counts h)

-- the same for a caller of `allot`, whose bids may have 0 units
pub allot-accepted : (n reserve : ℕ) (us ps won : List ℕ) → Ready n reserve us ps → length won ≡ length us
    → allot_into 0 place_limit n reserve us ps won ≡ (0, allot n reserve us ps)
allot-accepted n reserve us ps won ready long =
    accepted 0 place_limit n reserve us ps won (record {
      paired = ready.bids.paired;
      counted = long;
      few = ready.bids.few;
      small = ready.small;
      floor = ready.floor;
      units = λ k l. (omega arith, ready.bids.units k);
      prices = λ k l. ready.bids.prices k;
    })
