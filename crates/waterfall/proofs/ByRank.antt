-- What charging by rank does, for any set, ranks, holdings and amount: the members' charges add up to the amount, or to all that they hold;
-- none is above what its member holds; the ranks are charged in turn, the most junior first; in a rank no larger holding is charged less. Assumes nothing.
use mathlib.Core.Path.{◌≡◌, refl, sym, ap, ◌∙◌}
use mathlib.Core.Bool.{Bool, true, false, ◌&&◌}
use mathlib.Core.Logic.{⊎_elim}
use mathlib.Core.List.{List, map}
use Prim.Native.Nat.{ℕ, zero, suc, ◌+◌, ◌-◌, ◌≤◌, ◌<◌, min}
use native.Mathlib.Omega.{arith}
use lib.Dec.{leb, ltb, eqb}
use lib.ListN.{get_or}
use borrow.Author.Tests.{eq-eqb, ne_eqb, eqb-true, lt-ltb, le-ltb, le-leb, lt-leb, leb-true}
use Rattle.lists.specs.Lists.{when◌then◌else◌, sum, sum_to, one_if, tab, places, keep}
use Rattle.lists.proofs.Bools.{lt-or-le, order-of, and_left, and_both}
use Rattle.lists.proofs.Sums.{sum_to-ext, sum_to-zero, sum_to-term, sum_to-tight}
use Rattle.lists.proofs.Places.{length-tab, sum-tab, get_or-tab, take-tab, tab-of}
use Rattle.lists.proofs.Keep.{keep-and, keep_all, keep-ext, sum-keep, sum-keep-ext, sum-keep-parts, sum-keep-le, sum_kept, sum-by-key}
use Rattle.sets.specs.Set.{member, members}
use Rattle.sets.proofs.Members.{sum-members-ext}
use Rattle.splitting.specs.Split.{split_among}
use Rattle.splitting.proofs.Among.{share-off, share-past, share-le, share-le-amount, shares-kept-sum, shares-order, shares-ext}
use Rattle.waterfall.specs.Charging.{charged, held_by, rank_charge, charged_by_rank}
use Rattle.waterfall.proofs.Layers.{charged-length, charge-at}

-- a split of all that those who pass hold gives each what it holds
share-whole : (n : ℕ) (who : ℕ → Bool) (q : ℕ) (f : ℕ → ℕ) → q ≡ sum (map f (keep who (places n))) → (i : ℕ) → i < n → who i ≡ true
    → get_or (split_among n who q f) i 0 ≡ f i
share-whole n who q f e i l on =
    sym (ap (λ b. when b then share i else 0) on)
    ∙ sum_to-tight n (λ k. when who k then share k else 0) (λ k. when who k then f k else 0)
    (λ k below. le k (who k))
    (sym (sum_kept n who share (λ k. k)) ∙ shares-kept-sum n who q f (omega arith) ∙ e ∙ sum_kept n who f (λ k. k))
    i
    l
    ∙ ap (λ b. when b then f i else 0) on
  where
    share : ℕ → ℕ
    share k = get_or (split_among n who q f) k 0

    le : (k : ℕ) (b : Bool) → (when b then share k else 0) ≤ (when b then f k else 0)
    le k true = share-le n who q f (omega arith) k
    le k false = omega arith

-- n or more is more than n or n itself
or-more : (n x : ℕ) → one_if (leb n x) ≡ one_if (ltb n x) + one_if (eqb n x)
unfolding one_if
or-more n x =
    ⊎_elim
    (λ h. rw (le-leb n x (omega arith), lt-ltb n x h, ne_eqb n x (omega arith)))
    (⊎_elim
    (λ h. rw (le-leb n x (omega arith), le-ltb n x (omega arith), eq-eqb n x h))
    (λ h. rw (lt-leb n x h, le-ltb n x (omega arith), ne_eqb n x (omega arith))))
    (order-of n x)

module _ (set : ℕ) (rank holds : ℕ → ℕ) where
  -- what all members hold
  abbrev pub held_in_all : ℕ
  held_in_all = sum (map holds (members set))

  -- ---- what the members of some ranks hold

  held-places : (who : ℕ → Bool) → held_by set rank holds who ≡ sum (map holds (keep (λ m. member set m && who (rank m)) (places 32)))
  unfolding held_by members
  held-places who = ap (λ ms. sum (map holds ms)) (sym (keep-and (member set) (λ m. who (rank m)) (places 32)))

  pub held-adds : (who : ℕ → Bool) → held_by set rank holds who ≡ sum (map (λ m. when who (rank m) then holds m else 0) (members set))
  unfolding held_by
  held-adds who = sum-keep (λ m. who (rank m)) holds (members set)

  -- rank n and those junior to it
  pub held-from : (n : ℕ) → held_by set rank holds (leb n) ≡ held_by set rank holds (ltb n) + held_by set rank holds (eqb n)
  unfolding held_by
  held-from n =
      sum-keep-parts (λ m. leb n (rank m)) (λ m. ltb n (rank m)) (λ m. eqb n (rank m)) holds (members set) (λ m. or-more n (rank m))

  held-juniors : (r s : ℕ) → r < s → held_by set rank holds (leb s) ≤ held_by set rank holds (ltb r)
  unfolding held_by
  held-juniors r s h =
      sum-keep-le (λ m. leb s (rank m)) (λ m. ltb r (rank m)) holds (members set)
      (λ m e. lt-ltb r (rank m) (omega (arith, leb-true s (rank m) e)))

  held-from-0 : held_by set rank holds (leb 0) ≡ held_in_all
  unfolding held_by
  held-from-0 =
      ap (λ ms. sum (map holds ms))
      (keep-ext (λ m. leb 0 (rank m)) (λ m. true) (members set) (λ m. le-leb 0 (rank m) (omega arith)) ∙ keep_all (members set))

  -- nobody has a rank of n or more
  held-past : (n : ℕ) → ((m : ℕ) → m < 32 → member set m ≡ true → rank m < n) → held_by set rank holds (leb n) ≡ 0
  held-past n below =
      held-places (leb n)
      ∙ sum_kept 32 (λ m. member set m && leb n (rank m)) holds (λ m. m)
      ∙ sum_to-ext 32 _ (λ m. 0) (λ m l. go m l (member set m) refl)
      ∙ sum_to-zero 32
    where
      go : (m : ℕ) → m < 32 → (b : Bool) → member set m ≡ b → (when b && leb n (rank m) then holds m else 0) ≡ 0
      go m l true on = rw (lt-leb n (rank m) (below m l on))
      go m l false on = refl

  module _ (amount : ℕ) where
    abbrev of_rank : ℕ → ℕ
    of_rank = rank_charge set rank holds amount

    abbrev of : ℕ → ℕ
    of = charged_by_rank set rank holds amount

    abbrev equals : ℕ → ℕ → Bool
    equals r o = member set o && eqb r (rank o)

    -- ---- the charges of the ranks

    -- no rank is charged more than its members hold
    pub rank-charge-le : (r : ℕ) → rank_charge set rank holds amount r ≤ held_by set rank holds (eqb r)
    unfolding rank_charge
    rank-charge-le r = omega arith

    reaches : (r : ℕ) → of_rank r ≤ sum (map holds (keep (equals r) (places 32)))
    reaches r = omega (arith, rank-charge-le r, held-places (eqb r))

    -- a rank is charged only if every rank junior to it is charged all that its members hold
    pub ranks-in-turn : (senior junior : ℕ) → senior < junior → 0 < rank_charge set rank holds amount senior
        → rank_charge set rank holds amount junior ≡ held_by set rank holds (eqb junior)
    unfolding rank_charge
    ranks-in-turn senior junior h some = omega (arith, held-from junior, held-juniors senior junior h)

    -- the ranks below n, and n and those junior to it, charged together
    ranks-below : (n : ℕ) → sum_to n of_rank + min amount (held_by set rank holds (leb n)) ≡ min amount held_in_all
    unfolding sum_to rank_charge
    ranks-below zero = omega (arith, held-from-0)
    ranks-below (suc n) = omega (arith, ranks-below n, held-from n)

    -- ---- the members' charges

    -- nobody else is charged
    pub charge-off : (m : ℕ) → member set m ≡ false → charged_by_rank set rank holds amount m ≡ 0
    unfolding charged_by_rank
    charge-off m off = share-off 32 (equals (rank m)) (of_rank (rank m)) holds m (rw off)

    pub charge-past : (m : ℕ) → 32 ≤ m → charged_by_rank set rank holds amount m ≡ 0
    unfolding charged_by_rank
    charge-past m g = share-past 32 (equals (rank m)) (of_rank (rank m)) holds m g

    -- none above what it holds
    pub charge-within : (m : ℕ) → charged_by_rank set rank holds amount m ≤ holds m
    unfolding charged_by_rank
    charge-within m = share-le 32 (equals (rank m)) (of_rank (rank m)) holds (reaches (rank m)) m

    -- document 02, C-15: of two members of one rank the one that holds more is never charged less
    pub charge-order : (j i : ℕ) → j < 32 → member set j ≡ true → rank i ≡ rank j → holds i < holds j
        → charged_by_rank set rank holds amount i ≤ charged_by_rank set rank holds amount j
    unfolding charged_by_rank
    charge-order j i l on e h =
        rw e (shares-order 32 (equals (rank j)) (of_rank (rank j)) holds j i l
        (and_both (member set j) (eqb (rank j) (rank j)) on (eq-eqb (rank j) (rank j) refl)) h)

    -- the charges of the members of a rank add up to the rank's
    pub rank-charge-sum : (r : ℕ)
        → sum (map (charged_by_rank set rank holds amount) (keep (λ m. eqb r (rank m)) (members set))) ≡ rank_charge set rank holds amount r
    unfolding charged_by_rank members
    rank-charge-sum r =
        let share : ℕ → ℕ → ℕ = λ r m. get_or (split_among 32 (equals r) (of_rank r) holds) m 0 in
        sum-keep-ext (λ m. eqb r (rank m)) of (share r) (members set) (λ m e. ap (λ r. share r m) (sym (eqb-true r (rank m) e)))
        ∙ ap (λ ms. sum (map (share r) ms)) (sym (keep-and (member set) (λ m. eqb r (rank m)) (places 32)))
        ∙ shares-kept-sum 32 (equals r) (of_rank r) holds (reaches r)

    -- the members' charges together are the amount or all that they hold, whichever is less
    pub charges-are : sum (map (charged_by_rank set rank holds amount) (members set)) ≡ min amount (sum (map holds (members set)))
    unfolding members
    charges-are =
        let past : ℕ = suc (sum_to 32 rank) in
        let below : (m : ℕ) → m < 32 → member set m ≡ true → rank m < past = λ m l on. omega (arith, sum_to-term 32 rank m l) in
        omega (
          arith,
          sum-by-key 32 past (member set) of rank below,
          sum_to-ext past _ of_rank (λ r l. rank-charge-sum r),
          ranks-below past,
          held-past past below,
        )

    -- so an amount that all together hold is charged whole
    pub charges-add-up : amount ≤ sum (map holds (members set)) → sum (map (charged_by_rank set rank holds amount) (members set)) ≡ amount
    charges-add-up h = omega (arith, charges-are)

    -- a member is charged only if every member of a rank junior to its own is charged all that it holds
    pub members-in-turn : (senior junior : ℕ) → junior < 32 → member set junior ≡ true → rank senior < rank junior
        → 0 < charged_by_rank set rank holds amount senior → charged_by_rank set rank holds amount junior ≡ holds junior
    unfolding charged_by_rank
    members-in-turn senior junior l on h some =
        let own = of_rank (rank senior) in
        let paid : 0 < own = omega (arith, share-le-amount 32 (equals (rank senior)) own holds senior) in
        share-whole 32 (equals (rank junior)) (of_rank (rank junior)) holds
        (ranks-in-turn (rank senior) (rank junior) h paid ∙ held-places (eqb (rank junior)))
        junior
        l
        (and_both (member set junior) (eqb (rank junior) (rank junior)) on (eq-eqb (rank junior) (rank junior) refl))

    -- ---- "most junior rank first": the same as charging the amount in turn to what the ranks hold, rank 32 first

    abbrev pub by_rank : List ℕ
    by_rank = tab 32 (λ i. held_by set rank holds (eqb (32 - i)))

    module _ (low : (m : ℕ) → m < 32 → member set m ≡ true → rank m ≤ 32) where
      juniors : (i : ℕ) → i ≤ 32 → sum_to i (λ i. held_by set rank holds (eqb (32 - i))) ≡ held_by set rank holds (ltb (32 - i))
      unfolding sum_to
      juniors zero l = sym (held-past 33 (λ m k on. omega (arith, low m k on)))
      juniors (suc i) l =
          let next : suc (32 - suc i) ≡ 32 - i = omega arith in
          omega (arith, juniors i (omega arith), held-from (32 - i), ap (λ n. held_by set rank holds (leb n)) next)

      pub ranks-charged-in-turn : charged amount by_rank ≡ tab 32 (λ i. rank_charge set rank holds amount (32 - i))
      unfolding rank_charge
      ranks-charged-in-turn =
          tab-of 32 (λ i. of_rank (32 - i)) 0 (charged amount by_rank) (charged-length amount by_rank ∙ length-tab 32 _)
          (λ i l.
          omega (
            arith,
            charge-at amount by_rank i,
            ap sum (take-tab 32 i (λ i. held_by set rank holds (eqb (32 - i))) (omega arith)),
            sum-tab i (λ i. held_by set rank holds (eqb (32 - i))),
            juniors i (omega arith),
            get_or-tab 32 (λ i. held_by set rank holds (eqb (32 - i))) i 0 l,
          ))

      -- a member's charge is its share of what its rank is charged in turn, split among the members of its rank by what they hold
      pub charge-in-turn : (m : ℕ) → m < 32 → member set m ≡ true → 1 ≤ rank m
          → charged_by_rank set rank holds amount m
          ≡ get_or (split_among 32 (λ o. member set o && eqb (rank m) (rank o)) (get_or (charged amount by_rank) (32 - rank m) 0) holds) m 0
      unfolding charged_by_rank
      charge-in-turn m l on some =
          let r = rank m in
          let high = low m l on in
          let back : 32 - (32 - r) ≡ r = omega arith in
          let same : of_rank r ≡ get_or (charged amount by_rank) (32 - r) 0
          = ap of_rank (sym back)
          ∙ sym (get_or-tab 32 (λ i. of_rank (32 - i)) (32 - r) 0 (omega arith))
          ∙ ap (λ (xs : List ℕ). get_or xs (32 - r) 0) (sym ranks-charged-in-turn) in
          ap (λ q. get_or (split_among 32 (equals r) q holds) m 0) same

-- ranks and holdings that agree on the members
module _ (set : ℕ) (rank rank' holds holds' : ℕ → ℕ) (amount : ℕ) (same_rank : (m : ℕ) → m < 32 → member set m ≡ true → rank m ≡ rank' m)
    (same-holds : (m : ℕ) → m < 32 → member set m ≡ true → holds m ≡ holds' m) where
  held-ext : (who : ℕ → Bool) → held_by set rank holds who ≡ held_by set rank' holds' who
  held-ext who =
      held-adds set rank holds who
      ∙ sum-members-ext set (λ m. when who (rank m) then holds m else 0) (λ m. when who (rank' m) then holds' m else 0)
      (λ m l on. rw (same_rank m l on, same-holds m l on))
      ∙ sym (held-adds set rank' holds' who)

  rank-charge-ext : (r : ℕ) → rank_charge set rank holds amount r ≡ rank_charge set rank' holds' amount r
  unfolding rank_charge
  rank-charge-ext r = rw (held-ext (ltb r), held-ext (eqb r))

  pub charge-ext : (m : ℕ) → charged_by_rank set rank holds amount m ≡ charged_by_rank set rank' holds' amount m
  unfolding charged_by_rank
  charge-ext m = ⊎_elim (λ l. inside l (member set m) refl) (λ g. charge-past set rank holds amount m g ∙ sym (charge-past set rank' holds' amount m g)) (lt-or-le m 32)
    where
      agree : (o : ℕ) → o < 32 → (b : Bool) → member set o ≡ b → (r : ℕ) → (b && eqb r (rank o)) ≡ (b && eqb r (rank' o))
      agree o l true on r = ap (eqb r) (same_rank o l on)
      agree o l false on r = refl

      inside : m < 32 → (b : Bool) → member set m ≡ b → charged_by_rank set rank holds amount m ≡ charged_by_rank set rank' holds' amount m
      inside l true on =
          ap (λ r. get_or (split_among 32 (λ o. member set o && eqb r (rank o)) (rank_charge set rank holds amount r) holds) m 0) (same_rank m l on)
          ∙ ap (λ q. get_or (split_among 32 (λ o. member set o && eqb (rank' m) (rank o)) q holds) m 0) (rank-charge-ext (rank' m))
          ∙ ap (λ (xs : List ℕ). get_or xs m 0)
          (shares-ext 32 (λ o. member set o && eqb (rank' m) (rank o)) (λ o. member set o && eqb (rank' m) (rank' o))
          (rank_charge set rank' holds' amount (rank' m)) holds holds'
          (λ o k. agree o k (member set o) refl (rank' m))
          (λ o k e. same-holds o k (and_left (member set o) (eqb (rank' m) (rank o)) e)))
      inside l false on = charge-off set rank holds amount m on ∙ sym (charge-off set rank' holds' amount m on)
