-- The rounds held, as the machine has them: `put` shows one more, and the reserves and worst reserves are the machine's. Assumes nothing.
use mathlib.Core.Path.{◌≡◌, refl, sym, ap, ◌∙◌}
use mathlib.Core.Bool.{Bool, true, false, ◌&&◌}
use mathlib.Core.List.{List, [], ◌∷◌, ◌++◌, map}
use Prim.Native.Nat.{ℕ, zero, suc, ◌+◌, ◌-◌, ◌*◌, ◌≤◌, ◌<◌}
use native.Mathlib.Omega.{arith}
use lib.Dec.{leb, ltb}
use lib.ListN.{length, get_or}
use borrow.Author.Tests.{lt-ltb, ltb-true, le-leb}
use Rattle.lists.specs.Lists.{when◌then◌else◌, tab, keep, least}
use Rattle.lists.proofs.Bools.{by-test}
use Rattle.lists.proofs.Places.{tab-ext, tab-more, tab-of, get_or-tab, length-tab}
use Rattle.machine.specs.State as M
use Rattle.machine.specs.Roll.{Entry, open_units}
use Rattle.machine.specs.Calls.{new_round, reserve}
use Rattle.machine.specs.Result.{worst_reserve}
use Rattle.accounts.specs.declared.rounds.Rounds.{Rounds}
use Rattle.accounts.specs.Fours.{put_four}
use Rattle.accounts.specs.Rounds.{no_rounds, put_round, reserve_of, worst_in, worst_of, worsts_of, view_rounds}
use Rattle.accounts.proofs.FourPlaces.{length-four, four-other, four-at}

-- ---- what holds of every value that a program reaches

pub record RoundsLong (x : Rounds) : Type 0 where
  pub few : x.held ≤ 2
  pub reserves : length x.reserves ≡ 8
  pub opened : length x.opened ≡ 8

pub new-long : RoundsLong no_rounds
unfolding no_rounds
new-long = record { few = omega arith; reserves = refl; opened = refl }

pub put-long : (x : Rounds) (reserves : List ℕ) (opened : List Bool) → RoundsLong x → RoundsLong (put_round x reserves opened)
unfolding put_round
put-long x reserves opened w =
    by-test RoundsLong (ltb x.held 2)
    (λ t.
    record {
      few = omega (arith, ltb-true x.held 2 t);
      reserves = length-four x.reserves x.held _ _ _ _ ∙ w.reserves;
      opened = length-four x.opened x.held _ _ _ _ ∙ w.opened;
    })
    (λ t. w)

-- ---- what is shown

-- the round at place k, in a case of so many pools
abbrev round_at : ℕ → Rounds → ℕ → M.Round
round_at pools x k = record {
  reserves = tab pools (λ p. get_or x.reserves (4 * k + p) 0);
  opened = tab pools (λ p. get_or x.opened (4 * k + p) false);
}

pub view-new : (pools : ℕ) → view_rounds pools no_rounds ≡ []
unfolding no_rounds tab
view-new pools = refl

pub length-view : (pools : ℕ) (x : Rounds) → length (view_rounds pools x) ≡ x.held
length-view pools x = length-tab x.held (round_at pools x)

first-four : {A : Type 0} (xs : List A) (z : A) (p : ℕ) → p < 4 → get_or (get_or xs 0 z ∷ get_or xs 1 z ∷ get_or xs 2 z ∷ get_or xs 3 z ∷ []) p z ≡ get_or xs p z
first-four xs z zero l = refl
first-four xs z (suc zero) l = refl
first-four xs z (suc (suc zero)) l = refl
first-four xs z (suc (suc (suc zero))) l = refl
first-four xs z (suc (suc (suc (suc p)))) l = absurd (omega arith)

module _ {A : Type 0} (xs ys : List A) (k : ℕ) (z : A) where
  abbrev four_of : List A
  four_of = put_four xs k (get_or ys 0 z) (get_or ys 1 z) (get_or ys 2 z) (get_or ys 3 z)

  put-at : (p : ℕ) → p < 4 → 4 * k + 3 < length xs → get_or four_of (4 * k + p) z ≡ get_or ys p z
  put-at p l long = four-at xs k _ _ _ _ z p l long ∙ first-four ys z p l

  put_other : (j p : ℕ) → p < 4 → (j ≡ k → ⊥) → get_or four_of (4 * j + p) z ≡ get_or xs (4 * j + p) z
  put_other j p l apart = four-other xs k _ _ _ _ z j p l apart

-- ROUND
pub view-put : (pools : ℕ) (x : Rounds) (reserves : List ℕ) (opened : List Bool) → RoundsLong x → x.held < 2 → pools ≤ 4
    → view_rounds pools (put_round x reserves opened)
    ≡ view_rounds pools x ++ (record { reserves = tab pools (λ p. get_or reserves p 0); opened = tab pools (λ p. get_or opened p false) } ∷ [])
unfolding put_round
view-put pools x reserves opened w room most =
    rw (lt-ltb x.held 2 room)
    (tab-more x.held (round_at pools x) _ _
    (λ k l. λ j. record {
      reserves = tab-ext pools _ _ (λ p h. put_other x.reserves reserves x.held 0 k p (omega arith) (omega arith)) j;
      opened = tab-ext pools _ _ (λ p h. put_other x.opened opened x.held false k p (omega arith) (omega arith)) j;
    })
    (λ j. record {
      reserves = tab-ext pools _ _ (λ p h. put-at x.reserves reserves x.held 0 p (omega arith) (omega (arith, w.reserves))) j;
      opened = tab-ext pools _ _ (λ p h. put-at x.opened opened x.held false p (omega arith) (omega (arith, w.opened))) j;
    }))

-- the same, as the machine makes a round of a call's reserves and the roll
pub view-put-round : (pools : ℕ) (x : Rounds) (reserves : List ℕ) (opened : List Bool) (roll : List Entry) (called : List ℕ)
    → RoundsLong x → x.held < 2 → pools ≤ 4
    → length called ≡ pools → ((p : ℕ) → p < pools → get_or reserves p 0 ≡ get_or called p 0) → ((p : ℕ) → p < pools → get_or opened p false ≡ ltb 0 (open_units roll p))
    → view_rounds pools (put_round x reserves opened) ≡ view_rounds pools x ++ (new_round pools roll called ∷ [])
unfolding new_round
view-put-round pools x reserves opened roll called w room most long same-reserves same-opened =
    view-put pools x reserves opened w room most
    ∙ ap (λ (r : M.Round). view_rounds pools x ++ (r ∷ []))
    (λ j. record {
      reserves = sym (tab-of pools (λ p. get_or reserves p 0) 0 called long (λ p l. sym (same-reserves p l))) j;
      opened = tab-ext pools (λ p. get_or opened p false) (λ p. ltb 0 (open_units roll p)) same-opened j;
    })

-- ---- reserves

pub reserve-shown : (pools : ℕ) (x : Rounds) (round pool : ℕ) → pools ≤ 4 → pool < pools → 1 ≤ round → round ≤ x.held → x.held ≤ 2
    → reserve_of x round pool ≡ reserve (view_rounds pools x) round pool
unfolding reserve_of reserve
reserve-shown pools x round pool most inside low high few =
    let within : round ≤ 2 = omega arith in
    let l : pool < 4 = omega arith in
    rw (
      le-leb 1 round low,
      le-leb round 2 within,
      lt-ltb pool 4 l,
      get_or-tab x.held (round_at pools x) (round - 1) M.no_round (omega arith),
    )
    (sym (get_or-tab pools (λ p. get_or x.reserves (4 * (round - 1) + p) 0) pool 0 inside))

-- the least reserve of at most two rounds in which the pool had open units
worst-of : (pool n : ℕ) → n ≤ 2 → (f : ℕ → M.Round)
    → least (map (λ r. get_or r.reserves pool 0) (keep (λ r. get_or r.opened pool false) (tab n f)))
    ≡ worst_in (leb 1 n && get_or (f 0).opened pool false) (get_or (f 0).reserves pool 0) (leb 2 n && get_or (f 1).opened pool false) (get_or (f 1).reserves pool 0)
unfolding least keep tab worst_in
worst-of pool zero h f = refl
worst-of pool (suc zero) h f = go (get_or (f 0).opened pool false)
  where
    go : (a : Bool) → least (map (λ r. get_or r.reserves pool 0) (when a then f 0 ∷ [] else [])) ≡ worst_in a (get_or (f 0).reserves pool 0) false (get_or (f 1).reserves pool 0)
    go true = refl
    go false = refl
worst-of pool (suc (suc zero)) h f = go (get_or (f 0).opened pool false) (get_or (f 1).opened pool false)
  where
    go : (a b : Bool)
        → least (map (λ r. get_or r.reserves pool 0) (when a then f 0 ∷ (when b then f 1 ∷ [] else []) else (when b then f 1 ∷ [] else [])))
        ≡ worst_in a (get_or (f 0).reserves pool 0) b (get_or (f 1).reserves pool 0)
    go true true = refl
    go true false = refl
    go false true = refl
    go false false = refl
worst-of pool (suc (suc (suc n))) h f = absurd (omega arith)

module _ (pools : ℕ) (x : Rounds) (pool : ℕ) (most : pools ≤ 4) (inside : pool < pools) where
  -- what the machine keeps of the round at place k
  reserve-at : (k : ℕ) → get_or (round_at pools x k).reserves pool 0 ≡ get_or x.reserves (4 * k + pool) 0
  reserve-at k = get_or-tab pools (λ p. get_or x.reserves (4 * k + p) 0) pool 0 inside

  opened-at : (k : ℕ) → get_or (round_at pools x k).opened pool false ≡ get_or x.opened (4 * k + pool) false
  opened-at k = get_or-tab pools (λ p. get_or x.opened (4 * k + p) false) pool false inside

  pub worst-shown : x.held ≤ 2 → worst_of x pool ≡ worst_reserve (view_rounds pools x) pool
  unfolding worst_of worst_reserve
  worst-shown few =
      let l : pool < 4 = omega arith in
      let first : 4 * 0 + pool ≡ pool = omega arith in
      let second : 4 * 1 + pool ≡ pool + 4 = omega arith in
      rw (lt-ltb pool 4 l)
      (sym (worst-of pool x.held few (round_at pools x)
      ∙ rw (reserve-at 0, opened-at 0, reserve-at 1, opened-at 1, first, second)))

-- the worst reserves of all pools
pub worsts-shown : (pools : ℕ) (x : Rounds) (pool : ℕ) → pools ≤ 4 → pool < pools → x.held ≤ 2 → get_or (worsts_of x) pool 0 ≡ worst_reserve (view_rounds pools x) pool
unfolding worsts_of
worsts-shown pools x pool most inside few = get_or-tab 4 (worst_of x) pool 0 (omega arith) ∙ worst-shown pools x pool most inside few
