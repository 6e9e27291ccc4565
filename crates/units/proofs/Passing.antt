-- MOVE: all turns by groups lead to the units of the roll that the machine's moves lead to. Assumes nothing.
use mathlib.Core.Path.{◌≡◌, refl, sym, ap, ◌∙◌}
use mathlib.Core.Bool.{true, false, ◌||◌}
use mathlib.Core.Logic.{◌⊎◌, inl, inr, ⊎_elim}
use mathlib.Core.List.{List, [], ◌∷◌}
use Prim.Native.Nat.{ℕ, zero, suc, ◌+◌, ◌-◌, ◌*◌, ◌≤◌, ◌<◌, min}
use native.Mathlib.Nat.{mul-one}
use native.Mathlib.Omega.{arith}
use lib.Dec.{leb, ltb, eqb}
use lib.ListN.{length, get_or, set, length-set}
use lib.Seq.{get_or-set_same, get_or-set_other}
use borrow.Author.Tests.{leb-true, leb-false, lt-leb, ltb-false, lt-ltb, le-ltb, ne_eqb, eqb-true, eqb-false}
use Rattle.lists.specs.Lists.{sum, sum_to, count}
use Rattle.lists.proofs.Bools.{cases, lt-or-le, or_left, or_right}
use Rattle.lists.proofs.Sums.{sum_to-term, sum_to-ext}
use Rattle.lists.proofs.Counts.{count-few}
use Rattle.lists.proofs.Places.{length-tab, get_or-tab}
use Rattle.auction.specs.Price.{zero_price}
use Rattle.machine.specs.Roll.{Entry, Bid, no_bid}
use Rattle.machine.specs.Move.{move_units, move_all}
use Rattle.units.specs.declared.Units.{Units}
use Rattle.units.specs.Places.{sold_at, moved_at, unit_at, over, weigh}
use Rattle.units.specs.Steps.{transferred, repriced}
use Rattle.turns.specs.Keys.{no_key, key_at, live_key, live_keys, least_key, key_place, key_price, needed}
use Rattle.units.specs.Groups.{pool_at, pass_groups, move_units as moved_units}
use Rattle.turns.proofs.Leasts.{least-is, least-in, count-set-out, count-zero, need-most, need-enough}
use Rattle.units.proofs.Groups.{groups-end, groups-stop, groups-turn}
use Rattle.units.proofs.Places.{sum-split}
use Rattle.units.proofs.Weighing.{point}
use Rattle.units.proofs.Tied.{Tied}
use Rattle.units.proofs.Kept.{Kept, passed-from, passed-other, passed-less}
use Rattle.units.proofs.Moving.{key-place, move-saved, move-none, Known, LeastOf, Labels, labels, next-none, pass, moved-tied}

-- how many places may still have their turn
abbrev turns : List ℕ → ℕ
turns keys = count (λ x. ltb x no_key) keys

-- the units that may still move
abbrev held : List ℕ → ℕ
held counts = sum_to 384 (λ i. get_or counts (4 + i) 0)

-- less than what is needed is all
smaller-left : (h q owed s : ℕ) → owed ≤ q * s → 0 < owed - min h q * s → min h q ≡ h
smaller-left h q owed s enough more =
    ⊎_elim (λ l. omega arith) (λ l. let e : min h q ≡ q = omega arith in absurd (omega (arith, rw e at more))) (lt-or-le h q)

module _ (allocation noted buyers prices pools : List ℕ) (bids : List Bid) (many : length bids ≤ 256) (priced : (b : ℕ) → b < length bids → get_or prices b 0 ≡ (get_or bids b no_bid).price)
    (pooled : (b : ℕ) → b < length bids → get_or pools b 0 ≡ (get_or bids b no_bid).pool) (below : (b : ℕ) → b < length bids → (get_or bids b no_bid).pool < 4) (m : ℕ) (small : m < 32) where
  abbrev key : ℕ → ℕ
  key j = key_at allocation prices j

  -- the keys show what may move
  pub record Shows (keys counts : List ℕ) : Type 0 where
    pub long : length keys ≡ 384
    pub live : (j : ℕ) → j < 384 → 0 < get_or counts (4 + j) 0 → get_or keys j 0 ≡ key j
    pub has : (j : ℕ) → j < 384 → get_or keys j 0 < no_key → 0 < get_or counts (4 + j) 0

  pub record Sound (keys counts sums : List ℕ) (roll : List Entry) (g t : ℕ) : Type 0 where
    pub tied : Tied counts sums (unit_at allocation noted buyers bids) bids roll
    pub known : Known allocation noted buyers prices pools bids many priced pooled below counts
    pub shows : Shows keys counts
    pub few : turns keys ≤ g
    pub fuel : held counts ≤ t

  -- what the turns and the machine lead to
  abbrev Leads : ℕ → ℕ → ℕ → List ℕ → List ℕ → List ℕ → List Entry → Type 0
  Leads g t owed keys counts sums roll =
      let r = pass_groups pools m g owed keys counts sums in
      Tied r.counts r.sums (unit_at allocation noted buyers bids) bids (move_units t bids m owed roll)

  module _ (keys counts sums : List ℕ) (roll : List Entry) (g t : ℕ) (sound : Sound keys counts sums roll g t) where
    -- no place may move
    stays : (owed : ℕ) → ((j : ℕ) → j < 384 → no_key ≤ get_or keys j 0) → move_units t bids m owed roll ≡ roll
    stays owed high =
        move-none bids m t owed roll
        (next-none allocation noted buyers prices pools bids many priced pooled below counts roll sound.tied.counted sound.known
        (λ j l has. omega (arith, high j l, sound.shows.live j l has)))

    leads-stop : (owed : ℕ) → (eqb owed 0 || leb no_key (least_key keys)) ≡ true → Leads g t owed keys counts sums roll
    leads-stop owed stop =
        rw (groups-stop pools m owed keys counts sums g stop)
        (cases (eqb owed 0) _
        (λ e. rw (eqb-true owed 0 e, move-saved bids m t roll) sound.tied)
        (λ e.
        let high = leb-true no_key (least_key keys) (rw e at stop) in
        rw (stays owed (λ j l. omega (arith, least-is keys j (omega (arith, sound.shows.long))))) sound.tied))

    -- a place has its turn
    module _ (owed : ℕ) (owes : 0 < owed) (low : least_key keys < no_key) where
      abbrev j : ℕ
      j = key_place (least_key keys)

      abbrev h : ℕ
      h = get_or counts (4 + j) 0

      abbrev s : ℕ
      s = zero_price - key_price (least_key keys)

      abbrev n : ℕ
      n = min h (needed owed s)

      abbrev counts' : List ℕ
      counts' = transferred counts (4 + j) (moved_at (pool_at pools j) m) n

      abbrev sums' : List ℕ
      sums' = repriced sums (pool_at pools j) n (key_price (least_key keys)) zero_price

      abbrev keys' : List ℕ
      keys' = set keys j no_key

      -- the place of the least key
      at_least : (j < 384) × (get_or keys j 0 ≡ least_key keys) × (key j ≡ least_key keys)
      at_least =
          let r = least-in keys low in
          let i = r.0 in
          let li : i < 384 = omega (arith, r.1, sound.shows.long) in
          let its = sound.shows.live i li (sound.shows.has i li (omega (arith, r.2))) in
          let is : key i ≡ least_key keys = sym its ∙ r.2 in
          let same : j ≡ i = ap key_place (sym is) ∙ key-place allocation prices i li (omega arith) in
          (omega arith, ap (λ (x : ℕ). get_or keys x 0) same ∙ r.2, ap key same ∙ is)

      lj : j < 384
      lj = at_least.0

      live : 0 < h
      live = sound.shows.has j lj (omega (arith, at_least.1))

      is-least : LeastOf allocation noted buyers prices pools bids many priced pooled below counts j
      is-least = (
        omega (arith, at_least.2),
        λ i li has. omega (arith, at_least.2, least-is keys i (omega (arith, sound.shows.long)), sound.shows.live i li has),
      )

      its : Labels allocation noted buyers prices pools bids many priced pooled below j
      its = labels allocation noted buyers prices pools bids many priced pooled below counts sound.known j lj live

      saves : 0 < s
      saves = let k = at_least.2 in omega (arith, rw k at (its.negative-is (omega arith)))

      n-few : n ≤ h
      n-few = omega arith

      fuel-few : n ≤ t
      fuel-few = omega (arith, n-few, sum_to-term 384 (λ i. get_or counts (4 + i) 0) j lj, sound.fuel)

      passed : (next : List Entry) × (move_units (n + (t - n)) bids m owed roll ≡ move_units (t - n) bids m (owed - n * s) next) × Tied counts' sums' (unit_at allocation noted buyers bids) bids next
      passed =
          let k = at_least.2 in
          let p = pass allocation noted buyers prices pools bids many priced pooled below m small counts sums roll sound.tied sound.known j lj is-least live n (t - n) owed n-few
          (rw k (need-most owed s saves owes n (omega arith))) in
          let tied = moved-tied allocation noted buyers prices pools bids many priced pooled below m small counts sums roll sound.tied sound.known j lj is-least live n (t - n) owed n-few p in
          (p.0, rw k at p.1, rw k at tied)

      -- all of the place has moved, if more is owed
      all_moved : 0 < owed - n * s → n ≡ h
      all_moved more = smaller-left h (needed owed s) owed s (need-enough owed s saves) more

      far : (i : ℕ) → i < 388 → (i ≡ moved_at (pool_at pools j) m → ⊥)
      far i l e = absurd (omega arith)

      -- the other places are as they were
      others : (i : ℕ) → i < 384 → (i ≡ j → ⊥) → get_or counts' (4 + i) 0 ≡ get_or counts (4 + i) 0
      others i li a = passed-other counts (4 + j) (moved_at (pool_at pools j) m) n (4 + i) (λ e. a (omega arith)) (far (4 + i) (omega arith))

      held-less : held counts' + n ≡ held counts
      held-less =
          let here = passed-from counts (4 + j) (moved_at (pool_at pools j) m) n (omega (arith, lj, sound.tied.long)) (far (4 + j) (omega (arith, lj))) in
          omega (
            arith,
            here,
            n-few,
            point 384 j (λ i. get_or counts (4 + i) 0) (λ i. get_or counts' (4 + i) 0) lj others,
          )

      module _ (more : 0 < owed - n * s) where
        spent : get_or counts' (4 + j) 0 ≡ 0
        spent =
            passed-from counts (4 + j) (moved_at (pool_at pools j) m) n (omega (arith, lj, sound.tied.long)) (far (4 + j) (omega (arith, lj)))
            ∙ (let e = all_moved more in omega arith)

        shows' : Shows keys' counts'
        shows' = record {
          long = length-set keys j no_key ∙ sound.shows.long;
          live = λ i li has. cases (eqb i j) _
              (λ e. absurd (omega (arith, spent, rw (eqb-true i j e) at has)))
              (λ e.
              let a = eqb-false i j e in
              get_or-set_other keys j i no_key 0 a ∙ sound.shows.live i li (rw (others i li a) at has));
          has = λ i li below'. cases (eqb i j) _
              (λ e.
              let b = get_or-set_same keys j no_key 0 (omega (arith, lj, sound.shows.long)) in
              absurd (omega (arith, b, rw (eqb-true i j e) at below')))
              (λ e.
              let a = eqb-false i j e in
              rw (others i li a) (sound.shows.has i li (rw (get_or-set_other keys j i no_key 0 a) at below')));
        }

        sound' : (g' : ℕ) → turns keys ≤ suc g' → (next : List Entry) → Tied counts' sums' (unit_at allocation noted buyers bids) bids next → Sound keys' counts' sums' next g' (t - n)
        sound' g' few next tied = record {
          tied = tied;
          known = λ b lb has. sound.known b lb (omega (arith, passed-less counts (4 + j) (moved_at (pool_at pools j) m) n (sold_at b) (far (sold_at b) (omega arith))));
          shows = shows';
          few = omega (
            arith,
            count-set-out (λ x. ltb x no_key) keys j no_key (omega (arith, lj, sound.shows.long)) (lt-ltb (get_or keys j 0) no_key (omega (arith, at_least.1))) (le-ltb no_key no_key (omega arith)),
          );
          fuel = omega (arith, held-less, sound.fuel);
        }

      -- the turn, if what is left to do is right
      leads-turn : (g' : ℕ) → turns keys ≤ suc g'
          → ((next : List Entry) → Sound keys' counts' sums' next g' (t - n) → Leads g' (t - n) (owed - n * s) keys' counts' sums' next)
          → Leads (suc g') t owed keys counts sums roll
      leads-turn g' few rest =
          let on : (eqb owed 0 || leb no_key (least_key keys)) ≡ false = rw (ne_eqb owed 0 (omega arith), lt-leb no_key (least_key keys) low) in
          let fuel : n + (t - n) ≡ t = omega (arith, fuel-few) in
          rw (groups-turn pools m owed keys counts sums g' on, ← fuel, passed.1) (done (lt-or-le 0 (owed - n * s)))
        where
          done : (0 < owed - n * s) ⊎ (owed - n * s ≤ 0) → Leads g' (t - n) (owed - n * s) keys' counts' sums' passed.0
          done (inl more) = rest passed.0 (sound' more g' few passed.0 passed.2)
          done (inr none_left) =
              let e : owed - n * s ≡ 0 = omega arith in
              rw (e, groups-stop pools m 0 keys' counts' sums' g' refl, move-saved bids m (t - n) passed.0) passed.2

  leads : (g t owed : ℕ) (keys counts sums : List ℕ) (roll : List Entry) → Sound keys counts sums roll g t → Leads g t owed keys counts sums roll
  leads zero t owed keys counts sums roll sound =
      rw (groups-end pools m owed keys counts sums, stays keys counts sums roll 0 t sound owed high) sound.tied
    where
      high : (i : ℕ) → i < 384 → no_key ≤ get_or keys i 0
      high i l = ltb-false (get_or keys i 0) no_key (count-zero (λ x. ltb x no_key) keys (omega (arith, sound.few)) i (omega (arith, sound.shows.long)))
  leads (suc g) t owed keys counts sums roll sound =
      cases (eqb owed 0 || leb no_key (least_key keys)) _
      (λ stop. leads-stop keys counts sums roll (suc g) t sound owed stop)
      (λ on.
      let owes : 0 < owed = omega (arith, eqb-false owed 0 (or_left (eqb owed 0) (leb no_key (least_key keys)) on)) in
      let low = leb-false no_key (least_key keys) (or_right (eqb owed 0) (leb no_key (least_key keys)) on) in
      leads-turn keys counts sums roll (suc g) t sound owed owes low g sound.few (λ next next-sound. leads g _ _ _ _ _ next next-sound))

-- ---- from the start

module _ (allocation prices counts : List ℕ) where
  live_at : (j : ℕ) → j < 384 → get_or (live_keys allocation prices counts) j 0 ≡ live_key (get_or counts (4 + j) 0) (key_at allocation prices j)
  unfolding live_keys
  live_at j l = get_or-tab 384 (λ i. live_key (get_or counts (4 + i) 0) (key_at allocation prices i)) j 0 l

  live-long : length (live_keys allocation prices counts) ≡ 384
  unfolding live_keys
  live-long = length-tab 384 (λ i. live_key (get_or counts (4 + i) 0) (key_at allocation prices i))

-- as many units may move as there are entries
pub over-length : (roll : List Entry) → over roll (λ e. 1) ≡ length roll
unfolding sum
over-length [] = refl
over-length (e ∷ es) = omega (arith, over-length es)

held-most : (counts : List ℕ) → held counts ≤ weigh counts (λ k. 1)
unfolding weigh
held-most counts =
    let part : ℕ → ℕ = λ k. get_or counts k 0 * 1 in
    omega (
      arith,
      sum-split 388 392 part,
      sum-split 4 384 part,
      sum_to-ext 384 (λ i. get_or counts (4 + i) 0 * 1) (λ i. get_or counts (4 + i) 0) (λ i l. mul-one (get_or counts (4 + i) 0)),
    )

pub move-kept : (u : Units) (bids : List Bid) (roll : List Entry) → Kept u bids roll → length bids ≤ 256 → (prices pools : List ℕ)
    → ((b : ℕ) → b < length bids → get_or prices b 0 ≡ (get_or bids b no_bid).price) → ((b : ℕ) → b < length bids → get_or pools b 0 ≡ (get_or bids b no_bid).pool)
    → ((b : ℕ) → b < length bids → (get_or bids b no_bid).pool < 4) → ((b : ℕ) → b < 256 → 0 < get_or u.counts (sold_at b) 0 → b < length bids)
    → (m owed : ℕ) → m < 32 → Kept (moved_units u prices pools m owed) bids (move_all bids m owed roll)
unfolding moved_units move_all
move-kept u bids roll kept many prices pools priced pooled below known m owed small =
    let keys = live_keys u.allocation prices u.counts in
    let at = live_at u.allocation prices u.counts in
    record {
      tied = leads u.allocation u.noted u.buyers prices pools bids many priced pooled below m small 384 (length roll) owed keys u.counts u.sums roll
          (record {
            tied = kept.tied;
            known = known;
            shows = record {
              long = live-long u.allocation prices u.counts;
              live = λ j l has. at j l ∙ rw (ne_eqb (get_or u.counts (4 + j) 0) 0 (omega arith));
              has = λ j l low. ⊎_elim
                  (λ h. h)
                  (λ h. let none-there : get_or u.counts (4 + j) 0 ≡ 0 = omega arith in absurd (omega (arith, rw (at j l, none-there) at low)))
                  (lt-or-le 0 (get_or u.counts (4 + j) 0));
            };
            few = omega (arith, count-few (λ x. ltb x no_key) keys, live-long u.allocation prices u.counts);
            fuel = omega (arith, held-most u.counts, kept.tied.counted.all (λ e. 1), over-length roll);
          });
      four = kept.four;
      long = kept.long;
      buyers = kept.buyers;
    }
