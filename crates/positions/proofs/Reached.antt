-- "The sums equal those added afresh over the same days, at every day of the run." Assumes nothing.
use Rattle.std.proofs.Common.{◌≡◌, ℕ, ◌+◌, ◌-◌, ◌*◌, ◌<◌, ◌≤◌, List, [], ◌∷◌, ◌++◌, length, get_or, take, sym, refl, ap, ◌∙◌, ⊎_elim, append_assoc, append-nil, arith, length-append}
use mathlib.Core.List.{foldl}
use lib.ListN.{length-replicate, get_or-append}
use lib.Seq.{sets, length-sets, get_or-append_seam}
use Rattle.lists.specs.Lists.{sum, tab, Each}
use Rattle.lists.proofs.Bools.{lt-or-le}
use Rattle.lists.proofs.Places.{length-tab, get_or-tab, tab-ext, take_places, get_or-same}
use Rattle.lists.proofs.Stores.{get-before, get-behind, get-within}
use Rattle.lists.proofs.Each.{each_append}
use Rattle.lists.proofs.Joined.{foldl-more}
use Rattle.positions.specs.Days.{Day, DayOf, last_days, sum_at, sums_of}
use Rattle.positions.specs.Keeping.{Kept, keeping, no_days, row_of, rolled, rolled_at, day_kept, kept_after, TakesDay}
use Rattle.positions.proofs.Days.{Fits, range-fits}
use Rattle.positions.proofs.Rows.{row_on, row_back}
use Rattle.positions.proofs.Window.{window-grows, window-rolls, window-small}

-- the position of the member at place m on day d of the run
abbrev on : List Day → ℕ → ℕ → ℕ
on days d m = get_or (get_or days d []) m 0

-- What is kept once days of n members have gone by: `turns` whole turns of the ring and the rows below the one that comes next. A row below it has a day of this
-- turn, the others one of the turn before, or 0 in the first turn.
pub record Holds (n : ℕ) (days : List Day) (x : Kept) : Type 0 where
  pub turns : ℕ
  pub counted : length days ≡ 66 * turns + row_of x.row
  pub row_fits : row_of x.row < 66
  pub ring_long : length x.ring ≡ 2112
  pub sums-long : length x.sums ≡ 32
  pub new : (r m : ℕ) → r < row_of x.row → m < n → get_or x.ring (32 * r + m) 0 ≡ on days (66 * turns + r) m
  pub none : (r m : ℕ) → turns ≡ 0 → row_of x.row ≤ r → r < 66 → m < n → get_or x.ring (32 * r + m) 0 ≡ 0
  pub old : (r m : ℕ) → 0 < turns → row_of x.row ≤ r → r < 66 → m < n → get_or x.ring (32 * r + m) 0 ≡ on days (66 * turns + r - 66) m
  pub sums : (m : ℕ) → m < n → get_or x.sums m 0 ≡ sum_at m (last_days days)

-- nothing is lost in 64 bits
roll-small : (sum comes leaves new : ℕ) → new + leaves ≡ sum + comes → sum ≤ 660_000_000 → comes ≤ 10_000_000 → rolled sum comes leaves ≡ new
unfolding rolled
roll-small sum comes leaves new h a b = omega arith

module _ (n : ℕ) (few : n ≤ 32) (days : List Day) (x : Kept) (day : Day) (k : Holds n days x) (fit : Each (DayOf n) days) (this : DayOf n day) where
  abbrev row : ℕ
  row = row_of x.row

  abbrev ring : List ℕ
  ring = sets x.ring (32 * row) day

  at_row : (m : ℕ) → m < n → get_or ring (32 * row + m) 0 ≡ get_or day m 0
  at_row m h = get-within x.ring (32 * row) day m (omega (arith, this.0, k.ring_long, k.row_fits)) (omega (arith, this.0))

  at_other : (r m : ℕ) → (r ≡ row → ⊥) → m < n → get_or ring (32 * r + m) 0 ≡ get_or x.ring (32 * r + m) 0
  at_other r m h lm =
      ⊎_elim
      (λ b. get-before x.ring (32 * row) day (32 * r + m) (omega arith))
      (λ b. get-behind x.ring (32 * row) day (32 * r + m) (omega (arith, this.0)))
      (lt-or-le r row)

  abbrev more : List Day
  more = days ++ (day ∷ [])

  on-old : (d m : ℕ) → d < length days → on more d m ≡ on days d m
  on-old d m h = ap (λ (y : Day). get_or y m 0) (get_or-append days (day ∷ []) [] d h)

  on-new : (m : ℕ) → on more (length days) m ≡ get_or day m 0
  on-new m = ap (λ (y : Day). get_or y m 0) (get_or-append_seam days day [] [])

  -- ---- the sums

  all_fit : Each Fits days
  all_fit = fits-of days fit
    where
      fits-of : (ds : List Day) → Each (DayOf n) ds → Each Fits ds
      fits-of [] h = tt
      fits-of (d ∷ ds) h = (range-fits d h.0.1, fits-of ds h.1)

  abbrev leaves : ℕ → ℕ
  leaves m = get_or x.ring (32 * row + m) 0

  -- the day that leaves, or 0 while none does
  window : (m : ℕ) → m < n → sum_at m (last_days more) + leaves m ≡ sum_at m (last_days days) + get_or day m 0
  window m h =
      ⊎_elim
      (λ s.
      let first : k.turns ≡ 0 = omega (arith, k.counted) in
      omega (arith, k.none row m first (omega arith) k.row_fits h, window-grows m days day s))
      (λ s.
      let later : 0 < k.turns = omega (arith, k.counted, k.row_fits) in
      let day-left : on days (66 * k.turns + row - 66) m ≡ on days (length days - 66) m = ap (λ (d : ℕ). on days d m) (omega (arith, k.counted)) in
      omega (arith, k.old row m later (omega arith) k.row_fits h, day-left, window-rolls m days day s))
      (lt-or-le (length days) 66)

  rolls : (m : ℕ) → m < n → rolled_at x.sums x.ring row day m ≡ sum_at m (last_days more)
  unfolding rolled_at
  rolls m h =
      ap (λ (s : ℕ). rolled s (get_or day m 0) (leaves m)) (k.sums m h)
      ∙ roll-small (sum_at m (last_days days)) (get_or day m 0) (leaves m) (sum_at m (last_days more)) (window m h) (window-small m days all_fit) (range-fits day this.1 m)

  abbrev sums-then : List ℕ
  sums-then = tab n (rolled_at x.sums x.ring row day)

  sums_next : (m : ℕ) → m < n → get_or (sets x.sums 0 sums-then) m 0 ≡ sum_at m (last_days more)
  sums_next m h =
      let long = length-tab n (rolled_at x.sums x.ring row day) in
      ap (λ (j : ℕ). get_or (sets x.sums 0 sums-then) j 0) {x = m} {y = 0 + m} (omega arith)
      ∙ get-within x.sums 0 sums-then m (omega (arith, long, k.sums-long)) (omega (arith, long))
      ∙ get_or-tab n (rolled_at x.sums x.ring row day) m 0 h
      ∙ rolls m h

  -- ---- the ring

  -- a row that was written before the day came, and the day's own
  row_before : (r m : ℕ) → r < row → m < n → get_or ring (32 * r + m) 0 ≡ on more (66 * k.turns + r) m
  row_before r m h lm = at_other r m (omega arith) lm ∙ k.new r m h lm ∙ sym (on-old (66 * k.turns + r) m (omega (arith, k.counted)))

  row-own : (r m : ℕ) → r ≡ row → m < n → get_or ring (32 * r + m) 0 ≡ on more (66 * k.turns + r) m
  row-own r m e lm =
      ap (λ (q : ℕ). get_or ring (32 * q + m) 0) e
      ∙ at_row m lm
      ∙ sym (on-new m)
      ∙ ap (λ (d : ℕ). on more d m) (omega (arith, k.counted))

  row_upto : (r m : ℕ) → r ≤ row → m < n → get_or ring (32 * r + m) 0 ≡ on more (66 * k.turns + r) m
  row_upto r m h lm = ⊎_elim (λ l. row_before r m l lm) (λ g. row-own r m (omega arith) lm) (lt-or-le r row)

  -- the ring goes on
  goes_on : row + 1 < 66 → Holds n more (day_kept n x day)
  unfolding day_kept
  goes_on h =
      let next : row_of (row + 1) ≡ row + 1 = row_on (row + 1) h in
      record {
        turns = k.turns;
        counted = omega (arith, next, k.counted, length-append days (day ∷ []));
        row_fits = omega (arith, next);
        ring_long = length-sets x.ring (32 * row) day ∙ k.ring_long;
        sums-long = length-sets x.sums 0 sums-then ∙ k.sums-long;
        new = λ r m l lm. row_upto r m (omega (arith, next)) lm;
        none = λ r m z g l lm. at_other r m (omega (arith, next)) lm ∙ k.none r m z (omega (arith, next)) l lm;
        old = λ r m z g l lm.
            at_other r m (omega (arith, next)) lm
            ∙ k.old r m z (omega (arith, next)) l lm
            ∙ sym (on-old (66 * k.turns + r - 66) m (omega (arith, k.counted, next)));
        sums = sums_next;
      }

  -- or turns back to its first row
  turns-back : 66 ≤ row + 1 → Holds n more (day_kept n x day)
  unfolding day_kept
  turns-back h =
      let next : row_of (row + 1) ≡ 0 = row_back (row + 1) h in
      record {
        turns = k.turns + 1;
        counted = omega (arith, next, k.counted, k.row_fits, length-append days (day ∷ []));
        row_fits = omega (arith, next);
        ring_long = length-sets x.ring (32 * row) day ∙ k.ring_long;
        sums-long = length-sets x.sums 0 sums-then ∙ k.sums-long;
        new = λ r m l lm. absurd (omega (arith, next));
        none = λ r m z g l lm. absurd (omega arith);
        old = λ r m z g l lm. row_upto r m (omega arith) lm ∙ ap (λ (d : ℕ). on more d m) (omega arith);
        sums = sums_next;
      }

  pub holds-day : Holds n more (day_kept n x day)
  holds-day = ⊎_elim goes_on turns-back (lt-or-le (row + 1) 66)

module _ (n : ℕ) (few : n ≤ 32) where
  pub holds-none : Holds n [] no_days
  unfolding no_days row_of last_days sum_at sum
  holds-none =
      record {
        turns = 0;
        counted = refl;
        row_fits = omega arith;
        ring_long = length-replicate {A = ℕ} 2112 0;
        sums-long = length-replicate {A = ℕ} 32 0;
        new = λ r m l lm. absurd (omega arith);
        none = λ r m z g l lm. get_or-same {A = ℕ} 2112 (32 * r + m) 0;
        old = λ r m z g l lm. absurd (omega arith);
        sums = λ m h. get_or-same {A = ℕ} 32 m 0;
      }

  -- after any days more
  holds_more : (more days : List Day) (x : Kept) → Holds n days x → Each (DayOf n) days → Each (DayOf n) more → Holds n (days ++ more) (foldl (day_kept n) x more)
  holds_more [] days x k fit h = rw (append-nil days) k
  holds_more (day ∷ more) days x k fit h =
      let next = holds-day n few days x day k fit h.0 in
      let fits = each_append (DayOf n) days (day ∷ []) fit (h.0, tt) in
      rw append_assoc at (holds_more more (days ++ (day ∷ [])) (day_kept n x day) next fits h.1)

  pub holds_after : (days : List Day) → Each (DayOf n) days → Holds n days (kept_after n days)
  unfolding kept_after
  holds_after days fit = holds_more days [] no_days holds-none tt fit

  -- what is held has the sums of the days, added up afresh
  pub sums-afresh : (days : List Day) → Each (DayOf n) days → take n (kept_after n days).sums ≡ sums_of n days
  unfolding sums_of
  sums-afresh days fit =
      let k = holds_after days fit in
      let sums = (kept_after n days).sums in
      take_places 0 n sums (omega (arith, k.sums-long)) ∙ tab-ext n (λ m. get_or sums m 0) (λ m. sum_at m (last_days days)) k.sums

-- ---- the step that takes a day

pub takes-day : (n : ℕ) → n ≤ 32 → (day : Day) (old new : Kept) → new ≡ day_kept n old day → TakesDay n day old new
unfolding kept_after
takes-day n few day old new e =
    record {
      kept = e;
      afresh = λ days fit reached.
          let same : new ≡ kept_after n (days ++ (day ∷ [])) = e ∙ ap (λ (x : Kept). day_kept n x day) reached ∙ sym (foldl-more (day_kept n) no_days days day) in
          ap (λ (x : Kept). take n x.sums) same ∙ sums-afresh n few (days ++ (day ∷ [])) fit;
    }

-- the same, as the code has it
pub takes-row : (n : ℕ) → n ≤ 32 → (day : Day) (row k : ℕ) (ring sums ring' sums' : List ℕ) → k ≡ row_of row → ring' ≡ sets ring (32 * k) day
    → sums' ≡ sets sums 0 (tab n (rolled_at sums ring k day)) → TakesDay n day (keeping row ring sums) (keeping (k + 1) ring' sums')
unfolding day_kept
takes-row n few day row k ring sums ring' sums' e r s = takes-day n few day (keeping row ring sums) (keeping (k + 1) ring' sums') (cc (e, r, s))
