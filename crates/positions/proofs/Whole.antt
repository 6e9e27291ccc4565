-- A whole run: why it is declined, and that its end is what document 02 says of it. Assumes nothing.
use Rattle.std.proofs.Common.{◌≡◌, ℕ, ◌+◌, ◌-◌, ◌*◌, ◌/◌, ◌<◌, ◌≤◌, Bool, true, false, not, ◌&&◌, eqb, leb, List, [], ◌∷◌, ◌++◌, map, length, get_or, take, sym, refl, ap, ◌∙◌, ⊎_elim, mul_comm, mul-one, div-mul-le_self, arith, le-ltb, lt-ltb, ne_eqb, leb-true}
use mathlib.Core.List.{foldl}
use native.Mathlib.Nat.{lt-mul-div-succ, div-eq_of_lt, mul-add-div}
use borrow.Author.Tests.{eqb-false}
use Rattle.lists.specs.Lists.{when◌then◌else◌, tab, between, all, Each}
use Rattle.lists.specs.Tests.{first_of}
use Rattle.lists.proofs.Bools.{cases, lt-or-le, and_right}
use Rattle.lists.proofs.Counts.{each_all}
use Rattle.lists.proofs.Each.{each_both}
use Rattle.lists.proofs.Places.{length-tab, get_or-tab, map-tab, tab-ext, tab-append}
use Rattle.lists.proofs.Sums.{bound-past}
use Rattle.sets.specs.Set.{members}
use Rattle.sets.proofs.Members.{members-few}
use Rattle.splitting.specs.Limits.{Answer, weight_limit, refusal}
use Rattle.splitting.proofs.Answers.{answers-untouched, within-refusal}
use Rattle.positions.specs.Days.{Day, DayOf, size, day_at, days_of, in_range, last_days, sum_at, sums_of, why_before, records_in, why_record, declines, why_run, expected_units}
use Rattle.positions.specs.Keeping.{Taken, no_days, day_kept, kept_after, taken, why_end, ended}
use Rattle.positions.proofs.Days.{days-count, days-long, record-fits, all_fit}
use Rattle.positions.proofs.Records.{taken-all, taken-bad}
use Rattle.positions.proofs.Reached.{sums-afresh}
use Rattle.positions.proofs.Window.{window-small}

-- ---- numbers in turn, the first of which that is not 0 decides

firsts : List ℕ → ℕ
firsts ws = first_of (map declines ws)

firsts-on : (xs ys : List ℕ) → firsts xs ≡ 0 → firsts (xs ++ ys) ≡ firsts ys
unfolding firsts first_of
firsts-on [] ys h = refl
firsts-on (x ∷ xs) ys h = go (eqb x 0) refl (firsts-on xs ys) h
  where
    go : (b : Bool) → eqb x 0 ≡ b → (firsts xs ≡ 0 → firsts (xs ++ ys) ≡ firsts ys) → (when not b then x else firsts xs) ≡ 0
        → (when not b then x else firsts (xs ++ ys)) ≡ firsts ys
    go true e next h = next h
    go false e next h = absurd (eqb-false x 0 e h)

firsts-stop : (xs ys : List ℕ) → (firsts xs ≡ 0 → ⊥) → firsts (xs ++ ys) ≡ firsts xs
unfolding firsts first_of
firsts-stop [] ys h = absurd (h refl)
firsts-stop (x ∷ xs) ys h = go (eqb x 0) (firsts-stop xs ys) h
  where
    go : (b : Bool) → ((firsts xs ≡ 0 → ⊥) → firsts (xs ++ ys) ≡ firsts xs) → ((when not b then x else firsts xs) ≡ 0 → ⊥)
        → (when not b then x else firsts (xs ++ ys)) ≡ (when not b then x else firsts xs)
    go true next h = next h
    go false next h = refl

-- ---- the records

abbrev why_day : Day → ℕ
why_day day = when in_range day then 0 else 5

days-why : (days : List Day) → firsts (map why_day days) ≡ (when all in_range days then 0 else 5)
unfolding firsts first_of all
days-why [] = refl
days-why (day ∷ days) = go (in_range day) (days-why days)
  where
    go : (b : Bool) → firsts (map why_day days) ≡ (when all in_range days then 0 else 5)
        → (when not (eqb (when b then 0 else 5) 0) then (when b then 0 else 5) else firsts (map why_day days)) ≡ (when b && all in_range days then 0 else 5)
    go true h = h
    go false h = refl

module _ (n : ℕ) (some : 1 ≤ n) (bytes : List ℕ) where
  abbrev whole : ℕ
  whole = length bytes / size n

  abbrev cut : ℕ
  cut = length bytes - size n * whole

  pub whole-fits : size n * whole ≤ length bytes
  whole-fits = omega (arith, div-mul-le_self (length bytes) (size n), mul_comm whole (size n))

  -- a whole record is declined by its positions alone
  whole-why : (d : ℕ) → d < whole → why_record n bytes d ≡ why_day (day_at n bytes (size n * d))
  unfolding why_record first_of
  whole-why d l = rw (le-ltb (length bytes) (size n * d + size n) (record-fits n bytes d some l)) (turn (in_range (day_at n bytes (size n * d))))
    where
      turn : (b : Bool) → ◌≡◌ {A = ℕ} (when not b then 5 else 0) (when b then 0 else 5)
      turn true = refl
      turn false = refl

  wholes-why : tab whole (why_record n bytes) ≡ map why_day (days_of n bytes)
  unfolding days_of
  wholes-why =
      tab-ext whole (why_record n bytes) (λ d. why_day (day_at n bytes (size n * d))) whole-why
      ∙ sym (map-tab whole why_day (λ d. day_at n bytes (size n * d)))

  -- there is one more record where bytes are left
  records-are : records_in n bytes ≡ whole + (cut + (size n - 1)) / size n
  unfolding records_in
  records-are =
      ap (λ (k : ℕ). k / size n) {x = length bytes + (size n - 1)} {y = size n * whole + (cut + (size n - 1))} (omega (arith, whole-fits))
      ∙ mul-add-div {m = size n} (omega arith) whole (cut + (size n - 1))

  cut_small : cut < size n
  cut_small = omega (arith, whole-fits, lt-mul-div-succ (length bytes) {b = size n} (omega arith), mul_comm whole (size n))

  more-none : cut ≡ 0 → (cut + (size n - 1)) / size n ≡ 0
  more-none z = div-eq_of_lt (omega arith)

  more-one : 0 < cut → (cut + (size n - 1)) / size n ≡ 1
  more-one h =
      ap (λ (k : ℕ). k / size n) {x = cut + (size n - 1)} {y = size n * 1 + (cut - 1)} (omega (arith, mul-one (size n)))
      ∙ mul-add-div {m = size n} (omega arith) 1 (cut - 1)
      ∙ ap (λ (k : ℕ). 1 + k) (div-eq_of_lt {n = cut - 1} {m = size n} (omega (arith, cut_small)))

  abbrev tail : ℕ → List ℕ
  tail k = tab k (λ j. why_record n bytes (whole + j))

  records-why : first_of (tab (records_in n bytes) (λ d. declines (why_record n bytes d))) ≡ firsts (map why_day (days_of n bytes) ++ tail ((cut + (size n - 1)) / size n))
  unfolding firsts
  records-why =
      ap first_of (sym (map-tab (records_in n bytes) declines (why_record n bytes)))
      ∙ ap (λ (k : ℕ). first_of (map declines (tab k (why_record n bytes)))) records-are
      ∙ ap (λ (l : List ℕ). first_of (map declines l)) (tab-append whole ((cut + (size n - 1)) / size n) (why_record n bytes))
      ∙ ap (λ (l : List ℕ). first_of (map declines (l ++ tail ((cut + (size n - 1)) / size n)))) wholes-why

  abbrev good : Bool
  good = all in_range (days_of n bytes)

  bad-record : good ≡ false → firsts (map why_day (days_of n bytes) ++ tail ((cut + (size n - 1)) / size n)) ≡ 5
  bad-record f =
      let bad : firsts (map why_day (days_of n bytes)) ≡ 5 = days-why (days_of n bytes) ∙ rw f in
      firsts-stop (map why_day (days_of n bytes)) (tail ((cut + (size n - 1)) / size n)) (λ z. omega (arith, bad, z)) ∙ bad

  good-records : good ≡ true → firsts (map why_day (days_of n bytes) ++ tail ((cut + (size n - 1)) / size n)) ≡ firsts (tail ((cut + (size n - 1)) / size n))
  good-records t = firsts-on (map why_day (days_of n bytes)) (tail ((cut + (size n - 1)) / size n)) (days-why (days_of n bytes) ∙ rw t)

  tail_none : firsts (tail 0) ≡ 0
  unfolding firsts first_of tab
  tail_none = refl

  tail-cut : 0 < cut → firsts (tail 1) ≡ 1
  unfolding firsts first_of tab why_record
  tail-cut h =
      let at : whole + 0 ≡ whole = omega arith in
      rw (at, lt-ltb (length bytes) (size n * whole + size n) (omega (arith, cut_small, whole-fits)))

  module _ (units : ℕ) (ready : why_before n units ≡ 0) where
    run-why : why_run n units bytes ≡ firsts (map why_day (days_of n bytes) ++ tail ((cut + (size n - 1)) / size n))
    unfolding why_run first_of
    run-why = rw ready records-why

    pub why-bad : good ≡ false → why_run n units bytes ≡ 5
    why-bad f = run-why ∙ bad-record f

    pub why-cut : good ≡ true → 0 < cut → why_run n units bytes ≡ 1
    why-cut t h = run-why ∙ good-records t ∙ ap (λ (k : ℕ). firsts (tail k)) (more-one h) ∙ tail-cut h

    pub why-none : good ≡ true → cut ≡ 0 → why_run n units bytes ≡ 0
    why-none t z = run-why ∙ good-records t ∙ ap (λ (k : ℕ). firsts (tail k)) (more-none z) ∙ tail_none

  pub days-are : good ≡ true → Each (DayOf n) (days_of n bytes)
  days-are t = each_both (λ d. length d ≡ n) (λ d. in_range d ≡ true) (days_of n bytes) (days-long n bytes) (each_all in_range (days_of n bytes) t)

-- a run is ready only with a member and units within their limits
pub ready-some : (n units : ℕ) → why_before n units ≡ 0 → 1 ≤ n
unfolding why_before first_of
ready-some n units = go (eqb n 0) refl
  where
    go : (b : Bool) → eqb n 0 ≡ b → ◌≡◌ {A = ℕ} (when b then 5 else (when not (between 1 1_000 units) then 5 else 0)) 0 → 1 ≤ n
    go true e h = absurd (omega arith)
    go false e h = ⊎_elim (λ z. absurd (eqb-false n 0 e (omega arith))) (λ g. omega arith) (lt-or-le n 1)

ready-units : (n units : ℕ) → why_before n units ≡ 0 → units ≤ 1_000
unfolding why_before first_of
ready-units n units = go (eqb n 0) (between 1 1_000 units) (λ t. leb-true units 1_000 (and_right (leb 1 units) (leb units 1_000) t))
  where
    go : (a b : Bool) → (b ≡ true → units ≤ 1_000) → ◌≡◌ {A = ℕ} (when a then 5 else (when not b then 5 else 0)) 0 → units ≤ 1_000
    go true b h e = absurd (omega arith)
    go false true h e = h refl
    go false false h e = absurd (omega arith)

-- ---- the end

module _ (set units : ℕ) (bytes shares : List ℕ) where
  abbrev n : ℕ
  n = length (members set)

  abbrev days : List Day
  days = days_of n bytes

  abbrev run : Taken
  run = taken n no_days 0 days

  -- declined before the run
  pub whole_before : (why_before n units ≡ 0 → ⊥) → why_run n units bytes ≡ why_before n units
  unfolding why_run first_of
  whole_before h = rw (ne_eqb (why_before n units) 0 h)

  module _ (ready : why_before n units ≡ 0) where
    some : 1 ≤ n
    some = ready-some n units ready

    run-all : all in_range days ≡ true → run ≡ record { kept = kept_after n days; used = size n * length days; answer = 0 }
    unfolding kept_after
    run-all t = taken-all n no_days 0 days t ∙ ap (λ (k : ℕ). record { kept = foldl (day_kept n) no_days days; used = k; answer = 0 }) (omega arith)

    run-good : run.answer ≡ 0 → all in_range days ≡ true
    run-good z = cases (all in_range days) _ (λ t. t) (λ f. absurd (omega (arith, z, taken-bad n no_days 0 days f)))

    -- declined by a record
    pub whole-bad : (run.answer ≡ 0 → ⊥) → why_run n units bytes ≡ run.answer
    whole-bad h =
        cases (all in_range days) _
        (λ t. absurd (h (ap (λ (r : Taken). r.answer) (run-all t))))
        (λ f. why-bad n some bytes units ready f ∙ sym (taken-bad n no_days 0 days f))

    module _ (z : run.answer ≡ 0) where
      good-days : all in_range days ≡ true
      good-days = run-good z

      sums-are : take n run.kept.sums ≡ sums_of n days
      sums-are =
          ap (λ (r : Taken). take n r.kept.sums) (run-all good-days)
          ∙ sums-afresh n (members-few set) days (days-are n some bytes good-days)

      pub used-is : run.used ≡ size n * (length bytes / size n)
      used-is = ap (λ (r : Taken). r.used) (run-all good-days) ∙ ap (λ (k : ℕ). size n * k) (days-count n bytes)

      -- the sums of a run can be split
      weights-length : length (sums_of n days) ≡ n
      unfolding sums_of
      weights-length = length-tab n (λ m. sum_at m (last_days days))

      weights-light : (k : ℕ) → get_or (sums_of n days) k 0 ≤ weight_limit
      unfolding sums_of
      weights-light =
          bound-past weight_limit (sums_of n days) (λ k l.
          omega (
            arith,
            get_or-tab n (λ m. sum_at m (last_days days)) k 0 (omega (arith, weights-length)),
            window-small k days (all_fit days good-days),
          ))

      split-ready : refusal units (take n run.kept.sums) n ≡ 0
      split-ready =
          ap (λ (ws : List ℕ). refusal units ws n) sums-are
          ∙ within-refusal units (sums_of n days) n (sym weights-length)
          (record {
            weights = record { few = omega (arith, weights-length, members-few set); light = weights-light };
            small = omega (arith, ready-units n units ready);
          })

      end-why : why_end n units (length bytes - run.used) run.kept.sums ≡ why_run n units bytes
      unfolding why_end first_of
      end-why =
          ⊎_elim
          (λ l.
          let none : length bytes - run.used ≡ 0 = omega (arith, used-is) in
          rw (ready, none, split-ready) (sym (why-none n some bytes units ready good-days (omega arith))))
          (λ l.
          let left : length bytes - run.used ≡ 0 → ⊥ = λ e. omega (arith, used-is, e) in
          rw (ready, ne_eqb (length bytes - run.used) 0 left) (sym (why-cut n some bytes units ready good-days (omega arith))))
          (lt-or-le (length bytes - size n * (length bytes / size n)) 1)

      pub whole-end : ended set units (length bytes - run.used) run.kept.sums shares ≡ expected_units set units bytes shares
      unfolding ended expected_units
      whole-end = rw (end-why, sums-are)

-- ---- what `expected` has in hand

module _ (set units : ℕ) (bytes shares : List ℕ) (k before : ℕ) (ke : k ≡ length (members set)) (be : before ≡ why_before k units) where
  asked : before ≡ why_before (length (members set)) units
  asked = be ∙ ap (λ (j : ℕ). why_before j units) ke

  declined : (why : ℕ) → (why ≡ 0 → ⊥) → why_run (length (members set)) units bytes ≡ why → ◌≡◌ {A = Answer} (why, shares) (expected_units set units bytes shares)
  unfolding expected_units
  declined why h e = answers-untouched (why_run (length (members set)) units bytes) _ shares why (sym e) h

  pub answers-before : (before ≡ 0 → ⊥) → ◌≡◌ {A = Answer} (before, shares) (expected_units set units bytes shares)
  answers-before h = declined before h (whole_before set units bytes shares (λ z. h (asked ∙ z)) ∙ sym asked)

  module _ (z : before ≡ 0) where
    ready : why_before (length (members set)) units ≡ 0
    ready = sym asked ∙ z

    pub answers-some : 1 ≤ k
    answers-some = omega (arith, ke, ready-some (length (members set)) units ready)

    module _ (answer : ℕ) (ae : (taken k no_days 0 (days_of k bytes)).answer ≡ answer) where
      answer-is : (taken (length (members set)) no_days 0 (days_of (length (members set)) bytes)).answer ≡ answer
      answer-is = ap (λ (j : ℕ). (taken j no_days 0 (days_of j bytes)).answer) (sym ke) ∙ ae

      pub answers-bad : (answer ≡ 0 → ⊥) → ◌≡◌ {A = Answer} (answer, shares) (expected_units set units bytes shares)
      answers-bad h = declined answer h (whole-bad set units bytes shares ready (λ e. h (sym answer-is ∙ e)) ∙ answer-is)

      module _ (none : answer ≡ 0) (sums : List ℕ) (used : ℕ) (se : (taken k no_days 0 (days_of k bytes)).kept.sums ≡ sums) (ue : (taken k no_days 0 (days_of k bytes)).used ≡ used) where
        used-same : (taken (length (members set)) no_days 0 (days_of (length (members set)) bytes)).used ≡ used
        used-same = ap (λ (j : ℕ). (taken j no_days 0 (days_of j bytes)).used) (sym ke) ∙ ue

        pub answers-used : used ≤ length bytes
        answers-used =
            omega (
              arith,
              used-same,
              used-is set units bytes shares ready (answer-is ∙ none),
              whole-fits (length (members set)) (ready-some (length (members set)) units ready) bytes,
            )

        pub answers-end : (r : ℕ) (out : List ℕ) → ◌≡◌ {A = Answer} (r, out) (ended set units (length bytes - used) sums shares)
            → ◌≡◌ {A = Answer} (r, out) (expected_units set units bytes shares)
        answers-end r out e =
            let sums_same : (taken (length (members set)) no_days 0 (days_of (length (members set)) bytes)).kept.sums ≡ sums
            = ap (λ (j : ℕ). (taken j no_days 0 (days_of j bytes)).kept.sums) (sym ke) ∙ se in
            e
            ∙ ap (λ (u : ℕ). ended set units (length bytes - u) sums shares) (sym used-same)
            ∙ ap (λ (l : List ℕ). ended set units (length bytes - (taken (length (members set)) no_days 0 (days_of (length (members set)) bytes)).used) l shares) (sym sums_same)
            ∙ whole-end set units bytes shares ready (answer-is ∙ none)
