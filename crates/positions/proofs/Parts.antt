-- A run that is read in parts: the parts may be cut anywhere. What a part leaves, less than a record, goes before the next part. Assumes nothing.
use Rattle.std.proofs.Common.{◌≡◌, ℕ, ◌+◌, ◌-◌, ◌*◌, ◌/◌, ◌<◌, ◌≤◌, Bool, true, false, eqb, List, [], ◌∷◌, ◌++◌, length, drop, sym, refl, ap, ◌∙◌, ⊎_elim, append_assoc, append-nil, mul_comm, mul-add, div-mul-le_self, arith, length-append, length-drop, drop-drop, eq-eqb, ne_eqb, eqb-true}
use mathlib.Core.List.{foldl}
use native.Mathlib.Nat.{zero-div, mul-add-div}
use lib.Seq.{take-append-le, drop-append-le}
use borrow.Author.Tests.{eqb-false}
use Rattle.lists.specs.Lists.{when◌then◌else◌, tab, joined}
use Rattle.lists.proofs.Bools.{cases, lt-or-le}
use Rattle.lists.proofs.Places.{tab-ext, tab-append}
use Rattle.sets.specs.Set.{members}
use Rattle.machine.specs.Wire.{number}
use Rattle.splitting.proofs.Answers.{answered-not-0}
use Rattle.positions.specs.Days.{size, day_at, days_of, why_before, why_run, expected_units}
use Rattle.positions.specs.Keeping.{Kept, no_days, Taken, taken, part_of, ended, Fed, fed, in_parts}
use Rattle.positions.proofs.Days.{days-count, record-fits}
use Rattle.positions.proofs.Records.{taken-used, taken_then, taken-stops, taken-shift}
use Rattle.positions.proofs.Whole.{ready-some, whole_before, whole-bad, whole-end}

-- ---- a part as `take_days` has it

module _ (set k : ℕ) (x : Kept) (bytes : List ℕ) (ke : k ≡ length (members set)) where
  pub part_none : k ≡ 0 → record { kept = x; used = 0; answer = 5 } ≡ part_of (length (members set)) x bytes
  unfolding part_of
  part_none z = rw (← ke, eq-eqb k 0 z)

  pub part-some : (k ≡ 0 → ⊥) → (t : Taken) → t ≡ taken k x 0 (days_of k bytes) → t ≡ part_of (length (members set)) x bytes
  unfolding part_of
  part-some h t e = rw (← ke, ne_eqb k 0 h) e

-- ---- the days of two runs

number-front : (at : ℕ) (xs ys : List ℕ) → at + 4 ≤ length xs → number at 4 (xs ++ ys) ≡ number at 4 xs
unfolding number
number-front at xs ys h =
    let long : 4 ≤ length (drop at xs) = omega (arith, length-drop at xs) in
    rw (drop-append-le at xs ys (omega arith), take-append-le 4 (drop at xs) ys long)

number_behind : (used at : ℕ) (v : List ℕ) → number (used + at) 4 v ≡ number at 4 (drop used v)
unfolding number
number_behind used at v = rw (drop-drop at used v)

module _ (n : ℕ) (some : 1 ≤ n) (xs ys : List ℕ) where
  abbrev records : ℕ
  records = length xs / size n

  abbrev used : ℕ
  used = size n * records

  pub used_le : used ≤ length xs
  used_le = omega (arith, div-mul-le_self (length xs) (size n), mul_comm records (size n))

  day-front : (d : ℕ) → d < records → day_at n (xs ++ ys) (size n * d) ≡ day_at n xs (size n * d)
  unfolding day_at
  day-front d l =
      tab-ext n (λ m. number (size n * d + 4 * m) 4 (xs ++ ys)) (λ m. number (size n * d + 4 * m) 4 xs)
      (λ m h. number-front (size n * d + 4 * m) xs ys (omega (arith, record-fits n xs d some l)))

  abbrev rest : List ℕ
  rest = drop used xs ++ ys

  day-behind : (d : ℕ) → day_at n (xs ++ ys) (size n * (records + d)) ≡ day_at n rest (size n * d)
  unfolding day_at
  day-behind d =
      tab-ext n (λ m. number (size n * (records + d) + 4 * m) 4 (xs ++ ys)) (λ m. number (size n * d + 4 * m) 4 rest)
      (λ m h.
      ap (λ (k : ℕ). number k 4 (xs ++ ys)) {x = size n * (records + d) + 4 * m} {y = used + (size n * d + 4 * m)} (omega (arith, mul-add (size n) records d))
      ∙ number_behind used (size n * d + 4 * m) (xs ++ ys)
      ∙ ap (number (size n * d + 4 * m) 4) (drop-append-le used xs ys used_le))

  -- the records of both: those of the first, then those of what it leaves with the second behind it
  pub days-append : days_of n (xs ++ ys) ≡ days_of n xs ++ days_of n rest
  unfolding days_of
  days-append =
      let long : length (xs ++ ys) ≡ used + length rest
      = omega (arith, length-append xs ys, length-append (drop used xs) ys, length-drop used xs, used_le) in
      let counts : length (xs ++ ys) / size n ≡ records + length rest / size n
      = ap (λ (k : ℕ). k / size n) long ∙ mul-add-div {m = size n} (omega arith) records (length rest) in
      ap (λ (k : ℕ). tab k (λ d. day_at n (xs ++ ys) (size n * d))) counts
      ∙ tab-append records (length rest / size n) (λ d. day_at n (xs ++ ys) (size n * d))
      ∙ cc (
        tab-ext records (λ d. day_at n (xs ++ ys) (size n * d)) (λ d. day_at n xs (size n * d)) day-front,
        tab-ext (length rest / size n) (λ d. day_at n (xs ++ ys) (size n * (records + d))) (λ d. day_at n rest (size n * d)) (λ d l. day-behind d),
      )

-- ---- a run in two parts

module _ (n : ℕ) (some : 1 ≤ n) where
  part-days : (y : Kept) (l : List ℕ) → part_of n y l ≡ taken n y 0 (days_of n l)
  unfolding part_of
  part-days y l = rw (ne_eqb n 0 (λ z. omega arith))

  abbrev begun : List ℕ → Taken
  begun xs = taken n no_days 0 (days_of n xs)

  begun-used : (xs : List ℕ) → (begun xs).answer ≡ 0 → (begun xs).used ≡ size n * (length xs / size n)
  begun-used xs h = taken-used n no_days 0 (days_of n xs) h ∙ omega (arith, ap (λ (k : ℕ). size n * k) (days-count n xs))

  -- what the first part has led to: what is kept, and the bytes that no record was made of
  abbrev state : List ℕ → Fed
  state xs = record { kept = (begun xs).kept; left = drop (begun xs).used xs; answer = (begun xs).answer }

  -- a record out of range ends the run, whatever comes behind it
  stops : (xs ys : List ℕ) → ((begun xs).answer ≡ 0 → ⊥) → begun (xs ++ ys) ≡ begun xs
  stops xs ys h =
      ap (taken n no_days 0) (days-append n some xs ys)
      ∙ taken-stops n no_days 0 (days_of n xs) (days_of n (drop (size n * (length xs / size n)) xs ++ ys)) h

  -- else the run goes on from what is kept, with what the first part leaves before the second
  goes_on : (xs ys : List ℕ) → (begun xs).answer ≡ 0
      → let t = taken n (begun xs).kept 0 (days_of n (drop (begun xs).used xs ++ ys)) in
      begun (xs ++ ys) ≡ record { kept = t.kept; used = (begun xs).used + t.used; answer = t.answer }
  goes_on xs ys h =
      let left = drop (size n * (length xs / size n)) xs ++ ys in
      ap (taken n no_days 0) (days-append n some xs ys)
      ∙ taken_then n no_days 0 (days_of n xs) (days_of n left) h
      ∙ ap (λ (k : ℕ). taken n (begun xs).kept k (days_of n left)) {x = (begun xs).used} {y = (begun xs).used + 0} (omega arith)
      ∙ taken-shift n (begun xs).kept (begun xs).used 0 (days_of n left)
      ∙ ap (λ (k : ℕ). let t = taken n (begun xs).kept 0 (days_of n (drop k xs ++ ys)) in
      record { kept = t.kept; used = (begun xs).used + t.used; answer = t.answer }) (sym (begun-used xs h))

  -- one part more
  fed-on : (xs ys : List ℕ) → (begun xs).answer ≡ 0 → fed n (state xs) ys ≡ state (xs ++ ys)
  unfolding fed
  fed-on xs ys h =
      let bytes = drop (begun xs).used xs ++ ys in
      let t = taken n (begun xs).kept 0 (days_of n bytes) in
      let fits : (begun xs).used ≤ length xs = omega (arith, begun-used xs h, used_le n some xs ys) in
      let dropped : drop ((begun xs).used + t.used) (xs ++ ys) ≡ drop t.used bytes
      = sym (drop-drop t.used (begun xs).used (xs ++ ys)) ∙ ap (drop t.used) (drop-append-le (begun xs).used xs ys fits) in
      rw (eq-eqb (begun xs).answer 0 h, part-days (begun xs).kept bytes, goes_on xs ys h, dropped)

  -- the same of parts of a run from its begin on
  abbrev pub first : List ℕ → Taken
  first xs = part_of n no_days xs

  pub first-days : (xs : List ℕ) → first xs ≡ begun xs
  first-days xs = part-days no_days xs

  -- a part with no record out of range takes its whole records
  pub part-used : (x : Kept) (xs : List ℕ) → (part_of n x xs).answer ≡ 0 → (part_of n x xs).used ≡ size n * (length xs / size n)
  part-used x xs h =
      let same = part-days x xs in
      ap (λ (t : Taken). t.used) same
      ∙ taken-used n x 0 (days_of n xs) (ap (λ (t : Taken). t.answer) (sym same) ∙ h)
      ∙ omega (arith, ap (λ (k : ℕ). size n * k) (days-count n xs))

  pub first_then : (xs ys : List ℕ) → (first xs).answer ≡ 0
      → let t = part_of n (first xs).kept (drop (first xs).used xs ++ ys) in
      first (xs ++ ys) ≡ record { kept = t.kept; used = (first xs).used + t.used; answer = t.answer }
  first_then xs ys h =
      let same = first-days xs in
      let t : Taken → Taken = λ s. part_of n s.kept (drop s.used xs ++ ys) in
      first-days (xs ++ ys)
      ∙ goes_on xs ys (ap (λ (s : Taken). s.answer) (sym same) ∙ h)
      ∙ ap (λ (v : Taken). record { kept = v.kept; used = (begun xs).used + v.used; answer = v.answer }) (sym (part-days (begun xs).kept (drop (begun xs).used xs ++ ys)))
      ∙ ap (λ (s : Taken). record { kept = (t s).kept; used = s.used + (t s).used; answer = (t s).answer }) (sym same)

  -- ---- any parts

  -- what is in hand after parts whose bytes are xs
  record After (f : Fed) (xs : List ℕ) : Type 0 where
    pub answers : f.answer ≡ (begun xs).answer
    pub goes : (begun xs).answer ≡ 0 → f ≡ state xs

  stays : (f : Fed) (ys : List ℕ) → (f.answer ≡ 0 → ⊥) → fed n f ys ≡ f
  unfolding fed
  stays f ys h = rw (ne_eqb f.answer 0 h)

  after_more : (f : Fed) (xs ys : List ℕ) → After f xs → After (fed n f ys) (xs ++ ys)
  after_more f xs ys a =
      cases (eqb (begun xs).answer 0) _
      (λ t.
      let z = eqb-true (begun xs).answer 0 t in
      let same : fed n f ys ≡ state (xs ++ ys) = ap (λ (g : Fed). fed n g ys) (a.goes z) ∙ fed-on xs ys z in
      record { answers = ap (λ (g : Fed). g.answer) same; goes = λ e. same })
      (λ b.
      let no = eqb-false (begun xs).answer 0 b in
      let same = stops xs ys no in
      let still = stays f ys (λ e. no (sym a.answers ∙ e)) in
      record {
        answers = ap (λ (g : Fed). g.answer) still ∙ a.answers ∙ ap (λ (t : Taken). t.answer) (sym same);
        goes = λ e. absurd (no (ap (λ (t : Taken). t.answer) (sym same) ∙ e));
      })

  after-all : (parts : List (List ℕ)) (f : Fed) (xs : List ℕ) → After f xs → After (foldl (fed n) f parts) (xs ++ joined parts)
  unfolding joined
  after-all [] f xs a = rw (append-nil xs) a
  after-all (part ∷ parts) f xs a = rw append_assoc at (after-all parts (fed n f part) (xs ++ part) (after_more f xs part a))

  pub no-days : days_of n [] ≡ []
  unfolding days_of tab
  no-days = rw (zero-div (size n))

  pub first-none : first [] ≡ record { kept = no_days; used = 0; answer = 0 }
  unfolding taken
  first-none = first-days [] ∙ rw no-days

  after_none : (answer : ℕ) → answer ≡ 0 → After (record { kept = no_days; left = []; answer = answer }) []
  unfolding taken
  after_none answer z = record { answers = z ∙ rw no-days; goes = λ e. rw (no-days, z) }

  -- after parts that are not declined
  pub after-parts : (parts : List (List ℕ)) → (foldl (fed n) (record { kept = no_days; left = []; answer = 0 }) parts).answer ≡ 0
      → (foldl (fed n) (record { kept = no_days; left = []; answer = 0 }) parts).kept ≡ (begun (joined parts)).kept
  after-parts parts z =
      let a = after-all parts (record { kept = no_days; left = []; answer = 0 }) [] (after_none 0 refl) in
      ap (λ (f : Fed). f.kept) (a.goes (sym a.answers ∙ z))

  pub after-answer : (parts : List (List ℕ)) → (foldl (fed n) (record { kept = no_days; left = []; answer = 0 }) parts).answer ≡ 0 → (begun (joined parts)).answer ≡ 0
  after-answer parts z = sym (after-all parts (record { kept = no_days; left = []; answer = 0 }) [] (after_none 0 refl)).answers ∙ z

-- ---- a run in parts is the whole run

before-stays : (n : ℕ) (parts : List (List ℕ)) (f : Fed) → (f.answer ≡ 0 → ⊥) → foldl (fed n) f parts ≡ f
unfolding fed
before-stays n [] f h = refl
before-stays n (part ∷ parts) f h = ap (λ (g : Fed). foldl (fed n) g parts) (rw (ne_eqb f.answer 0 h)) ∙ before-stays n parts f h

module _ (set units : ℕ) (parts : List (List ℕ)) (shares : List ℕ) where
  abbrev n : ℕ
  n = length (members set)

  abbrev bytes : List ℕ
  bytes = joined parts

  abbrev last : Fed
  last = foldl (fed n) (record { kept = no_days; left = []; answer = why_before n units }) parts

  said : (why : ℕ) → (why ≡ 0 → ⊥) → why_run n units bytes ≡ why → expected_units set units bytes shares ≡ (why, shares)
  unfolding expected_units
  said why h e = answered-not-0 (why_run n units bytes) _ shares (λ z. h (sym e ∙ z)) ∙ ap (λ (w : ℕ). (w, shares)) e

  stopped : (last.answer ≡ 0 → ⊥) → why_run n units bytes ≡ last.answer → in_parts set units parts shares ≡ expected_units set units bytes shares
  unfolding in_parts
  stopped h e = rw (ne_eqb last.answer 0 h) (sym (said last.answer h e))

  done : last.answer ≡ 0 → ended set units (length last.left) last.kept.sums shares ≡ expected_units set units bytes shares
      → in_parts set units parts shares ≡ expected_units set units bytes shares
  unfolding in_parts
  done z e = rw (eq-eqb last.answer 0 z) e

  ready : why_before n units ≡ 0 → in_parts set units parts shares ≡ expected_units set units bytes shares
  ready z =
      let some = ready-some n units z in
      let run = taken n no_days 0 (days_of n bytes) in
      let a = after-all n some parts (record { kept = no_days; left = []; answer = why_before n units }) [] (after_none n some (why_before n units) z) in
      cases (eqb run.answer 0) _
      (λ t.
      let e = eqb-true run.answer 0 t in
      let same = a.goes e in
      done (a.answers ∙ e)
      (ap (λ (f : Fed). ended set units (length f.left) f.kept.sums shares) same
      ∙ ap (λ (k : ℕ). ended set units k run.kept.sums shares) (length-drop run.used bytes)
      ∙ whole-end set units bytes shares z e))
      (λ b.
      let no = eqb-false run.answer 0 b in
      stopped (λ e. no (sym a.answers ∙ e)) (whole-bad set units bytes shares z no ∙ sym a.answers))

  pub cut-anywhere : in_parts set units parts shares ≡ expected_units set units bytes shares
  cut-anywhere =
      cases (eqb (why_before n units) 0) _
      (λ t. ready (eqb-true (why_before n units) 0 t))
      (λ b.
      let no = eqb-false (why_before n units) 0 b in
      let same = before-stays n parts (record { kept = no_days; left = []; answer = why_before n units }) no in
      stopped (λ e. no (ap (λ (f : Fed). f.answer) (sym same) ∙ e)) (whole_before set units bytes shares no ∙ ap (λ (f : Fed). f.answer) (sym same)))

-- a part of a run that is answered by 0 has a member
pub part-some-member : (n : ℕ) (x : Kept) (xs : List ℕ) → (part_of n x xs).answer ≡ 0 → 1 ≤ n
unfolding part_of
part-some-member n x xs = go (eqb n 0) refl
  where
    go : (b : Bool) → eqb n 0 ≡ b → (when b then record { kept = x; used = 0; answer = 5 } else taken n x 0 (days_of n xs)).answer ≡ 0 → 1 ≤ n
    go true e h = absurd (omega arith)
    go false e h = ⊎_elim (λ l. absurd (eqb-false n 0 e (omega arith))) (λ g. g) (lt-or-le n 1)

-- the end of a run whose parts are answered by 0
pub end-first : (set units : ℕ) (bytes shares : List ℕ) → why_before (length (members set)) units ≡ 0 → (part_of (length (members set)) no_days bytes).answer ≡ 0
    → let t = part_of (length (members set)) no_days bytes in
    ended set units (length bytes - t.used) t.kept.sums shares ≡ expected_units set units bytes shares
end-first set units bytes shares z h =
    let n = length (members set) in
    let same = first-days n (ready-some n units z) bytes in
    ap (λ (t : Taken). ended set units (length bytes - t.used) t.kept.sums shares) same
    ∙ whole-end set units bytes shares z (ap (λ (t : Taken). t.answer) (sym same) ∙ h)
