-- One turn of the loop, what holds after each, and what is given at the end: laws that the proofs of the functions cite. Assumes nothing.
use Rattle.std.proofs.Common.{Some, None, ◌≡◌, ℕ, ◌+◌, ◌-◌, ◌*◌, ◌/◌, ◌<◌, ◌≤◌, List, [], ◌∷◌, ◌++◌, length, get_or, take, drop, sym, refl, ap, ◌∙◌, mul-add, arith, length-append, length-drop, length-take-le, drop-drop, take-add}
use native.Mathlib.Nat.{mul-add-div}
use lib.Seq.{drop-append-le, drop-nil}
use Rattle.lists.specs.Lists.{joined}
use Rattle.lists.proofs.Joined.{joined-more}
use Rattle.sets.specs.Set.{members}
use Rattle.splitting.specs.Limits.{Answer}
use Rattle.feed.specs.Feeds.{Slides, Fed}
use Rattle.feed.proofs.Turning.{keeps, fed-none as none-fed, fed-turn as turn-fed}
use Rattle.positions.specs.Days.{size, days_of, why_before, expected_units}
use Rattle.positions.specs.Keeping.{Kept, no_days, Taken, taken, part_of, ended}
use Rattle.positions.proofs.Whole.{ready-some, answers-before, answers-bad}
use Rattle.positions.proofs.Parts.{used_le, part-used, first-days, first_then, first-none, part-some-member, end-first}
use Rattle.from_records.specs.declared.Turn.{Turn}
use Rattle.from_records.specs.declared.Stop.{Stop}
use Rattle.from_records.specs.declared.Stop.TheVariants.{Ended, Refused}
use Rattle.from_records.specs.Turns.{left_of, TakesTurn, Reached, SumsOf, Declined, StopsAt, Finishes, Gives}

-- ---- what is left of bytes

module _ (n : ℕ) (some : 1 ≤ n) where
  -- what is left of bytes behind bytes is what is left of both
  left-then : (s t : List ℕ) → left_of n (s ++ t) ≡ left_of n (left_of n s ++ t)
  unfolding left_of
  left-then s t =
      let k = length s / size n in
      let u = drop (size n * k) s ++ t in
      let front : drop (size n * k) (s ++ t) ≡ u = drop-append-le (size n * k) s t (used_le n some s t) in
      let long : length (s ++ t) ≡ size n * k + length u = omega (arith, length-append s t, length-append (drop (size n * k) s) t, length-drop (size n * k) s, used_le n some s t) in
      let counts : size n * (length (s ++ t) / size n) ≡ size n * k + size n * (length u / size n)
      = ap (λ (j : ℕ). size n * j) (ap (λ (j : ℕ). j / size n) long ∙ mul-add-div {m = size n} (omega arith) k (length u)) ∙ mul-add (size n) k (length u / size n) in
      ap (λ (j : ℕ). drop j (s ++ t)) counts
      ∙ sym (drop-drop (size n * (length u / size n)) (size n * k) (s ++ t))
      ∙ ap (drop (size n * (length u / size n))) front

  left-none : left_of n [] ≡ []
  unfolding left_of
  left-none = drop-nil (size n * (0 / size n))

  -- ---- after each turn

  reached-none : Reached n no_days []
  reached-none = record { kept = ap (λ (t : Taken). t.kept) (sym (first-none n some)); good = ap (λ (t : Taken). t.answer) (first-none n some) }

  pub fed-none : (buf : List ℕ) (x : Kept) → x ≡ no_days → Fed (left_of n) (Reached n x) buf 0
  fed-none buf x e = rw e (none-fed (left_of n) (Reached n no_days) buf left-none reached-none)

  reached_then : (x y : Kept) (s t bytes : List ℕ) → Reached n x s → bytes ≡ left_of n s ++ t → y ≡ (part_of n x bytes).kept → (part_of n x bytes).answer ≡ 0 → Reached n y (s ++ t)
  unfolding left_of
  reached_then x y s t bytes r e k a =
      let f = part_of n no_days s in
      let left : drop f.used s ++ t ≡ bytes = ap (λ (j : ℕ). drop j s ++ t) (part-used n some no_days s r.good) ∙ sym e in
      let same : part_of n f.kept (drop f.used s ++ t) ≡ part_of n x bytes
      = ap (part_of n f.kept) left ∙ ap (λ (v : Kept). part_of n v bytes) (sym r.kept) in
      let both = first_then n some s t r.good in
      record {
        kept = k ∙ ap (λ (v : Taken). v.kept) (sym same) ∙ ap (λ (v : Taken). v.kept) (sym both);
        good = ap (λ (v : Taken). v.answer) both ∙ ap (λ (v : Taken). v.answer) same ∙ a;
      }

  -- a turn over the bytes that are kept and those that came behind them
  pub fed-turn : (buf next after : List ℕ) (x y : Kept) (len more : ℕ) (r : Turn) → Fed (left_of n) (Reached n x) buf len → take len next ≡ take len buf
      → ((k : ℕ) → get_or next k 0 < 256) → TakesTurn n x (take (len + more) next) next after y r → r.answer ≡ 0 → Fed (left_of n) (Reached n y) after r.len
  fed-turn buf next after x y len more r f same small turn z =
      turn-fed (left_of n) (Reached n x) (Reached n y) left-then buf next after len more r.len f same small (turn.keeps z)
      (λ s t reached e. reached_then x y s t (take (len + more) next) reached e turn.kept (sym turn.answer ∙ z))

-- ---- a turn

pub turns : (n : ℕ) (x y : Kept) (buf buf' part : List ℕ) (end used answer row len days : ℕ) → end ≤ length buf → part ≡ take end buf
    → record { kept = y; used = used; answer = answer } ≡ part_of n x part → Slides used end buf buf' len
    → TakesTurn n x (take end buf) buf buf' y (record { row = row; len = len; days = days; answer = answer })
unfolding left_of
turns n x y buf buf' part end used answer row len days inside lends taken slid =
    let bytes = take end buf in
    let long : length bytes ≡ end = length-take-le end buf inside in
    let same : record { kept = y; used = used; answer = answer } ≡ part_of n x bytes = taken ∙ ap (part_of n x) lends in
    record {
      kept = ap (λ (t : Taken). t.kept) same;
      answer = ap (λ (t : Taken). t.answer) same;
      keeps = λ z.
          let good : (part_of n x bytes).answer ≡ 0 = ap (λ (t : Taken). t.answer) (sym same) ∙ z in
          let some = part-some-member n x bytes good in
          let is : used ≡ size n * (length bytes / size n) = ap (λ (t : Taken). t.used) same ∙ part-used n some x bytes good in
          keeps (left_of n) buf buf' used end len inside (omega (arith, is, used_le n some bytes [], long)) (ap (λ (j : ℕ). drop j bytes) is) slid;
    }

-- ---- the sums at the end of the reading

pub sums-read : (n row : ℕ) (ring sums buf : List ℕ) (len : ℕ) → Fed (left_of n) (Reached n (record { row = row; ring = ring; sums = sums })) buf len → Fed (left_of n) (SumsOf n sums) buf len
sums-read n row ring sums buf len f =
    record {
      parts = f.parts;
      bytes = f.bytes;
      is = record { kept = ap (λ (x : Kept). x.sums) f.is.kept; good = f.is.good };
      kept = f.kept;
      fits = f.fits;
    }

-- a turn that a record ends
pub turn-declines : (n : ℕ) → 1 ≤ n → (buf next after : List ℕ) (x y : Kept) (len more : ℕ) (r : Turn) → Fed (left_of n) (Reached n x) buf len → take len next ≡ take len buf
    → TakesTurn n x (take (len + more) next) next after y r → Declined n r.answer
unfolding left_of
turn-declines n some buf next after x y len more r f same turn =
    let part = take more (drop len next) in
    let past = joined f.parts in
    let first = part_of n no_days past in
    let all : take (len + more) next ≡ drop first.used past ++ part
    = take-add len more next
    ∙ ap (λ (l : List ℕ). l ++ part) (same ∙ f.kept ∙ ap (λ (k : ℕ). drop k past) (sym (part-used n some no_days past f.is.good))) in
    let answer : (part_of n no_days (past ++ part)).answer ≡ (part_of n x (take (len + more) next)).answer
    = ap (λ (t : Taken). t.answer) (first_then n some past part f.is.good)
    ∙ ap (λ (l : List ℕ). (part_of n first.kept l).answer) (sym all)
    ∙ ap (λ (v : Kept). (part_of n v (take (len + more) next)).answer) (sym f.is.kept) in
    record {
      parts = f.parts ++ (part ∷ []);
      is = ap (λ (l : List ℕ). (part_of n no_days l).answer) (joined-more f.parts part) ∙ answer ∙ sym turn.answer;
    }

-- ---- what is given

-- the sums of all that was read
read-end : (set units : ℕ) (shares buf sums : List ℕ) (len : ℕ) → why_before (length (members set)) units ≡ 0
    → (f : Fed (left_of (length (members set))) (SumsOf (length (members set)) sums) buf len)
    → ended set units len sums shares ≡ expected_units set units (joined f.parts) shares
unfolding left_of
read-end set units shares buf sums len z f =
    let n = length (members set) in
    let bytes = joined f.parts in
    let t = part_of n no_days bytes in
    let good : t.answer ≡ 0 = f.is.good in
    let used : t.used ≡ size n * (length bytes / size n) = part-used n (part-some-member n no_days bytes good) no_days bytes good in
    let left : len ≡ length bytes - t.used
    = sym (length-take-le len buf f.fits) ∙ ap length f.kept ∙ length-drop (size n * (length bytes / size n)) bytes ∙ ap (λ (j : ℕ). length bytes - j) (sym used) in
    ap (λ (j : ℕ). ended set units j sums shares) left
    ∙ ap (λ (s : List ℕ). ended set units (length bytes - t.used) s shares) f.is.kept
    ∙ end-first set units bytes shares z good

-- declined before the run, and nothing read
pub gives-declined : (set units : ℕ) (shares : List ℕ) (k why : ℕ) → k ≡ length (members set) → why ≡ why_before k units → (why ≡ 0 → ⊥)
    → Gives set units shares shares (Some why)
unfolding joined
gives-declined set units shares k why e w h = record { parts = []; is = answers-before set units [] shares k why e w h }

pub gives_none : (set units : ℕ) (shares : List ℕ) → Gives set units shares shares None
gives_none set units shares = record { parts = []; is = refl }

module _ (set units : ℕ) (shares out buf : List ℕ) (r : ℕ) (z : why_before (length (members set)) units ≡ 0) where
  -- a record has declined the run
  by-record : (answer : ℕ) → (answer ≡ 0 → ⊥) → Declined (length (members set)) answer → r ≡ answer → out ≡ shares → Gives set units shares out (Some r)
  by-record answer h d e same =
      let n = length (members set) in
      let bytes = joined d.parts in
      let days : (taken n no_days 0 (days_of n bytes)).answer ≡ answer = ap (λ (t : Taken). t.answer) (sym (first-days n (ready-some n units z) bytes)) ∙ d.is in
      let said : ◌≡◌ {A = Answer} (answer, shares) (expected_units set units bytes shares)
      = answers-bad set units bytes shares n (why_before n units) refl refl z answer days h in
      record { parts = d.parts; is = ap (λ (a : ℕ). (a, out)) e ∙ ap (λ (l : List ℕ). (answer, l)) same ∙ said }

  pub gives : (stop : Stop) → StopsAt (length (members set)) buf stop → Finishes set units stop shares out r → Gives set units shares out (Some r)
  gives (Ended sums len days) fed end = record { parts = fed.parts; is = end ∙ read-end set units shares buf sums len z fed }
  gives (Refused days answer) declined end = by-record answer declined.0 declined.1 end.0 end.1

-- before the run
pub ready : (set units k why : ℕ) → k ≡ length (members set) → why ≡ why_before k units → why ≡ 0 → why_before (length (members set)) units ≡ 0
ready set units k why e w z = ap (λ (j : ℕ). why_before j units) (sym e) ∙ sym w ∙ z
