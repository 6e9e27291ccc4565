-- What is read is in the limits that were asked for. Assumes nothing.
use Rattle.std.specs.Prelude.{IfOk}
use mathlib.Core.Path.{◌≡◌, refl, sym, ◌∙◌}
use mathlib.Core.Bool.{Bool, true, false, ◌&&◌, ◌||◌, false≢true}
use mathlib.Core.Logic.{◌⊎◌, inl, inr, ⊎_elim}
use mathlib.Core.List.{List, [], ◌∷◌}
use Prim.Native.Nat.{ℕ, suc, ◌+◌, ◌-◌, ◌*◌, ◌≤◌, ◌<◌, min}
use native.Mathlib.Omega.{arith}
use lib.Dec.{eqb, leb, ltb}
use lib.ListN.{length, length-set, length-replicate}
use borrow.Author.Tests.{leb-true, ltb-true}
use Rattle.lists.specs.Lists.{between, Each}
use Rattle.lists.proofs.Bools.{either, by-test, and_left, and_right, or_cases}
use Rattle.lists.proofs.Each.{each_set, each-replicate}
use Rattle.rows.specs.declared.Scan.{Scan}
use Rattle.rows.specs.declared.Row.{Row}
use Rattle.rows.specs.declared.Reason.{Reason}
use Rattle.rows.specs.declared.Reason.TheVariants.{TooLarge, TooMany, EndsEarly, CarriageReturn}
use Rattle.rows.specs.declared.Phase.{Phase}
use Rattle.rows.specs.declared.Phase.TheVariants.{Start, BehindComma, InNumber, BehindNumber, Comment, Ended, Refused}
use Rattle.rows.specs.Scans.{at_start, awaits_number, within_number, behind_number, in_comment, has_ended, past_numbers, begin, with_phase, refused}
use Rattle.rows.specs.Reading.{strange, settle, grow, has_room, first_digit, on_digit, on_comma, ended, on_mark, byte_read, behind, step, scan, finish, outcome_in, outcome, row_of}

-- the numbers of a line are all read, and it is not refused
abbrev counted : Phase → Bool
counted Comment = true
counted Ended = true
counted _ = false

comment-counted : (p : Phase) → in_comment p ≡ true → counted p ≡ true
comment-counted Start e = absurd (false≢true e)
comment-counted BehindComma e = absurd (false≢true e)
comment-counted InNumber e = absurd (false≢true e)
comment-counted BehindNumber e = absurd (false≢true e)
comment-counted Comment e = refl
comment-counted Ended e = absurd (false≢true e)
comment-counted (Refused reason) e = absurd (false≢true e)

module _ (least most limit : ℕ) where
  -- "from least to most numbers", or none
  abbrev Whole : ℕ → Type 0
  Whole count = (count ≡ 0) ⊎ (least ≤ count)

  -- what holds of a line while it is read
  record Kept (s : Scan) : Type 0 where
    pub few : s.count ≤ min most 32
    pub room : within_number s.phase ≡ true → s.count < min most 32
    pub small : s.value ≤ limit
    pub each : Each (λ n. n ≤ limit) s.numbers
    pub long : length s.numbers ≡ 32
    pub none : at_start s.phase ≡ true → s.count ≡ 0
    pub whole : counted s.phase ≡ true → Whole s.count

  refused-kept : (s : Scan) (at : ℕ) (reason : Reason) → Kept s → Kept (refused s at reason)
  refused-kept s at reason k =
      record { few = k.few; room = λ e. absurd (false≢true e); small = k.small; each = k.each; long = k.long; none = λ e. absurd (false≢true e); whole = λ e. absurd (false≢true e) }

  strange-kept : (s : Scan) (at : ℕ) → Kept s → Kept (strange s at)
  unfolding strange
  strange-kept s at k = refused-kept s at _ k

  settle-kept : (s : Scan) → Kept s → Kept (settle s)
  unfolding settle
  settle-kept s k =
      by-test Kept (within_number s.phase)
      (λ e.
      record {
        few = omega (arith, k.room e);
        room = λ e. absurd (false≢true e);
        small = k.small;
        each = each_set (λ n. n ≤ limit) s.numbers s.count s.value k.small k.each;
        long = length-set s.numbers s.count s.value ∙ k.long;
        none = λ e. absurd (false≢true e);
        whole = λ e. absurd (false≢true e);
      })
      (λ e. k)

  grow-kept : (s : Scan) (at v : ℕ) → s.count < min most 32 → Kept s → Kept (grow limit s at v)
  unfolding grow
  grow-kept s at v h k =
      by-test Kept (leb v limit)
      (λ e.
      record { few = k.few; room = λ z. h; small = leb-true v limit e; each = k.each; long = k.long; none = λ z. absurd (false≢true z); whole = λ z. absurd (false≢true z) })
      (λ e. refused-kept s at TooLarge k)

  first-kept : (s : Scan) (d at : ℕ) → Kept s → Kept (first_digit most limit s d at)
  unfolding first_digit has_room
  first-kept s d at k =
      by-test Kept (ltb s.count (min most 32)) (λ e. grow-kept s at d (ltb-true s.count (min most 32) e) k) (λ e. refused-kept s s.start TooMany k)

  digit-kept : (s : Scan) (d at : ℕ) → Kept s → Kept (on_digit most limit s d at)
  unfolding on_digit
  digit-kept s d at k =
      by-test Kept (awaits_number s.phase) (λ e. first-kept s d at k)
      (λ e. by-test Kept (within_number s.phase) (λ f. grow-kept s s.start (s.value * 10 + d) (k.room f) k) (λ f. strange-kept s at k))

  comma-kept : (s : Scan) (at : ℕ) → Kept s → Kept (on_comma most s at)
  unfolding on_comma
  comma-kept s at k =
      by-test Kept (behind_number s.phase)
      (λ e. by-test Kept (has_room most s)
      (λ f.
      record { few = k.few; room = λ z. absurd (false≢true z); small = k.small; each = k.each; long = k.long; none = λ z. absurd (false≢true z); whole = λ z. absurd (false≢true z) })
      (λ f. refused-kept s at TooMany k))
      (λ e. strange-kept s at k)

  -- a comment or the line's end
  close-kept : (s : Scan) (p : Phase) (at : ℕ) → within_number p ≡ false → at_start p ≡ false → Whole s.count → Kept s → Kept (with_phase s p at)
  close-kept s p at in_none begun w k =
      record { few = k.few; room = λ z. absurd (false≢true (sym in_none ∙ z)); small = k.small; each = k.each; long = k.long; none = λ z. absurd (false≢true (sym begun ∙ z)); whole = λ z. w }

  ended-kept : (s : Scan) (at : ℕ) → Kept s → Kept (ended least s at)
  unfolding ended
  ended-kept s at k =
      by-test Kept (at_start s.phase || (behind_number s.phase && leb least s.count))
      (λ e. close-kept s Ended at refl refl
      (⊎_elim
      (λ f. inl (k.none f))
      (λ f. inr (leb-true least s.count (and_right (behind_number s.phase) (leb least s.count) f)))
      (or_cases (at_start s.phase) (behind_number s.phase && leb least s.count) e)) k)
      (λ e. refused-kept s at EndsEarly k)

  mark-kept : (s : Scan) (b at : ℕ) → Kept s → Kept (on_mark s b at)
  unfolding on_mark
  mark-kept s b at k =
      by-test Kept (eqb b 35 && at_start s.phase)
      (λ e. close-kept s Comment at refl refl (inl (k.none (and_right (eqb b 35) (at_start s.phase) e))) k)
      (λ e. strange-kept s at k)

  byte-kept : (s : Scan) (b at : ℕ) → Kept s → Kept (byte_read least most limit s b at)
  unfolding byte_read
  byte-kept s b at k =
      by-test Kept (between 48 57 b) (λ _. digit-kept s (b - 48) at k)
      (λ _. by-test Kept (eqb b 32 || eqb b 9) (λ _. settle-kept s k)
      (λ _. by-test Kept (eqb b 44) (λ _. comma-kept (settle s) at (settle-kept s k))
      (λ _. by-test Kept (eqb b 13) (λ _. ended-kept (settle s) at (settle-kept s k)) (λ _. mark-kept s b at k))))

  behind-kept : (s : Scan) (b at : ℕ) → Kept s → Kept (behind s b at)
  unfolding behind
  behind-kept s b at k =
      by-test Kept (has_ended s.phase) (λ e. refused-kept s s.start CarriageReturn k)
      (λ e. by-test Kept (in_comment s.phase && eqb b 13)
      (λ f. close-kept s Ended at refl refl (k.whole (comment-counted s.phase (and_left (in_comment s.phase) (eqb b 13) f))) k)
      (λ f. k))

  step_kept : (s : Scan) (b at : ℕ) → Kept s → Kept (step least most limit s b at)
  unfolding step
  step_kept s b at k =
      by-test Kept (past_numbers s.phase) (λ e. behind-kept s b at k) (λ e. byte-kept s b at k)

  scan-kept : (s : Scan) (at : ℕ) (line : List ℕ) → Kept s → Kept (scan least most limit s at line)
  unfolding scan
  scan-kept s at [] k = k
  scan-kept s at (b ∷ line) k = scan-kept (step least most limit s b at) (suc at) line (step_kept s b at k)

  begin-kept : Kept begin
  begin-kept =
      record {
        few = omega arith;
        room = λ e. absurd (false≢true e);
        small = omega arith;
        each = each-replicate (λ n. n ≤ limit) 32 0 (omega arith);
        long = length-replicate {A = ℕ} 32 0;
        none = λ e. refl;
        whole = λ e. absurd (false≢true e);
      }

  -- at most `most` numbers, each at most the limit, and no number or at least `least`
  pub record Within (r : Row) : Type 0 where
    pub few : r.count ≤ min most 32
    pub each : Each (λ n. n ≤ limit) r.numbers
    pub long : length r.numbers ≡ 32
    pub whole : Whole r.count

  finish-kept : (s : Scan) (at : ℕ) → Kept s → Kept (finish least s at)
  unfolding finish
  finish-kept s at k = by-test Kept (past_numbers s.phase) (λ _. k) (λ _. ended-kept (settle s) at (settle-kept s k))

  -- a line that is read to its end has ended or is refused
  finish-late : (s : Scan) (at : ℕ) → past_numbers (finish least s at).phase ≡ true
  unfolding finish ended
  finish-late s at =
      by-test (λ (t : Scan). past_numbers t.phase ≡ true) (past_numbers s.phase) (λ e. e)
      (λ _. either (λ (t : Scan). past_numbers t.phase ≡ true) (at_start (settle s).phase || (behind_number (settle s).phase && leb least (settle s).count)) refl refl)

  outcome-in : (p : Phase) (s : Scan) → past_numbers p ≡ true → (counted p ≡ true → Whole s.count) → Kept s → IfOk (outcome_in p s) Within
  outcome-in Start s l w k = absurd (false≢true l)
  outcome-in BehindComma s l w k = absurd (false≢true l)
  outcome-in InNumber s l w k = absurd (false≢true l)
  outcome-in BehindNumber s l w k = absurd (false≢true l)
  outcome-in Comment s l w k = record { few = k.few; each = k.each; long = k.long; whole = w refl }
  outcome-in Ended s l w k = record { few = k.few; each = k.each; long = k.long; whole = w refl }
  outcome-in (Refused reason) s l w k = tt

  outcome-within : (s : Scan) → past_numbers s.phase ≡ true → Kept s → IfOk (outcome s) Within
  unfolding outcome
  outcome-within s l k = outcome-in s.phase s l k.whole k

  -- a line that is not refused
  pub row_within : (line : List ℕ) → IfOk (row_of least most limit line) Within
  unfolding row_of
  row_within line =
      let s = scan least most limit begin 0 line in
      outcome-within (finish least s (length line)) (finish-late s (length line)) (finish-kept s (length line) (scan-kept begin 0 line begin-kept))
