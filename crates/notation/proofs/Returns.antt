-- A carriage return stands only at a line's end: a line with another byte behind one is refused. Assumes nothing.
use mathlib.Core.Path.{◌≡◌, refl, ap, ◌∙◌}
use mathlib.Core.Bool.{Bool, true, false, false≢true}
use mathlib.Core.List.{List, [], ◌∷◌, ◌++◌}
use Prim.Native.Nat.{ℕ, suc, ◌+◌}
use lib.ListN.{length}
use borrow.Author.Tests.{ne_eqb}
use Rattle.lists.proofs.Bools.{cases}
use Rattle.notation.specs.declared.Scan.{Scan}
use Rattle.notation.specs.declared.Reason.{Reason}
use Rattle.notation.specs.declared.Phase.{Phase}
use Rattle.notation.specs.declared.Phase.TheVariants.{Before, InName, Between, InKey, BeforeNumber, InNumber, BehindMinus, Ended, Refused, BehindReturn}
use Rattle.notation.specs.Scans.{was_refused, begin}
use Rattle.notation.specs.Reading.{returned, behind, byte_read, step, scan, outcome, read_line, is_refused}
use Rattle.notation.proofs.Numbers.{scan-append}

-- refused, or behind a carriage return
abbrev is_late : Phase → Bool
is_late (Refused reason) = true
is_late BehindReturn = true
is_late _ = false

-- a phase of a refused line has a reason
record IsFor (p : Phase) : Type 0 where
  pub reason : Reason
  pub is : p ≡ Refused reason

is_for : (p : Phase) → was_refused p ≡ true → IsFor p
is_for (Refused r) e = record { reason = r; is = refl }
is_for Before e = absurd (false≢true e)
is_for InName e = absurd (false≢true e)
is_for Between e = absurd (false≢true e)
is_for InKey e = absurd (false≢true e)
is_for BeforeNumber e = absurd (false≢true e)
is_for InNumber e = absurd (false≢true e)
is_for BehindMinus e = absurd (false≢true e)
is_for Ended e = absurd (false≢true e)
is_for BehindReturn e = absurd (false≢true e)

returned-late : (t : Scan) (i : ℕ) → is_late (returned t i).phase ≡ true
unfolding returned
returned-late t i = cases (was_refused t.phase) _ (λ e. rw e (ap is_late (is_for t.phase e).is)) (λ e. rw e refl)

-- behind a carriage return
return_late_in : (p : Phase) (t : Scan) (i : ℕ) → t.phase ≡ p → is_late (step t 13 i).phase ≡ true
unfolding step byte_read behind
return_late_in Before t i e = rw e (returned-late _ i)
return_late_in InName t i e = rw e (returned-late _ i)
return_late_in Between t i e = rw e (returned-late _ i)
return_late_in InKey t i e = rw e (returned-late _ i)
return_late_in BeforeNumber t i e = rw e (returned-late _ i)
return_late_in InNumber t i e = rw e (returned-late _ i)
return_late_in BehindMinus t i e = rw e (returned-late _ i)
return_late_in Ended t i e = rw e (returned-late _ i)
return_late_in (Refused r) t i e = rw e refl
return_late_in BehindReturn t i e = rw e refl

return-late : (t : Scan) (i : ℕ) → is_late (step t 13 i).phase ≡ true
return-late t i = return_late_in t.phase t i refl

-- a byte behind it
late_refused_in : (p : Phase) (s : Scan) (b i : ℕ) → s.phase ≡ p → is_late p ≡ true → (b ≡ 10 → ⊥) → was_refused (step s b i).phase ≡ true
unfolding step behind
late_refused_in Before s b i e h n = absurd (false≢true h)
late_refused_in InName s b i e h n = absurd (false≢true h)
late_refused_in Between s b i e h n = absurd (false≢true h)
late_refused_in InKey s b i e h n = absurd (false≢true h)
late_refused_in BeforeNumber s b i e h n = absurd (false≢true h)
late_refused_in InNumber s b i e h n = absurd (false≢true h)
late_refused_in BehindMinus s b i e h n = absurd (false≢true h)
late_refused_in Ended s b i e h n = absurd (false≢true h)
late_refused_in (Refused r) s b i e h n = rw e refl
late_refused_in BehindReturn s b i e h n = rw (e, ne_eqb b 10 n) refl

late-refused : (s : Scan) (b i : ℕ) → is_late s.phase ≡ true → (b ≡ 10 → ⊥) → was_refused (step s b i).phase ≡ true
late-refused s b i h n = late_refused_in s.phase s b i refl h n

-- a line that is refused stays so
stays-refused : (s : Scan) (b i : ℕ) → was_refused s.phase ≡ true → was_refused (step s b i).phase ≡ true
unfolding step behind
stays-refused s b i h = rw (is_for s.phase h).is refl

scan-refused : (s : Scan) (i : ℕ) (line : List ℕ) → was_refused s.phase ≡ true → was_refused (scan s i line).phase ≡ true
unfolding scan
scan-refused s i [] e = e
scan-refused s i (b ∷ line) e = scan-refused (step s b i) (suc i) line (stays-refused s b i e)

outcome-refused : (s : Scan) → was_refused s.phase ≡ true → is_refused (outcome s) ≡ true
unfolding outcome is_refused
outcome-refused s h = rw (is_for s.phase h).is refl

pub return_refused : (before : List ℕ) (b : ℕ) (after : List ℕ) → (b ≡ 10 → ⊥) → is_refused (read_line (before ++ (13 ∷ b ∷ after))) ≡ true
unfolding read_line scan
return_refused before b after n =
    let line = before ++ (13 ∷ b ∷ after) in
    let t = scan begin 0 before in
    let i = 0 + length before in
    let s = step (step t 13 i) b (suc i) in
    let e : was_refused (scan begin 0 line).phase ≡ true =
    ap (λ (u : Scan). was_refused u.phase) (scan-append begin 0 before (13 ∷ b ∷ after))
    ∙ scan-refused s (suc (suc i)) after (late-refused (step t 13 i) b (suc i) (return-late t i) n) in
    outcome-refused (step (scan begin 0 line) 10 (length line)) (stays-refused (scan begin 0 line) 10 (length line) e)
