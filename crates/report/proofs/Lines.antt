-- The numbers that are handed to `lines::write_line` are those of the lines. Assumes nothing.
use Rattle.std.specs.Prelude.{is_some}
use Rattle.std.specs.Prelude.{Some, None, slice_get}
use mathlib.Core.Path.{◌≡◌, refl, sym, ap, ◌∙◌}
use mathlib.Core.Bool.{Bool, true, false}
use mathlib.Core.List.{List, [], ◌∷◌, ◌++◌, map}
use Prim.Native.Nat.{ℕ}
use native.Mathlib.Omega.{arith}
use lib.ListN.{length, get_or}
use borrow.Author.Tests.{eq-eqb, ne_eqb}
use Rattle.lists.specs.Lists.{when◌then◌else◌, tab}
use Rattle.sets.specs.Set.{members}
use Rattle.machine.specs.Printed.{Line, s_line}
use Rattle.lines.specs.Placed.{line_of}
use Rattle.units.specs.Shown.{count_of}
use Rattle.book.specs.Stages.{letter_of}
use Rattle.book.specs.Results.{result_in}
use Rattle.book.specs.declared.Result.{Result}
use Rattle.case.specs.declared.Case.{Case}
use Rattle.case.specs.Cases.{Held, case_in}
use Rattle.case.specs.Readings.{counts_in}
use Rattle.report.specs.Texts.{p_line_of, l_line_of, m_line_of, cut_lines, result_lines, finish_lines, held_lines}

-- how many units of a pool are of a kind
abbrev counted : Case → ℕ → ℕ → ℕ
counted c pool kind = count_of c.book.units c.book.bids.pool pool kind

pub p-line : (c : Case) (pool a b d e f : ℕ) → a ≡ counted c pool 0 → b ≡ counted c pool 1 → d ≡ counted c pool 2 → e ≡ counted c pool 3 → f ≡ counted c pool 4
    → line_of 112 6 (pool ∷ a ∷ b ∷ d ∷ e ∷ f ∷ 0 ∷ 0 ∷ []) ≡ p_line_of c pool
unfolding p_line_of counts_in tab
p-line c pool a b d e f p q r s t = λ i. record { letter = 112; numbers = pool ∷ p i ∷ q i ∷ r i ∷ s i ∷ t i ∷ [] }

-- the entries of a list of six
six : (xs : List ℕ) → length xs ≡ 6
    → xs ≡ get_or xs 0 0 ∷ get_or xs 1 0 ∷ get_or xs 2 0 ∷ get_or xs 3 0 ∷ get_or xs 4 0 ∷ get_or xs 5 0 ∷ []
six [] h = absurd (omega arith)
six (a ∷ []) h = absurd (omega arith)
six (a ∷ b ∷ []) h = absurd (omega arith)
six (a ∷ b ∷ c ∷ []) h = absurd (omega arith)
six (a ∷ b ∷ c ∷ d ∷ []) h = absurd (omega arith)
six (a ∷ b ∷ c ∷ d ∷ e ∷ []) h = absurd (omega arith)
six (a ∷ b ∷ c ∷ d ∷ e ∷ f ∷ []) h = refl
six (a ∷ b ∷ c ∷ d ∷ e ∷ f ∷ g ∷ xs) h = absurd (omega arith)

pub l-line : (r : Result) → length r.charges ≡ 6
    → line_of 108 8
    (r.loss ∷ get_or r.charges 0 0 ∷ get_or r.charges 1 0 ∷ get_or r.charges 2 0 ∷ get_or r.charges 3 0 ∷ get_or r.charges 4 0
    ∷ get_or r.charges 5 0
    ∷ r.uncovered
    ∷ [])
    ≡ l_line_of r
unfolding l_line_of
l-line r h = sym (ap (λ (xs : List ℕ). record { letter = 108; numbers = r.loss ∷ xs ++ (r.uncovered ∷ []) }) (six r.charges h))

pub m-line : (r : Result) (m a b d : ℕ) → a ≡ get_or r.ranks m 0 → b ≡ get_or r.contributions m 0 → d ≡ get_or r.payments m 0
    → line_of 109 4 (m ∷ a ∷ b ∷ d ∷ 0 ∷ 0 ∷ 0 ∷ 0 ∷ []) ≡ m_line_of r m
unfolding m_line_of
m-line r m a b d p q s = λ i. record { letter = 109; numbers = m ∷ p i ∷ q i ∷ s i ∷ [] }

pub s-line : (tag n : ℕ) → line_of 115 2 (tag ∷ n ∷ 0 ∷ 0 ∷ 0 ∷ 0 ∷ 0 ∷ 0 ∷ []) ≡ s_line (tag ∷ []) n
unfolding s_line
s-line tag n = refl

-- ---- the lines of a field that is cut off

pub cut-none : (s : List ℕ) → None ≡ slice_get s 0 → [] ≡ cut_lines s
unfolding cut_lines
cut-none [] e = refl
cut-none (x ∷ s) e = absurd (cc)

pub cut-some : (s : List ℕ) (tag : ℕ) → Some tag ≡ slice_get s 0 → s_line (tag ∷ []) 1 ∷ [] ≡ cut_lines s
unfolding cut_lines
cut-some [] tag e = absurd (cc)
cut-some (x ∷ s) tag e = let same : tag ≡ x = cc in rw same

-- ---- the lines of the end

pub result-lines : (r : Result) (set : ℕ) → l_line_of r ∷ map (m_line_of r) (members set) ≡ result_lines r set
unfolding result_lines
result-lines r set = refl

pub not-finished : (c : Case) (n : ℕ) → n ≡ letter_of c.stage → (n ≡ 5 → ⊥) → [] ≡ finish_lines c
unfolding finish_lines
not-finished c n e h = rw (ne_eqb (letter_of c.stage) 5 (λ f. h (e ∙ f)))

pub finished : (c : Case) (n : ℕ) → n ≡ letter_of c.stage → n ≡ 5 → (r : Result) → r ≡ result_in c.book → result_lines r c.book.head.set ≡ finish_lines c
unfolding finish_lines
finished c n e h r f = rw (eq-eqb (letter_of c.stage) 5 (sym e ∙ h), f)

abbrev pub present_lines : Held → List Line
present_lines h = tab (case_in h).book.pools.given (p_line_of (case_in h)) ++ finish_lines (case_in h)

pub held-some : (h : Held) → is_some h ≡ true → present_lines h ≡ held_lines h
unfolding held_lines
held-some h e = sym (ap (λ (t : Bool). when t then present_lines h else []) e)

pub held_none : (h : Held) → is_some h ≡ false → [] ≡ held_lines h
unfolding held_lines
held_none h e = sym (ap (λ (t : Bool). when t then present_lines h else []) e)
