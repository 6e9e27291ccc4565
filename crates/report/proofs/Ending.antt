-- The lines of the end are those of the machine, and how many bytes they take at most. Assumes nothing.
use mathlib.Core.Path.{◌≡◌, refl, sym, ap, ap₂, subst, ◌∙◌}
use mathlib.Core.List.{List, [], ◌∷◌, ◌++◌, map}
use mathlib.Core.Option.{none, some}
use Prim.Native.Nat.{ℕ, ◌*◌, ◌≤◌}
use native.Mathlib.Omega.{arith}
use native.Mathlib.Nat.{suc-mul}
use lib.Dec.{eqb}
use lib.ListN.{length, length-append}
use Rattle.lists.specs.Lists.{when◌then◌else◌, tab}
use Rattle.lists.proofs.Bools.{either}
use Rattle.lists.proofs.Each.{Each, each-tab}
use Rattle.lists.proofs.Places.{length-tab, tab-ext}
use Rattle.sets.specs.Set.{members}
use Rattle.sets.proofs.Members.{members-few}
use Rattle.waterfall.proofs.Layers.{charged-length}
use Rattle.machine.specs.Roll.{Entry}
use Rattle.machine.specs.State as M
use Rattle.machine.specs.Run as Run
use Rattle.machine.specs.Printed.{Line, p_line, l_line, m_line, end_lines, text}
use Rattle.machine.proofs.Invariant.{CaseOk}
use Rattle.lines.specs.Placed.{line_text}
use Rattle.accounts.proofs.ViewPools.{length-view}
use Rattle.book.specs.Books.{requirement_in}
use Rattle.book.specs.Stages.{letter_of}
use Rattle.book.specs.Results.{limits_in, result_in}
use Rattle.book.specs.declared.Book.{Book}
use Rattle.book.specs.declared.Result.{Result}
use Rattle.book.proofs.Sound.{Sound}
use Rattle.case.specs.declared.Case.{Case}
use Rattle.case.specs.Cases.{Held, case_in}
use Rattle.case.specs.View.{view}
use Rattle.case.specs.Readings.{counts_in, member_result_in, shown_result}
use Rattle.case.proofs.Observations.{counts-at, result-shown}
use Rattle.case.proofs.Claim.{Tied}
use Rattle.report.specs.Texts.{p_line_of, l_line_of, m_line_of, result_lines, finish_lines, held_lines}
use Rattle.report.proofs.Placing.{text-append, text-line}
use Rattle.report.proofs.Widths.{line-most}
use Rattle.report.proofs.Lines.{result-lines, held-some, held_none}

-- ---- the lines

pools-shown : (c : Case) (roll : List Entry) → Sound c.stage c.book roll → CaseOk (view c roll)
    → tab c.book.pools.given (p_line_of c) ≡ tab (length (view c roll).pools) (p_line (view c roll))
unfolding p_line_of p_line
pools-shown c roll sound ok =
    tab-ext c.book.pools.given (p_line_of c) (p_line (view c roll))
    (λ pool l. ap (λ (ns : List ℕ). record { letter = 112; numbers = pool ∷ ns }) (counts-at c roll sound ok pool (omega (arith, sound.pools.few))))
    ∙ ap (λ (n : ℕ). tab n (p_line (view c roll))) (sym (length-view c.book.pools))

members-lines : (b : Book) (ms : List ℕ) → map (m_line_of (result_in b)) ms ≡ map m_line (map (member_result_in b) ms)
unfolding m_line_of m_line
members-lines b [] = refl
members-lines b (m ∷ ms) = ap (λ (ls : List Line). m_line_of (result_in b) m ∷ ls) (members-lines b ms)

-- l and m of a result
abbrev lines_of : Run.Result → List Line
lines_of r = l_line r ∷ map m_line r.members

shown-lines : (b : Book) → result_lines (result_in b) b.head.set ≡ lines_of (shown_result b)
unfolding result_lines l_line_of l_line shown_result
shown-lines b = ap (λ (ls : List Line). l_line_of (result_in b) ∷ ls) (members-lines b (members b.head.set))

finish-shown : (c : Case) (roll : List Entry) → Sound c.stage c.book roll → CaseOk (view c roll)
    → finish_lines c ≡ (when M.is_f (some (view c roll)) then lines_of (Run.result_of (view c roll)) else [])
unfolding finish_lines M.letter_of
finish-shown c roll sound ok =
    ap (λ (ls : List Line). when eqb (letter_of c.stage) 5 then ls else [])
    (shown-lines c.book ∙ ap lines_of (result-shown c roll sound ok))

-- what is held shows the machine's state, and so do its lines
pub ends-tied : (h : Held) (s : M.State) → Tied h s → held_lines h ≡ end_lines s
unfolding end_lines tab M.letter_of
ends-tied h none t = sym (held_none h t)
ends-tied h (some c) t =
    subst (λ (x : M.Case). held_lines h ≡ end_lines (some x)) t.shows
    (sym (held-some h t.present) ∙ ap₂ ◌++◌ (pools-shown (case_in h) c.roll t.sound t.ok) (finish-shown (case_in h) c.roll t.sound t.ok))

-- ---- their bytes

lines-most : (w : ℕ) (ls : List Line) → Each (λ l. length (line_text l) ≤ w) ls → length (text ls) ≤ length ls * w
unfolding text
lines-most w [] h = omega arith
lines-most w (l ∷ ls) h =
    omega (
      arith,
      ap length (text-line l ls),
      length-append (line_text l) (text ls),
      h.0,
      lines-most w ls h.1,
      suc-mul (length ls) w,
    )

p-most : (c : Case) (pool : ℕ) → length (line_text (p_line_of c pool)) ≤ 128
unfolding p_line_of counts_in tab
p-most c pool = omega (arith, line-most (p_line_of c pool))

m-most : (r : Result) (m : ℕ) → length (line_text (m_line_of r m)) ≤ 86
unfolding m_line_of
m-most r m = omega (arith, line-most (m_line_of r m))

l-most : (b : Book) → length (line_text (l_line_of (result_in b))) ≤ 170
unfolding l_line_of result_in limits_in
l-most b =
    let r = result_in b in
    omega (
      arith,
      line-most (l_line_of r),
      length-append r.charges (r.uncovered ∷ []),
      charged-length (requirement_in b) (limits_in b),
    )

members-most : (r : Result) (ms : List ℕ) → length (text (map (m_line_of r) ms)) ≤ length ms * 86
unfolding text
members-most r [] = omega arith
members-most r (m ∷ ms) =
    omega (
      arith,
      ap length (text-line (m_line_of r m) (map (m_line_of r) ms)),
      length-append (line_text (m_line_of r m)) (text (map (m_line_of r) ms)),
      m-most r m,
      members-most r ms,
    )

pools-most : (c : Case) → length (text (tab c.book.pools.given (p_line_of c))) ≤ c.book.pools.given * 128
pools-most c =
    let n = c.book.pools.given in
    omega (
      arith,
      lines-most 128 (tab n (p_line_of c)) (each-tab (λ l. length (line_text l) ≤ 128) n (p_line_of c) (λ k h. p-most c k)),
      length-tab n (p_line_of c),
    )

finish-most : (c : Case) → length (text (finish_lines c)) ≤ 2922
unfolding finish_lines text
finish-most c =
    let b = c.book in
    let set = b.head.set in
    let ms = map (m_line_of (result_in b)) (members set) in
    either (λ (ls : List Line). length (text ls) ≤ 2922) (eqb (letter_of c.stage) 5)
    (omega (
      arith,
      ap length (ap text (sym (result-lines (result_in b) set)) ∙ text-line (l_line_of (result_in b)) ms),
      length-append (line_text (l_line_of (result_in b))) (text ms),
      l-most b,
      members-most (result_in b) (members set),
      members-few set,
    ))
    (omega arith)

-- the lines of the end have at most 3,434 bytes
pub held-most : (h : Held) (s : M.State) → Tied h s → length (text (held_lines h)) ≤ 3434
unfolding text
held-most h none t = omega (arith, ap (λ (ls : List Line). length (text ls)) (held_none h t))
held-most h (some c) t =
    let b = (case_in h).book in
    let ps = tab b.pools.given (p_line_of (case_in h)) in
    omega (
      arith,
      ap (λ (ls : List Line). length (text ls)) (held-some h t.present),
      ap length (text-append ps (finish_lines (case_in h))),
      length-append (text ps) (text (finish_lines (case_in h))),
      pools-most (case_in h),
      finish-most (case_in h),
      length-view b.pools,
      t.ok.pools.few,
      t.ok.head.pools-most,
    )
