-- The members that a word names, and the text of the shares. Assumes nothing.
use Rattle.std.proofs.Common.{◌≡◌, ℕ, ◌+◌, ◌%◌, ◌^◌, ◌<◌, ◌≤◌, List, [], ◌∷◌, ◌++◌, length, get_or, take, fold, sym, ap, subst, ◌∙◌, add-one, add_assoc, arith, take-suc}
use Rattle.lists.specs.Lists.{sum, tab, joined, Each}
use Rattle.lists.proofs.Joined.{joined-more, foldl-more}
use Rattle.lists.proofs.Places.{tab-last}
use Rattle.machine.specs.Printed.{decimal}
use Rattle.sets.specs.Set.{with_member}
use Rattle.std.specs.Prelude.{Result, Ok, IfOk}
use Rattle.rows.specs.declared.Row.{Row}
use Rattle.rows.specs.declared.Refusal.{Refusal}
use Rattle.rows.specs.Reading.{row_of}
use Rattle.rows.proofs.Limits.{Within, row_within}
use Rattle.forms.specs.Put.{Put}
use Rattle.forms.proofs.Puts.{put_then, put_as}
use Rattle.expected.specs.Words.{set_of}
use Rattle.expected.specs.Shares.{member_word, expected_word, total_word, line_end, member_text, place_text, members_text, shares_text}

-- ---- the set of some numbers

pub set-turn : (numbers : List ℕ) (i : ℕ) → i < length numbers → with_member (set_of (take i numbers)) (get_or numbers i 0) ≡ set_of (take (i + 1) numbers)
unfolding set_of
set-turn numbers i l = sym (foldl-more with_member 0 (take i numbers) (get_or numbers i 0)) ∙ rw (add-one i, take-suc numbers i 0 l)

-- the numbers of a word are few enough and fit a place of a set
pub members-within : (word : List ℕ) (row : Row) → Ok row ≡ row_of 1 32 31 word → (row.count ≤ 32) × Each (λ n. n ≤ 31) row.numbers
members-within word row e =
    let w : Within 1 32 31 row = subst (λ (r : Result Row Refusal). IfOk r (Within 1 32 31)) (sym e) (row_within 1 32 31 word) in
    (omega (arith, w.few), w.each)

-- ---- a sum in 64 bits

pub total-fold : (xs : List ℕ) (t a : ℕ) → t ≡ a % 2 ^ 64 → fold (λ (t x : ℕ). (t + x) % 2 ^ 64) t xs ≡ (a + sum xs) % 2 ^ 64
unfolding sum
total-fold [] t a h = omega (arith, h)
total-fold (x ∷ xs) t a h = total-fold xs ((t + x) % 2 ^ 64) (a + x) (omega (arith, h)) ∙ ap (λ (n : ℕ). n % 2 ^ 64) (add_assoc a x (sum xs))

-- ---- the lines of the members

pub lines-turn : (set : ℕ) (shares old out new : List ℕ) (m to r most : ℕ) → Put old 0 (joined (tab m (λ k. place_text set k (get_or shares k 0)))) most to out
    → Put out to (place_text set m (get_or shares m 0)) 88 r new → Put old 0 (joined (tab (m + 1) (λ k. place_text set k (get_or shares k 0)))) (most + 88) r new
lines-turn set shares old out new m to r most a b =
    put_as (most + 88) (omega arith)
    (sym (ap joined (ap (λ (k : ℕ). tab k (λ j. place_text set j (get_or shares j 0))) (add-one m) ∙ tab-last m (λ j. place_text set j (get_or shares j 0)))
    ∙ joined-more (tab m (λ j. place_text set j (get_or shares j 0))) (place_text set m (get_or shares m 0))))
    (put_then (joined (tab m (λ k. place_text set k (get_or shares k 0)))) (place_text set m (get_or shares m 0)) a b)

-- ---- lines of several pieces

pub member-text : {old o1 o2 o3 o4 new : List ℕ} {at p1 p2 p3 p4 r : ℕ} (m units : ℕ)
    → Put old at member_word 16 p1 o1 → Put o1 p1 (decimal 20 m) 20 p2 o2
    → Put o2 p2 expected_word 16 p3 o3 → Put o3 p3 (decimal 20 units) 20 p4 o4 → Put o4 p4 line_end 16 r new
    → Put old at (member_text m units) 88 r new
unfolding member_text
member-text m units a b c d e =
    put_then member_word (decimal 20 m ++ (expected_word ++ (decimal 20 units ++ line_end))) a
    (put_then (decimal 20 m) (expected_word ++ (decimal 20 units ++ line_end)) b
    (put_then expected_word (decimal 20 units ++ line_end) c
    (put_then (decimal 20 units) line_end d e)))

pub shares-text : {old o1 o2 o3 new : List ℕ} {p1 p2 p3 r : ℕ} (set : ℕ) (shares : List ℕ) (t : ℕ) → t ≡ sum shares % 2 ^ 64
    → Put old 0 (members_text set shares) 2816 p1 o1 → Put o1 p1 total_word 16 p2 o2 → Put o2 p2 (decimal 20 t) 20 p3 o3
    → Put o3 p3 line_end 16 r new → Put old 0 (shares_text set shares) 2868 r new
unfolding shares_text
shares-text set shares t h a b c d =
    rw (← h)
    (put_then (members_text set shares) (total_word ++ (decimal 20 t ++ line_end)) a
    (put_then total_word (decimal 20 t ++ line_end) b
    (put_then (decimal 20 t) line_end c d)))
