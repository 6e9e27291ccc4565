-- Document 01, "Examples": "The program `ledger` reads fields from standard input" and prints lines.
use Rattle.std.specs.Prelude.{List, [], ◌∷◌, ◌++◌, map, ℕ, zero, suc, ◌+◌, ◌*◌, ◌/◌, ◌%◌, ltb, length, take, drop}
use Rattle.std.proofs.Math.Option.{none}
use Rattle.lists.specs.Lists.{when◌then◌else◌, tab}
use Rattle.machine.specs.State.{State, Case, the_case, is_f}
use Rattle.machine.specs.Machine.{step}
use Rattle.machine.specs.Run.{Result, MemberResult, five_counts, result_of}

-- the fields of the input, each as its bytes. One that is "cut off by the input's end", of which "a lone tag counts" as one, is the last and
-- has what is left. Each field takes at least one byte, so the first argument, the length, is enough
unfoldable pub fields_in : ℕ → List ℕ → List (List ℕ)
fields_in zero input = []
fields_in (suc k) [] = []
fields_in (suc k) (tag ∷ []) = (tag ∷ []) ∷ []
fields_in (suc k) (tag ∷ high ∷ []) = (tag ∷ high ∷ []) ∷ []
fields_in (suc k) (tag ∷ high ∷ low ∷ rest) =
    let n = high * 256 + low in
    (tag ∷ high ∷ low ∷ take n rest) ∷ fields_in k (drop n rest)

-- a line: its letter, an ASCII code, and its numbers
pub record Line : Type 0 where
  pub letter : ℕ
  pub numbers : List ℕ

-- "s: tag, answer"
unfoldable pub s_line : List ℕ → ℕ → Line
s_line field n = record { letter = 115; numbers = take 1 field ++ (n ∷ []) }

-- "per pool given: pool, open, sold, allocated, moved, torn"
unfoldable pub p_line : Case → ℕ → Line
p_line c pool = record { letter = 112; numbers = pool ∷ five_counts c.roll pool }

-- "l: loss, six charges, uncovered"
unfoldable pub l_line : Result → Line
l_line r = record { letter = 108; numbers = r.loss ∷ r.charges ++ (r.uncovered ∷ []) }

-- "m: member, rank, charge on contribution, on payments"
unfoldable pub m_line : MemberResult → Line
m_line x = record { letter = 109; numbers = x.member ∷ x.rank ∷ x.on_contribution ∷ x.on_payments ∷ [] }

-- "At the input's end p .. After FINISH, l .. m"
unfoldable pub end_lines : State → List Line
end_lines s =
    let c = the_case s in
    tab (length c.pools) (p_line c)
    ++ (when is_f s then l_line (result_of c) ∷ map m_line (result_of c).members else [])

-- an s line for each field, and the lines of the end. A field that is cut off is answered 1, since it isn't exactly one field
unfoldable pub lines_from : State → List (List ℕ) → List Line
lines_from s [] = end_lines s
lines_from s (field ∷ fields) =
    let next = step s field in
    s_line field next.answer ∷ lines_from next.state fields

-- "in decimal throughout": n in at most k digits, with no leading 0
unfoldable pub decimal : ℕ → ℕ → List ℕ
decimal zero n = []
decimal (suc k) n =
    let more = decimal k (n / 10) in
    (when ltb n 10 then [] else more) ++ ((48 + n % 10) ∷ [])

-- each number behind a space, and the line's end
unfoldable pub numbers_text : List ℕ → List ℕ
numbers_text [] = 10 ∷ []
numbers_text (n ∷ ns) = 32 ∷ decimal 20 n ++ numbers_text ns

-- the text of lines
unfoldable pub text : List Line → List ℕ
text [] = []
text (l ∷ ls) = l.letter ∷ numbers_text l.numbers ++ text ls

-- what the program prints for an input
unfoldable pub printed : List ℕ → List ℕ
printed input = text (lines_from none (fields_in (length input) input))
