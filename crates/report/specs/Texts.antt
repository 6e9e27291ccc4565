-- The printed text of the program's run, over its own structs: the lines of document 01 (`machine.specs.Printed`) of what is held, the s lines of
-- a part of an input, and what a lent buffer holds after lines are put into it.
use Rattle.std.specs.Prelude.{is_some}
use Rattle.std.specs.Prelude.{◌≡◌, Bool, List, [], ◌∷◌, ◌++◌, map, ℕ, zero, suc, ◌+◌, ◌*◌, ◌≤◌, leb, eqb, length, get_or}
use Rattle.std.proofs.lemmas.List.Edits.{sets}
use Rattle.lists.specs.Lists.{when◌then◌else◌, tab}
use Rattle.sets.specs.Set.{members}
use Rattle.machine.specs.Printed.{Line, s_line, text, printed}
use Rattle.lines.specs.Placed.{Placed, placed, line_text}
use Rattle.book.specs.Stages.{letter_of}
use Rattle.book.specs.Results.{result_in}
use Rattle.book.specs.declared.Result.{Result}
use Rattle.case.specs.declared.Case.{Case}
use Rattle.case.specs.Cases.{Held, case_in}
use Rattle.case.specs.Cases.{applied}
use Rattle.case.specs.Readings.{counts_in}
use Rattle.input.specs.Strings.{bytes_of}
use Rattle.input.specs.Fields.{whole}
use Rattle.case.specs.Input.{ledger_after}
use Rattle.report.specs.declared.Taken.{Taken}

-- ---- lines

-- "per pool given: pool, open, sold, allocated, moved, torn"
unfoldable pub p_line_of : Case → ℕ → Line
p_line_of c pool = record { letter = 112; numbers = pool ∷ counts_in c pool }

-- "l: loss, six charges, uncovered"
unfoldable pub l_line_of : Result → Line
l_line_of r = record { letter = 108; numbers = r.loss ∷ r.charges ++ (r.uncovered ∷ []) }

-- "m: member, rank, charge on contribution, on payments"
unfoldable pub m_line_of : Result → ℕ → Line
m_line_of r m =
    record { letter = 109; numbers = m ∷ get_or r.ranks m 0 ∷ get_or r.contributions m 0 ∷ get_or r.payments m 0 ∷ [] }

-- "l .. m", the members in order
unfoldable pub result_lines : Result → ℕ → List Line
result_lines r set = l_line_of r ∷ map (m_line_of r) (members set)

-- "After FINISH, l .. m"
unfoldable pub finish_lines : Case → List Line
finish_lines c = when eqb (letter_of c.stage) 5 then result_lines (result_in c.book) c.book.head.set else []

-- "At the input's end p .. After FINISH, l .. m"
unfoldable pub held_lines : Held → List Line
held_lines h =
    let c = case_in h in
    when is_some h then tab c.book.pools.given (p_line_of c) ++ finish_lines c else []

-- an s line for each call
unfoldable pub ledger_lines : Held → List (List ℕ) → List Line
ledger_lines h [] = []
ledger_lines h (call ∷ calls) = s_line call (applied h call).answer ∷ ledger_lines (applied h call).held calls

-- the s line of a field that is cut off by the input's end, of which these bytes are left; there is none where no byte is left
unfoldable pub cut_lines : List ℕ → List Line
cut_lines [] = []
cut_lines (tag ∷ rest) = s_line (tag ∷ []) 1 ∷ []

-- ---- a lent buffer

-- lines put into a buffer in turn from a place on, each where it fits; where there is room for all, this is their text (`lines_fit`)
unfoldable pub placed_lines : List Line → List ℕ → ℕ → Placed
placed_lines [] out at = (at, out)
placed_lines (l ∷ ls) out at =
    let p = placed (line_text l) out at in
    placed_lines ls p.1 p.0

-- ---- a part of an input

-- where field k begins, from where fields end
abbrev pub start_of : List ℕ → ℕ → ℕ
start_of ends zero = 0
start_of ends (suc k) = get_or ends k 0

-- the s lines of the first n fields of an input, from where they end and their answers
unfoldable pub answer_line : List ℕ → List ℕ → List ℕ → ℕ → Line
answer_line input ends answers k = s_line (get_or input (start_of ends k) 0 ∷ []) (get_or answers k 0)

-- what is taken, and what the buffer holds then
abbrev pub PartTaken : Type 0
PartTaken = Taken × List ℕ

-- the whole fields at the front of a part taken in turn, with their s lines in the buffer; nothing is taken where the buffer has less than
-- four times the part's bytes
unfoldable pub take_part : Held → List ℕ → List ℕ → PartTaken
take_part h input out =
    let fs = whole input in
    let t = text (ledger_lines h fs) in
    when leb (4 * length input) (length out) then (record { held = ledger_after h fs; used = bytes_of fs; written = length t }, sets out 0 t)
    else (record { held = h; used = 0; written = 0 }, out)

-- the contract of `take_part`: a part taken, of which the text is at most four times the bytes
pub record TakesPart (h : Held) (input old new : List ℕ) (r : Taken) : Type 0 where
  pub is : ◌≡◌ {A = PartTaken} (r, new) (take_part h input old)
  pub used : r.used ≤ length input
  pub short : r.written ≤ 4 * r.used
  pub fits : r.written ≤ length old

-- ---- a whole input

-- the bytes that are enough for the text of an input of n bytes
abbrev pub enough : ℕ → ℕ
enough n = 4 * n + 4096

-- the printed text of the machine's run over the input, at the front of the buffer, whether it is whole there, and its length; a buffer with less than enough is untouched
pub record Prints (input old new : List ℕ) (is_whole : Bool) (n : ℕ) : Type 0 where
  pub whole : is_whole ≡ leb (enough (length input)) (length old)
  pub len : n ≡ (when is_whole then length (printed input) else 0)
  pub text : new ≡ (when is_whole then sets old 0 (printed input) else old)
