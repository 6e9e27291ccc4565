-- What is said to a question about a case, and the text of it in a lent buffer. Letters are given by their ASCII codes.
use Rattle.std.specs.Prelude.{◌≡◌, Bool, true, false, List, [], ◌∷◌, ◌++◌, ℕ, eqb, leb, length, Result, Ok, Err}
use Rattle.std.proofs.lemmas.List.Edits.{sets}
use Rattle.lists.specs.Lists.{when◌then◌else◌, Each, Bytes}
use Rattle.machine.specs.Printed.{decimal}
use Rattle.reserves.specs.Reserves.{SameButReserves}
use Rattle.input.specs.Fields.{rest}
use Rattle.case.specs.Cases.{Held}
use Rattle.case.specs.Readings.{reading_in}
use Rattle.case.specs.Cases.{no_held}
use Rattle.case.specs.Input.{ledger_after, HeldAfter}
use Rattle.spelling.specs.Text.{money_text}
use Rattle.feed.specs.Feeds.{Fed}
use Rattle.asking.specs.Questions.{requirement_word}
use Rattle.asking.specs.declared.Question.{Question}
use Rattle.asking.specs.declared.Question.TheVariants.{Requirement, Unknown}
use Rattle.asking.specs.declared.Rest.{Rest}
use Rattle.asking.specs.declared.Told.{Told}

-- ---- texts

-- "ask: refused "
abbrev pub refused_words : List ℕ
refused_words = 97 ∷ 115 ∷ 107 ∷ 58 ∷ 32 ∷ 114 ∷ 101 ∷ 102 ∷ 117 ∷ 115 ∷ 101 ∷ 100 ∷ 32 ∷ []

-- "there is no case"
abbrev pub no_case : List ℕ
no_case =
    116 ∷ 104 ∷ 101 ∷ 114 ∷ 101 ∷ 32 ∷ 105 ∷ 115 ∷ 32 ∷ 110 ∷ 111 ∷ 32 ∷ 99 ∷ 97 ∷ 115 ∷ 101 ∷ []

-- "ask: not answered, since the input ends within a field" and a line's end
abbrev pub cut_text : List ℕ
cut_text =
    97 ∷ 115 ∷ 107 ∷ 58 ∷ 32 ∷ 110 ∷ 111 ∷ 116 ∷ 32 ∷ 97 ∷ 110 ∷ 115 ∷ 119 ∷ 101 ∷ 114 ∷ 101 ∷ 100 ∷ 44 ∷ 32 ∷ 115 ∷ 105 ∷ 110 ∷ 99 ∷ 101
    ∷ 32 ∷ 116 ∷ 104 ∷ 101 ∷ 32 ∷ 105 ∷ 110 ∷ 112 ∷ 117 ∷ 116 ∷ 32 ∷ 101 ∷ 110 ∷ 100 ∷ 115 ∷ 32 ∷ 119 ∷ 105 ∷ 116 ∷ 104 ∷ 105 ∷ 110 ∷ 32 ∷ 97
    ∷ 32 ∷ 102 ∷ 105 ∷ 101 ∷ 108 ∷ 100 ∷ 10 ∷ []

-- "usage: ask requirement < FIELDS" and a line's end
abbrev pub usage_text : List ℕ
usage_text =
    117 ∷ 115 ∷ 97 ∷ 103 ∷ 101 ∷ 58 ∷ 32 ∷ 97 ∷ 115 ∷ 107 ∷ 32 ∷ 114 ∷ 101 ∷ 113 ∷ 117 ∷ 105 ∷ 114 ∷ 101 ∷ 109 ∷ 101 ∷ 110 ∷ 116 ∷ 32 ∷ 60
    ∷ 32 ∷ 70 ∷ 73 ∷ 69 ∷ 76 ∷ 68 ∷ 83 ∷ 10 ∷ []

-- "requirement 430.00"
unfoldable pub requirement_text : ℕ → List ℕ
requirement_text cents = (requirement_word ++ (32 ∷ [])) ++ (money_text cents ++ (10 ∷ []))

-- why a question is refused by a number: "with no case the reading is declined by 2"
unfoldable pub sentence : ℕ → List ℕ
sentence n = when eqb n 2 then no_case else []

-- "ask: refused 2: "
unfoldable pub refused_by : ℕ → List ℕ
refused_by n = refused_words ++ (decimal 20 n ++ (58 ∷ 32 ∷ []))

-- "ask: refused 2: there is no case"
unfoldable pub refusal_text : ℕ → List ℕ
refusal_text n = refused_by n ++ (sentence n ++ (10 ∷ []))

-- ---- what is said

-- a text, and whether it is the answer to the question
abbrev pub Said : Type 0
Said = Bool × List ℕ

-- the requirement, or the refusal
unfoldable pub reading_said : Result ℕ ℕ → Said
reading_said (Ok cents) = (true, requirement_text cents)
reading_said (Err n) = (false, refusal_text n)

-- of what is held; to what is no question, how to ask
unfoldable pub said_to : Question → Held → Said
said_to Requirement h = reading_said (reading_in h)
said_to Unknown h = (false, usage_text)

-- of what was read: nothing where a read failed, and no answer where the input ends within a field
unfoldable pub said_at : Question → Rest → Said
said_at q r = when r.ended then (when eqb r.len 0 then said_to q r.held else (false, cut_text)) else (false, [])

-- ---- where it stands

-- what is told, and what a buffer holds
abbrev pub Written : Type 0
Written = Told × List ℕ

-- the text at the front of a buffer, where it has 128 bytes, which no text passes
unfoldable pub told_into : Said → List ℕ → Written
told_into said out =
    when leb 128 (length out) then (record { good = said.0; len = length said.1 }, sets out 0 said.1) else (record { good = false; len = 0 }, out)

-- There are parts, those that were read, of which what is held and left is as `Fed` says; and what is told is what is said of it.
pub record Runs (q : Question) (out out' : List ℕ) (r : Told) : Type 0 where
  pub read : Rest
  pub kept : List ℕ
  pub fed : Fed rest (HeldAfter read.held) kept read.len
  pub is : ◌≡◌ {A = Written} (r, out') (told_into (said_at q read) out)

-- ---- document 02, C-17

-- over two lists of calls that are the same but for reserves, by which the same bids are valid, the question for the requirement is answered alike
abbrev pub SaysAlike : Type 0
SaysAlike =
    (calls others : List (List ℕ)) → Each Bytes calls → Each Bytes others → SameButReserves calls others
    → said_to Requirement (ledger_after no_held calls) ≡ said_to Requirement (ledger_after no_held others)
