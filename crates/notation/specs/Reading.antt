-- A line of text as a call: one call a line, its name and then each number behind its key; '#' begins a comment. Capital and small letters are not told apart.
-- Money has a point and two digits behind it; units and counts have none. A line is read from the left, byte by byte, and refused at the first place at
-- which it can't be a call.
use Rattle.std.specs.Prelude.{Bool, true, false, ◌&&◌, ◌||◌, not, List, [], ◌∷◌, ℕ, suc, ◌+◌, ◌-◌, ◌*◌, ◌%◌, ◌^◌, min, eqb, leb, ltb, length, get_or}
use Rattle.std.proofs.Math.Option.{Option, none}
use Rattle.lists.specs.Lists.{when◌then◌else◌, between, one_if, tab}
use Rattle.lists.specs.Tests.{first_of}
use Rattle.auction.specs.Price.{zero_price}
use Rattle.sets.specs.Set.{with_member}
use Rattle.machine.specs.Wire as Wire
use Rattle.wire.specs.Asked.{asked}
use Rattle.wire.specs.declared.Call.{Call}
use Rattle.wire.specs.declared.Call.TheVariants.{Head as HeadCall, Pool, Member, Round, Bid, Close, Allocate, Tear, Call as CallCall, Pay, Move, Miss, Finish, Sale, Withdraw, Unknown}
use Rattle.forms.specs.Forms.{kind_of}
use Rattle.spelling.specs.Words.{key_of, name_of}
use Rattle.notation.specs.declared.Scan.{Scan}
use Rattle.notation.specs.declared.Reason.{Reason}
use Rattle.notation.specs.declared.Reason.TheVariants.{NotACall, WrongKey, WrongKind, TooLarge, CallComplete, CallUnfinished, CommaApart, NoSpace, NumberMissing, ReturnInside}
use Rattle.notation.specs.declared.Phase.{Phase}
use Rattle.notation.specs.declared.Phase.TheVariants.{Before, InName, Between, InKey, BeforeNumber, InNumber, BehindMinus, Ended, Refused as RefusedFor, BehindReturn}
use Rattle.notation.specs.declared.Read.{Read}
use Rattle.notation.specs.declared.Read.TheVariants.{Nothing, Called, Refused}
use Rattle.notation.specs.Scans.{before_name, in_name, is_between, in_key, before_number, in_number, behind_minus, has_ended, was_refused, behind_return, is_over, begin, with_phase, in_word, named, longer, negative, gathered, stored, refused}

-- a letter by its place in the alphabet, from 1 on; 0 is no letter
unfoldable pub letter_of : ℕ → ℕ
letter_of b = when between 65 90 b then b - 64 else when between 97 122 b then b - 96 else 0

-- a word or a number, with a letter or a digit more; what is longer than any word or number of the notation is 2^60
unfoldable pub grown : (base value digit : ℕ) → ℕ
grown base v d = when ltb v (2 ^ 55) then v * base + d else 2 ^ 60

-- a word as a number
unfoldable pub code_from : ℕ → List ℕ → ℕ
code_from v [] = v
code_from v (b ∷ w) = code_from (grown 32 v (letter_of b)) w

abbrev pub code_of : List ℕ → ℕ
code_of w = code_from 0 w

-- the key that is to come; 0 where none is
unfoldable pub key_code : ℕ → ℕ → ℕ
key_code tag i = code_of (key_of tag i)

-- the call that a word names; 0 is none
unfoldable pub tag_named : ℕ → ℕ
tag_named v = first_of (tab 15 (λ t. (suc t, eqb v (code_of (name_of (suc t))))))

-- the numbers of a kind are below this; that of a negative price is one more
unfoldable pub limit_of : ℕ → ℕ
limit_of kind = get_or (0 ∷ 2 ^ 8 ∷ 2 ^ 16 ∷ 32 ∷ 2 ^ 32 ∷ 2 ^ 31 ∷ []) kind 0

-- the number that is held of a value that is read: of members the set with one more, of a price the number that `Price` says
unfoldable pub number_of : (kind : ℕ) (minus : Bool) (set value : ℕ) → ℕ
number_of kind minus set value =
    when eqb kind 3 then with_member set (value % 2 ^ 8)
    else when eqb kind 5 then (when minus then 2 ^ 32 + zero_price - value else value + zero_price) % 2 ^ 32
    else value % 2 ^ 32

-- ---- what is not expected

-- why a byte is not expected where the reading has come to
abbrev pub strangeness_in : Phase → (tag item : ℕ) → Reason
strangeness_in Before tag i = NotACall
strangeness_in InName tag i = NotACall
strangeness_in InKey tag i = NoSpace
strangeness_in Between tag i =
    when eqb (kind_of tag i) 0 then CallComplete
    else when eqb (key_code tag i) 0 then CommaApart
    else WrongKey
strangeness_in _ tag i = WrongKind

unfoldable pub strangeness : Scan → Reason
strangeness s = strangeness_in s.phase s.tag s.item

abbrev pub strange : Scan → (place : ℕ) → Scan
strange s at = refused s at (strangeness s)

-- ---- the end of a word or of a number

unfoldable pub settle_name : Scan → Scan
settle_name s = when eqb (tag_named s.value) 0 then refused s s.start NotACall else named s (tag_named s.value)

unfoldable pub settle_key : Scan → Scan
settle_key s = when eqb s.value (key_code s.tag s.item) then with_phase s BeforeNumber else refused s s.start WrongKey

-- money has two digits behind its point
unfoldable pub settle_number : Scan → Scan
settle_number s =
    when leb 4 (kind_of s.tag s.item) && not (eqb s.point 3) then refused s s.start WrongKind
    else when ltb s.value (limit_of (kind_of s.tag s.item) + one_if s.minus)
    then stored s (number_of (kind_of s.tag s.item) s.minus s.set s.value)
    else refused s s.start TooLarge

-- a dash alone is the empty set
unfoldable pub settle_dash : Scan → Scan
settle_dash s = when eqb (kind_of s.tag s.item) 3 then stored s 0 else refused s s.start WrongKind

abbrev pub settle_in : Phase → Scan → Scan
settle_in InName s = settle_name s
settle_in InKey s = settle_key s
settle_in InNumber s = settle_number s
settle_in BehindMinus s = settle_dash s
settle_in _ s = s

unfoldable pub settle : Scan → Scan
settle s = settle_in s.phase s

-- ---- a byte, at a place of the line

unfoldable pub on_letter : Scan → (letter place : ℕ) → Scan
on_letter s l at =
    when before_name s.phase then in_word s InName at l
    else when in_name s.phase || in_key s.phase then longer s (grown 32 s.value l) s.point
    else when is_between s.phase then (when eqb (key_code s.tag s.item) 0 then strange s at else in_word s InKey at l)
    else strange s at

-- the digits behind the point, 1 more than there are; 0 where there is no point
unfoldable pub next_point : ℕ → ℕ
next_point p = when eqb p 0 then 0 else min (p + 1) 3

unfoldable pub more_digits : Scan → (digit place : ℕ) → Scan
more_digits s d at = when eqb s.point 3 then refused s at WrongKind else longer s (grown 10 s.value d) (next_point s.point)

unfoldable pub on_digit : Scan → (digit place : ℕ) → Scan
on_digit s d at =
    when before_number s.phase then in_word s InNumber at d
    else when in_number s.phase then more_digits s d at
    else when behind_minus s.phase && eqb (kind_of s.tag s.item) 5 then in_word s InNumber s.start d
    else strange s at

unfoldable pub on_minus : Scan → (place : ℕ) → Scan
on_minus s at =
    let kind = kind_of s.tag s.item in
    when before_number s.phase && (eqb kind 5 || (eqb kind 3 && eqb s.set 0)) then negative s at else strange s at

unfoldable pub on_point : Scan → (place : ℕ) → Scan
on_point s at =
    when in_number s.phase && (eqb s.point 0 && leb 4 (kind_of s.tag s.item)) then longer s s.value 1 else strange s at

-- a comma behind a member of a set
unfoldable pub on_member : Scan → Scan
on_member s = when ltb s.value 32 then gathered s (with_member s.set (s.value % 2 ^ 8)) else refused s s.start TooLarge

-- a comma behind a number, where the next has no key
unfoldable pub on_list : Scan → (place : ℕ) → Scan
on_list t at =
    when was_refused t.phase then t
    else when is_between t.phase && (eqb (key_code t.tag t.item) 0 && not (eqb (kind_of t.tag t.item) 0)) then with_phase t BeforeNumber
    else strange t at

-- no space stands before a comma
unfoldable pub on_comma : Scan → (place : ℕ) → Scan
on_comma s at =
    when is_between s.phase then refused s at CommaApart
    else when not (in_number s.phase) then strange s at
    else when eqb (kind_of s.tag s.item) 3 then on_member s
    else on_list (settle s) at

-- whether a call has all its numbers; ROUND has one to four
unfoldable pub complete : Scan → Bool
complete t = eqb (kind_of t.tag t.item) 0 || (eqb t.tag 4 && ltb 0 t.item)

-- the line's end
unfoldable pub ended : Scan → (place : ℕ) → Scan
ended t at =
    when was_refused t.phase then t
    else when before_name t.phase || (is_between t.phase && complete t) then with_phase t Ended
    else refused t at (when before_number t.phase then NumberMissing else CallUnfinished)

-- a carriage return, behind a line that has ended
unfoldable pub returned : Scan → (place : ℕ) → Scan
returned t at = when was_refused t.phase then t else in_word t BehindReturn at t.value

-- a byte behind the line's end. A carriage return stands only at the line's end, also in a comment
unfoldable pub behind : Scan → (byte place : ℕ) → Scan
behind s b at =
    when has_ended s.phase && eqb b 13 then returned s at
    else when behind_return s.phase && not (eqb b 10) then refused s s.start ReturnInside
    else s

-- a sign, a digit or a letter
unfoldable pub mark_read : Scan → (byte place : ℕ) → Scan
mark_read s b at =
    when eqb b 44 then on_comma s at
    else when eqb b 46 then on_point s at
    else when eqb b 45 then on_minus s at
    else when between 48 57 b then on_digit s (b - 48) at
    else when eqb (letter_of b) 0 then strange s at
    else on_letter s (letter_of b) at

-- a space or a tab; a comment or the line's end; a carriage return; another byte
unfoldable pub byte_read : Scan → (byte place : ℕ) → Scan
byte_read s b at =
    when eqb b 32 || eqb b 9 then settle s
    else when eqb b 35 || eqb b 10 then ended (settle s) at
    else when eqb b 13 then returned (ended (settle s) at) at
    else mark_read s b at

unfoldable pub step : Scan → (byte place : ℕ) → Scan
step s b at = when is_over s.phase then behind s b at else byte_read s b at

unfoldable pub scan : Scan → ℕ → List ℕ → Scan
scan s at [] = s
scan s at (b ∷ line) = scan (step s b at) (suc at) line

-- ---- the call

-- the call by its tag and the numbers that were read, each in its width
unfoldable pub call_of : (tag count : ℕ) → List ℕ → Call
call_of tag count ns =
    when eqb tag 1 then
    HeadCall (record {
      pools = get_or ns 0 0 % 2 ^ 8;
      least = get_or ns 1 0 % 2 ^ 16;
      set = get_or ns 2 0;
      hedge = get_or ns 3 0;
      other = get_or ns 4 0;
      margin = get_or ns 5 0;
      fund = get_or ns 6 0;
      house = get_or ns 7 0;
    })
    else when eqb tag 2 then Pool (get_or ns 0 0 % 2 ^ 8) (get_or ns 1 0 % 2 ^ 16) (get_or ns 2 0 % 2 ^ 8)
    else when eqb tag 3 then
    Member (get_or ns 0 0 % 2 ^ 8) (get_or ns 1 0) (get_or ns 2 0 % 2 ^ 16) (get_or ns 3 0 % 2 ^ 16) (get_or ns 4 0 % 2 ^ 16) (get_or ns 5 0 % 2 ^ 16)
    else when eqb tag 4 then Round (count % 2 ^ 8) (get_or ns 0 0) (get_or ns 1 0) (get_or ns 2 0) (get_or ns 3 0)
    else when eqb tag 5 then Bid (get_or ns 0 0 % 2 ^ 8) (get_or ns 1 0 % 2 ^ 8) (get_or ns 2 0 % 2 ^ 16) (get_or ns 3 0)
    else when eqb tag 6 then Close
    else when eqb tag 7 then Allocate (get_or ns 0 0 % 2 ^ 8) (get_or ns 1 0)
    else when eqb tag 8 then Tear (get_or ns 0 0 % 2 ^ 8) (get_or ns 1 0)
    else when eqb tag 9 then CallCall
    else when eqb tag 10 then Pay (get_or ns 0 0 % 2 ^ 8) (get_or ns 1 0)
    else when eqb tag 11 then Move (get_or ns 0 0 % 2 ^ 8)
    else when eqb tag 12 then Miss (get_or ns 0 0 % 2 ^ 8) (get_or ns 1 0)
    else when eqb tag 13 then Finish
    else when eqb tag 14 then Sale (get_or ns 0 0 % 2 ^ 8) (get_or ns 1 0 % 2 ^ 8) (get_or ns 2 0)
    else when eqb tag 15 then Withdraw (get_or ns 0 0 % 2 ^ 8) (get_or ns 1 0 % 2 ^ 16)
    else Unknown

abbrev pub outcome_in : Phase → Scan → Read
outcome_in (RefusedFor reason) s = Refused s.start reason s.tag s.item
outcome_in _ s = when eqb s.tag 0 then Nothing else Called (call_of s.tag s.item s.numbers)

unfoldable pub outcome : Scan → Read
outcome s = outcome_in s.phase s

-- a line, with or without its end
unfoldable pub read_line : List ℕ → Read
read_line line = outcome (step (scan begin 0 line) 10 (length line))

-- the call that a line was read as
unfoldable pub asked_by : Read → Option Wire.Call
asked_by Nothing = none
asked_by (Called call) = asked call
asked_by (Refused at reason tag item) = none

unfoldable pub is_refused : Read → Bool
is_refused Nothing = false
is_refused (Called _) = false
is_refused (Refused at reason tag item) = true
