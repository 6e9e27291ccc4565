-- What is known of a line while it is read from the left, one byte at a time.
use Rattle.std.specs.Prelude.{ℕ, ◌+◌, Bool, true, false, min, set, replicate}
use Rattle.rows.specs.declared.Reason.{Reason}
use Rattle.rows.specs.declared.Phase.{Phase}
use Rattle.rows.specs.declared.Phase.TheVariants.{Start, BehindComma, InNumber, BehindNumber, Comment, Ended, Refused}
use Rattle.rows.specs.declared.Scan.{Scan}

-- a line begins: no byte is read but blanks
abbrev pub at_start : Phase → Bool
at_start Start = true
at_start _ = false

-- a number is to come
abbrev pub awaits_number : Phase → Bool
awaits_number Start = true
awaits_number BehindComma = true
awaits_number _ = false

-- a number has begun and has not ended
abbrev pub within_number : Phase → Bool
within_number InNumber = true
within_number _ = false

-- a number has ended
abbrev pub behind_number : Phase → Bool
behind_number BehindNumber = true
behind_number _ = false

abbrev pub in_comment : Phase → Bool
in_comment Comment = true
in_comment _ = false

abbrev pub has_ended : Phase → Bool
has_ended Ended = true
has_ended _ = false

-- no number and no comma is to come any more
abbrev pub past_numbers : Phase → Bool
past_numbers Comment = true
past_numbers Ended = true
past_numbers (Refused reason) = true
past_numbers _ = false

-- nothing is read
abbrev pub begin : Scan
begin = record { phase = Start; start = 0; value = 0; count = 0; numbers = replicate 32 0 }

-- a phase begins at a place
abbrev pub with_phase : Scan → Phase → (place : ℕ) → Scan
with_phase s p at = record { phase = p; start = at; value = s.value; count = s.count; numbers = s.numbers }

-- in a number that began at a place, with its value so far
abbrev pub in_number : Scan → (place value : ℕ) → Scan
in_number s at v = record { phase = InNumber; start = at; value = v; count = s.count; numbers = s.numbers }

-- the number is read
abbrev pub stored : Scan → Scan
stored s =
    record {
      phase = BehindNumber;
      start = s.start;
      value = s.value;
      count = min (s.count + 1) 32;
      numbers = set s.numbers s.count s.value;
    }

-- the line is refused at a place, for a reason
abbrev pub refused : Scan → (place : ℕ) → Reason → Scan
refused s at reason = record { phase = Refused reason; start = at; value = s.value; count = s.count; numbers = s.numbers }
