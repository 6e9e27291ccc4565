-- What is known of a line while it is read from the left, one byte at a time.
use Rattle.std.specs.Prelude.{Bool, true, false, [], ◌∷◌, ℕ, ◌+◌, min, set}
use Rattle.notation.specs.declared.Scan.{Scan}
use Rattle.notation.specs.declared.Reason.{Reason}
use Rattle.notation.specs.declared.Phase.{Phase}
use Rattle.notation.specs.declared.Phase.TheVariants.{Before, InName, Between, InKey, BeforeNumber, InNumber, BehindMinus, Ended, Refused, BehindReturn}

-- ---- the phases, and tests of them

abbrev pub before_name : Phase → Bool
before_name Before = true
before_name _ = false

abbrev pub in_name : Phase → Bool
in_name InName = true
in_name _ = false

-- behind the name or a number
abbrev pub is_between : Phase → Bool
is_between Between = true
is_between _ = false

abbrev pub in_key : Phase → Bool
in_key InKey = true
in_key _ = false

abbrev pub before_number : Phase → Bool
before_number BeforeNumber = true
before_number _ = false

abbrev pub in_number : Phase → Bool
in_number InNumber = true
in_number _ = false

abbrev pub behind_minus : Phase → Bool
behind_minus BehindMinus = true
behind_minus _ = false

abbrev pub has_ended : Phase → Bool
has_ended Ended = true
has_ended _ = false

abbrev pub was_refused : Phase → Bool
was_refused (Refused reason) = true
was_refused _ = false

abbrev pub behind_return : Phase → Bool
behind_return BehindReturn = true
behind_return _ = false

-- the line has ended or is refused, or a carriage return stands behind its end
abbrev pub is_over : Phase → Bool
is_over Ended = true
is_over (Refused reason) = true
is_over BehindReturn = true
is_over _ = false

-- ---- what is known

-- nothing is read
abbrev pub begin : Scan
begin =
    record {
      phase = Before;
      tag = 0;
      item = 0;
      start = 0;
      value = 0;
      point = 0;
      minus = false;
      set = 0;
      numbers = 0 ∷ 0 ∷ 0 ∷ 0 ∷ 0 ∷ 0 ∷ 0 ∷ 0 ∷ [];
    }

abbrev pub with_phase : Scan → Phase → Scan
with_phase s p =
    record {
      phase = p;
      tag = s.tag;
      item = s.item;
      start = s.start;
      value = s.value;
      point = s.point;
      minus = s.minus;
      set = s.set;
      numbers = s.numbers;
    }

-- a word begins at a place, with a letter
abbrev pub in_word : Scan → Phase → (place letter : ℕ) → Scan
in_word s p at l =
    record {
      phase = p;
      tag = s.tag;
      item = s.item;
      start = at;
      value = l;
      point = s.point;
      minus = s.minus;
      set = s.set;
      numbers = s.numbers;
    }

-- the call is named
abbrev pub named : Scan → ℕ → Scan
named s tag =
    record {
      phase = Between;
      tag = tag;
      item = s.item;
      start = s.start;
      value = s.value;
      point = s.point;
      minus = s.minus;
      set = s.set;
      numbers = s.numbers;
    }

-- a letter or a digit more, and how many digits are behind the point
abbrev pub longer : Scan → (value point : ℕ) → Scan
longer s v point =
    record {
      phase = s.phase;
      tag = s.tag;
      item = s.item;
      start = s.start;
      value = v;
      point = point;
      minus = s.minus;
      set = s.set;
      numbers = s.numbers;
    }

-- a minus sign
abbrev pub negative : Scan → (place : ℕ) → Scan
negative s at =
    record {
      phase = BehindMinus;
      tag = s.tag;
      item = s.item;
      start = at;
      value = s.value;
      point = s.point;
      minus = true;
      set = s.set;
      numbers = s.numbers;
    }

-- the members of a set so far; another follows
abbrev pub gathered : Scan → ℕ → Scan
gathered s members =
    record {
      phase = BeforeNumber;
      tag = s.tag;
      item = s.item;
      start = s.start;
      value = s.value;
      point = s.point;
      minus = s.minus;
      set = members;
      numbers = s.numbers;
    }

-- a number is read, and the next may come
abbrev pub stored : Scan → ℕ → Scan
stored s n =
    record {
      phase = Between;
      tag = s.tag;
      item = min (s.item + 1) 8;
      start = s.start;
      value = s.value;
      point = 0;
      minus = false;
      set = 0;
      numbers = set s.numbers s.item n;
    }

-- the line is refused at a place, for a reason
abbrev pub refused : Scan → (place : ℕ) → Reason → Scan
refused s at reason =
    record {
      phase = Refused reason;
      tag = s.tag;
      item = s.item;
      start = at;
      value = s.value;
      point = s.point;
      minus = s.minus;
      set = s.set;
      numbers = s.numbers;
    }
