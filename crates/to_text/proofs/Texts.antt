-- The text of a field: its comment byte by byte, and which of the two it is. Assumes nothing.
use mathlib.Core.Path.{◌≡◌, refl, ap, ap₂, subst, ◌∙◌}
use mathlib.Core.List.{List, [], ◌∷◌, ◌++◌}
use mathlib.Core.Option.{Option, none, some}
use Prim.Native.Nat.{ℕ, zero, suc, ◌+◌, ◌*◌, ◌/◌, ◌%◌, ◌≤◌, ◌<◌}
use native.Mathlib.Numerals.{add-one}
use native.Mathlib.Omega.{arith}
use lib.Dec.{ltb}
use lib.ListN.{length, get_or, drop, drop_of_length-le, length-append}
use lib.Seq.{sets, drop-cons}
use borrow.Author.Tests.{lt-ltb, le-ltb, eq-eqb, ne_eqb}
use Rattle.lists.proofs.Bools.{and-false}
use Rattle.machine.specs.Wire as Wire
use Rattle.machine.specs.Wire.{decode}
use Rattle.wire.specs.declared.Call.{Call}
use Rattle.wire.specs.Asked.{asked}
use Rattle.lines.specs.Placed.{Placed, placed}
use Rattle.forms.specs.Forms.{tag_of, numbers_of, form_of}
use Rattle.forms.specs.Put.{Put, Written}
use Rattle.forms.proofs.Puts.{put_as, Putting, putting-start, putting-turn, putting-end, putting-most, put_then, put-placed}
use Rattle.translation.proofs.Writing.{put-into}
use Rattle.spelling.specs.Words.{name_of}
use Rattle.spelling.specs.Text.{item_text, items_text, line_form, line_of, line_into}
use Rattle.to_text.specs.Texts.{hex_digit, break_text, hex_text, hex_from, begin, comment, line_or, field_text}

-- ---- digits and breaks

pub digit_low : (d : ℕ) → d < 10 → 48 + d ≡ hex_digit d
unfolding hex_digit
digit_low d h = rw (lt-ltb d 10 h)

pub digit-high : (d : ℕ) → 10 ≤ d → 87 + d ≡ hex_digit d
unfolding hex_digit
digit-high d h = rw (le-ltb d 10 h)

pub break-first : (i : ℕ) → i ≡ 0 → [] ≡ break_text i
unfolding break_text
break-first i e = rw (e) refl

pub break-none : (i : ℕ) → (i % 32 ≡ 0 → ⊥) → [] ≡ break_text i
unfolding break_text
break-none i h = rw (ne_eqb (i % 32) 0 h, and-false (ltb 0 i)) refl

pub break-there : (i : ℕ) → (i ≡ 0 → ⊥) → i % 32 ≡ 0 → 10 ∷ 35 ∷ [] ≡ break_text i
unfolding break_text
break-there i h e = rw (lt-ltb 0 i (omega arith), eq-eqb (i % 32) 0 e) refl

pub hex-is : (b high low : ℕ) → high ≡ hex_digit (b / 16) → low ≡ hex_digit (b % 16) → 32 ∷ high ∷ low ∷ [] ≡ hex_text b
unfolding hex_text
hex-is b high low e f = ap₂ (λ (x y : ℕ). 32 ∷ x ∷ y ∷ []) e f

-- ---- a comment

pub hex-next : (bytes : List ℕ) (i : ℕ) → i < length bytes
    → hex_from i (drop i bytes) ≡ (break_text i ++ hex_text (get_or bytes i 0)) ++ hex_from (i + 1) (drop (i + 1) bytes)
unfolding hex_from
hex-next bytes i h = rw (drop-cons bytes i 0 h, add-one) refl

pub hex-none : (bytes : List ℕ) (i : ℕ) → length bytes ≤ i → hex_from i (drop i bytes) ≡ []
unfolding hex_from
hex-none bytes i h = rw (drop_of_length-le bytes {i = i} h) refl

-- the bytes in front of byte i are put
abbrev pub Hexing : List ℕ → ℕ → List ℕ → ℕ → ℕ → List ℕ → Type 0
Hexing out at bytes i to new = Putting out at (hex_from 0 bytes) (hex_from i (drop i bytes)) (5 * i) to new

module _ (out : List ℕ) (at : ℕ) (bytes : List ℕ) where
  pub hex-starts : Hexing out at bytes 0 at out
  hex-starts = putting-start out at (hex_from 0 bytes)

  module _ (i to : ℕ) (mid : List ℕ) (g : Hexing out at bytes i to mid) where
    pub hex-place : to ≤ at + 5 * i
    hex-place = omega (arith, g.put.behind, g.put.short)

    pub hex-goes : i < length bytes → (r : ℕ) (new : List ℕ) → Put mid to (break_text i ++ hex_text (get_or bytes i 0)) 5 r new → Hexing out at bytes (i + 1) r new
    hex-goes h r new p = putting-most (5 * (i + 1)) (omega arith) (putting-turn _ _ g (hex-next bytes i h) p)

    pub hex-ends : length bytes ≤ i → i ≤ length bytes → Put out at (hex_from 0 bytes) (5 * length bytes) to mid
    hex-ends h k = putting-end (5 * length bytes) (omega arith) (hex-none bytes i h) g

-- a comment from a place on, behind which there is room for it
module _ (out : List ℕ) (at : ℕ) (bytes : List ℕ) (room : at + (5 * length bytes + 14) ≤ length out) (p : ℕ) (a : List ℕ) (is : ◌≡◌ {A = Placed} (p, a) (placed begin out at)) where
  begun : Put out at begin 13 p a
  begun = put-placed 13 begin (omega arith) (omega arith) is

  pub comment-room : p + 5 * length bytes ≤ length a
  comment-room = omega (arith, begun.behind, begun.same)

  pub comment-put : (q r : ℕ) (b new : List ℕ) → Put a p (hex_from 0 bytes) (5 * length bytes) q b → ◌≡◌ {A = Placed} (r, new) (placed (10 ∷ []) b q)
      → Put out at (comment bytes) (5 * length bytes + 14) r new
  unfolding comment
  comment-put q r b new y z =
      put_as (5 * length bytes + 14) (omega arith) refl
      (put_then begin _ begun (put_then (hex_from 0 bytes) (10 ∷ []) y
      (put-placed 1 (10 ∷ []) (omega arith) (omega (arith, begun.behind, begun.same, y.behind, y.short, y.same)) z)))

-- ---- a field

items-long : (tag i : ℕ) (ns : List ℕ) → 1 ≤ length (items_text tag i ns)
unfolding items_text
items-long tag i [] = omega arith
items-long tag i (n ∷ ns) = omega (arith, items-long tag (suc i) ns, length-append (item_text tag i n) (items_text tag (suc i) ns))

form-long : (tag : ℕ) (ns : List ℕ) → (tag ≡ 0 → ⊥) → 1 ≤ length (line_form (tag, ns))
unfolding line_form
form-long zero ns h = absurd (h refl)
form-long (suc t) ns h = omega (arith, items-long (suc t) 0 ns, length-append (name_of (suc t)) (items_text (suc t) 0 ns))

tag-some : (c : Wire.Call) → tag_of c ≡ 0 → ⊥
unfolding tag_of
tag-some (Wire.HEAD h) e = omega arith
tag-some (Wire.POOL pool units mark) e = omega arith
tag-some (Wire.MEMBER m contribution expected) e = omega arith
tag-some (Wire.ROUND reserves) e = omega arith
tag-some (Wire.BID pool m units price) e = omega arith
tag-some Wire.CLOSE e = omega arith
tag-some (Wire.ALLOCATE pool price) e = omega arith
tag-some (Wire.TEAR pool price) e = omega arith
tag-some Wire.CALL e = omega arith
tag-some (Wire.PAY m amount) e = omega arith
tag-some (Wire.MOVE m) e = omega arith
tag-some (Wire.MISS m price) e = omega arith
tag-some Wire.FINISH e = omega arith
tag-some (Wire.SALE pool m price) e = omega arith
tag-some (Wire.WITHDRAW m n) e = omega arith

-- the line that is written of a call, or of none
abbrev written : Option Wire.Call → List ℕ
written o = line_form (form_of o)

-- there is one if and only if there is a call
text-some : (other : List ℕ) (o : Option Wire.Call) → (length (written o) ≡ 0 → ⊥) → written o ≡ line_or other o
unfolding form_of line_form line_of
text-some other none h = absurd (h refl)
text-some other (some c) h = refl

text-none : (other : List ℕ) (o : Option Wire.Call) → length (written o) ≡ 0 → other ≡ line_or other o
unfolding form_of line_form
text-none other none h = refl
text-none other (some c) h = absurd (omega (arith, h, form-long (tag_of c) (numbers_of c) (tag-some c)))

no_text : (t : List ℕ) → length t ≡ 0 → t ≡ []
no_text [] e = refl
no_text (x ∷ t) e = absurd (omega arith)

module _ (field out mid : List ℕ) (at to : ℕ) (call : Call) (is : asked call ≡ decode field) (room : at + (5 * length field + 8192) ≤ length out)
    (put : ◌≡◌ {A = Written} (to, mid) (line_into (asked call) out at)) (few : to ≤ at + 8192) where
  line : Put out at (written (asked call)) 8192 to mid
  line = put-into 8192 (written (asked call)) out mid at to (omega arith) put few

  pub field-line : (to ≡ at → ⊥) → Put out at (field_text field) (5 * length field + 8192) to mid
  unfolding field_text
  field-line more =
      put_as (5 * length field + 8192) (omega arith)
      (text-some (comment field) (asked call) (λ e. more (omega (arith, line.behind, e))) ∙ ap (line_or (comment field)) is) line

  pub field-comment : to ≡ at → (new : List ℕ) (r : ℕ) → Put mid at (comment field) (5 * length field + 14) r new → Put out at (field_text field) (5 * length field + 8192) r new
  unfolding field_text
  field-comment none-there new r p =
      let empty : length (written (asked call)) ≡ 0 = omega (arith, line.behind) in
      let same : mid ≡ out = line.stored ∙ ap (sets out at) (no_text (written (asked call)) empty) in
      put_as (5 * length field + 8192) (omega arith) (text-none (comment field) (asked call) empty ∙ ap (line_or (comment field)) is)
      (subst (λ (l : List ℕ). Put l at (comment field) (5 * length field + 14) r new) same p)
