-- The end of the fields: a field that is cut off, or those of the lines that are left. Assumes nothing.
use Rattle.std.proofs.Common.{Result, Ok, Err, IsErrAnd, ◌≡◌, ℕ, ◌≤◌, true, false, List, [], ◌∷◌, ◌++◌, length, take, drop, sym, ap, ◌∙◌, append-nil, arith}
use mathlib.Core.Bool.{false≢true}
use lib.Seq.{sets-eq, drop-length}
use Rattle.lists.specs.Lists.{joined}
use Rattle.lines.specs.Placed.{Placed, placed}
use Rattle.input.specs.Strings.{bytes_of}
use Rattle.input.specs.Pieces.{pieces, all_pieces, left_of}
use Rattle.input.proofs.Pieces.{fields-chunk}
use Rattle.feed.specs.declared.Failed.{Failed}
use Rattle.forms.specs.Put.{Put}
use Rattle.forms.proofs.Puts.{put_then, put-placed, joined-map-two}
use Rattle.translation.proofs.Writing.{put_front}
use Rattle.text_lines.proofs.Parts.{lines-all, lines-good}
use Rattle.to_fields.specs.declared.Part.{Part}
use Rattle.to_fields.specs.declared.Ending.{Ending}
use Rattle.to_fields.specs.Lines.{line_field, refused_line, fields_of, good_size, good_lines, rest}
use Rattle.to_fields.specs.Turns.{WritesLines, FedTo, CutOff, Finishes, Ends}
use Rattle.to_fields.proofs.Sizes.{good-most}

-- ---- a field that is cut off

-- tag 0 and the greatest length
abbrev begin : List ℕ
begin = 0 ∷ 255 ∷ 255 ∷ []

pub cut_off : (out mid new message : List ℕ) (p r : ℕ) → length message ≤ 512 → 515 ≤ length out → ◌≡◌ {A = Placed} (p, mid) (placed begin out 0)
    → ◌≡◌ {A = Placed} (r, new) (placed message mid p) → CutOff new r
cut_off out mid new message p r few room first second =
    let a : Put out 0 begin 3 p mid = put-placed 3 begin (omega arith) (omega arith) first in
    let b : Put mid p message 512 r new = put-placed 512 message few (omega (arith, a.behind, a.same)) second in
    let both = put_then begin message a b in
    record {
      front = ap (take 3) (both.stored ∙ sets-eq (begin ++ message) out 0 (omega (arith, both.short)));
      some = omega (arith, both.behind);
      short = omega (arith, both.behind);
      fits = omega (arith, both.behind, both.same);
    }

-- ---- the lines that are left

pub finish-cut : (left out : List ℕ) (n : ℕ) → CutOff out n → Finishes left out (record { good = false; len = n })
finish-cut left out n cut =
    record { all = λ e. absurd (false≢true e); last = λ e. absurd (false≢true e); cut = λ e. cut; fits = cut.fits }

pub finish-good : (left out new : List ℕ) (r : Part) → WritesLines true left out new r → r.used ≡ length left
    → Finishes left new (record { good = true; len = r.written })
unfolding pieces
finish-good left out new r w used =
    let size = good_size true in
    let ps = pieces size r.count left in
    let none_left : drop (bytes_of ps) left ≡ [] = ap (λ (n : ℕ). drop n left) (sym w.bytes ∙ used) ∙ drop-length left in
    let all : all_pieces size left ≡ ps =
    fields-chunk size (good-most true) r.count left ∙ ap (λ (l : List ℕ). ps ++ all_pieces size l) none_left ∙ append-nil ps in
    record {
      all = λ e. ap (λ (qs : List (List ℕ)). drop (bytes_of qs) left) all ∙ none_left;
      last = λ e. put_front (fields_of ps) out new r.written w.put ∙ ap fields_of (sym all);
      cut = λ e. absurd (false≢true (sym e));
      fits = omega (arith, w.put.behind, w.put.short, w.put.same);
    }

-- ---- the end

-- a write failed
pub ends-not : (out : List ℕ) (Q : Failed → Type 0) (r : Result Ending Failed) → IsErrAnd r Q → Ends out r
unfolding joined
ends-not out Q (Ok end) h = absurd h
ends-not out Q (Err e) h = record { parts = []; bytes = tt; all = tt; last = tt; cut = tt; fits = tt }

pub ends : (buf kept out : List ℕ) (lines len : ℕ) (r : Ending) → FedTo buf lines len → kept ≡ take len buf → Finishes kept out r → Ends out (Ok r)
ends buf kept out lines len r f lends end =
    let text = joined f.parts in
    let is : kept ≡ rest text = lends ∙ f.kept in
    let all : r.good ≡ true → left_of (good_size true) (rest text) ≡ [] = λ e. ap (left_of (good_size true)) (sym is) ∙ end.all e in
    record {
      parts = f.parts;
      bytes = f.bytes;
      all = λ e. lines-good refused_line text (all e);
      last = λ e.
          ap (λ (x : List ℕ). fields_of (good_lines text) ++ x) (end.last e ∙ ap (λ (s : List ℕ). fields_of (all_pieces (good_size true) s)) is)
          ∙ sym (joined-map-two line_field (good_lines text) (all_pieces (good_size true) (rest text)))
          ∙ ap fields_of (sym (lines-all refused_line text (all e)));
      cut = end.cut;
      fits = end.fits;
    }
