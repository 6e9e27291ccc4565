-- The parts of a turn, and what holds after each turn: laws that the proofs of the functions cite. Assumes nothing.
use Rattle.std.proofs.Common.{◌≡◌, ℕ, ◌+◌, ◌%◌, ◌^◌, ◌<◌, ◌≤◌, false, not, eqb, List, ◌++◌, length, get_or, take, drop, sym, refl, ap, ◌∙◌, arith, length-append, eqb-true}
use borrow.Author.Tests.{not-false}
use Rattle.input.specs.Pieces.{pieces}
use Rattle.input.proofs.Pieces.{Passing, passing-starts}
use Rattle.feed.specs.Feeds.{Slides}
use Rattle.feed.proofs.Turning.{fed-turn as turn-fed}
use Rattle.translation.proofs.Writing.{part-within, part-some, part-goes, part-ends}
use Rattle.translation.proofs.Turning.{turn-keeps, fed-first}
use Rattle.text_lines.specs.Lines.{line_size}
use Rattle.text_lines.proofs.Parts.{lines-apart, rest_then, rest-short}
use Rattle.to_fields.specs.declared.Part.{Part}
use Rattle.to_fields.specs.declared.Wrote.{Wrote}
use Rattle.to_fields.specs.declared.Turn.{Turn}
use Rattle.to_fields.specs.Lines.{line_field, refused_line, good_size, good_lines, rest}
use Rattle.to_fields.specs.Turns.{WritesLines, stops_at, WritesAllLines, TakesTurn, Counts, FedTo}
use Rattle.to_fields.proofs.Sizes.{good-most}

-- ---- the lines of some bytes, part by part

-- the number of lines after some more
abbrev after : ℕ → List (List ℕ) → ℕ
after n lines = (n + length lines) % 2 ^ 64

after_two : (n : ℕ) (ps qs : List (List ℕ)) → after n (ps ++ qs) ≡ after (after n ps) qs
after_two n ps qs = omega (arith, length-append ps qs)

-- the lines in front of a place are written and counted
abbrev pub Passed : ℕ → List ℕ → ℕ → ℕ → Type 0
Passed first input lines used = Passing (good_size false) (good-most false) after first input lines used

pub passed_none : (first : ℕ) (input : List ℕ) → Passed first input first 0
passed_none first input = passing-starts (good_size false) (good-most false) after first input

module _ (first : ℕ) (input part old new : List ℕ) (lines used : ℕ) (r : Part) (g : Passed first input lines used) (lends : part ≡ drop used input)
    (w : WritesLines false part old new r) where
  pub passed-within : used + r.used ≤ length input
  passed-within = part-within (good_size false) (good-most false) after first input lines used g line_field _ part old new r.count r.used r.written lends w

  pub passed-some : r.count ≤ r.used
  passed-some = part-some (good_size false) (good-most false) after first input lines used g line_field _ part old new r.count r.used r.written lends w

  pub passed-goes : (next : ℕ) → next ≡ (lines + r.count) % 2 ^ 64 → Passed first input next (used + r.used)
  passed-goes next e =
      part-goes (good_size false) (good-most false) after first input lines used g line_field _ part old new r.count r.used r.written lends w after_two next
      (e ∙ ap (λ (k : ℕ). (lines + k) % 2 ^ 64) (sym w.there))

  pub passed-all : 64 ≤ length old → r.count ≡ 0 → (next : ℕ) → next ≡ line_size false part
      → WritesAllLines first input (record { used = used; lines = lines; refused = not (eqb next 0) })
  passed-all room none-there next is =
      let e =
      part-ends (good_size false) (good-most false) after first input lines used g line_field _ part old new r.count r.used r.written lends w room none-there in
      record {
        wrote = record { within = g.place; all = λ z. e.1 };
        lines = omega (arith, e.0);
        refused = ap (λ (n : ℕ). not (eqb n 0)) (is ∙ ap (line_size false) (lends ∙ ap (λ (n : ℕ). drop n input) e.1));
      }

-- ---- a turn

pub turns : (first : ℕ) (buf buf' part : List ℕ) (end n : ℕ) (r : Wrote) → end ≤ length buf → part ≡ take end buf → WritesAllLines first part r
    → Slides r.used end buf buf' n
    → TakesTurn first (take end buf) buf buf' (record { len = n; lines = r.lines; refused = r.refused })
turns first buf buf' part end n r inside lends wrote slid =
    record {
      keeps = turn-keeps (good_size false) (good-most false) buf buf' part end r.used n false inside lends wrote.wrote slid refl;
      lines = wrote.lines ∙ ap (λ (s : List ℕ). (first + length (good_lines s)) % 2 ^ 64) lends;
      refused = wrote.refused ∙ ap stops_at lends;
    }

-- ---- after each turn

pub fed-none : (buf : List ℕ) → FedTo buf 0 0
unfolding pieces
fed-none buf = fed-first (good_size false) (good-most false) (λ s. Counts 0 (length (good_lines s))) buf refl

-- a turn over the bytes that are kept and those that came behind them
module _ (buf next after : List ℕ) (lines len more : ℕ) (r : Turn) (f : FedTo buf lines len) (same : take len next ≡ take len buf)
    (small : (k : ℕ) → get_or next k 0 < 256) (turn : TakesTurn lines (take (len + more) next) next after r) where
  pub fed-turn : FedTo after r.lines r.len
  fed-turn =
      turn-fed rest (λ s. Counts lines (length (good_lines s))) (λ s. Counts r.lines (length (good_lines s))) (rest_then refused_line) buf next after len more r.len f same small
      turn.keeps
      (λ s t was e.
      let all : length (good_lines (s ++ t)) ≡ length (good_lines s) + length (good_lines (take (len + more) next)) =
      ap length (lines-apart refused_line s t) ∙ length-append (good_lines s) (good_lines (rest s ++ t))
      ∙ ap (λ (l : List ℕ). length (good_lines s) + length (good_lines l)) (sym e) in
      omega (arith, turn.lines, was, all))

  -- no line is refused: what is kept leaves room
  pub turn-room : r.refused ≡ false → r.len ≤ 65536
  turn-room on =
      let bytes = take (len + more) next in
      let none-there : line_size false (rest bytes) ≡ 0 = eqb-true (line_size false (rest bytes)) 0 (not-false _ (sym turn.refused ∙ on)) in
      omega (arith, turn.keeps.len, rest-short refused_line bytes none-there)
