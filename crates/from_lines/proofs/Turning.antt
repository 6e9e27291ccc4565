-- The parts of a turn, and what holds after each turn: laws that the proofs of the functions cite. Assumes nothing.
use Rattle.std.proofs.Common.{◌≡◌, ℕ, ◌+◌, ◌%◌, ◌^◌, ◌<◌, ◌≤◌, Bool, false, not, eqb, List, [], ◌++◌, length, get_or, take, drop, sym, refl, ap, ◌∙◌, subst, append_assoc, append-nil, arith, length-append, length-take-le, eqb-true}
use lib.Seq.{drop-length}
use borrow.Author.Tests.{eqb-false, not-false}
use Rattle.lists.specs.Lists.{joined, Each}
use Rattle.lists.proofs.Bools.{cases}
use Rattle.input.specs.Strings.{bytes_of}
use Rattle.input.specs.Pieces.{pieces}
use Rattle.input.proofs.Pieces.{Passing, passing-starts}
use Rattle.forms.proofs.Puts.{joined-map-two}
use Rattle.feed.specs.Feeds.{Slides}
use Rattle.feed.proofs.Turning.{fed-turn as turn-fed}
use Rattle.translation.proofs.Writing.{put_front, part-within, part-some, part-goes, part-ends}
use Rattle.translation.proofs.Turning.{turn-keeps, fed-first}
use Rattle.text_lines.specs.Lines.{length_to, line_size}
use Rattle.text_lines.proofs.Parts.{good-most, each-good, lines-apart, rest_then, rest-short}
use Rattle.rows.specs.declared.Part.{Part}
use Rattle.rows.specs.Days.{refused_day, record_of, day_size, WritesDays}
use Rattle.positions.specs.Keeping.{Kept, no_days, Taken, taken, part_of}
use Rattle.positions.proofs.Parts.{first-days, first_then, no-days}
use Rattle.from_lines.specs.declared.Took.{Took}
use Rattle.from_lines.specs.declared.Rest.{Rest}
use Rattle.from_lines.specs.Turns.{records, good_lines, rest, stops_at, Counts, Leads, Holds, Adds, TakesDays, TakesAll, TakesTurn, After, FedTo}
use Rattle.from_lines.proofs.Whole.{lines-whole}

-- ---- numbers

-- the lines of a set are those of its number of members
pub same_count : (n k : ℕ) (last : Bool) (input old new : List ℕ) (r : Part) → k ≡ n → WritesDays k last input old new r → WritesDays n last input old new r
same_count n k last input old new r e w = subst (λ (j : ℕ). WritesDays j last input old new r) e w

counts-twice : (a : ℕ) → a % 2 ^ 64 % 2 ^ 64 ≡ a % 2 ^ 64
counts-twice a = omega arith

counts-in : (a k : ℕ) → (a + k) % 2 ^ 64 ≡ (a % 2 ^ 64 + k) % 2 ^ 64
counts-in a k = omega arith

counts-more : (first lines next a b k : ℕ) → next ≡ (lines + k) % 2 ^ 64 → Counts lines (first + a) → b ≡ a + k → Counts next (first + b)
counts-more first lines next a b k e was is =
    ap (λ (j : ℕ). j % 2 ^ 64) e
    ∙ counts-twice (lines + k)
    ∙ counts-in lines k
    ∙ ap (λ (j : ℕ). (j + k) % 2 ^ 64) was
    ∙ sym (counts-in (first + a) k)
    ∙ ap (λ (j : ℕ). j % 2 ^ 64) {x = first + a + k} {y = first + b} (omega arith)

-- ---- records behind records

-- the records of lines that are not refused are all taken
pub leads-whole : (n : ℕ) (x y : Kept) (bytes : List ℕ) (ps : List (List ℕ)) → bytes ≡ records n ps → Each (λ line. refused_day n line ≡ false) ps
    → TakesDays n x bytes y → 1 ≤ n → Leads n x bytes y
leads-whole n x y bytes ps is good e some =
    let w = lines-whole n some x ps good in
    let t = part_of n x bytes in
    let a : t.answer ≡ 0 = ap (λ (s : List ℕ). (part_of n x s).answer) is ∙ w.0 in
    let u : t.used ≡ length bytes = ap (λ (s : List ℕ). (part_of n x s).used) is ∙ w.1 ∙ ap length (sym is) in
    ap (λ (k : Kept). record { kept = k; used = t.used; answer = t.answer }) (sym e)
    ∙ ap (λ (k : ℕ). record { kept = y; used = k; answer = t.answer }) u
    ∙ ap (λ (k : ℕ). record { kept = y; used = length bytes; answer = k }) a

module _ (n : ℕ) where
  -- a run that was taken has members
  pub holds-some : (run : List ℕ) (x : Kept) → Holds n run x → 1 ≤ n
  unfolding part_of
  holds-some run x h =
      cases (eqb n 0) (1 ≤ n)
      (λ t. let bad : ◌≡◌ {A = ℕ} 5 0 = ap (λ (s : Taken). s.answer) (rw t at h) in absurd (omega arith))
      (λ t. let ne = eqb-false n 0 t in omega arith)

  pub holds_then : (run more : List ℕ) (x y : Kept) → Holds n run x → Leads n x more y → Holds n (run ++ more) y
  holds_then run more x y h l =
      let behind : Taken → Taken → Taken = λ s t. record { kept = t.kept; used = s.used + t.used; answer = t.answer } in
      let past : Taken = record { kept = x; used = length run; answer = 0 } in
      first_then n (holds-some run x h) run more (ap (λ (s : Taken). s.answer) h)
      ∙ ap (λ (s : Taken). behind s (part_of n s.kept (drop s.used run ++ more))) h
      ∙ ap (λ (s : List ℕ). behind past (part_of n x (s ++ more))) (drop-length run)
      ∙ ap (behind past) l
      ∙ ap (λ (k : ℕ). record { kept = y; used = k; answer = 0 }) (sym (length-append run more))

  pub holds-none : (x : Kept) → 1 ≤ n → x ≡ no_days → Holds n [] x
  unfolding taken
  holds-none x some e =
      first-days n some [] ∙ ap (taken n no_days 0) (no-days n some) ∙ ap (λ (k : Kept). record { kept = k; used = 0; answer = 0 }) (sym e)

  adds_none : (x : Kept) → Adds n x [] x
  unfolding joined
  adds_none x run h = rw (append-nil run) h

  adds-more : (x y z : Kept) (ps qs : List (List ℕ)) → Adds n x ps y → (1 ≤ n → Leads n y (records n qs) z) → Adds n x (ps ++ qs) z
  adds-more x y z ps qs a l run h =
      subst (λ (bytes : List ℕ). Holds n bytes z)
      (append_assoc run (records n ps) (records n qs) ∙ ap (λ (bytes : List ℕ). run ++ bytes) (sym (joined-map-two (record_of n) ps qs)))
      (holds_then (run ++ records n ps) (records n qs) y z (a run h) (l (holds-some run x h)))

  -- ---- the lines of some bytes, part by part

  -- the lines in front of a place are taken and counted
  pub record Passed (first : ℕ) (input : List ℕ) (x y : Kept) (lines used : ℕ) : Type 0 where
    pub done : List (List ℕ)
    pub passes : Passing (day_size n false) (good-most (refused_day n) false) (λ (a ps : List (List ℕ)). a ++ ps) [] input done used
    pub counts : Counts lines (first + length done)
    pub adds : Adds n x done y

  pub passed_none : (first : ℕ) (input : List ℕ) (x : Kept) → Passed first input x x first 0
  passed_none first input x =
      record {
        done = [];
        passes = passing-starts (day_size n false) (good-most (refused_day n) false) (λ (a ps : List (List ℕ)). a ++ ps) [] input;
        counts = ap (λ (k : ℕ). k % 2 ^ 64) {x = first} {y = first + 0} (omega arith);
        adds = adds_none x;
      }

  module _ (first : ℕ) (input part old new : List ℕ) (x y : Kept) (lines used : ℕ) (r : Part) (g : Passed first input x y lines used) (lends : part ≡ drop used input)
      (w : WritesDays n false part old new r) where
    abbrev after : List (List ℕ) → List (List ℕ) → List (List ℕ)
    after a ps = a ++ ps

    pub passed-within : used + r.used ≤ length input
    passed-within =
        part-within (day_size n false) (good-most (refused_day n) false) after [] input g.done used g.passes (record_of n) _ part old new r.count r.used r.written lends w

    pub passed-some : r.count ≤ r.used
    passed-some =
        part-some (day_size n false) (good-most (refused_day n) false) after [] input g.done used g.passes (record_of n) _ part old new r.count r.used r.written lends w

    pub passed-goes : (bytes : List ℕ) (z : Kept) (next : ℕ) → next ≡ (lines + r.count) % 2 ^ 64 → bytes ≡ take r.written new
        → TakesDays n y bytes z → Passed first input x z next (used + r.used)
    passed-goes bytes z next e lent took =
        let ps = pieces (day_size n false) r.count part in
        let is : bytes ≡ records n ps = lent ∙ put_front (records n ps) old new r.written w.put in
        record {
          done = g.done ++ ps;
          passes =
              part-goes (day_size n false) (good-most (refused_day n) false) after [] input g.done used g.passes (record_of n) _ part old new r.count r.used r.written lends w
              (λ a qs rs. sym (append_assoc a qs rs)) (g.done ++ ps) refl;
          counts =
              counts-more first lines next (length g.done) (length (g.done ++ ps)) r.count e g.counts
              (length-append g.done ps ∙ ap (λ (k : ℕ). length g.done + k) w.there);
          adds =
              adds-more x y z g.done ps g.adds
              (λ some.
              subst (λ (s : List ℕ). Leads n y s z) is
              (leads-whole n y z bytes ps is (each-good (refused_day n) false r.count part) took some));
        }

    pub passed-all : 128 ≤ length old → r.count ≡ 0 → (next : ℕ) → next ≡ line_size false part
        → TakesAll n first input x y (record { used = used; lines = lines; refused = not (eqb next 0) })
    passed-all room none-there next is =
        let e =
        part-ends (day_size n false) (good-most (refused_day n) false) after [] input g.done used g.passes (record_of n) _ part old new r.count r.used r.written lends w room none-there in
        let all : g.done ≡ good_lines n input = sym (append-nil g.done) ∙ e.0 in
        record {
          took = record { within = g.passes.place; all = λ z. e.1 };
          lines = g.counts ∙ ap (λ (ps : List (List ℕ)). (first + length ps) % 2 ^ 64) all;
          adds = subst (λ (ps : List (List ℕ)). Adds n x ps y) all g.adds;
          refused = ap (λ (k : ℕ). not (eqb k 0)) (is ∙ ap (line_size false) (lends ∙ ap (λ (k : ℕ). drop k input) e.1));
        }

  -- ---- a turn

  pub turns : (first : ℕ) (buf buf' part : List ℕ) (x y : Kept) (end k : ℕ) (r : Took) → end ≤ length buf → part ≡ take end buf
      → TakesAll n first part x y r → Slides r.used end buf buf' k
      → TakesTurn n first (take end buf) x buf buf' y (record { len = k; lines = r.lines; refused = r.refused })
  turns first buf buf' part x y end k r inside lends took slid =
      record {
        keeps = turn-keeps (day_size n false) (good-most (refused_day n) false) buf buf' part end r.used k false inside lends took.took slid refl;
        lines = took.lines ∙ ap (λ (s : List ℕ). (first + length (good_lines n s)) % 2 ^ 64) lends;
        adds = subst (λ (s : List ℕ). Adds n x (good_lines n s) y) lends took.adds;
        refused = took.refused ∙ ap (stops_at n) lends;
      }

  -- ---- after each turn

  pub fed-none : (buf : List ℕ) (x : Kept) → 1 ≤ n → x ≡ no_days → FedTo n buf 0 x false 0
  unfolding pieces joined bytes_of line_size length_to
  fed-none buf x some e =
      fed-first (day_size n false) (good-most (refused_day n) false) (After n 0 x false) buf (record { counts = refl; holds = holds-none x some e; stops = refl })

  -- a turn over the bytes that are kept and those that came behind them
  pub fed-turn : (buf next after : List ℕ) (lines len more : ℕ) (x y : Kept) (refused : Bool) (r : Rest) → FedTo n buf lines x false len
      → take len next ≡ take len buf → ((k : ℕ) → get_or next k 0 < 256) → TakesTurn n lines (take (len + more) next) x next after y r → r.refused ≡ refused
      → FedTo n after r.lines y refused r.len
  fed-turn buf next after lines len more x y refused r f same small turn told =
      turn-fed (rest n) (After n lines x false) (After n r.lines y refused) (rest_then (refused_day n)) buf next after len more
      r.len f same small turn.keeps
      (λ s t was e.
      let all : good_lines n (s ++ t) ≡ good_lines n s ++ good_lines n (take (len + more) next) =
      lines-apart (refused_day n) s t ∙ ap (λ (l : List ℕ). good_lines n s ++ good_lines n l) (sym e) in
      record {
        counts = omega (arith, turn.lines, was.counts, ap length all, length-append (good_lines n s) (good_lines n (take (len + more) next)));
        holds =
            subst (λ (bytes : List ℕ). Holds n bytes y)
            (sym (joined-map-two (record_of n) (good_lines n s) (good_lines n (take (len + more) next))) ∙ ap (records n) (sym all))
            (turn.adds (records n (good_lines n s)) was.holds);
        stops =
            sym told
            ∙ turn.refused
            ∙ ap (λ (l : List ℕ). not (eqb (line_size false l) 0)) (ap (rest n) e ∙ sym (rest_then (refused_day n) s t));
      })

  -- where no line is refused, no line is all there in what is kept
  module _ (buf : List ℕ) (lines len : ℕ) (x : Kept) (refused : Bool) (f : FedTo n buf lines x refused len) (on : refused ≡ false) where
    none-there : line_size false (rest n (joined f.parts)) ≡ 0
    none-there = eqb-true (line_size false (rest n (joined f.parts))) 0 (not-false _ (sym f.is.stops ∙ on))

    pub fed-unended : line_size false (take len buf) ≡ 0
    fed-unended = ap (line_size false) f.kept ∙ none-there

    -- and so what is kept leaves room
    pub fed-room : len ≤ 65536
    fed-room = omega (arith, rest-short (refused_day n) (joined f.parts) none-there, ap length f.kept, length-take-le len buf f.fits)
