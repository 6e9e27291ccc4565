-- One turn of the loop, and what holds after each: laws that the proofs of the functions cite. Assumes nothing.
use mathlib.Core.Path.{◌≡◌, refl, sym, ap, ap₂, subst, ◌∙◌}
use mathlib.Core.List.{List, [], ◌++◌}
use Rattle.std.specs.Prelude.{Result, Ok, Err, IsErrAnd}
use Prim.Native.Nat.{ℕ, ◌+◌, ◌*◌, ◌≤◌, ◌<◌}
use native.Mathlib.Omega.{arith}
use lib.ListN.{length, get_or, take, drop}
use lib.Seq.{sets, sets-eq, length-sets, length-take-le, take_at}
use Rattle.lists.specs.Lists.{joined}
use Rattle.machine.specs.Printed.{Line, text}
use Rattle.lines.specs.Placed.{Placed}
use Rattle.input.specs.Strings.{bytes_of}
use Rattle.input.specs.Pieces.{pieces}
use Rattle.input.specs.Fields.{whole, rest}
use Rattle.input.proofs.Parts.{rest_then}
use Rattle.case.specs.Cases.{Held}
use Rattle.case.specs.Cases.{no_held}
use Rattle.case.specs.Input.{ledger_after, HeldAfter}
use Rattle.report.specs.declared.Taken.{Taken}
use Rattle.report.specs.Texts.{ledger_lines, cut_lines, held_lines, placed_lines, PartTaken, TakesPart}
use Rattle.case.proofs.Parts.{none-held, held_then}
use Rattle.report.proofs.Placing.{text-append, lines_fit}
use Rattle.report.proofs.Printing.{after, printed-is, taken_is, last-most}
use Rattle.feed.specs.declared.Failed.{Failed}
use Rattle.feed.specs.Feeds.{Slides}
use Rattle.feed.proofs.Turning.{keeps, fed-none as none-fed, fed-turn as turn-fed}
use Rattle.stream.specs.declared.Turn.{Turn}
use Rattle.stream.specs.Turns.{TakesTurn, FedTo, Last, Ends}

-- ---- a turn

pub turns : (h : Held) (buf buf' out out' part : List ℕ) (end : ℕ) (t : Taken) (n : ℕ) → end ≤ length buf → 4 * end ≤ length out → part ≡ take end buf
    → TakesPart h part out out' t → Slides t.used end buf buf' n
    → TakesTurn h (take end buf) buf buf' out out' (record { held = t.held; len = n; written = t.written })
turns h buf buf' out out' part end t n inside room lends taken slid =
    let bytes = take end buf in
    let long : length bytes ≡ end = length-take-le end buf inside in
    let t' : TakesPart h bytes out out' t = subst (λ (s : List ℕ). TakesPart h s out out' t) lends taken in
    let is : ◌≡◌ {A = PartTaken} (t, out') (
      record { held = ledger_after h (whole bytes); used = bytes_of (whole bytes); written = length (text (ledger_lines h (whole bytes))) },
      sets out 0 (text (ledger_lines h (whole bytes))),
    ) = t'.is ∙ taken_is h bytes out (omega (arith, long)) in
    record {
      held = ap (λ (p : PartTaken). p.0.held) is;
      keeps =
          keeps rest buf buf' t.used end n inside (omega (arith, t'.used, long)) (ap (λ (p : PartTaken). drop p.0.used bytes) is) slid;
      lines = ap (λ (p : PartTaken). p.1) is;
      written = ap (λ (p : PartTaken). p.0.written) is;
      fits = t'.fits;
    }

-- ---- after each turn

pub fed-none : (buf : List ℕ) (h : Held) → h ≡ no_held → FedTo buf h 0
unfolding bytes_of pieces
fed-none buf h e = none-fed rest (HeldAfter h) buf refl (none-held h e)

-- a turn over the bytes that are kept and those that came behind them
pub fed-turn : (buf next after out out' : List ℕ) (h : Held) (len more : ℕ) (r : Turn) → FedTo buf h len → take len next ≡ take len buf
    → ((k : ℕ) → get_or next k 0 < 256) → TakesTurn h (take (len + more) next) next after out out' r → FedTo after r.held r.len
fed-turn buf next after out out' h len more r f same small turn =
    turn-fed rest (HeldAfter h) (HeldAfter r.held) rest_then buf next after len more r.len f same small turn.keeps
    (λ s t held e. held_then h r.held (take (len + more) next) s t turn.held held e)

-- ---- the end

-- no input ended
pub ends-not : (out : List ℕ) (Q : Failed → Type 0) (r : Result ℕ Failed) → IsErrAnd r Q → Ends out r
unfolding joined
ends-not out Q (Ok n) h = absurd h
ends-not out Q (Err e) h = record { parts = []; bytes = tt; last = tt; fits = tt }

-- the text of the end
pub ends : (buf kept out out' : List ℕ) (h : Held) (len n : ℕ) → 4096 ≤ length out → FedTo buf h len → kept ≡ take len buf → Last h kept out out' n
    → Ends out' (Ok n)
ends buf kept out out' h len n room f lends last =
    let input = joined f.parts in
    let lines : List Line = cut_lines (rest input) ++ held_lines (after input) in
    let t = text lines in
    let short : length t ≤ 4096 = last-most input f.bytes in
    let same : cut_lines kept ++ held_lines h ≡ lines = ap₂ (λ (x : List ℕ) (k : Held). cut_lines x ++ held_lines k) (lends ∙ f.kept) f.is in
    let is : ◌≡◌ {A = Placed} (n, out') (0 + length t, sets out 0 t) =
    last.is ∙ ap (λ (ls : List Line). placed_lines ls out 0) same ∙ lines_fit lines out 0 (omega (arith, short)) in
    let long : n ≡ length t = ap (λ (p : Placed). p.0) is ∙ omega arith in
    let front : out' ≡ t ++ drop (0 + length t) out = ap (λ (p : Placed). p.1) is ∙ sets-eq t out 0 (omega (arith, short)) in
    record {
      parts = f.parts;
      bytes = f.bytes;
      last =
          ap (λ (x : List ℕ). text (ledger_lines no_held (whole input)) ++ x)
          (ap₂ (λ (k : ℕ) (o : List ℕ). take k o) long front ∙ take_at t (drop (0 + length t) out) (length t) refl)
          ∙ sym (text-append (ledger_lines no_held (whole input)) lines)
          ∙ sym (printed-is input f.bytes);
      fits = omega (arith, long, short, ap (λ (p : Placed). length p.1) is, length-sets out 0 t);
    }
