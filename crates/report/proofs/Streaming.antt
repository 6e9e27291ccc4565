-- However an input is cut into parts, what is written for the parts in turn is what the machine prints for the whole. Assumes nothing.
use mathlib.Core.Path.{◌≡◌, refl, sym, ap, ap₂, ◌∙◌}
use mathlib.Core.Bool.{false}
use mathlib.Core.List.{List, [], ◌∷◌, ◌++◌, append_assoc, append-nil}
use Prim.Native.Nat.{ℕ}
use lib.ListN.{length, drop}
use Rattle.machine.specs.Printed.{Line, text}
use Rattle.reserves.specs.Text.{text_outside}
use Rattle.reserves.proofs.Claims.{text-stays-alike}
use Rattle.case.specs.Cases.{Held}
use Rattle.case.specs.Cases.{no_held}
use Rattle.lists.specs.Lists.{joined}
use Rattle.input.specs.Strings.{bytes_of}
use Rattle.input.specs.Fields.{whole_first, whole, rest}
use Rattle.case.specs.Input.{ledger_after}
use Rattle.case.proofs.Running.{after_two}
use Rattle.report.specs.Texts.{ledger_lines, cut_lines, held_lines}
use Rattle.report.specs.Parts.{streamed, Streams, StreamsAlike}
use Rattle.report.proofs.Placing.{text-append}
use Rattle.input.proofs.Wholes.{fields-none}
use Rattle.report.proofs.Taking.{lines_two}
use Rattle.input.proofs.Parts.{rest-cut, fields-apart, rest_then}
use Rattle.report.proofs.Printing.{printed-is}

-- what is printed for some bytes, from what is held on
abbrev printed_from : Held → List ℕ → List ℕ
printed_from h s = text (ledger_lines h (whole s) ++ (cut_lines (rest s) ++ held_lines (ledger_after h (whole s))))

-- the bytes that are there, and then the others behind what is left
printed-then : (h : Held) (s t : List ℕ) → printed_from h (s ++ t) ≡ text (ledger_lines h (whole s)) ++ printed_from (ledger_after h (whole s)) (rest s ++ t)
printed-then h s t =
    let a = fields-apart s t in
    let held = ledger_after h (whole s) in
    let more = whole (rest s ++ t) in
    let r : rest (s ++ t) ≡ rest (rest s ++ t) = rest_then s t in
    let last : List Line = cut_lines (rest (rest s ++ t)) ++ held_lines (ledger_after held more) in
    ap₂ (λ (fs : List (List ℕ)) (x : List ℕ). text (ledger_lines h fs ++ (cut_lines x ++ held_lines (ledger_after h fs)))) a r
    ∙ ap₂ (λ (ls : List Line) (k : Held). text (ls ++ (cut_lines (rest (rest s ++ t)) ++ held_lines k))) (lines_two h (whole s) more) (after_two h (whole s) more)
    ∙ ap text (append_assoc (ledger_lines h (whole s)) (ledger_lines held more) last)
    ∙ text-append (ledger_lines h (whole s)) (ledger_lines held more ++ last)

printed-none : (h : Held) (kept : List ℕ) → whole_first kept ≡ false → text (cut_lines kept ++ held_lines h) ≡ printed_from h kept
unfolding ledger_lines ledger_after bytes_of
printed-none h kept w =
    sym (ap (λ (fs : List (List ℕ)). text (ledger_lines h fs ++ (cut_lines (drop (bytes_of fs) kept) ++ held_lines (ledger_after h fs)))) (fields-none (length kept) kept w))

streams-from : (h : Held) (kept : List ℕ) (parts : List (List ℕ)) → whole_first kept ≡ false → streamed h kept parts ≡ printed_from h (kept ++ joined parts)
unfolding streamed joined
streams-from h kept [] w = printed-none h kept w ∙ ap (printed_from h) (sym (append-nil kept))
streams-from h kept (part ∷ parts) w =
    let s = kept ++ part in
    ap (λ (t : List ℕ). text (ledger_lines h (whole s)) ++ t)
    (streams-from (ledger_after h (whole s)) (rest s) parts (rest-cut s))
    ∙ sym (printed-then h s (joined parts))
    ∙ ap (printed_from h) (append_assoc kept part (joined parts))

pub streams : Streams
streams parts bytes = streams-from no_held [] parts refl ∙ sym (printed-is (joined parts) bytes)

pub streams-alike : StreamsAlike
streams-alike parts others bytes also same =
    ap text_outside (streams parts bytes) ∙ text-stays-alike (joined parts) (joined others) same ∙ sym (ap text_outside (streams others also))
