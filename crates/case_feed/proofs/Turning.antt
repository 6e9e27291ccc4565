-- One turn of the loop, and what holds after each: laws that the proofs of the functions cite. Assumes nothing.
use mathlib.Core.Path.{◌≡◌, refl, ap, ◌∙◌}
use mathlib.Core.Bool.{false}
use mathlib.Core.List.{List}
use Prim.Native.Nat.{ℕ, ◌+◌, ◌≤◌, ◌<◌}
use native.Mathlib.Omega.{arith}
use lib.ListN.{length, get_or, take, drop}
use lib.Seq.{length-take-le}
use Rattle.input.specs.Strings.{bytes_of}
use Rattle.input.specs.Pieces.{pieces}
use Rattle.input.specs.Fields.{front_size, whole, rest}
use Rattle.input.proofs.Pieces.{bytes_most}
use Rattle.input.proofs.Fronts.{front-most}
use Rattle.input.proofs.Parts.{rest_then}
use Rattle.case.specs.Cases.{Held}
use Rattle.case.specs.Cases.{no_held}
use Rattle.case.specs.Input.{ledger_after, HeldAfter}
use Rattle.case.proofs.Parts.{none-held, held_then}
use Rattle.feed.specs.Feeds.{Slides, Keeps, Fed}
use Rattle.feed.proofs.Turning.{keeps, fed-none as none-fed, fed-turn as turn-fed}

-- what is held after a turn, and what is kept
abbrev pub Turned : Held → List ℕ → List ℕ → List ℕ → Held → ℕ → Type 0
Turned h bytes buf buf' next len = (next ≡ ledger_after h (whole bytes)) × Keeps rest bytes buf buf' len

pub turns : (h : Held) (buf buf' part : List ℕ) (end : ℕ) (next : Held) (used n : ℕ) → end ≤ length buf → part ≡ take end buf
    → (next ≡ ledger_after h (whole part)) × (used ≡ bytes_of (whole part)) → Slides used end buf buf' n → Turned h (take end buf) buf buf' next n
turns h buf buf' part end next used n inside lends taken slid =
    let bytes = take end buf in
    let u : used ≡ bytes_of (whole bytes) = taken.1 ∙ ap (λ (s : List ℕ). bytes_of (whole s)) lends in (
      taken.0 ∙ ap (λ (s : List ℕ). ledger_after h (whole s)) lends,
      keeps rest buf buf' used end n inside (omega (arith, u, bytes_most (front_size false) (front-most false) (length bytes) bytes, length-take-le end buf inside))
          (ap (λ (k : ℕ). drop k bytes) u) slid,
    )

pub fed-none : (buf : List ℕ) (h : Held) → h ≡ no_held → Fed rest (HeldAfter h) buf 0
unfolding bytes_of pieces
fed-none buf h e = none-fed rest (HeldAfter h) buf refl (none-held h e)

pub fed-turn : (buf next after : List ℕ) (h : Held) (len more : ℕ) (held : Held) (n : ℕ) → Fed rest (HeldAfter h) buf len → take len next ≡ take len buf
    → ((k : ℕ) → get_or next k 0 < 256) → Turned h (take (len + more) next) next after held n → Fed rest (HeldAfter held) after n
fed-turn buf next after h len more held n f same small turn =
    turn-fed rest (HeldAfter h) (HeldAfter held) rest_then buf next after len more n f same small turn.1
    (λ s t was e. held_then h held (take (len + more) next) s t turn.0 was e)
