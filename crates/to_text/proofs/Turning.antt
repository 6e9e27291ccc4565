-- The parts of a turn, and the end: laws that the proofs of the functions cite. Assumes nothing.
use mathlib.Core.Path.{◌≡◌, refl, sym, ap, subst, ◌∙◌}
use mathlib.Core.Bool.{false}
use mathlib.Core.List.{List, [], ◌∷◌, ◌++◌, append-nil}
use Rattle.std.specs.Prelude.{Result, Ok, Err, IsErrAnd}
use Prim.Native.Nat.{ℕ, ◌+◌, ◌*◌, ◌≤◌, ◌<◌}
use native.Mathlib.Omega.{arith}
use lib.ListN.{length, get_or, take, drop}
use Rattle.lists.specs.Lists.{joined, Bytes}
use Rattle.lists.proofs.Each.{each-drop, each_of}
use Rattle.input.specs.Fields.{front_size, whole, rest}
use Rattle.input.proofs.Pieces.{Passing, passing-starts}
use Rattle.input.proofs.Fronts.{front-most}
use Rattle.input.proofs.Parts.{cut_fields, fields_split, rest_then, rest-short}
use Rattle.forms.specs.Put.{Put}
use Rattle.forms.proofs.Puts.{put-none, put_as, joined-map-two}
use Rattle.feed.specs.declared.Failed.{Failed}
use Rattle.feed.specs.Feeds.{Keeps}
use Rattle.feed.proofs.Turning.{fed-turn as turn-fed}
use Rattle.translation.specs.Writes.{WritesAll}
use Rattle.translation.proofs.Writing.{put_front, part-within, part-some, part-goes, part-ends}
use Rattle.translation.proofs.Turning.{fed-first}
use Rattle.to_text.specs.declared.Part.{Part}
use Rattle.to_text.specs.Texts.{field_text, fields_text}
use Rattle.to_text.specs.Turns.{WritesFields, FedTo, cut_text, Ends}

-- ---- the whole fields of some bytes, part by part

-- the fields in front of a place are written
abbrev pub Passed : List ℕ → ℕ → Type 0
Passed input used = Passing (front_size false) (front-most false) (λ (u : Unit {0}) (ps : List (List ℕ)). tt) tt input tt used

pub passed_none : (input : List ℕ) → Passed input 0
passed_none input = passing-starts (front_size false) (front-most false) (λ (u : Unit {0}) (ps : List (List ℕ)). tt) tt input

module _ (input part old new : List ℕ) (used : ℕ) (r : Part) (g : Passed input used) (lends : part ≡ drop used input) (w : WritesFields part old new r) where
  pub passed-within : used + r.used ≤ length input
  passed-within = part-within (front_size false) (front-most false) _ _ input tt used g field_text _ part old new r.count r.used r.written lends w

  pub passed-some : r.count ≤ r.used
  passed-some = part-some (front_size false) (front-most false) _ _ input tt used g field_text _ part old new r.count r.used r.written lends w

  pub passed-goes : Passed input (used + r.used)
  passed-goes =
      part-goes (front_size false) (front-most false) _ _ input tt used g field_text _ part old new r.count r.used r.written lends w (λ a ps qs. refl) tt refl

  pub passed-all : ((k : ℕ) → get_or input k 0 < 256) → 335882 ≤ length old → r.count ≡ 0 → WritesAll (front_size false) input used false
  passed-all small room none-there =
      let bytes : Bytes part = subst Bytes (sym lends) (each-drop _ used input (each_of (λ (b : ℕ). b < 256) input 0 (λ i l. small i))) in
      record {
        within = g.place;
        all = λ e.
            (part-ends (front_size false) (front-most false) _ _ input tt used g field_text _ part old new r.count r.used r.written lends w (bytes, room) none-there).1;
      }

-- ---- after each turn

pub fed-none : (buf : List ℕ) → FedTo buf 0
fed-none buf = fed-first (front_size false) (front-most false) (λ s. Unit {0}) buf tt

-- a turn over the bytes that are kept and those that came behind them
pub fed-turn : (buf next after : List ℕ) (len more n : ℕ) → FedTo buf len → take len next ≡ take len buf → ((k : ℕ) → get_or next k 0 < 256)
    → Keeps rest (take (len + more) next) next after n → FedTo after n
fed-turn buf next after len more n f same small keeps =
    turn-fed rest (λ s. Unit {0}) (λ s. Unit {0}) rest_then buf next after len more n f same small keeps (λ s t u e. tt)

-- ---- the text of the end

pub cut-none : (s out : List ℕ) → length s ≡ 0 → Put out 0 (cut_text s) (length out) 0 out
unfolding cut_text
cut-none [] out e = put_as (length out) (omega arith) refl (put-none out 0)
cut-none (x ∷ s) out e = absurd (omega arith)

pub cut-there : (s out new : List ℕ) (r : ℕ) → (length s ≡ 0 → ⊥) → 5 * length s + 8192 ≤ length out → Put out 0 (field_text s) (5 * length s + 8192) r new
    → Put out 0 (cut_text s) (length out) r new
unfolding cut_text
cut-there [] out new r some room p = absurd (some refl)
cut-there (x ∷ s) out new r some room p = put_as (length out) room refl p

cut-text : (s : List ℕ) → fields_text (cut_fields s) ≡ cut_text s
unfolding cut_text joined
cut-text [] = refl
cut-text (x ∷ s) = append-nil (field_text (x ∷ s))

-- ---- the end

-- the input did not end
pub ends-not : (out : List ℕ) (Q : Failed → Type 0) (r : Result ℕ Failed) → IsErrAnd r Q → Ends out r
unfolding joined
ends-not out Q (Ok n) h = absurd h
ends-not out Q (Err e) h = record { parts = []; bytes = tt; last = tt; fits = tt }

module _ (buf kept out : List ℕ) (len : ℕ) (f : FedTo buf len) (lends : kept ≡ take len buf) where
  -- what is left has room for its text
  pub last-room : 335882 ≤ length out → 5 * length kept + 8192 ≤ length out
  last-room room = omega (arith, ap length (lends ∙ f.kept), rest-short (joined f.parts) f.bytes)

  pub ends : (out' : List ℕ) (n : ℕ) → Put out 0 (cut_text kept) (length out) n out' → Ends out' (Ok n)
  ends out' n p =
      let input = joined f.parts in
      record {
        parts = f.parts;
        bytes = f.bytes;
        last =
            ap (λ (x : List ℕ). fields_text (whole input) ++ x) (put_front (cut_text kept) out out' n p ∙ ap cut_text (lends ∙ f.kept) ∙ sym (cut-text (rest input)))
            ∙ sym (joined-map-two field_text (whole input) (cut_fields (rest input)))
            ∙ ap fields_text (sym (fields_split (length input) input (omega arith)));
        fits = omega (arith, p.behind, p.short, p.same);
      }
