-- Texts put into a buffer one behind the other. Assumes nothing.
use Rattle.std.proofs.Common.{◌≡◌, ℕ, ◌+◌, ◌-◌, ◌<◌, ◌≤◌, List, [], ◌∷◌, ◌++◌, map, length, set, sym, refl, ap, ◌∙◌, append_assoc, append-nil, arith, length-append, le-leb}
use lib.ListN.{length-set}
use lib.Seq.{sets, length-sets}
use borrow.Rule.Slice.PartMut.{put_mid}
use Rattle.lines.specs.Placed.{Placed, placed}
use Rattle.lines.proofs.Numbers.{placed-fits}
use Rattle.lines.proofs.Copies.{copied}
use Rattle.lists.proofs.Stores.{sets_then, sets-earlier}
use borrow.Author.Tests.{lt-leb}
use Rattle.lists.specs.Lists.{joined}
use Rattle.forms.specs.Put.{Put, Written, put_into}

-- two texts
pub put_then : {old mid new : List ℕ} {at p r m n : ℕ} (s t : List ℕ) → Put old at s m p mid → Put mid p t n r new → Put old at (s ++ t) (m + n) r new
put_then {old} {mid} {new} {at} s t a b =
    record {
      behind = omega (arith, a.behind, b.behind, length-append s t);
      stored = b.stored ∙ ap (λ (k : ℕ). sets mid k t) a.behind ∙ ap (λ (l : List ℕ). sets l (at + length s) t) a.stored ∙ sets_then old at s t;
      short = omega (arith, a.short, b.short, length-append s t);
      same = b.same ∙ a.same;
    }

-- no text
pub put-none : (old : List ℕ) (at : ℕ) → Put old at [] 0 at old
put-none old at = record { behind = omega arith; stored = refl; short = omega arith; same = refl }

-- another bound, and another text that is the same
pub put_as : {old new : List ℕ} {at r m : ℕ} (n : ℕ) {s t : List ℕ} → m ≤ n → s ≡ t → Put old at s m r new → Put old at t n r new
put_as {old} {at = at} n {s} {t} h e p =
    record {
      behind = omega (arith, p.behind, ap length e);
      stored = p.stored ∙ ap (sets old at) e;
      short = omega (arith, p.short, ap length e);
      same = p.same;
    }

-- ---- a text put where there is room

pub into-short : (room : ℕ) (text out : List ℕ) (at : ℕ) → length out < at + room → put_into room text out at ≡ (at, out)
unfolding put_into
into-short room text out at h = rw (lt-leb (at + room) (length out) h)

pub into-put : {out new : List ℕ} {at r m : ℕ} (room : ℕ) (text : List ℕ) → at + room ≤ length out → Put out at text m r new
    → ◌≡◌ {A = Written} (r, new) (put_into room text out at)
unfolding put_into
into-put {out} {new} {at} {r} room text h p =
    rw (le-leb (at + room) (length out) h)
    (ap (λ (k : ℕ). (k, new)) p.behind ∙ ap (λ (o : List ℕ). (at + length text, o)) p.stored)

-- and back: a text that is put where there is room
pub put-into : {out new : List ℕ} {at r : ℕ} (room : ℕ) (text : List ℕ) → length text ≤ room → at + room ≤ length out → ◌≡◌ {A = Written} (r, new) (put_into room text out at)
    → Put out at text room r new
unfolding put_into
put-into {out} {at = at} room text short h is =
    let e : ◌≡◌ {A = Written} _ (at + length text, sets out at text) = is ∙ rw (le-leb (at + room) (length out) h) in
    let stored = ap (λ (p : Written). p.1) e in
    record { behind = ap (λ (p : Written). p.0) e; stored = stored; short = short; same = ap length stored ∙ length-sets out at text }

-- a text that is placed where it fits
pub put-placed : {old new : List ℕ} {at r : ℕ} (n : ℕ) (t : List ℕ) → length t ≤ n → at + length t ≤ length old → ◌≡◌ {A = Placed} (r, new) (placed t old at)
    → Put old at t n r new
put-placed {old} {at = at} n t short fits is =
    let e : ◌≡◌ {A = Placed} _ (at + length t, sets old at t) = is ∙ placed-fits t old at fits in
    let stored = ap (λ (p : Placed). p.1) e in
    record { behind = ap (λ (p : Placed). p.0) e; stored = stored; short = short; same = ap length stored ∙ length-sets old at t }

-- ---- bytes

-- a text copied into a part of the buffer
pub put-copied : (text old part : List ℕ) (at : ℕ) → at + length text ≤ length old → part ≡ text
    → Put old at text (length text) (at + length text) (put_mid at (at + length text - at) old part)
put-copied text old part at h e =
    let stored = copied text old part at h e in
    record { behind = refl; stored = stored; short = omega arith; same = ap length stored ∙ length-sets old at text }

-- a byte
pub put-one : (b : ℕ) (old : List ℕ) (at : ℕ) → Put old at (b ∷ []) 1 (at + 1) (set old at b)
put-one b old at = record { behind = refl; stored = refl; short = omega arith; same = length-set old at b }

-- a byte before a text
pub put-before : {old mid new : List ℕ} {at p q r m : ℕ} (b : ℕ) (t : List ℕ) → p ≡ at + 1 → Put old p t m r mid → Put mid at (b ∷ []) 1 q new → Put old at (b ∷ t) (m + 1) r new
put-before {old} {mid} {new} {at} b t e a h =
    record {
      behind = omega (arith, a.behind);
      stored = h.stored ∙ ap (λ (l : List ℕ). set l at b) a.stored ∙ ap (λ (k : ℕ). set (sets old k t) at b) e ∙ sets-earlier old at b t;
      short = omega (arith, a.short);
      same = h.same ∙ a.same;
    }

-- a byte that equals another
pub put_byte : {old new : List ℕ} {at r a : ℕ} (b : ℕ) → a ≡ b → Put old at (a ∷ []) 1 r new → Put old at (b ∷ []) 1 r new
put_byte b e p = put_as 1 (omega arith) (ap (λ (x : ℕ). x ∷ []) e) p

-- ---- a text put piece by piece

-- a first part of the text is put, and `rest` is left
pub record Putting (old : List ℕ) (at : ℕ) (whole rest : List ℕ) (most to : ℕ) (out : List ℕ) : Type 0 where
  pub done : List ℕ
  pub put : Put old at done most to out
  pub is : done ++ rest ≡ whole

pub putting-start : (old : List ℕ) (at : ℕ) (whole : List ℕ) → Putting old at whole whole 0 at old
putting-start old at whole = record { done = []; put = put-none old at; is = refl }

-- a piece more
pub putting-turn : {old : List ℕ} {at : ℕ} {whole rest : List ℕ} {m to n r : ℕ} {out new : List ℕ} (t rest' : List ℕ)
    → Putting old at whole rest m to out → rest ≡ t ++ rest' → Put out to t n r new → Putting old at whole rest' (m + n) r new
putting-turn t rest' p e q =
    record {
      done = p.done ++ t;
      put = put_then p.done t p.put q;
      is = append_assoc p.done t rest' ∙ ap (λ (l : List ℕ). p.done ++ l) (sym e) ∙ p.is;
    }

-- the last piece
pub putting-last : {old : List ℕ} {at : ℕ} {whole rest : List ℕ} {m to n r : ℕ} {out new : List ℕ}
    → Putting old at whole rest m to out → Put out to rest n r new → Put old at whole (m + n) r new
putting-last {rest = rest} {m} {n = n} p q = put_as (m + n) (omega arith) p.is (put_then p.done rest p.put q)

-- nothing is left
pub putting-end : {old : List ℕ} {at : ℕ} {whole rest : List ℕ} {m to : ℕ} {out : List ℕ} (n : ℕ)
    → m ≤ n → rest ≡ [] → Putting old at whole rest m to out → Put old at whole n to out
putting-end n h e p = put_as n h (sym (append-nil p.done) ∙ ap (λ (l : List ℕ). p.done ++ l) (sym e) ∙ p.is) p.put

-- a weaker bound
pub putting-most : {old : List ℕ} {at : ℕ} {whole rest : List ℕ} {m to : ℕ} {out : List ℕ} (n : ℕ) → m ≤ n
    → Putting old at whole rest m to out → Putting old at whole rest n to out
putting-most n h p = record { done = p.done; put = put_as n h refl p.put; is = p.is }

-- ---- the texts of pieces one behind the other

pub joined-map-more : (f : List ℕ → List ℕ) (ls : List (List ℕ)) (l : List ℕ) → joined (map f (ls ++ (l ∷ []))) ≡ joined (map f ls) ++ f l
unfolding joined
joined-map-more f [] l = append-nil (f l)
joined-map-more f (k ∷ ls) l = ap (λ (s : List ℕ). f k ++ s) (joined-map-more f ls l) ∙ sym (append_assoc (f k) (joined (map f ls)) (f l))

pub joined-map-two : (f : List ℕ → List ℕ) (ks ls : List (List ℕ)) → joined (map f (ks ++ ls)) ≡ joined (map f ks) ++ joined (map f ls)
unfolding joined
joined-map-two f [] ls = refl
joined-map-two f (k ∷ ks) ls = ap (λ (s : List ℕ). f k ++ s) (joined-map-two f ks ls) ∙ sym (append_assoc (f k) (joined (map f ks)) (joined (map f ls)))
