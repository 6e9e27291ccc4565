-- The pieces at the front of some bytes written to a buffer, one behind the other, and then part by part. Assumes nothing.
use mathlib.Core.Path.{◌≡◌, refl, sym, ap, ap₂, ◌∙◌}
use mathlib.Core.List.{List, [], ◌∷◌, ◌++◌}
use Prim.Native.Nat.{ℕ, ◌+◌, ◌≤◌}
use native.Mathlib.Omega.{arith}
use lib.ListN.{length, take, drop, length-take, length-drop, length-append}
use lib.Seq.{sets, sets-eq, length-sets, take_at, drop-drop}
use borrow.Author.Tests.{le-leb}
use Rattle.lists.specs.Lists.{joined}
use Rattle.input.specs.Strings.{bytes_of}
use Rattle.input.specs.Pieces.{pieces, all_pieces}
use Rattle.input.proofs.Strings.{bytes-more, bytes-two}
use Rattle.input.proofs.Pieces.{front-zero, front-next, bytes_most, fields-then, fields-few, fields-chunk, all_none, Passing}
use Rattle.forms.specs.Put.{Put, Written, put_into}
use Rattle.forms.proofs.Puts.{put-none, put_then, put_as, joined-map-more}
use Rattle.translation.specs.Writes.{texts, WritesSome}

-- a text put where there was room for it
pub put-into : (room : ℕ) (text out new : List ℕ) (at r : ℕ) → at + room ≤ length out → ◌≡◌ {A = Written} (r, new) (put_into room text out at) → r ≤ at + room
    → Put out at text room r new
unfolding put_into
put-into room text out new at r h is few =
    let done : ◌≡◌ {A = Written} (r, new) (at + length text, sets out at text) = is ∙ rw (le-leb (at + room) (length out) h) refl in
    let behind = ap (λ (p : Written). p.0) done in
    let stored = ap (λ (p : Written). p.1) done in
    record { behind = behind; stored = stored; short = omega (arith, behind); same = ap length stored ∙ length-sets out at text }

-- a text that was put at the front
pub put_front : (text out new : List ℕ) (n : ℕ) → Put out 0 text (length out) n new → take n new ≡ text
put_front text out new n p =
    ap₂ (λ (k : ℕ) (o : List ℕ). take k o) p.behind (p.stored ∙ sets-eq text out 0 (omega (arith, p.short)))
    ∙ take_at text (drop (0 + length text) out) (0 + length text) (omega arith)

module _ (size : List ℕ → ℕ) (most : (s : List ℕ) → size s ≤ length s) where
  -- ---- one piece behind the other

  module _ (write : List ℕ → List ℕ) (input old : List ℕ) where
    -- so many pieces are written
    pub record Writing (new : List ℕ) (count used to : ℕ) : Type 0 where
      pub place : used ≤ length input
      pub there : length (pieces size count input) ≡ count
      pub bytes : used ≡ bytes_of (pieces size count input)
      pub put : Put old 0 (texts write (pieces size count input)) (length old) to new

    pub writing-starts : Writing old 0 0 0
    unfolding pieces bytes_of joined
    writing-starts = record { place = omega arith; there = refl; bytes = refl; put = put_as (length old) (omega arith) refl (put-none old 0) }

    module _ (new : List ℕ) (count used to : ℕ) (g : Writing new count used to) where
      pub writing-place : to ≤ length old
      writing-place = omega (arith, g.put.behind, g.put.short)

      -- each piece has a byte or more
      pub writing-few : count ≤ used
      writing-few = omega (arith, g.there, g.bytes, fields-few size most count input)

      pub writing-ends : (Enough : Type 0) → (Enough → count ≡ 0 → size input ≡ 0) → WritesSome size write Enough input old new count used to
      writing-ends Enough some = record { there = g.there; bytes = g.bytes; put = g.put; some = some }

      -- nothing is written yet
      pub writing-none : count ≡ 0 → (drop used input ≡ input) × (to ≡ 0)
      unfolding bytes_of joined
      writing-none none-there =
          let z : pieces size count input ≡ [] = ap (λ (n : ℕ). pieces size n input) none-there ∙ front-zero size most input in
          (ap (λ (n : ℕ). drop n input) (g.bytes ∙ ap bytes_of z), g.put.behind ∙ ap (λ (ps : List (List ℕ)). 0 + length (texts write ps)) z)

      module _ (k : ℕ) (is : k ≡ size (drop used input)) where
        pub writing-within : used + k ≤ length input
        writing-within = omega (arith, is, most (drop used input), length-drop used input, g.place)

        pub writing-goes : (k ≡ 0 → ⊥) → (m r : ℕ) (next : List ℕ) → to + m ≤ length new → Put new to (write (take k (drop used input))) m r next
            → Writing next (count + 1) (used + k) r
        writing-goes some m r next room p =
            let s = drop used input in
            let done = pieces size count input in
            let piece = take k s in
            let one : pieces size 1 s ≡ piece ∷ [] =
            front-next size most 0 s (λ z. some (is ∙ z))
            ∙ ap (λ (n : ℕ). take n s ∷ pieces size 0 (drop n s)) (sym is)
            ∙ ap (λ (l : List (List ℕ)). piece ∷ l) (front-zero size most (drop k s)) in
            let all : pieces size (count + 1) input ≡ done ++ (piece ∷ []) =
            fields-then size most count 1 input
            ∙ ap (λ (n : ℕ). done ++ pieces size 1 (drop n input)) (sym g.bytes)
            ∙ ap (λ (l : List (List ℕ)). done ++ l) one in
            let long : length piece ≡ k = omega (arith, length-take k s, most s, is) in
            let both = put_then (texts write done) (write piece) g.put p in
            record {
              place = writing-within;
              there = ap length all ∙ omega (arith, length-append done (piece ∷ []), g.there);
              bytes = sym (ap bytes_of all ∙ bytes-more done piece ∙ omega (arith, g.bytes, long));
              put =
                  put_as {m = length old} (length old) (omega arith) (sym (joined-map-more write done piece) ∙ ap (texts write) (sym all))
                  (record { behind = both.behind; stored = both.stored; short = omega (arith, both.behind, p.behind, p.short, g.put.same); same = both.same });
            }

  -- ---- part by part

  module _ {A : Type 0} (after : A → List (List ℕ) → A) (first : A) (input : List ℕ) (now : A) (used : ℕ) (g : Passing size most after first input now used)
      (write : List ℕ → List ℕ) (Enough : Type 0) (part old new : List ℕ) (count k written : ℕ) (lends : part ≡ drop used input)
      (w : WritesSome size write Enough part old new count k written) where
    is : k ≡ bytes_of (pieces size count (drop used input))
    is = w.bytes ∙ ap (λ (s : List ℕ). bytes_of (pieces size count s)) lends

    pub part-within : used + k ≤ length input
    part-within = omega (arith, is, bytes_most size most count (drop used input), length-drop used input, g.place)

    -- a part of some pieces has some bytes
    pub part-some : count ≤ k
    part-some = omega (arith, w.there, w.bytes, fields-few size most count part)

    -- a part more
    pub part-goes : ((a : A) (ps qs : List (List ℕ)) → after a (ps ++ qs) ≡ after (after a ps) qs)
        → (next : A) → next ≡ after now (pieces size count part) → Passing size most after first input next (used + k)
    part-goes after_two next e =
        let s = drop used input in
        let ps = pieces size count s in
        let rest = all_pieces size (drop (used + k) input) in
        let behind : drop (used + k) input ≡ drop (bytes_of ps) s = sym (drop-drop k used input) ∙ ap (λ (n : ℕ). drop n s) is in
        let all : all_pieces size s ≡ ps ++ rest = fields-chunk size most count s ∙ ap (λ (l : List ℕ). ps ++ all_pieces size l) (sym behind) in
        record {
          place = part-within;
          leads =
              ap (λ (a : A). after a rest) (e ∙ ap (λ (l : List ℕ). after now (pieces size count l)) lends)
              ∙ sym (after_two now ps rest)
              ∙ ap (after now) (sym all)
              ∙ g.leads;
          counted = omega (arith, g.counted, is, ap bytes_of all, bytes-two ps rest);
        }

    -- no piece is left
    pub part-ends : Enough → count ≡ 0 → (after now [] ≡ after first (all_pieces size input)) × (used ≡ bytes_of (all_pieces size input))
    unfolding bytes_of
    part-ends enough none-there =
        let stop : size (drop used input) ≡ 0 = sym (ap size lends) ∙ w.some enough none-there in
        let z : all_pieces size (drop used input) ≡ [] = all_none size most (drop used input) 0 (sym stop) refl in
        (ap (after now) (sym z) ∙ g.leads, omega (arith, g.counted, ap bytes_of z))
