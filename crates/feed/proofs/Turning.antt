-- One turn of a program's loop, and what holds after each: laws that the programs' proofs cite. Assumes nothing.
use mathlib.Core.Path.{◌≡◌, sym, ap, ap₂, subst, ◌∙◌}
use mathlib.Core.List.{List, [], ◌∷◌, ◌++◌}
use Prim.Native.Nat.{ℕ, ◌+◌, ◌-◌, ◌≤◌, ◌<◌}
use native.Mathlib.Omega.{arith}
use lib.ListN.{length, get_or, take, drop, length-append, length-take, length-drop}
use lib.Seq.{length-take-le, take-add, take_at, drop_at, get_or-take, get_or-drop}
use Rattle.lists.specs.Lists.{joined, Bytes}
use Rattle.lists.proofs.Each.{each_append, each_of}
use Rattle.lists.proofs.Joined.{joined-more}
use Rattle.feed.specs.Feeds.{Slides, Keeps, Fed}

-- the bytes as the code lends them
pub lent : (end : ℕ) (buf : List ℕ) → take (end - 0) (drop 0 buf) ≡ take end buf
lent end buf = let e : end - 0 ≡ end = omega arith in ap (λ (n : ℕ). take n buf) e

-- a part behind a place
drop-take : (start end : ℕ) (l : List ℕ) → start ≤ end → end ≤ length l → drop start (take end l) ≡ take (end - start) (drop start l)
drop-take start end l h k =
    let e : end ≡ start + (end - start) = omega arith in
    ap (λ (n : ℕ). drop start (take n l)) e
    ∙ ap (drop start) (take-add start (end - start) l)
    ∙ drop_at (take start l) (take (end - start) (drop start l)) start (length-take-le start l (omega arith))

-- bytes of a buffer
part_bytes : (buf : List ℕ) (at n : ℕ) → ((k : ℕ) → get_or buf k 0 < 256) → Bytes (take n (drop at buf))
part_bytes buf at n h =
    each_of (λ (b : ℕ). b < 256) (take n (drop at buf)) 0
    (λ i l.
    let g : get_or (take n (drop at buf)) i 0 ≡ get_or buf (at + i) 0 =
    get_or-take n (drop at buf) i 0 (omega (arith, length-take n (drop at buf))) ∙ get_or-drop at buf i 0 in
    omega (arith, g, h (at + i)))

module _ (rest : List ℕ → List ℕ) where
  -- what is behind the bytes used, moved to the front
  pub keeps : (buf buf' : List ℕ) (used end n : ℕ) → end ≤ length buf → used ≤ end → drop used (take end buf) ≡ rest (take end buf)
      → Slides used end buf buf' n → Keeps rest (take end buf) buf buf' n
  keeps buf buf' used end n inside order left slid =
      let len : n ≡ end - used = slid.len order inside in
      record {
        kept = slid.moved order inside ∙ ap₂ (λ (x : List ℕ) (k : ℕ). x ++ drop k buf) (sym (drop-take used end buf order inside) ∙ left) (sym len);
        len =
            len
            ∙ omega (arith, length-drop used (take end buf), length-take-le end buf inside)
            ∙ ap length left;
      }

  -- nothing is read yet
  pub fed-none : (Taken : List ℕ → Type 0) (buf : List ℕ) → rest [] ≡ [] → Taken [] → Fed rest Taken buf 0
  unfolding joined
  fed-none Taken buf e t = record { parts = []; bytes = tt; is = t; kept = sym e; fits = omega arith }

  -- a read that leaves the bytes that are kept
  pub fed-read : (Taken : List ℕ → Type 0) (buf next : List ℕ) (len : ℕ) → Fed rest Taken buf len → take len next ≡ take len buf
      → length next ≡ length buf → Fed rest Taken next len
  fed-read Taken buf next len f same long =
      record { parts = f.parts; bytes = f.bytes; is = f.is; kept = same ∙ f.kept; fits = omega (arith, f.fits, long) }

  -- a turn over the bytes that are kept and those that came behind them. What is left of bytes behind bytes is what is left of both
  pub fed-turn : (Taken Next : List ℕ → Type 0) → ((s t : List ℕ) → rest (s ++ t) ≡ rest (rest s ++ t))
      → (buf next after : List ℕ) (len more n : ℕ) → Fed rest Taken buf len → take len next ≡ take len buf → ((k : ℕ) → get_or next k 0 < 256)
      → Keeps rest (take (len + more) next) next after n
      → ((s t : List ℕ) → Taken s → take (len + more) next ≡ rest s ++ t → Next (s ++ t)) → Fed rest Next after n
  fed-turn Taken Next Rest-then buf next after len more n f same small keeps taken =
      let part = take more (drop len next) in
      let past = joined f.parts in
      let all = take (len + more) next in
      let s : all ≡ rest past ++ part = take-add len more next ∙ ap (λ (x : List ℕ). x ++ part) (same ∙ f.kept) in
      let j : joined (f.parts ++ (part ∷ [])) ≡ past ++ part = joined-more f.parts part in
      let left : rest all ≡ rest (joined (f.parts ++ (part ∷ []))) = ap rest s ∙ sym (Rest-then past part) ∙ ap rest (sym j) in
      record {
        parts = f.parts ++ (part ∷ []);
        bytes = subst Bytes (sym j) (each_append (λ (b : ℕ). b < 256) past part f.bytes (part_bytes next len more small));
        is = subst Next (sym j) (taken past part f.is s);
        kept =
            ap (take n) keeps.kept
            ∙ take_at (rest all) (drop n next) n (sym keeps.len)
            ∙ left;
        fits = omega (arith, keeps.len, ap length keeps.kept, length-append (rest all) (drop n next));
      }
