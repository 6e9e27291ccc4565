-- An input as its whole fields and what is left, and bytes that come behind bytes. Assumes nothing.
use mathlib.Core.Path.{◌≡◌, refl, sym, ap, ap₂, ◌∙◌}
use mathlib.Core.Bool.{Bool, false, ◌&&◌}
use mathlib.Core.List.{List, [], ◌∷◌, ◌++◌}
use Prim.Native.Nat.{ℕ, zero, suc, ◌+◌, ◌-◌, ◌≤◌, ◌<◌}
use native.Mathlib.Omega.{arith}
use lib.Dec.{leb}
use lib.ListN.{length, take, drop, length-append, length-take, length-drop}
use lib.Seq.{take-length, drop-length, drop-drop}
use borrow.Author.Tests.{le-leb, leb-true, leb-false}
use Rattle.lists.specs.Lists.{Bytes}
use Rattle.lists.proofs.Bools.{cases, and_both}
use Rattle.lists.proofs.Each.{each_at, each-drop}
use Rattle.machine.specs.Printed.{fields_in}
use Rattle.input.specs.Strings.{bytes_of}
use Rattle.input.specs.Pieces.{pieces}
use Rattle.input.specs.Fields.{field_size, whole_first, front_size, whole_fields, whole, rest}
use Rattle.input.proofs.Fields.{first-size, size-whole, fields-none, fields-more}
use Rattle.input.proofs.Pieces.{apart, left-then, left-stop}
use Rattle.input.proofs.Fronts.{size-left, front-most}
use Rattle.input.proofs.Wholes.{First, first_of, size-first, size_none, fields-next, fields-none as no_fields}

-- what is left, as a field
abbrev pub cut_fields : List ℕ → List (List ℕ)
cut_fields [] = []
cut_fields (x ∷ s) = (x ∷ s) ∷ []

-- what is left behind the whole fields
abbrev pub left : ℕ → List ℕ → List ℕ
left k s = drop (bytes_of (whole_fields k s)) s

-- ---- the fields

-- the first field taken off
left-next : (k : ℕ) (s : List ℕ) → First s (field_size s) → left (suc k) s ≡ left k (drop (field_size s) s)
unfolding bytes_of
left-next k s f =
    let size = field_size s in
    let e : whole_fields (suc k) s ≡ take size s ∷ whole_fields (suc k - 1) (drop size s) = fields-next (suc k) s size f (omega arith) in
    let z : suc k - 1 ≡ k = omega arith in
    let b : bytes_of (whole_fields (suc k) s) ≡ size + bytes_of (whole_fields k (drop size s)) =
    ap bytes_of (rw z at e) ∙ ap (λ (n : ℕ). n + bytes_of (whole_fields k (drop size s))) (omega (arith, length-take size s, f.most)) in
    ap (λ (n : ℕ). drop n s) b ∙ sym (drop-drop (bytes_of (whole_fields k (drop size s))) size s)

left-none : (k : ℕ) (s : List ℕ) → whole_first s ≡ false → left k s ≡ s
unfolding bytes_of
left-none k s w = ap (λ (fs : List (List ℕ)). drop (bytes_of fs) s) (no_fields k s w)

size-all : (s : List ℕ) → First s (field_size s) → first-size s ≡ field_size s
unfolding first-size
size-all s f = omega (arith, f.most)

pub fields_split : (k : ℕ) (s : List ℕ) → length s ≤ k → fields_in k s ≡ whole_fields k s ++ cut_fields (left k s)
unfolding pieces bytes_of
fields_split zero [] h = fields-none 0
fields_split zero (x ∷ s) h = absurd (omega arith)
fields_split (suc k) [] h = rw (no_fields (suc k) [] refl) (fields-none (suc k))
fields_split (suc k) (x ∷ r) h =
    let s : List ℕ = x ∷ r in
    let more : fields_in (suc k) s ≡ take (first-size s) s ∷ fields_in k (drop (first-size s) s) = fields-more k s (omega arith) in
    cases (whole_first s) (fields_in (suc k) s ≡ whole_fields (suc k) s ++ cut_fields (left (suc k) s))
    (λ w.
    let f = first_of s (field_size s) w refl in
    let z : suc k - 1 ≡ k = omega arith in
    let e : whole_fields (suc k) s ≡ take (field_size s) s ∷ whole_fields k (drop (field_size s) s) = rw z at (fields-next (suc k) s (field_size s) f (omega arith)) in
    more
    ∙ ap (λ (n : ℕ). take n s ∷ fields_in k (drop n s)) (size-all s f)
    ∙ ap (λ (fs : List (List ℕ)). take (field_size s) s ∷ fs) (fields_split k (drop (field_size s) s) (omega (arith, length-drop (field_size s) s, f.least)))
    ∙ ap (λ (l : List ℕ). take (field_size s) s ∷ whole_fields k (drop (field_size s) s) ++ cut_fields l) (sym (left-next k s f))
    ∙ ap (λ (fs : List (List ℕ)). fs ++ cut_fields (left (suc k) s)) (sym e))
    (λ w.
    more
    ∙ ap (λ (n : ℕ). take n s ∷ fields_in k (drop n s)) (size-left s w)
    ∙ ap₂ (λ (f : List ℕ) (t : List ℕ). f ∷ fields_in k t) (take-length s) (drop-length s)
    ∙ ap (λ (fs : List (List ℕ)). s ∷ fs) (fields-none k)
    ∙ ap cut_fields (sym (left-none (suc k) s w))
    ∙ ap (λ (fs : List (List ℕ)). fs ++ cut_fields (left (suc k) s)) (sym (no_fields (suc k) s w)))

-- ---- the whole fields of bytes behind bytes

size-append : (s t : List ℕ) → 3 ≤ length s → field_size (s ++ t) ≡ field_size s
size-append [] t h = absurd (omega arith)
size-append (x ∷ []) t h = absurd (omega arith)
size-append (x ∷ y ∷ []) t h = absurd (omega arith)
size-append (x ∷ y ∷ z ∷ s) t h = size-whole (x ∷ y ∷ z ∷ (s ++ t)) (omega arith) ∙ sym (size-whole (x ∷ y ∷ z ∷ s) h)

-- a first field that is all there stays so
first-append : (s t : List ℕ) → First s (field_size s) → First (s ++ t) (field_size s)
first-append s t f =
    let e : field_size (s ++ t) ≡ field_size s = size-append s t (omega (arith, f.least, f.most)) in
    let l = length-append s t in
    first_of (s ++ t) (field_size s)
    (and_both (leb 3 (length (s ++ t))) (leb (field_size (s ++ t)) (length (s ++ t))) (le-leb 3 (length (s ++ t)) (omega (arith, l, f.least, f.most)))
    (le-leb (field_size (s ++ t)) (length (s ++ t)) (omega (arith, e, l, f.most))))
    (sym e)

stays : (s t : List ℕ) → (front_size false s ≡ 0 → ⊥) → front_size false (s ++ t) ≡ front_size false s
stays s t some =
    cases (whole_first s) (front_size false (s ++ t) ≡ front_size false s)
    (λ w.
    let g = first-append s t (first_of s (field_size s) w refl) in
    size-first (s ++ t) g.whole ∙ sym g.is ∙ sym (size-first s w))
    (λ w. absurd (some (size_none s w)))

-- the whole fields of bytes behind bytes, and what is left of them
pub fields-apart : (s t : List ℕ) → whole (s ++ t) ≡ whole s ++ whole (rest s ++ t)
fields-apart = apart (front_size false) (front-most false) stays

pub rest_then : (s t : List ℕ) → rest (s ++ t) ≡ rest (rest s ++ t)
rest_then = left-then (front_size false) (front-most false) stays

-- no whole field is left
pub rest-cut : (s : List ℕ) → whole_first (rest s) ≡ false
rest-cut s =
    cases (whole_first (rest s)) (whole_first (rest s) ≡ false)
    (λ w.
    let f = first_of (rest s) (field_size (rest s)) w refl in
    absurd (omega (arith, f.least, size-first (rest s) w, left-stop (front_size false) (front-most false) s)))
    (λ w. w)

-- what is left is less than a field can have
pub rest-short : (s : List ℕ) → Bytes s → length (rest s) < 65538
rest-short s b =
    let l = rest s in
    let cut : whole_first l ≡ false = rest-cut s in
    let small : Bytes l = each-drop _ (bytes_of (whole s)) s b in
    cases (leb 3 (length l)) (length l < 65538)
    (λ t.
    let three : 3 ≤ length l = leb-true 3 (length l) t in
    let more : length l < field_size l = leb-false (field_size l) (length l) (sym (ap (λ (x : Bool). x && leb (field_size l) (length l)) t) ∙ cut) in
    let high = each_at (λ (x : ℕ). x < 256) l 1 0 (omega (arith, three)) small in
    let low = each_at (λ (x : ℕ). x < 256) l 2 0 (omega (arith, three)) small in
    omega (arith, more, size-whole l three, high, low))
    (λ t. omega (arith, leb-false 3 (length l) t))
