-- The field that is taken next, where there is room for its text, and fields taken one by one. Assumes nothing.
use mathlib.Core.Path.{◌≡◌, refl, sym, ap, subst, ◌∙◌}
use mathlib.Core.Bool.{false}
use mathlib.Core.Logic.{⊎_elim}
use mathlib.Core.List.{List}
use Prim.Native.Nat.{ℕ, ◌+◌, ◌-◌, ◌*◌, ◌/◌, ◌≤◌, ◌<◌}
use native.Mathlib.Omega.{arith}
use lib.Dec.{leb}
use lib.ListN.{length, take, drop, length-take}
use borrow.Author.Tests.{lt-ltb, le-ltb, le-leb, lt-leb, leb-true}
use Rattle.lists.specs.Lists.{Bytes}
use Rattle.lists.proofs.Bools.{cases, and_left, lt-or-le}
use Rattle.lists.proofs.Each.{each_at}
use Rattle.input.specs.Fields.{field_size, whole_first, front_size}
use Rattle.input.proofs.Fields.{size-whole}
use Rattle.input.proofs.Fronts.{front-most}
use Rattle.input.proofs.Wholes.{size-first as first-whole, size_none}
use Rattle.forms.specs.Put.{Put}
use Rattle.translation.proofs.Writing.{Writing, writing-place, writing-few, writing-none, writing-within, writing-goes, writing-ends}
use Rattle.to_text.specs.Texts.{field_text}
use Rattle.to_text.specs.Turns.{size_within, WritesFields}

-- a field has at most 65,538 bytes
front-limit : (s : List ℕ) → Bytes s → front_size false s ≤ 65538
front-limit s small =
    cases (whole_first s) (front_size false s ≤ 65538)
    (λ w.
    let three : 3 ≤ length s = leb-true 3 (length s) (and_left (leb 3 (length s)) (leb (field_size s) (length s)) w) in
    let high = each_at (λ (x : ℕ). x < 256) s 1 0 (omega arith) small in
    let low = each_at (λ (x : ℕ). x < 256) s 2 0 (omega arith) small in
    omega (arith, first-whole s w, size-whole s three, high, low))
    (λ w. omega (arith, size_none s w))

module _ (room : ℕ) (s : List ℕ) where
  pub size_small : room < 8192 → 0 ≡ size_within room s
  unfolding size_within
  size_small h = rw (lt-ltb room 8192 h) refl

  pub size-there : (k : ℕ) → 8192 ≤ room → k ≡ front_size false s → k ≤ (room - 8192) / 5 → k ≡ size_within room s
  unfolding size_within
  size-there k h e few = rw (le-ltb room 8192 h, ← e, le-leb k ((room - 8192) / 5) few) refl

  pub size-not : (k : ℕ) → 8192 ≤ room → k ≡ front_size false s → (room - 8192) / 5 < k → 0 ≡ size_within room s
  unfolding size_within
  size-not k h e many = rw (le-ltb room 8192 h, ← e, lt-leb k ((room - 8192) / 5) many) refl

  -- a field that is taken has room for its text
  size_is : (k : ℕ) → k ≡ size_within room s → (k ≡ 0 → ⊥) → (k ≡ front_size false s) × (5 * k + 8192 ≤ room)
  size_is k e some =
      let n = front_size false s in
      ⊎_elim
      (λ small. absurd (some (e ∙ sym (size_small small))))
      (λ there.
      ⊎_elim
      (λ many. absurd (some (e ∙ sym (size-not n there refl many))))
      (λ few. let f : k ≡ n = e ∙ sym (size-there n there refl few) in (f, omega (arith, f, few)))
      (lt-or-le ((room - 8192) / 5) n))
      (lt-or-le room 8192)

  -- where there is room for the longest field, one is taken if there is any
  size-zero : Bytes s → 335882 ≤ room → size_within room s ≡ 0 → front_size false s ≡ 0
  size-zero small enough e = size-there (front_size false s) (omega arith) refl (omega (arith, front-limit s small)) ∙ e

-- ---- one field behind the other

-- the bytes between two places, as the code lends them
between : (used size : ℕ) (input : List ℕ) → take (used + size - used) (drop used input) ≡ take size (drop used input)
between used size input = let e : used + size - used ≡ size = omega arith in ap (λ (n : ℕ). take n (drop used input)) e

-- so many fields are written
abbrev pub Taking : List ℕ → List ℕ → List ℕ → ℕ → ℕ → ℕ → Type 0
Taking input old out count used to = Writing (front_size false) (front-most false) field_text input old out count used to

pub size-first : (size : ℕ) (input out : List ℕ) → size ≡ size_within (length out) input → size ≡ size_within (length out - 0) (drop 0 input)
size-first size input out e = let z : length out ≡ length out - 0 = omega arith in e ∙ ap (λ (n : ℕ). size_within n input) z

module _ (input old out : List ℕ) (count used to size : ℕ) (g : Taking input old out count used to) (is : size ≡ size_within (length out - to) (drop used input)) where
  module _ (some : size ≡ 0 → ⊥) where
    front : size ≡ front_size false (drop used input)
    front = (size_is (length out - to) (drop used input) size is some).0

    pub taking-within : used + size ≤ length input
    taking-within = writing-within (front_size false) (front-most false) field_text input old out count used to g size front

    pub taking-room : to + (5 * length (take (used + size - used) (drop used input)) + 8192) ≤ length out
    taking-room =
        let room = (size_is (length out - to) (drop used input) size is some).1 in
        let place = writing-place (front_size false) (front-most false) field_text input old out count used to g in
        omega (arith, room, place, g.put.same, length-take (used + size - used) (drop used input))

    pub taking-behind : (r : ℕ) (next text : List ℕ) → Put out to text (5 * length (take (used + size - used) (drop used input)) + 8192) r next → r ≤ length next
    taking-behind r next text p = omega (arith, taking-room, p.behind, p.short, p.same)

    pub taking-goes : (r : ℕ) (next : List ℕ)
        → Put out to (field_text (take (used + size - used) (drop used input))) (5 * length (take (used + size - used) (drop used input)) + 8192) r next
        → Taking input old next (count + 1) (used + size) r
    taking-goes r next p =
        let field = take (used + size - used) (drop used input) in
        writing-goes (front_size false) (front-most false) field_text input old out count used to g size front some (5 * length field + 8192) r next taking-room
        (subst (λ (f : List ℕ). Put out to (field_text f) (5 * length field + 8192) r next) (between used size input) p)

  pub taking-few : count ≤ length input
  taking-few = omega (arith, g.place, writing-few (front_size false) (front-most false) field_text input old out count used to g)

  pub taking-ends : size ≡ 0 → WritesFields input old out (record { count = count; used = used; written = to })
  taking-ends stop =
      writing-ends (front_size false) (front-most false) field_text input old out count used to g _
      (λ enough none-there.
      let n = writing-none (front_size false) (front-most false) field_text input old out count used to g none-there in
      size-zero (length out - to) input enough.0 (omega (arith, enough.1, n.1, g.put.same)) (ap (size_within (length out - to)) (sym n.0) ∙ sym is ∙ stop))
