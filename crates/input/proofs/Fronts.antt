-- The fields at an input's front: one after the other, some and then the rest, and where they end. Assumes nothing.
use mathlib.Core.Path.{◌≡◌, refl, sym, ap, ◌∙◌}
use mathlib.Core.Bool.{Bool, true, false, false≢true}
use mathlib.Core.Logic.{◌⊎◌, ⊎_elim}
use mathlib.Core.List.{List, [], ◌∷◌, ◌++◌, append_assoc, append-nil}
use Prim.Native.Nat.{ℕ, zero, suc, ◌+◌, ◌-◌, ◌≤◌, ◌<◌, min}
use native.Mathlib.Nat.{zero-add}
use native.Mathlib.Omega.{arith}
use lib.Dec.{leb}
use lib.ListN.{length, get_or, set, take, drop, length-set, length-take, length-drop, length-append}
use lib.Seq.{take_all, drop-drop}
use borrow.Author.Tests.{leb-true, leb-false}
use Rattle.lists.proofs.Bools.{cases, either, and_right, and_both, lt-or-le}
use Rattle.machine.specs.Printed.{fields_in}
use Rattle.input.specs.Strings.{in_front, ends_from, bytes_of}
use Rattle.input.specs.Pieces.{pieces}
use Rattle.input.specs.Fields.{field_size, whole_first, front_size, front_fields, Cuts}
use Rattle.input.proofs.Pieces.{front-none, front-next, front-zero}
use Rattle.input.proofs.Fields.{first-size, size-cut, size-whole, fields-none, fields-more}
use Rattle.input.proofs.Strings.{ends_more, ends-long, end-last, bytes-more, front_at, front-next as front-next-number}

-- ---- the first field

-- its bytes are there
pub front-most : (last : Bool) (s : List ℕ) → front_size last s ≤ length s
unfolding front_size
front-most last s =
    cases (whole_first s) _
    (λ w. rw w (leb-true (field_size s) (length s) (and_right (leb 3 (length s)) _ w)))
    (λ w. rw w (either (λ (n : ℕ). n ≤ length s) last (omega arith) (omega arith)))

-- ---- what holds at each turn of `cut`: the fields so far, and those that are left

pub record Cutting (last : Bool) (input : List ℕ) (most : ℕ) (old new : List ℕ) (at k : ℕ) : Type 0 where
  pub size : length new ≡ length old
  pub few : k ≤ most
  pub place : at ≤ length input
  pub done : List (List ℕ)
  pub many : length done ≡ k
  pub used : bytes_of done ≡ at
  pub written : new ≡ in_front (ends_from 0 done) old
  pub rest : done ++ front_fields last (most - k) (drop at input) ≡ front_fields last most input

pub cutting-starts : (last : Bool) (input : List ℕ) (most : ℕ) (old : List ℕ) → Cutting last input most old old 0 0
unfolding ends_from bytes_of in_front
cutting-starts last input most old =
    let z : most - 0 ≡ most = omega arith in
    record { size = refl; few = omega arith; place = omega arith; done = []; many = refl; used = refl; written = refl; rest = rw z refl }

module _ (last : Bool) (input : List ℕ) (most : ℕ) (old new : List ℕ) (at k : ℕ) (g : Cutting last input most old new at k) (size : ℕ) (is : size ≡ front_size last (drop at input)) where
  pub cutting-goes : k < most → (size ≡ 0 → ⊥) → Cutting last input most old (set new k (at + size)) (at + size) (k + 1)
  cutting-goes l more =
      let s = drop at input in
      let f = take size s in
      let there : length f ≡ size = omega (arith, length-take size s, front-most last s) in
      let left : most - k ≡ suc (most - (k + 1)) = omega arith in
      let next : front_fields last (most - k) s ≡ f ∷ front_fields last (most - (k + 1)) (drop (at + size) input) =
      ap (λ (n : ℕ). front_fields last n s) left
      ∙ front-next (front_size last) (front-most last) (most - (k + 1)) s (λ e. more (is ∙ e))
      ∙ ap (λ (n : ℕ). take n s ∷ front_fields last (most - (k + 1)) (drop n s)) (sym is)
      ∙ ap (λ (r : List ℕ). f ∷ front_fields last (most - (k + 1)) r) (drop-drop size at input) in
      let ends : ends_from 0 (g.done ++ (f ∷ [])) ≡ ends_from 0 g.done ++ ((at + size) ∷ []) =
      ends_more 0 g.done f ∙ ap (λ (n : ℕ). ends_from 0 g.done ++ (n ∷ [])) (omega (arith, g.used, there)) in
      let behind : length (ends_from 0 g.done) ≡ k = ends-long 0 g.done ∙ g.many in
      record {
        size = length-set new k (at + size) ∙ g.size;
        few = omega arith;
        place = omega (arith, length-drop at input, front-most last s);
        done = g.done ++ (f ∷ []);
        many = rw length-append (omega (arith, g.many));
        used = bytes-more g.done f ∙ omega (arith, g.used, there);
        written = ap (λ (l : List ℕ). set l k (at + size)) g.written
            ∙ ap (λ (n : ℕ). set (in_front (ends_from 0 g.done) old) n (at + size)) (sym behind)
            ∙ front-next-number (ends_from 0 g.done) old (at + size)
            ∙ ap (λ (l : List ℕ). in_front l old) (sym ends);
        rest = append_assoc g.done (f ∷ []) _ ∙ (rw next at g.rest);
      }

  -- no field is left, or no room
  pub cutting-ends : (size ≡ 0) ⊎ (most ≤ k) → (front_fields last most input ≡ g.done)
  cutting-ends stop =
      let none_left : front_fields last (most - k) (drop at input) ≡ [] =
      ⊎_elim
      (λ e. front-none (front_size last) (front-most last) (most - k) (drop at input) (sym is ∙ e))
      (λ full. let z : most - k ≡ 0 = omega arith in ap (λ (n : ℕ). front_fields last n (drop at input)) z ∙ front-zero (front_size last) (front-most last) (drop at input))
      stop in
      sym g.rest ∙ ap (λ (r : List (List ℕ)). g.done ++ r) none_left ∙ append-nil g.done

pub cuts : (last : Bool) (input : List ℕ) (room most : ℕ) (old new : List ℕ) (at k : ℕ) → most ≡ min room (length old) → (g : Cutting last input most old new at k)
    → (size : ℕ) → size ≡ front_size last (drop at input) → (size ≡ 0) ⊎ (most ≤ k) → Cuts last input room old new k
cuts last input room most old new at k limit g size is stop =
    let all = cutting-ends last input most old new at k g size is stop in
    record {
      ends = g.written ∙ ap (λ (fs : List (List ℕ)). in_front (ends_from 0 fs) old) (sym all) ∙ ap (λ (n : ℕ). in_front (ends_from 0 (front_fields last n input)) old) limit;
      count = sym g.many ∙ ap length (sym all) ∙ ap (λ (n : ℕ). length (front_fields last n input)) limit;
    }

-- ---- the rest of an input, as the code lends it

pub rest_all : (input : List ℕ) (at : ℕ) → take (length input - at) (drop at input) ≡ drop at input
rest_all input at = take_all (length input - at) (drop at input) (omega (arith, length-drop at input))

-- a list of no entries
pub no-entry : (fs : List (List ℕ)) → length fs ≡ 0 → fs ≡ []
no-entry [] e = refl
no-entry (f ∷ fs) e = absurd (omega arith)

-- the last end of some fields
pub last_end : (fs : List (List ℕ)) (old : List ℕ) → (length fs ≡ 0 → ⊥) → length fs ≤ length old → get_or (in_front (ends_from 0 fs) old) (length fs - 1) 0 ≡ bytes_of fs
last_end [] old more few = absurd (more refl)
last_end (f ∷ fs) old more few =
    let e : length (f ∷ fs) - 1 ≡ length fs = omega arith in
    ap (λ (k : ℕ). get_or (in_front (ends_from 0 (f ∷ fs)) old) k 0) e
    ∙ front_at (ends_from 0 (f ∷ fs)) old (length fs) (omega (arith, ends-long 0 (f ∷ fs))) (omega (arith, ends-long 0 (f ∷ fs)))
    ∙ end-last 0 f fs ∙ zero-add (bytes_of (f ∷ fs))

-- ---- where the input ends, they are its fields

-- a field that is not all there is all that is left
pub size-left : (s : List ℕ) → whole_first s ≡ false → first-size s ≡ length s
unfolding first-size
size-left s w =
    cases (leb 3 (length s)) (min (field_size s) (length s) ≡ length s)
    (λ t.
    cases (leb (field_size s) (length s)) (min (field_size s) (length s) ≡ length s)
    (λ u. absurd (false≢true (sym w ∙ and_both (leb 3 (length s)) (leb (field_size s) (length s)) t u)))
    (λ u. omega (arith, leb-false (field_size s) (length s) u)))
    (λ t. sym (size-cut s (leb-false 3 (length s) t)))

last-size : (s : List ℕ) → front_size true s ≡ first-size s
unfolding front_size first-size
last-size s =
    cases (whole_first s) _
    (λ w. rw w (omega (arith, leb-true (field_size s) (length s) (and_right (leb 3 (length s)) _ w))))
    (λ w. rw w (sym (size-left s w)))

-- a first field has a byte
size-some : (s : List ℕ) → 0 < length s → first-size s ≡ 0 → ⊥
unfolding first-size
size-some s l e =
    ⊎_elim
    (λ short. absurd (omega (arith, size-cut s short)))
    (λ long. absurd (omega (arith, size-whole s long)))
    (lt-or-le (length s) 3)

no_size : first-size [] ≡ 0
unfolding first-size
no_size = omega arith

no_fields : (s : List ℕ) → fields_in 0 s ≡ front_fields true 0 s
unfolding fields_in pieces
no_fields s = refl

pub fields-front : (n : ℕ) (s : List ℕ) → fields_in n s ≡ front_fields true n s
fields-front zero s = no_fields s
fields-front (suc n) [] = fields-none (suc n) ∙ sym (front-none (front_size true) (front-most true) (suc n) [] (last-size [] ∙ no_size))
fields-front (suc n) (x ∷ r) =
    let s : List ℕ = x ∷ r in
    let more : front_size true s ≡ 0 → ⊥ = λ e. size-some s (omega arith) (sym (last-size s) ∙ e) in
    fields-more n s (omega arith)
    ∙ ap (λ (k : ℕ). take k s ∷ fields_in n (drop k s)) (sym (last-size s))
    ∙ ap (λ (l : List (List ℕ)). take (front_size true s) s ∷ l) (fields-front n (drop (front_size true s) s))
    ∙ sym (front-next (front_size true) (front-most true) n s more)
