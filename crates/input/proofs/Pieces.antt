-- The pieces at the front of some bytes: one after the other, some and then the rest, and where they end; `most` says that the first is within the bytes. Assumes
-- nothing.
use mathlib.Core.Path.{◌≡◌, refl, sym, ap, ap₂, ◌∙◌}
use mathlib.Core.Bool.{Bool, true, false}
use mathlib.Core.Logic.{⊎_elim}
use mathlib.Core.List.{List, [], ◌∷◌, ◌++◌, append-nil}
use Prim.Native.Nat.{ℕ, zero, suc, ◌+◌, ◌-◌, ◌≤◌, ◌<◌}
use native.Mathlib.Nat.{zero-add}
use native.Mathlib.Omega.{arith}
use lib.Dec.{eqb}
use lib.ListN.{length, take, drop, length-take, length-drop}
use lib.Seq.{take-append-le, drop-append-le, drop-drop}
use borrow.Author.Tests.{eqb-true, eqb-false, ne_eqb, eq-eqb}
use Rattle.lists.proofs.Bools.{cases, lt-or-le}
use Rattle.input.specs.Strings.{cut_at, strings_from, strings_in, ends_from, bytes_of}
use Rattle.input.specs.Pieces.{pieces, all_pieces, left_of}
use Rattle.input.proofs.Strings.{cut-there, bytes-two}

module _ (size : List ℕ → ℕ) (most : (s : List ℕ) → size s ≤ length s) where
  choice : ℕ → List ℕ → Bool → List (List ℕ)
  choice n s b = elim b [ true ↦ [] | false ↦ take (size s) s ∷ pieces size n (drop (size s) s) ]

  pub front-none : (n : ℕ) (s : List ℕ) → size s ≡ 0 → pieces size n s ≡ []
  unfolding pieces choice
  front-none zero s e = refl
  front-none (suc n) s e = ap (choice n s) (eq-eqb (size s) 0 e)

  pub front-next : (n : ℕ) (s : List ℕ) → (size s ≡ 0 → ⊥) → pieces size (suc n) s ≡ take (size s) s ∷ pieces size n (drop (size s) s)
  unfolding pieces choice
  front-next n s h = ap (choice n s) (ne_eqb (size s) 0 h)

  pub front-zero : (s : List ℕ) → pieces size 0 s ≡ []
  unfolding pieces
  front-zero s = refl

  -- ---- some pieces, and then the rest

  -- the bytes of the first n
  abbrev pub bytes : ℕ → List ℕ → ℕ
  bytes n s = bytes_of (pieces size n s)

  bytes_next : (n : ℕ) (s : List ℕ) → (size s ≡ 0 → ⊥) → bytes (suc n) s ≡ size s + bytes n (drop (size s) s)
  unfolding bytes_of
  bytes_next n s h =
      ap bytes_of (front-next n s h)
      ∙ omega (arith, length-take (size s) s, most s)

  pub bytes_most : (n : ℕ) (s : List ℕ) → bytes n s ≤ length s
  unfolding bytes_of
  bytes_most zero s = rw (front-zero s) (omega arith)
  bytes_most (suc n) s =
      cases (eqb (size s) 0) _
      (λ t. rw (front-none (suc n) s (eqb-true (size s) 0 t)) (omega arith))
      (λ t.
      omega (
        arith,
        bytes_next n s (eqb-false (size s) 0 t),
        bytes_most n (drop (size s) s),
        length-drop (size s) s,
        most s,
      ))

  -- each takes a byte or more
  pub fields-few : (n : ℕ) (s : List ℕ) → length (pieces size n s) ≤ bytes n s
  unfolding bytes_of
  fields-few zero s = rw (front-zero s) (omega arith)
  fields-few (suc n) s =
      cases (eqb (size s) 0) _
      (λ t. rw (front-none (suc n) s (eqb-true (size s) 0 t)) (omega arith))
      (λ t.
      let more = eqb-false (size s) 0 t in
      omega (
        arith,
        bytes_next n s more,
        ap length (front-next n s more),
        fields-few n (drop (size s) s),
      ))

  pub fields-most : (n : ℕ) (s : List ℕ) → length (pieces size n s) ≤ n
  fields-most zero s = rw (front-zero s) (omega arith)
  fields-most (suc n) s =
      cases (eqb (size s) 0) _
      (λ t. rw (front-none (suc n) s (eqb-true (size s) 0 t)) (omega arith))
      (λ t. omega (arith, ap length (front-next n s (eqb-false (size s) 0 t)), fields-most n (drop (size s) s)))

  pub fields-then : (a b : ℕ) (s : List ℕ) → pieces size (a + b) s ≡ pieces size a s ++ pieces size b (drop (bytes a s) s)
  unfolding bytes_of
  fields-then zero b s = rw (front-zero s, zero-add b)
  fields-then (suc a) b s =
      let e : suc a + b ≡ suc (a + b) = omega arith in
      cases (eqb (size s) 0) _
      (λ t.
      let none-there = eqb-true (size s) 0 t in
      rw (front-none (suc a + b) s none-there, front-none (suc a) s none-there) (sym (front-none b s none-there)))
      (λ t.
      let more = eqb-false (size s) 0 t in
      let rest = drop (size s) s in
      ap (λ (n : ℕ). pieces size n s) e
      ∙ front-next (a + b) s more
      ∙ ap (λ (l : List (List ℕ)). take (size s) s ∷ l)
      (fields-then a b rest ∙ ap (λ (l : List ℕ). pieces size a rest ++ pieces size b l) (drop-drop (bytes a rest) (size s) s ∙ ap (λ (n : ℕ). drop n s) (sym (bytes_next a s more))))
      ∙ ap (λ (l : List (List ℕ)). l ++ pieces size b (drop (bytes (suc a) s) s)) (sym (front-next a s more)))

  -- where there are fewer than there is room for, no piece is left
  pub fields-stop : (n : ℕ) (s : List ℕ) → length (pieces size n s) < n → size (drop (bytes n s) s) ≡ 0
  unfolding bytes_of
  fields-stop zero s l = absurd (omega arith)
  fields-stop (suc n) s l =
      cases (eqb (size s) 0) _
      (λ t. let none-there = eqb-true (size s) 0 t in rw (front-none (suc n) s none-there) none-there)
      (λ t.
      let more = eqb-false (size s) 0 t in
      let rest = drop (size s) s in
      ap (λ (r : List ℕ). size r) (ap (λ (k : ℕ). drop k s) (bytes_next n s more) ∙ sym (drop-drop (bytes n rest) (size s) s))
      ∙ fields-stop n rest (omega (arith, ap length (front-next n s more))))

  pub fields-rest : (n m : ℕ) (s : List ℕ) → m ≤ n
      → pieces size n s ≡ pieces size m s ++ pieces size (n - length (pieces size m s)) (drop (bytes m s) s)
  fields-rest n m s l =
      let fs = pieces size m s in
      let rest = drop (bytes m s) s in
      let all : m + (n - m) ≡ n = omega arith in
      sym (ap (λ (k : ℕ). pieces size k s) all) ∙ fields-then m (n - m) s
      ∙ ap (λ (r : List (List ℕ)). fs ++ r)
      (⊎_elim
      (λ fewer. let stop = fields-stop m s fewer in front-none (n - m) rest stop ∙ sym (front-none (n - length fs) rest stop))
      (λ full. ap (λ (k : ℕ). pieces size k rest) (omega (arith, fields-most m s)))
      (lt-or-le (length fs) m))

  -- there are no more than bytes
  pub fields-all : (n : ℕ) (s : List ℕ) → length s ≤ n → pieces size n s ≡ pieces size (length s) s
  fields-all n s l =
      let k = length s in
      let fs = pieces size k s in
      let rest = drop (bytes k s) s in
      let stop : size rest ≡ 0 =
      ⊎_elim
      (λ fewer. fields-stop k s fewer)
      (λ full. omega (arith, most rest, length-drop (bytes k s) s, fields-few k s))
      (lt-or-le (length fs) k) in
      let all : k + (n - k) ≡ n = omega arith in
      sym (ap (λ (j : ℕ). pieces size j s) all) ∙ fields-then k (n - k) s ∙ ap (λ (r : List (List ℕ)). fs ++ r) (front-none (n - k) rest stop) ∙ append-nil fs

  -- some of all, and all of the rest
  pub fields-chunk : (m : ℕ) (s : List ℕ) → pieces size (length s) s ≡ pieces size m s ++ pieces size (length (drop (bytes m s) s)) (drop (bytes m s) s)
  fields-chunk m s =
      let rest = drop (bytes m s) s in
      sym (fields-all (length s + m) s (omega arith))
      ∙ fields-rest (length s + m) m s (omega arith)
      ∙ ap (λ (r : List (List ℕ)). pieces size m s ++ r) (fields-all (length s + m - length (pieces size m s)) rest (omega (arith, length-drop (bytes m s) s, fields-most m s)))

  -- ---- where they end

  -- the pieces are the strings that end there
  strings-from : (n : ℕ) (s : List ℕ) (at : ℕ) → at ≤ length s → strings_from at s (ends_from at (pieces size n (drop at s))) ≡ pieces size n (drop at s)
  unfolding strings_from ends_from
  strings-from zero s at l = rw (front-zero (drop at s))
  strings-from (suc n) s at l =
      let rest = drop at s in
      let k = size rest in
      cases (eqb k 0) _
      (λ t. rw (front-none (suc n) rest (eqb-true k 0 t)))
      (λ t.
      let more = eqb-false k 0 t in
      let there : length (take k rest) ≡ k = omega (arith, length-take k rest, most rest) in
      let inside : at + k ≤ length s = omega (arith, length-drop at s, most rest) in
      let to : at + length (take k rest) ≡ at + k = ap (λ (j : ℕ). at + j) there in
      let ends : cut_at at (length s) (at + k) ≡ at + k = cut-there at (length s) (at + k) (omega arith) inside in
      let behind : drop k rest ≡ drop (at + k) s = drop-drop k at s in
      let gap : at + k - at ≡ k = omega arith in
      rw (front-next n rest more, to, ends, gap) (ap (λ (l : List (List ℕ)). take k rest ∷ l) (rw behind (strings-from n s (at + k) inside))))

  pub strings-are : (n : ℕ) (s : List ℕ) → strings_in s (ends_from 0 (pieces size n s)) ≡ pieces size n s
  strings-are n s = strings-from n s 0 (omega arith)

  -- ---- all pieces

  -- the first, where there is one, and those of what is behind it
  pub all-next : (s : List ℕ) (k : ℕ) → k ≡ size s → (k ≡ 0 → ⊥) → all_pieces size s ≡ take k s ∷ all_pieces size (drop k s)
  all-next s k is some =
      let n = size s in
      let few : n ≤ length s = most s in
      let less : length s ≡ suc (length s - 1) = omega arith in
      ap (λ (j : ℕ). pieces size j s) less
      ∙ front-next (length s - 1) s (λ e. some (is ∙ e))
      ∙ ap (λ (l : List (List ℕ)). take n s ∷ l) (fields-all (length s - 1) (drop n s) (omega (arith, length-drop n s)))
      ∙ ap (λ (j : ℕ). take j s ∷ all_pieces size (drop j s)) (sym is)

  pub all_none : (s : List ℕ) (k : ℕ) → k ≡ size s → k ≡ 0 → all_pieces size s ≡ []
  all_none s k is none-there = front-none (length s) s (sym is ∙ none-there)

  -- no piece is left behind all
  pub left-stop : (s : List ℕ) → size (left_of size s) ≡ 0
  left-stop s =
      ⊎_elim
      (λ fewer. fields-stop (length s) s fewer)
      (λ full. omega (arith, most (left_of size s), length-drop (bytes (length s) s) s, fields-few (length s) s))
      (lt-or-le (length (all_pieces size s)) (length s))

  -- ---- pieces taken one by one from the front: what a function of the pieces gives for those that are left leads to what it gives for all, and the bytes
  -- used are those of the pieces taken

  pub record Passing {A : Type 0} (after : A → List (List ℕ) → A) (first : A) (input : List ℕ) (now : A) (used : ℕ) : Type 0 where
    pub place : used ≤ length input
    pub leads : after now (all_pieces size (drop used input)) ≡ after first (all_pieces size input)
    pub counted : used + bytes_of (all_pieces size (drop used input)) ≡ bytes_of (all_pieces size input)

  module _ {A : Type 0} (after : A → List (List ℕ) → A) (first : A) (input : List ℕ) where
    pub passing-starts : Passing after first input first 0
    passing-starts = record { place = omega arith; leads = refl; counted = omega arith }

    module _ (step : A → List ℕ → A) (after-cons : (a : A) (f : List ℕ) (fs : List (List ℕ)) → after a (f ∷ fs) ≡ after (step a f) fs)
        (now : A) (used : ℕ) (g : Passing after first input now used) (k : ℕ) (is : k ≡ size (drop used input)) where
      -- the next piece lies within the input
      pub passing-within : used + k ≤ length input
      passing-within = omega (arith, is, most (drop used input), length-drop used input, g.place)

      pub passing-goes : (k ≡ 0 → ⊥) → (next : A) → next ≡ step now (take k (drop used input)) → Passing after first input next (used + k)
      unfolding bytes_of
      passing-goes some next e =
          let s = drop used input in
          let w : all_pieces size s ≡ take k s ∷ all_pieces size (drop k s) = all-next s k is some in
          let d : drop k s ≡ drop (used + k) input = drop-drop k used input in
          let few : k ≤ length s = omega (arith, most s, is) in
          record {
            place = passing-within;
            leads =
                ap₂ (λ (a : A) (l : List ℕ). after a (all_pieces size l)) e (sym d)
                ∙ sym (after-cons now (take k s) (all_pieces size (drop k s)))
                ∙ ap (after now) (sym w)
                ∙ g.leads;
            counted = omega (arith, g.counted, ap bytes_of w, length-take k s, ap (λ (l : List ℕ). bytes_of (all_pieces size l)) d);
          }

      pub passing-ends : (after_none : (a : A) → after a [] ≡ a) → k ≡ 0 → (now ≡ after first (all_pieces size input)) × (used ≡ bytes_of (all_pieces size input))
      unfolding bytes_of
      passing-ends after_none stop =
          let w : all_pieces size (drop used input) ≡ [] = all_none (drop used input) k is stop in
          (sym (after_none now) ∙ ap (after now) (sym w) ∙ g.leads, omega (arith, g.counted, ap bytes_of w))

  -- ---- bytes behind bytes, where a first piece that is all there stays what it is

  module _ (stays : (s t : List ℕ) → (size s ≡ 0 → ⊥) → size (s ++ t) ≡ size s) where
    -- the pieces of s, and those of what is left of it with t behind it, are those of both
    apart_from : (n : ℕ) (s t : List ℕ) → length s ≤ n → all_pieces size (s ++ t) ≡ pieces size n s ++ all_pieces size (drop (bytes n s) s ++ t)
    unfolding bytes_of pieces
    apart_from zero [] t h = refl
    apart_from zero (x ∷ s) t h = absurd (omega arith)
    apart_from (suc n) s t h =
        let k = size s in
        cases (eqb k 0) (all_pieces size (s ++ t) ≡ pieces size (suc n) s ++ all_pieces size (drop (bytes (suc n) s) s ++ t))
        (λ z. ap (λ (fs : List (List ℕ)). fs ++ all_pieces size (drop (bytes_of fs) s ++ t)) (sym (front-none (suc n) s (eqb-true k 0 z))))
        (λ z.
        let some = eqb-false k 0 z in
        let few : k ≤ length s = most s in
        all-next (s ++ t) k (sym (stays s t some)) some
        ∙ ap₂ (λ (x : List ℕ) (y : List ℕ). x ∷ all_pieces size y) (take-append-le k s t few) (drop-append-le k s t few)
        ∙ ap (λ (fs : List (List ℕ)). take k s ∷ fs) (apart_from n (drop k s) t (omega (arith, length-drop k s)))
        ∙ ap (λ (y : List ℕ). take k s ∷ (pieces size n (drop k s) ++ all_pieces size (y ++ t)))
        (drop-drop (bytes n (drop k s)) k s ∙ ap (λ (j : ℕ). drop j s) (sym (bytes_next n s some)))
        ∙ ap (λ (fs : List (List ℕ)). fs ++ all_pieces size (drop (bytes (suc n) s) s ++ t)) (sym (front-next n s some)))

    pub apart : (s t : List ℕ) → all_pieces size (s ++ t) ≡ all_pieces size s ++ all_pieces size (left_of size s ++ t)
    apart s t = apart_from (length s) s t (omega arith)

    pub left-then : (s t : List ℕ) → left_of size (s ++ t) ≡ left_of size (left_of size s ++ t)
    left-then s t =
        let more = all_pieces size (left_of size s ++ t) in
        ap (λ (fs : List (List ℕ)). drop (bytes_of fs) (s ++ t)) (apart s t)
        ∙ ap (λ (n : ℕ). drop n (s ++ t)) (bytes-two (all_pieces size s) more)
        ∙ sym (drop-drop (bytes_of more) (bytes (length s) s) (s ++ t))
        ∙ ap (drop (bytes_of more)) (drop-append-le (bytes (length s) s) s t (bytes_most (length s) s))
