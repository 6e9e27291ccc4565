-- The first line of a text: its end and its bytes. Assumes nothing.
use mathlib.Core.Path.{◌≡◌, refl, sym, ap, ◌∙◌}
use mathlib.Core.Bool.{Bool, true, false}
use mathlib.Core.Logic.{⊎_elim}
use mathlib.Core.List.{List, [], ◌∷◌}
use Prim.Native.Nat.{ℕ, suc, ◌+◌, ◌-◌, ◌≤◌, ◌<◌}
use native.Mathlib.Omega.{arith}
use lib.Dec.{eqb}
use Rattle.std.proofs.Common.{◌==◌}
use Rattle.std.specs.List.{position, position_or_len}
use Rattle.std.specs.Option.{unwrap_or}
use Rattle.std.proofs.lemmas.List.Recursion.{is_position_or_len}
use lib.ListN.{length, take, drop, length-take}
use borrow.Author.Tests.{lt-ltb, le-ltb, eq-eqb, ne_eqb, eqb-true, eqb-false}
use Rattle.lists.specs.Lists.{when◌then◌else◌}
use Rattle.lists.proofs.Bools.{cases, lt-or-le}
use Rattle.text_lines.specs.Lines.{length_to, line_size}

-- ---- the first line end

pub to-here : (b : ℕ) (s : List ℕ) → b ≡ 10 → length_to (b ∷ s) ≡ 0
unfolding length_to
to-here b s e = rw (eq-eqb b 10 e) refl

pub to-behind : (b : ℕ) (s : List ℕ) → (b ≡ 10 → ⊥) → length_to (b ∷ s) ≡ suc (length_to s)
unfolding length_to
to-behind b s h = rw (ne_eqb b 10 h) refl

pub no_end : length_to [] ≡ 0
unfolding length_to
no_end = refl

-- it is within the text
pub to-most : (s : List ℕ) → length_to s ≤ length s
to-most [] = omega (arith, no_end)
to-most (b ∷ s) =
    cases (eqb b 10) (length_to (b ∷ s) ≤ length (b ∷ s))
    (λ e. omega (arith, to-here b s (eqb-true b 10 e)))
    (λ e. omega (arith, to-behind b s (eqb-false b 10 e), to-most s))

-- by the library's word
pub to-position : (s : List ℕ) → length_to s ≡ position_or_len (λ b. b == 10) s
unfolding length_to
to-position s = is_position_or_len length_to (λ b. b == 10) no_end (λ b r. let e : suc (length_to r) ≡ 1 + length_to r = omega arith in ap (λ (n : ℕ). when eqb b 10 then 0 else n) e) s

pub to-found : (s : List ℕ) → unwrap_or (position (λ b. b == 10) s) (length s) ≡ length_to s
to-found s =
    ⊎_elim
    (λ l. rw (lt-ltb (position_or_len (λ b. b == 10) s) (length s) l) (sym (to-position s)))
    (λ g. rw (le-ltb (position_or_len (λ b. b == 10) s) (length s) g) (omega (arith, to-position s, to-most s)))
    (lt-or-le (position_or_len (λ b. b == 10) s) (length s))

-- ---- the bytes of the first line

module _ (last : Bool) (s : List ℕ) (n : ℕ) (is : n ≡ length_to s) where
  pub size-long : 65536 < n → 65537 ≡ line_size last s
  unfolding line_size
  size-long h = rw (← is, lt-ltb 65536 n h) refl

  pub size-ended : n ≤ 65536 → n < length s → n + 1 ≡ line_size last s
  unfolding line_size
  size-ended h k = rw (← is, le-ltb 65536 n h, lt-ltb n (length s) k) refl

  left : n ≤ 65536 → length s ≤ n → (when last then length s else 0) ≡ line_size last s
  unfolding line_size
  left h k = rw (← is, le-ltb 65536 n h, le-ltb n (length s) k) refl

  pub size-last : n ≤ 65536 → length s ≤ n → last ≡ true → n ≡ line_size last s
  size-last h k e = omega (arith, is, to-most s) ∙ sym (ap (λ (b : Bool). when b then length s else 0) e) ∙ left h k

  pub size_none : n ≤ 65536 → length s ≤ n → last ≡ false → 0 ≡ line_size last s
  size_none h k e = sym (ap (λ (b : Bool). when b then length s else 0) e) ∙ left h k

pub size-most : (last : Bool) (s : List ℕ) → line_size last s ≤ length s
size-most last s =
    let n = length_to s in
    let most : n ≤ length s = to-most s in
    ⊎_elim
    (λ long. omega (arith, size-long last s n refl long))
    (λ short.
    ⊎_elim
    (λ ended. omega (arith, size-ended last s n refl short ended))
    (λ left.
    cases last (line_size last s ≤ length s)
    (λ e. omega (arith, size-last last s n refl short left e))
    (λ e. omega (arith, size_none last s n refl short left e)))
    (lt-or-le n (length s)))
    (lt-or-le 65536 n)

-- the next line of a text, as the code lends what is left of it, is within the text, and so is its end
module _ (text : List ℕ) (at n : ℕ) (h : at ≤ length text) where
  abbrev part : List ℕ
  part = take (length text - at) (drop at text)

  long : length part ≤ length text - at
  long = omega (arith, length-take (length text - at) (drop at text))

  pub line-within : n ≡ line_size true (take (length text - at) (drop at text)) → at + n ≤ length text
  line-within e = omega (arith, e, size-most true part, long)

  pub end-within : n ≡ length_to (take (length text - at) (drop at text)) → at + n ≤ length text
  end-within e = omega (arith, e, to-most part, long)
