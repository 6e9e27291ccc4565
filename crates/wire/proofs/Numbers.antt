-- Big-endian numbers of one, two and four bytes, and the reserves of ROUND. Assumes nothing.
use Rattle.std.proofs.Common.{◌≡◌, ℕ, zero, suc, ◌+◌, ◌-◌, ◌*◌, ◌/◌, ◌%◌, ◌<◌, ◌≤◌, true, false, ◌&&◌, eqb, leb, List, [], ◌∷◌, length, get_or, take, drop, sym, refl, ◌∙◌, add-one, arith, length-drop, take_all, drop-cons, eq-eqb, ne_eqb, eqb-true, le-leb, leb-true}
use mathlib.Core.Option.{none, some}
use native.Mathlib.Numerals.{add-two, add-three}
use borrow.Author.Tests.{lt-leb}
use Rattle.lists.specs.Lists.{when◌then◌else◌, between, tab}
use Rattle.lists.proofs.Bools.{and_left, and_right}
use Rattle.machine.specs.Wire.{big_endian, number, right_length, call_of, decode}

module _ (s : List ℕ) (at : ℕ) where
  pub number-one : at + 1 ≤ length s → number at 1 s ≡ get_or s at 0
  unfolding number big_endian
  number-one h =
      let h₀ : at < length s = omega arith in
      rw (drop-cons s at 0 h₀) (omega arith)

  pub number-two : at + 2 ≤ length s → number at 2 s ≡ get_or s at 0 * 256 + get_or s (at + 1) 0
  unfolding number big_endian
  number-two h =
      let h₀ : at < length s = omega arith in
      let h₁ : suc at < length s = omega arith in
      rw (add-one, drop-cons s at 0 h₀, drop-cons s (suc at) 0 h₁) (omega arith)

  pub number-four : at + 4 ≤ length s
      → number at 4 s ≡ ((get_or s at 0 * 256 + get_or s (at + 1) 0) * 256 + get_or s (at + 2) 0) * 256 + get_or s (at + 3) 0
  unfolding number big_endian
  number-four h =
      let h₀ : at < length s = omega arith in
      let h₁ : suc at < length s = omega arith in
      let h₂ : suc (suc at) < length s = omega arith in
      let h₃ : suc (suc (suc at)) < length s = omega arith in
      rw (add-one, add-two, add-three, drop-cons s at 0 h₀, drop-cons s (suc at) 0 h₁, drop-cons s (suc (suc at)) 0 h₂, drop-cons s (suc (suc (suc at))) 0 h₃)
      (omega arith)

-- ---- the length of a value

abbrev pub lengths : List ℕ
lengths = 27 ∷ 4 ∷ 13 ∷ 0 ∷ 8 ∷ 0 ∷ 5 ∷ 5 ∷ 0 ∷ 5 ∷ 1 ∷ 5 ∷ 0 ∷ 6 ∷ 3 ∷ []

pub length-round : (tag n : ℕ) → tag ≡ 4 → right_length tag n ≡ (between 4 16 n && eqb (n % 4) 0)
unfolding right_length
length-round tag n e = rw (eq-eqb tag 4 e)

pub length-other : (tag n : ℕ) → (tag ≡ 4 → ⊥) → right_length tag n ≡ eqb n (get_or lengths (tag - 1) 0)
unfolding right_length
length-other tag n h = rw (ne_eqb tag 4 h)

pub round-small : (n : ℕ) → right_length 4 n ≡ true → n ≤ 16
unfolding right_length
round-small n e = leb-true n 16 (and_right (leb 4 n) (leb n 16) (and_left (between 4 16 n) (eqb (n % 4) 0) e))

-- a ROUND of n bytes has 1 to 4 reserves
pub round-count : (n : ℕ) → right_length 4 n ≡ true → between 1 4 (n / 4) ≡ true
unfolding right_length
round-count n e =
    let low = leb-true 4 n (and_left (leb 4 n) (leb n 16) (and_left (between 4 16 n) (eqb (n % 4) 0) e)) in
    let high = leb-true n 16 (and_right (leb 4 n) (leb n 16) (and_left (between 4 16 n) (eqb (n % 4) 0) e)) in
    rw (le-leb 1 (n / 4) (omega arith), le-leb (n / 4) 4 (omega arith))

-- they are those that are read
pub reserves-of : (n : ℕ) → right_length 4 n ≡ true → (f : ℕ → ℕ) (a b c d : ℕ)
    → (4 ≤ n → a ≡ f 0) → (8 ≤ n → b ≡ f 1) → (12 ≤ n → c ≡ f 2) → (16 ≤ n → d ≡ f 3)
    → take (n / 4) (a ∷ b ∷ c ∷ d ∷ []) ≡ tab (n / 4) f
unfolding right_length tab
reserves-of n e f a b c d ha hb hc hd =
    let low = leb-true 4 n (and_left (leb 4 n) (leb n 16) (and_left (between 4 16 n) (eqb (n % 4) 0) e)) in
    let high = leb-true n 16 (and_right (leb 4 n) (leb n 16) (and_left (between 4 16 n) (eqb (n % 4) 0) e)) in
    let whole = eqb-true (n % 4) 0 (and_right (between 4 16 n) (eqb (n % 4) 0) e) in
    go (n / 4) (omega arith) (omega arith) (λ h. ha (omega arith)) (λ h. hb (omega arith)) (λ h. hc (omega arith)) (λ h. hd (omega arith))
  where
    go : (k : ℕ) → 1 ≤ k → k ≤ 4 → (1 ≤ k → a ≡ f 0) → (2 ≤ k → b ≡ f 1) → (3 ≤ k → c ≡ f 2) → (4 ≤ k → d ≡ f 3)
        → take k (a ∷ b ∷ c ∷ d ∷ []) ≡ tab k f
    go zero l h ha hb hc hd = absurd (omega arith)
    go (suc zero) l h ha hb hc hd = rw (ha (omega arith))
    go (suc (suc zero)) l h ha hb hc hd = rw (ha (omega arith), hb (omega arith))
    go (suc (suc (suc zero))) l h ha hb hc hd = rw (ha (omega arith), hb (omega arith), hc (omega arith))
    go (suc (suc (suc (suc zero)))) l h ha hb hc hd = rw (ha (omega arith), hb (omega arith), hc (omega arith), hd (omega arith))
    go (suc (suc (suc (suc (suc k))))) l h ha hb hc hd = absurd (omega arith)

-- ---- the bytes of a call

-- the part of a list from a place to its end, as a part `&s[at..]` is given
pub rest_all : (s : List ℕ) (at : ℕ) → take (length s - at) (drop at s) ≡ drop at s
rest_all s at = take_all (length s - at) (drop at s) (simp length-drop (omega arith))

pub decode-short : (s : List ℕ) → length s < 3 → decode s ≡ none
unfolding decode
decode-short [] h = refl
decode-short (a ∷ []) h = refl
decode-short (a ∷ b ∷ []) h = refl
decode-short (a ∷ b ∷ c ∷ l) h = absurd (omega arith)

-- three bytes and more: the tests, in the order of the code
decode-long : (s : List ℕ) → 3 ≤ length s
    → decode s
    ≡ (when between 1 15 (get_or s 0 0) && eqb (number 1 2 s) (length (drop 3 s)) && right_length (get_or s 0 0) (length (drop 3 s))
    then some (call_of (get_or s 0 0) (drop 3 s)) else none)
unfolding decode
decode-long [] h = absurd (omega arith)
decode-long (a ∷ []) h = absurd (omega arith)
decode-long (a ∷ b ∷ []) h = absurd (omega arith)
decode-long (a ∷ b ∷ c ∷ l) h = rw (number-two (a ∷ b ∷ c ∷ l) 1 (omega arith))

-- by the way in which the tests come out; v is the value
module _ (s v : List ℕ) (is : v ≡ take (length s - 3) (drop 3 s)) (long : 3 ≤ length s) where
  value-is : drop 3 s ≡ v
  value-is = sym (is ∙ rest_all s 3)

  pub decode-low : get_or s 0 0 < 1 → decode s ≡ none
  decode-low h = rw (decode-long s long, lt-leb 1 (get_or s 0 0) h)

  pub decode-high : 1 ≤ get_or s 0 0 → 15 < get_or s 0 0 → decode s ≡ none
  decode-high l h = rw (decode-long s long, le-leb 1 (get_or s 0 0) l, lt-leb (get_or s 0 0) 15 h)

  module _ (low : 1 ≤ get_or s 0 0) (high : get_or s 0 0 ≤ 15) where
    pub decode-size : (number 1 2 s ≡ length v → ⊥) → decode s ≡ none
    decode-size h =
        rw (decode-long s long, value-is, le-leb 1 (get_or s 0 0) low, le-leb (get_or s 0 0) 15 high, ne_eqb (number 1 2 s) (length v) h)

    pub decode-length : number 1 2 s ≡ length v → right_length (get_or s 0 0) (length v) ≡ false → decode s ≡ none
    decode-length e h =
        rw (decode-long s long, value-is, le-leb 1 (get_or s 0 0) low, le-leb (get_or s 0 0) 15 high, eq-eqb (number 1 2 s) (length v) e, h)

    pub decode_call : number 1 2 s ≡ length v → right_length (get_or s 0 0) (length v) ≡ true → decode s ≡ some (call_of (get_or s 0 0) v)
    decode_call e h =
        rw (decode-long s long, value-is, le-leb 1 (get_or s 0 0) low, le-leb (get_or s 0 0) 15 high, eq-eqb (number 1 2 s) (length v) e, h)
