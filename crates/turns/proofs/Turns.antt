-- The key of an entry that may move: entries have their turns in MOVE by their keys, the least first, just as the machine has them; and entries of one key
-- are the same. Assumes nothing.
use mathlib.Core.Path.{◌≡◌, refl, sym, ap, ◌∙◌}
use mathlib.Core.Bool.{Bool, true, false, ◌&&◌, ◌||◌, not, and-false, false≢true}
use mathlib.Core.Logic.{⊎_elim}
use mathlib.Core.List.{List, [], ◌∷◌}
use Prim.Native.Nat.{ℕ, ◌+◌, ◌-◌, ◌*◌, ◌≤◌, ◌<◌}
use native.Mathlib.Nat.{le_of_lt, suc-mul, mul-le-mul_right}
use native.Mathlib.Omega.{arith}
use lib.Dec.{leb, ltb, eqb}
use lib.ListN.{get_or}
use borrow.Author.Tests.{leb-true, leb-false, ltb-true, lt-ltb, le-ltb, le-leb, lt-leb, eq-eqb, ne_eqb, eqb-true}
use Rattle.lists.proofs.Bools.{order-of, leb-same, lt-or-le, cases, and_left, and_right}
use Rattle.auction.specs.Price.{negative}
use Rattle.machine.specs.Roll.{UnitState, Open, Sold, Allocated, Moved, Torn, Agreed, Entry, Bid, no_bid, kind, is_agreed, price_of}
use Rattle.machine.specs.Move.{may_move, turn, later}
use Rattle.turns.specs.Keys.{no_key, sold_keys, sold_key, allocated_key}

-- ---- numbers by their digits

-- the last digit decides by itself
last : (x y : ℕ) → leb x y ≡ not (ltb y x || (eqb x y && false))
last x y =
    ⊎_elim
    (λ h. rw (lt-leb x y h, lt-ltb y x h))
    (λ h. rw (le-leb x y h, le-ltb y x h, and-false (eqb x y)))
    (lt-or-le y x)

-- a digit in front of what decides where it is the same
lex : (B a b x y : ℕ) (after : Bool) → x < B → y < B → leb x y ≡ not after → leb (a * B + x) (b * B + y) ≡ not (ltb b a || (eqb a b && after))
lex B a b x y after hx hy same =
    ⊎_elim
    (λ h. rw (le-leb (a * B + x) (b * B + y) (omega (arith, below a b h)), le-ltb b a (omega arith), ne_eqb a b (omega arith)))
    (⊎_elim
    (λ h. rw (h, le-ltb b b (omega arith), eq-eqb b b refl) (leb-same (b * B + x) (b * B + y) x y (omega arith) (omega arith) ∙ same))
    (λ h. rw (lt-leb (a * B + x) (b * B + y) (omega (arith, below b a h)), lt-ltb b a h)))
    (order-of a b)
  where
    below : (c d : ℕ) → c < d → c * B + B ≤ d * B
    below c d h = omega (arith, suc-mul c B, mul-le-mul_right B h)

-- ---- the keys of sold and of allocated entries

module _ (p : ℕ) (low : negative p ≡ true) where
  under : p < 1000000
  under = ltb-true p 1000000 low

  sold-key : (b : ℕ) → sold_key p b ≡ sold_keys + (p * 256 + (255 - b))
  unfolding sold_key
  sold-key b = rw low

  allocated-key : (pool m : ℕ) → allocated_key p pool m ≡ p * 256 + ((3 - pool) * 32 + (31 - m))
  unfolding allocated_key
  allocated-key pool m = rw low

-- below `no_key` exactly if the price is negative
sold-may : (p b : ℕ) → leb no_key (sold_key p b) ≡ not (negative p)
unfolding sold_key
sold-may p b = cases (negative p) _ (λ e. rw e (lt-leb no_key (sold_keys + (p * 256 + (255 - b))) (omega (arith, under p e)))) (λ e. rw e)

allocated-may : (p pool m : ℕ) → leb no_key (allocated_key p pool m) ≡ not (negative p)
unfolding allocated_key
allocated-may p pool m = cases (negative p) _ (λ e. rw e (lt-leb no_key (p * 256 + ((3 - pool) * 32 + (31 - m))) (omega (arith, under p e)))) (λ e. rw e)

-- only a negative price has a key
pub sold-low : (p b : ℕ) → sold_key p b < no_key → negative p ≡ true
sold-low p b h = cases (negative p) _ (λ e. e) (λ e. absurd (omega (arith, leb-true no_key (sold_key p b) (sold-may p b ∙ ap not e))))

pub allocated_low : (p j m : ℕ) → allocated_key p j m < no_key → negative p ≡ true
allocated_low p j m h = cases (negative p) _ (λ e. e) (λ e. absurd (omega (arith, leb-true no_key (allocated_key p j m) (allocated-may p j m ∙ ap not e))))

-- by price and later bid
sold-order : (p q b c : ℕ) → negative p ≡ true → negative q ≡ true
    → leb (sold_key p b) (sold_key q c) ≡ not (later (1 ∷ p ∷ (255 - b) ∷ []) (1 ∷ q ∷ (255 - c) ∷ []))
unfolding later
sold-order p q b c lp lq =
    rw (sold-key p lp b, sold-key q lq c)
    (leb-same (sold_keys + (p * 256 + (255 - b))) (sold_keys + (q * 256 + (255 - c))) (p * 256 + (255 - b)) (q * 256 + (255 - c)) (omega arith) (omega arith)
    ∙ lex 256 p q (255 - b) (255 - c) (ltb (255 - c) (255 - b) || (eqb (255 - b) (255 - c) && false)) (omega arith) (omega arith) (last (255 - b) (255 - c)))

-- by price, higher pool and higher member
allocated-order : (p q j k m n : ℕ) → negative p ≡ true → negative q ≡ true
    → leb (allocated_key p j m) (allocated_key q k n) ≡ not (later (0 ∷ p ∷ (3 - j) ∷ (31 - m) ∷ []) (0 ∷ q ∷ (3 - k) ∷ (31 - n) ∷ []))
unfolding later
allocated-order p q j k m n lp lq =
    rw (allocated-key p lp j m, allocated-key q lq k n)
    (lex 256 p q ((3 - j) * 32 + (31 - m)) ((3 - k) * 32 + (31 - n)) _ (omega arith) (omega arith)
    (lex 32 (3 - j) (3 - k) (31 - m) (31 - n) _ (omega arith) (omega arith) (last (31 - m) (31 - n))))

-- allocated before sold
allocated-first : (p q j m b : ℕ) → negative p ≡ true → negative q ≡ true → allocated_key p j m < sold_key q b
allocated-first p q j m b lp lq = rw (allocated-key p lp j m, sold-key q lq b) (omega (arith, under p lp))

-- a key tells its numbers
one-bid : (p q b d : ℕ) → negative p ≡ true → negative q ≡ true → b < 256 → d < 256 → sold_key p b ≡ sold_key q d → b ≡ d
one-bid p q b d lp lq hb hd same = omega (arith, under p lp, under q lq, sym (sold-key p lp b) ∙ same ∙ sold-key q lq d)

one-member : (p q j k m n : ℕ) → negative p ≡ true → negative q ≡ true → m < 32 → n < 32 → j < 4 → k < 4 → allocated_key p j m ≡ allocated_key q k n
    → (p ≡ q) × (j ≡ k) × (m ≡ n)
one-member p q j k m n lp lq hm hn hj hk same =
    let e = sym (allocated-key p lp j m) ∙ same ∙ allocated-key q lq k n in
    let a : p ≡ q = omega arith in
    let r : (3 - j) * 32 + (31 - m) ≡ (3 - k) * 32 + (31 - n) = omega (arith, ap (λ (x : ℕ). x * 256) a) in
    let b : 3 - j ≡ 3 - k = digit (3 - j) (3 - k) (31 - m) (31 - n) (omega arith) (omega arith) r in
    (a, omega arith, omega (arith, ap (λ (x : ℕ). x * 32) b))
  where
    digit : (x y v w : ℕ) → v < 32 → w < 32 → x * 32 + v ≡ y * 32 + w → x ≡ y
    digit x y v w hv hw e = omega arith

-- ---- any entry

-- the key of an entry
unfoldable pub unit_key : List Bid → Entry → ℕ
unit_key bids e = elim e.state [
  | Open ↦ no_key
  | Sold bid ↦ sold_key (get_or bids bid no_bid).price bid
  | Allocated m price ↦ allocated_key price e.pool m
  | Moved m ↦ no_key
  | Torn price ↦ no_key
  | Agreed m price ↦ no_key
]

abbrev at : ℕ → UnitState → Entry
at pool s = record { pool = pool; state = s }

module _ (bids : List Bid) where
  -- an entry has a key below `no_key` exactly if it may move
  pub key-may : (e : Entry) → leb no_key (unit_key bids e) ≡ not (may_move bids e)
  unfolding unit_key may_move kind is_agreed price_of
  key-may e = go e.pool e.state
    where
      go : (pool : ℕ) (s : UnitState) → leb no_key (unit_key bids (at pool s)) ≡ not (may_move bids (at pool s))
      go pool Open = refl
      go pool (Sold b) = sold-may (get_or bids b no_bid).price b
      go pool (Allocated m price) = allocated-may price pool m
      go pool (Moved m) = refl
      go pool (Torn price) = refl
      go pool (Agreed z price) = refl

  pub may-low : (e : Entry) → may_move bids e ≡ true → unit_key bids e < no_key
  may-low e may = leb-false no_key (unit_key bids e) (key-may e ∙ ap not may)

  pub may-not : (e : Entry) → may_move bids e ≡ false → no_key ≤ unit_key bids e
  may-not e may = leb-true no_key (unit_key bids e) (key-may e ∙ ap not may)

  -- of two that may move, the one with the lesser key, or with the same, has no later turn
  pub key-order : (e x : Entry) → may_move bids e ≡ true → may_move bids x ≡ true
      → leb (unit_key bids e) (unit_key bids x) ≡ not (later (turn bids e) (turn bids x))
  unfolding unit_key may_move kind is_agreed price_of turn later
  key-order e x me mx = go e.pool e.state x.pool x.state me mx
    where
      go : (j : ℕ) (s : UnitState) (k : ℕ) (t : UnitState)
          → may_move bids (at j s) ≡ true → may_move bids (at k t) ≡ true
          → leb (unit_key bids (at j s)) (unit_key bids (at k t)) ≡ not (later (turn bids (at j s)) (turn bids (at k t)))
      go j Open k t ms mt = absurd (false≢true ms)
      go j (Moved m) k t ms mt = absurd (false≢true ms)
      go j (Torn price) k t ms mt = absurd (false≢true ms)
      go j (Agreed z price) k t ms mt = absurd (false≢true ms)
      go j (Sold b) k Open ms mt = absurd (false≢true mt)
      go j (Sold b) k (Moved m) ms mt = absurd (false≢true mt)
      go j (Sold b) k (Torn price) ms mt = absurd (false≢true mt)
      go j (Sold b) k (Agreed z price) ms mt = absurd (false≢true mt)
      go j (Sold b) k (Sold d) ms mt = sold-order (get_or bids b no_bid).price (get_or bids d no_bid).price b d ms mt
      go j (Sold b) k (Allocated n price) ms mt = lt-leb _ _ (allocated-first price (get_or bids b no_bid).price k n b mt ms)
      go j (Allocated m price) k Open ms mt = absurd (false≢true mt)
      go j (Allocated m price) k (Moved n) ms mt = absurd (false≢true mt)
      go j (Allocated m price) k (Torn q) ms mt = absurd (false≢true mt)
      go j (Allocated m price) k (Agreed z q) ms mt = absurd (false≢true mt)
      go j (Allocated m price) k (Sold d) ms mt = le-leb _ _ (le_of_lt (allocated-first price (get_or bids d no_bid).price j m d ms mt))
      go j (Allocated m price) k (Allocated n q) ms mt = allocated-order price q j k m n ms mt

  -- ---- entries of one key

  -- an entry whose key tells it: its numbers fit the key's digits, and a sold one is of its bid's pool
  unfoldable pub fits : Entry → Bool
  fits e = elim e.state [
    | Open ↦ true
    | Sold b ↦ ltb b 256 && eqb e.pool (get_or bids b no_bid).pool
    | Allocated m price ↦ ltb m 32 && ltb e.pool 4
    | Moved m ↦ true
    | Torn price ↦ true
    | Agreed m price ↦ true
  ]

  pub key-tells : (e x : Entry) → fits e ≡ true → fits x ≡ true → unit_key bids e < no_key → unit_key bids e ≡ unit_key bids x → e ≡ x
  unfolding fits unit_key
  key-tells e x fe fx low same = go e.pool e.state x.pool x.state fe fx low same
    where
      go : (j : ℕ) (s : UnitState) (k : ℕ) (t : UnitState) → fits (at j s) ≡ true → fits (at k t) ≡ true → unit_key bids (at j s) < no_key
          → unit_key bids (at j s) ≡ unit_key bids (at k t) → at j s ≡ at k t
      go j Open k t fs ft low same = absurd (omega arith)
      go j (Moved m) k t fs ft low same = absurd (omega arith)
      go j (Torn price) k t fs ft low same = absurd (omega arith)
      go j (Agreed z price) k t fs ft low same = absurd (omega arith)
      go j (Sold b) k Open fs ft low same = absurd (omega arith)
      go j (Sold b) k (Moved m) fs ft low same = absurd (omega arith)
      go j (Sold b) k (Torn price) fs ft low same = absurd (omega arith)
      go j (Sold b) k (Agreed z price) fs ft low same = absurd (omega arith)
      go j (Sold b) k (Sold d) fs ft low same =
          let p = (get_or bids b no_bid).price in
          let q = (get_or bids d no_bid).price in
          let e : b ≡ d = one-bid p q b d (sold-low p b low) (sold-low q d (rw same at low)) (ltb-true b 256 (and_left _ _ fs)) (ltb-true d 256 (and_left _ _ ft)) same in
          let f : j ≡ k = eqb-true j _ (and_right (ltb b 256) _ fs) ∙ ap (λ (i : ℕ). (get_or bids i no_bid).pool) e ∙ sym (eqb-true k _ (and_right (ltb d 256) _ ft)) in
          cc (e, f)
      go j (Sold b) k (Allocated n price) fs ft low same =
          absurd (omega (arith, allocated-first price (get_or bids b no_bid).price k n b (allocated_low price k n (rw same at low)) (sold-low (get_or bids b no_bid).price b low)))
      go j (Allocated m price) k Open fs ft low same = absurd (omega arith)
      go j (Allocated m price) k (Moved n) fs ft low same = absurd (omega arith)
      go j (Allocated m price) k (Torn q) fs ft low same = absurd (omega arith)
      go j (Allocated m price) k (Agreed z q) fs ft low same = absurd (omega arith)
      go j (Allocated m price) k (Sold d) fs ft low same =
          absurd (omega (arith, allocated-first price (get_or bids d no_bid).price j m d (allocated_low price j m low) (sold-low (get_or bids d no_bid).price d (rw same at low))))
      go j (Allocated m price) k (Allocated n q) fs ft low same =
          let r = one-member price q j k m n (allocated_low price j m low) (allocated_low q k n (rw same at low)) (ltb-true m 32 (and_left _ _ fs)) (ltb-true n 32 (and_left _ _ ft))
          (ltb-true j 4 (and_right (ltb m 32) _ fs)) (ltb-true k 4 (and_right (ltb n 32) _ ft)) same in
          cc (r.0, r.1, r.2)
