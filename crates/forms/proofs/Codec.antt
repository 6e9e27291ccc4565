-- Decoding the bytes of a call gives the call, for every call whose numbers fit their bytes. Assumes nothing.
use Rattle.std.proofs.Common.{◌≡◌, ℕ, ◌+◌, ◌-◌, ◌*◌, ◌/◌, ◌%◌, ◌^◌, ◌<◌, List, [], ◌∷◌, refl, ap, ◌∙◌, arith}
use mathlib.Core.Option.{some}
use Rattle.machine.specs.Wire as Wire
use Rattle.forms.specs.Encode.{InWidth, encode}
use Rattle.forms.specs.Computing.{computing}

one-read : (n : ℕ) → n < 2 ^ 8 → 0 * 256 + n % 256 ≡ n
one-read n h = omega arith

two-read : (n : ℕ) → n < 2 ^ 16 → (0 * 256 + n / 256 % 256) * 256 + n % 256 ≡ n
two-read n h = omega arith

four-read : (n : ℕ) → n < 2 ^ 32 → (((0 * 256 + n / 256 / 256 / 256 % 256) * 256 + n / 256 / 256 % 256) * 256 + n / 256 % 256) * 256 + n % 256 ≡ n
four-read n h = omega arith

price-read : (n : ℕ) → n < 2 ^ 32 → ((n + (2 ^ 32 - 1000000)) % 2 ^ 32 + 1000000) % 2 ^ 32 ≡ n
price-read n h = omega arith

-- the bytes of a price, read back
price-bytes : (n : ℕ) → n < 2 ^ 32
    → let r = (n + 4293967296) % 4294967296 in
    ((((0 * 256 + r / 256 / 256 / 256 % 256) * 256 + r / 256 / 256 % 256) * 256 + r / 256 % 256) * 256 + r % 256 + 1000000) % 4294967296 ≡ n
price-bytes n h =
    ap (λ (x : ℕ). (x + 1000000) % 4294967296) (four-read ((n + 4293967296) % 4294967296) (omega arith)) ∙ price-read n h

decode-member : (m contribution : ℕ) (expected : List ℕ) → InWidth (Wire.MEMBER m contribution expected)
    → Wire.decode (encode (Wire.MEMBER m contribution expected)) ≡ some (Wire.MEMBER m contribution expected)
unfolding computing
decode-member m contribution [] w = absurd (omega (arith, w.2))
decode-member m contribution (a ∷ []) w = absurd (omega (arith, w.2))
decode-member m contribution (a ∷ b ∷ []) w = absurd (omega (arith, w.2))
decode-member m contribution (a ∷ b ∷ c ∷ []) w = absurd (omega (arith, w.2))
decode-member m contribution (a ∷ b ∷ c ∷ d ∷ []) w =
    λ k. some (Wire.MEMBER (one-read m w.0 k) (four-read contribution w.1 k)
    (two-read a w.3.0 k ∷ two-read b w.3.1.0 k ∷ two-read c w.3.1.1.0 k ∷ two-read d w.3.1.1.1.0 k ∷ []))
decode-member m contribution (a ∷ b ∷ c ∷ d ∷ e ∷ l) w = absurd (omega (arith, w.2))

decode-round : (reserves : List ℕ) → InWidth (Wire.ROUND reserves) → Wire.decode (encode (Wire.ROUND reserves)) ≡ some (Wire.ROUND reserves)
unfolding computing
decode-round [] w = absurd (omega (arith, w.0))
decode-round (a ∷ []) w = λ k. some (Wire.ROUND (price-bytes a w.2.0 k ∷ []))
decode-round (a ∷ b ∷ []) w = λ k. some (Wire.ROUND (price-bytes a w.2.0 k ∷ price-bytes b w.2.1.0 k ∷ []))
decode-round (a ∷ b ∷ c ∷ []) w =
    λ k. some (Wire.ROUND (price-bytes a w.2.0 k ∷ price-bytes b w.2.1.0 k ∷ price-bytes c w.2.1.1.0 k ∷ []))
decode-round (a ∷ b ∷ c ∷ d ∷ []) w =
    λ k. some (Wire.ROUND
    (price-bytes a w.2.0 k ∷ price-bytes b w.2.1.0 k ∷ price-bytes c w.2.1.1.0 k ∷ price-bytes d w.2.1.1.1.0 k ∷ []))
decode-round (a ∷ b ∷ c ∷ d ∷ e ∷ l) w = absurd (omega (arith, w.1))

pub decode-encode : (call : Wire.Call) → InWidth call → Wire.decode (encode call) ≡ some call
unfolding computing
decode-encode (Wire.HEAD h) w =
    λ k. some (Wire.HEAD (record {
      pools = one-read h.pools w.0 k;
      least_bid = two-read h.least_bid w.1 k;
      set = four-read h.set w.2 k;
      hedge_loss = four-read h.hedge_loss w.3 k;
      other_loss = four-read h.other_loss w.4 k;
      margin = four-read h.margin w.5 k;
      fund = four-read h.fund w.6 k;
      house = four-read h.house w.7 k;
    }))
decode-encode (Wire.POOL pool units mark) w = λ k. some (Wire.POOL (one-read pool w.0 k) (two-read units w.1 k) (one-read mark w.2 k))
decode-encode (Wire.MEMBER m contribution expected) w = decode-member m contribution expected w
decode-encode (Wire.ROUND reserves) w = decode-round reserves w
decode-encode (Wire.BID pool m units price) w =
    λ k. some (Wire.BID (one-read pool w.0 k) (one-read m w.1 k) (two-read units w.2 k) (price-bytes price w.3 k))
decode-encode Wire.CLOSE w = refl
decode-encode (Wire.ALLOCATE pool price) w = λ k. some (Wire.ALLOCATE (one-read pool w.0 k) (price-bytes price w.1 k))
decode-encode (Wire.TEAR pool price) w = λ k. some (Wire.TEAR (one-read pool w.0 k) (price-bytes price w.1 k))
decode-encode Wire.CALL w = refl
decode-encode (Wire.PAY m amount) w = λ k. some (Wire.PAY (one-read m w.0 k) (four-read amount w.1 k))
decode-encode (Wire.MOVE m) w = λ k. some (Wire.MOVE (one-read m w k))
decode-encode (Wire.MISS m price) w = λ k. some (Wire.MISS (one-read m w.0 k) (price-bytes price w.1 k))
decode-encode Wire.FINISH w = refl
decode-encode (Wire.SALE pool m price) w =
    λ k. some (Wire.SALE (one-read pool w.0 k) (one-read m w.1 k) (price-bytes price w.2 k))
decode-encode (Wire.WITHDRAW m n) w = λ k. some (Wire.WITHDRAW (one-read m w.0 k) (two-read n w.1 k))
