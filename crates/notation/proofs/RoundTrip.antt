-- Reading the text of a call gives the call, for every call whose numbers fit their bytes. Assumes nothing.
use mathlib.Core.Path.{◌≡◌, ap, ◌∙◌}
use mathlib.Core.List.{List, [], ◌∷◌}
use mathlib.Core.Option.{some}
use Prim.Native.Nat.{ℕ, ◌%◌, ◌^◌, ◌<◌}
use native.Mathlib.Omega.{arith}
use Rattle.machine.specs.Wire as Wire
use Rattle.forms.specs.Encode.{InWidth}
use Rattle.spelling.specs.Text.{line_of}
use Rattle.notation.specs.Reading.{read_line, asked_by}
use Rattle.notation.specs.Computing.{computing}
use Rattle.notation.proofs.Lines.{line-head, line-pool, line-member, line-round-1, line-round-2, line-round-3, line-round-4, line-bid, line-close, line-allocate, line-tear, line-call, line-pay, line-move, line-miss, line-finish, line-sale, line-withdraw}

mod-one : (n : ℕ) → n < 2 ^ 8 → n % 256 ≡ n
mod-one n h = omega arith

mod-two : (n : ℕ) → n < 2 ^ 16 → n % 65536 ≡ n
mod-two n h = omega arith

read-member : (m contribution : ℕ) (expected : List ℕ) → InWidth (Wire.MEMBER m contribution expected)
    → asked_by (read_line (line_of (Wire.MEMBER m contribution expected))) ≡ some (Wire.MEMBER m contribution expected)
unfolding computing
read-member m contribution [] w = absurd (omega (arith, w.2))
read-member m contribution (a ∷ []) w = absurd (omega (arith, w.2))
read-member m contribution (a ∷ b ∷ []) w = absurd (omega (arith, w.2))
read-member m contribution (a ∷ b ∷ c ∷ []) w = absurd (omega (arith, w.2))
read-member m contribution (a ∷ b ∷ c ∷ d ∷ []) w =
    ap asked_by (line-member m contribution a b c d w.0 w.1 w.3.0 w.3.1.0 w.3.1.1.0 w.3.1.1.1.0)
    ∙ (λ k. some (Wire.MEMBER (mod-one m w.0 k) contribution
    (mod-two a w.3.0 k ∷ mod-two b w.3.1.0 k ∷ mod-two c w.3.1.1.0 k ∷ mod-two d w.3.1.1.1.0 k ∷ [])))
read-member m contribution (a ∷ b ∷ c ∷ d ∷ e ∷ l) w = absurd (omega (arith, w.2))

read-round : (reserves : List ℕ) → InWidth (Wire.ROUND reserves) → asked_by (read_line (line_of (Wire.ROUND reserves))) ≡ some (Wire.ROUND reserves)
unfolding computing
read-round [] w = absurd (omega (arith, w.0))
read-round (a ∷ []) w = ap asked_by (line-round-1 a w.2.0)
read-round (a ∷ b ∷ []) w = ap asked_by (line-round-2 a b w.2.0 w.2.1.0)
read-round (a ∷ b ∷ c ∷ []) w = ap asked_by (line-round-3 a b c w.2.0 w.2.1.0 w.2.1.1.0)
read-round (a ∷ b ∷ c ∷ d ∷ []) w = ap asked_by (line-round-4 a b c d w.2.0 w.2.1.0 w.2.1.1.0 w.2.1.1.1.0)
read-round (a ∷ b ∷ c ∷ d ∷ e ∷ l) w = absurd (omega (arith, w.1))

pub read-line : (call : Wire.Call) → InWidth call → asked_by (read_line (line_of call)) ≡ some call
unfolding computing
read-line (Wire.HEAD h) w =
    ap asked_by (line-head h.pools h.least_bid h.set h.hedge_loss h.other_loss h.margin h.fund h.house w.0 w.1 w.2 w.3 w.4 w.5 w.6 w.7)
    ∙ (λ k. some (Wire.HEAD (record {
      pools = mod-one h.pools w.0 k;
      least_bid = mod-two h.least_bid w.1 k;
      set = h.set;
      hedge_loss = h.hedge_loss;
      other_loss = h.other_loss;
      margin = h.margin;
      fund = h.fund;
      house = h.house;
    })))
read-line (Wire.POOL pool units mark) w =
    ap asked_by (line-pool pool units mark w.0 w.1 w.2) ∙ (λ k. some (Wire.POOL (mod-one pool w.0 k) (mod-two units w.1 k) (mod-one mark w.2 k)))
read-line (Wire.MEMBER m contribution expected) w = read-member m contribution expected w
read-line (Wire.ROUND reserves) w = read-round reserves w
read-line (Wire.BID pool m units price) w =
    ap asked_by (line-bid pool m units price w.0 w.1 w.2 w.3)
    ∙ (λ k. some (Wire.BID (mod-one pool w.0 k) (mod-one m w.1 k) (mod-two units w.2 k) price))
read-line Wire.CLOSE w = ap asked_by line-close
read-line (Wire.ALLOCATE pool price) w = ap asked_by (line-allocate pool price w.0 w.1) ∙ (λ k. some (Wire.ALLOCATE (mod-one pool w.0 k) price))
read-line (Wire.TEAR pool price) w = ap asked_by (line-tear pool price w.0 w.1) ∙ (λ k. some (Wire.TEAR (mod-one pool w.0 k) price))
read-line Wire.CALL w = ap asked_by line-call
read-line (Wire.PAY m amount) w = ap asked_by (line-pay m amount w.0 w.1) ∙ (λ k. some (Wire.PAY (mod-one m w.0 k) amount))
read-line (Wire.MOVE m) w = ap asked_by (line-move m w) ∙ (λ k. some (Wire.MOVE (mod-one m w k)))
read-line (Wire.MISS m price) w = ap asked_by (line-miss m price w.0 w.1) ∙ (λ k. some (Wire.MISS (mod-one m w.0 k) price))
read-line Wire.FINISH w = ap asked_by line-finish
read-line (Wire.SALE pool m price) w =
    ap asked_by (line-sale pool m price w.0 w.1 w.2) ∙ (λ k. some (Wire.SALE (mod-one pool w.0 k) (mod-one m w.1 k) price))
read-line (Wire.WITHDRAW m n) w = ap asked_by (line-withdraw m n w.0 w.1) ∙ (λ k. some (Wire.WITHDRAW (mod-one m w.0 k) (mod-two n w.1 k)))
