-- `spelling::put_price` meets its contract. Assumes nothing.
use native.Mathlib.Omega.{arith}
use Rattle.forms.proofs.Puts.{put_as}
use Rattle.spelling.proofs.Texts.{price-low, price-mid, price-high}
use borrow.Author.Rules.{rules}
use Rattle.spelling.proofs.put_price.Goals as goal

pub returns-then-p-lt1000000 : goal.returns-then-p-lt1000000
returns-then-p-lt1000000 c = put_as 24 (omega arith) (price-low _ c.if-p-lt1000000.true) c.put_negative.ensures

pub returns-then-p-lt2148483648 : goal.returns-then-p-lt2148483648
returns-then-p-lt2148483648 c = put_as 24 (omega arith) (price-mid _ (search rules) c.if-p-lt2148483648.true) c.put_money.ensures

pub returns : goal.returns
returns c = put_as 24 (omega arith) (price-high _ (search rules) (search rules)) c.put_negative-2.ensures
