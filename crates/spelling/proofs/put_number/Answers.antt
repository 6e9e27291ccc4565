-- `spelling::put_number` meets its contract. Assumes nothing.
use mathlib.Core.Path.{ap, ◌∙◌}
use native.Mathlib.Omega.{arith}
use Rattle.forms.proofs.Puts.{put_as}
use Rattle.spelling.specs.Text.{money_text, price_text}
use Rattle.machine.specs.Printed.{decimal}
use Rattle.spelling.proofs.Texts.{number-low, number-set, number-money, number-price}
use Rattle.spelling.proofs.put_number.Goals as goal

pub returns-in-0-to-2 : goal.returns-in-0-to-2
returns-in-0-to-2 c = put_as 692 (omega arith) (ap (decimal 20) c.from-in-0-to-2.ensures ∙ number-low _ _ (omega arith)) c.put_decimal.ensures

pub returns-in-3 : goal.returns-in-3
returns-in-3 c = put_as 692 (omega arith) (number-set _ _ c.in-3.is) c.put_members.ensures

pub returns-in-4 : goal.returns-in-4
returns-in-4 c = put_as 692 (omega arith) (ap money_text c.from.ensures ∙ number-money _ _ c.in-4.is) c.put_money.ensures

pub returns-in-5-to-255 : goal.returns-in-5-to-255
returns-in-5-to-255 c = put_as 692 (omega arith) (ap price_text c.from-in-5-to-255.ensures ∙ number-price _ _ (omega arith) (λ e. omega arith) (λ e. omega arith)) c.put_price.ensures
