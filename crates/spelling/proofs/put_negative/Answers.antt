-- `spelling::put_negative` meets its contract. Assumes nothing.
use mathlib.Core.List.{[], ◌∷◌}
use Rattle.forms.proofs.Puts.{put_then}
use Rattle.spelling.specs.Text.{money_text}
use Rattle.spelling.proofs.put_negative.Goals as goal

pub returns : goal.returns
returns c = put_then (45 ∷ []) (money_text c.args.n) c.put-a.ensures c.put_money.ensures
