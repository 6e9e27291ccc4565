-- `turns::least_key` meets its contract: the fold over the keys is the least of them. Assumes nothing.
use Rattle.std.proofs.Common.{◌≡◌, ◌∙◌, min, fold, rules}
use Rattle.std.proofs.iter.runs.Made.{chains}
use native.Mathlib.Omega.{arith}
use Rattle.turns.specs.Keys.{no_key}
use Rattle.turns.proofs.Leasts.{fold-least, least-top}
use Rattle.turns.proofs.least_key.Goals as goal

pub returns : goal.returns
returns c = let folded : c.fold.result ≡ fold min no_key c.args.keys.now = search (rules, chains) in
    folded ∙ fold-least no_key c.args.keys.now (omega arith) ∙ omega (arith, least-top c.args.keys.now)
