-- `expected::total` meets its contract. Assumes nothing.
use Rattle.std.proofs.Common.{◌≡◌, ℕ, ◌+◌, ◌%◌, ◌^◌, refl, ap, fold, ◌∙◌, zero-add, rules}
use Rattle.std.proofs.iter.runs.Made.{chains}
use Rattle.expected.proofs.Texts.{total-fold}
use Rattle.expected.proofs.total.Goals as goal

pub returns : goal.returns
returns c =
    let folded : c.fold.result ≡ fold (λ (t x : ℕ). (t + x) % 2 ^ 64) 0 c.args.shares = search (rules, chains) in
    folded ∙ total-fold c.args.shares 0 0 refl ∙ ap (λ (n : ℕ). n % 2 ^ 64) (zero-add _)
