-- `accounts::members::widened` meets its contract. Assumes nothing.
use Rattle.std.proofs.Common.{◌∙◌, sym, refl, get_or, rules}
use Rattle.lists.proofs.Places.{tab-of}
use Rattle.lists.proofs.Made.{made}
use Rattle.accounts.proofs.members.widened.Goals as goal

pub returns : goal.returns
returns c =
    made _ (λ k. get_or c.args.xs k 0) (λ k y f h. search rules) c.from_fn.result 32 0 c.from_fn.ensures.items
    ∙ sym (tab-of 32 _ 0 c.args.xs (search rules) (λ k l. refl))
