-- `accounts::members::narrowed` meets its contract. Assumes nothing.
use Rattle.std.proofs.Common.{◌∙◌, sym, refl, ap, map, get_or, rules}
use Rattle.lists.proofs.Places.{map-tab, tab-of}
use Rattle.lists.proofs.Made.{made}
use Rattle.accounts.proofs.members.narrowed.Goals as goal

pub returns : goal.returns
returns g c =
    made _ (λ k. g.T.Width.narrowed (get_or c.args.xs k 0)) (λ k y f h. search rules) c.from_fn.result 32 (g.T.Width.narrowed 0) c.from_fn.ensures.items
    ∙ sym (map-tab 32 g.T.Width.narrowed (λ k. get_or c.args.xs k 0))
    ∙ ap (map g.T.Width.narrowed) (sym (tab-of 32 _ 0 c.args.xs (search rules) (λ k l. refl)))
