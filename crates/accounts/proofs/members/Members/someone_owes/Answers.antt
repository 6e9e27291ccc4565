-- `accounts::members::Members::someone_owes` meets its contract. Assumes nothing.
use Rattle.std.proofs.Common.{◌∙◌, sym, ap, ltb, rules}
use Rattle.std.proofs.lemmas.Iterator.Consumers.{YieldsList-from_first}
use Rattle.std.proofs.lemmas.Iterator.Search.{any_from_yields_List}
use borrow.Author.Tests.{tests}
use Rattle.lists.proofs.Std.{any-std}
use Rattle.sets.specs.Set.{members}
use Rattle.accounts.specs.Members.{owes_of, someone_owes_in}
use Rattle.accounts.proofs.members.Members.someone_owes.Goals as goal

pub returns : goal.returns
unfolding someone_owes_in
returns c =
    any_from_yields_List (λ m. ltb 0 (owes_of c.args.self m)) c.any.new.self _ c.any.result c.any.ensures.ran
    (YieldsList-from_first (λ x. x) (λ s. members s.left) (members c.args.set) (ap members c.members_of.ensures)) (λ x b q k. search (rules, tests))
    ∙ sym (any-std (λ m. ltb 0 (owes_of c.args.self m)) (members c.args.set))
