-- `expected::members_in` meets its contract. Assumes nothing.
use Rattle.std.proofs.Common.{ℕ, ◌≤◌}
use Rattle.lists.proofs.Each.{each_take}
use Rattle.expected.proofs.Texts.{members-within}
use Rattle.expected.proofs.members_in.Goals as goal

pub shared_ref_as_front-set_of : goal.shared_ref_as_front-set_of
shared_ref_as_front-set_of c = (members-within c.args.word.now _ c.in-Ok.ensures).0

pub set_of-requires : goal.set_of-requires
set_of-requires c = each_take (λ (n : ℕ). n ≤ 31) _ _ (members-within c.args.word.now _ c.in-Ok.ensures).1
