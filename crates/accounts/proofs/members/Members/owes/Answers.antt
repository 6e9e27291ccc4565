-- `accounts::members::Members::owes` meets its contract. Assumes nothing.
use mathlib.Core.Path.{sym}
use Rattle.accounts.specs.Members.{owes_of}
use Rattle.accounts.proofs.Past.{owes-past}
use borrow.Author.Rules.{rules}
use Rattle.accounts.proofs.members.Members.owes.Goals as goal

pub returns-then-m-lt32 : goal.returns-then-m-lt32
unfolding owes_of
returns-then-m-lt32 c = simp (c.owed.ensures, c.has.ensures, c.from-at.ensures)

pub returns-else-m-lt32 : goal.returns-else-m-lt32
returns-else-m-lt32 c = sym (owes-past c.args.self c.args.m (search rules) (search rules) (search rules))
