-- `accounts::members::Members::new` meets its contract. Assumes nothing.
use mathlib.Core.Path.{refl}
use Rattle.accounts.specs.Members.{no_members}
use Rattle.accounts.proofs.members.Members.new.Goals as goal

pub returns : goal.returns
unfolding no_members
returns c = refl
