-- Written by tools/computing.py. Under the line `unfolding computing` every definition of these specs computes.
use Rattle.sets.specs.Set.{member as Set·member, members as Set·members, insert as Set·insert, with_member as Set·with_member, of_members as Set·of_members}
use Rattle.lists.specs.Computing.{computing as lists·computing}

unfoldable pub computing : Unit {0}
unfolding Set·member Set·members Set·insert Set·with_member Set·of_members lists·computing
computing = tt
