use borrow.Author.Rules.{rules}
use Rattle.cases.proofs.print_all.Goals as goal

pub loop-at-init : goal.loop-at-init
loop-at-init c = (search rules, search rules)

pub loop-at-preserved : goal.loop-at-preserved
loop-at-preserved c = (search rules, search rules)
