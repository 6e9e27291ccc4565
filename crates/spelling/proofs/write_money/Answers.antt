-- `spelling::write_money` meets its contract. Assumes nothing.
use mathlib.Core.Path.{sym}
use native.Mathlib.Omega.{arith}
use Rattle.forms.proofs.Puts.{into-short, into-put}
use borrow.Author.Rules.{rules}
use Rattle.spelling.proofs.write_money.Goals as goal

pub returns-then-out-at : goal.returns-then-out-at
returns-then-out-at c = sym (into-short 23 _ _ _ (search rules))

pub returns-then-out-at-lt23 : goal.returns-then-out-at-lt23
returns-then-out-at-lt23 c = sym (into-short 23 _ _ _ (omega arith))

pub put_money-requires : goal.put_money-requires
put_money-requires c = omega arith

pub returns : goal.returns
returns c = into-put 23 _ (omega arith) c.put_money.ensures
