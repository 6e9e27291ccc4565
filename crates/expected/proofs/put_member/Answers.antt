-- `expected::put_member` meets its contract. Assumes nothing.
use Rattle.expected.proofs.Texts.{member-text}
use Rattle.expected.proofs.put_member.Goals as goal

pub returns : goal.returns
returns c =
    let a = c.args in
    member-text a.m a.units c.put-a.ensures c.put_number-b.ensures c.put-c.ensures c.put_number-d.ensures c.put.ensures
