-- `expected::write_shares` meets its contract. Assumes nothing.
use Rattle.expected.proofs.Texts.{shares-text}
use Rattle.expected.proofs.write_shares.Goals as goal

pub returns : goal.returns
returns c =
    let a = c.args in
    shares-text a.set a.shares _ c.total.ensures c.put_members-a.ensures c.put-b.ensures c.put_number-c.ensures c.put.ensures
