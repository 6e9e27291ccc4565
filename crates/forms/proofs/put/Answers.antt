-- `forms::put` meets its contract. Assumes nothing.
use Rattle.forms.proofs.Puts.{put-copied}
use Rattle.forms.proofs.put.Goals as goal

pub returns : goal.returns
returns c = put-copied c.args.bytes.now c.args.out.now _ c.args.at c.requires c.copy_from_slice.ensures.after
