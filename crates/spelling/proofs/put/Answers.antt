-- `spelling::put` meets its contract. Assumes nothing.
use Rattle.forms.proofs.Puts.{put-copied}
use Rattle.spelling.proofs.put.Goals as goal

pub returns : goal.returns
returns c = put-copied c.args.text.now c.args.out.now _ c.args.at c.requires c.copy_from_slice.ensures.after
