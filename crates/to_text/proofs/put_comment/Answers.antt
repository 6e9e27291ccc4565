-- `to_text::put_comment` meets its contract. Assumes nothing.
use Rattle.to_text.proofs.Texts.{comment-room, comment-put}
use Rattle.to_text.proofs.put_comment.Goals as goal

pub put_bytes-b-requires : goal.put_bytes-b-requires
put_bytes-b-requires c =
    comment-room _ _ c.args.bytes.now c.requires _ _ c.put-a.ensures

pub returns : goal.returns
returns c =
    comment-put _ _ c.args.bytes.now c.requires _ _ c.put-a.ensures _ _ _ _ c.put_bytes-b.ensures c.put.ensures
