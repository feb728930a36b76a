-- `put` meets its contract where the part is long enough: the bytes over its front.
use Rattle.fields.proofs.Laws.Put.{put-copied}
use Rattle.fields.proofs.put.Goals as goal

pub returns-then-part : goal.returns-then-part
returns-then-part g c = put-copied _ _ _ _ c.if-part.true c.copy_from_slice.ensures.after c.copy_from_slice.ensures.len
