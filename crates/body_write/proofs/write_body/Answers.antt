-- `write_body` meets its contract: the body is that of the packed table.
use Rattle.body_write.proofs.Laws.Body.{body-fitting, body-written}
use Rattle.body_write.proofs.write_body.Goals as goal

pub write_fields-requires : goal.write_fields-requires
write_fields-requires c =
    body-fitting c.args.t c.pack.result c.count-n.result c.requires.0 c.count-n.ensures.is c.pack.ensures c.args.part.now c.requires.1

pub returns : goal.returns
returns c =
    body-written c.args.t c.pack.result c.count-n.result c.requires.0 c.count-n.ensures.is c.pack.ensures c.args.part.now c.write_fields.new.part c.write_fields.ensures
