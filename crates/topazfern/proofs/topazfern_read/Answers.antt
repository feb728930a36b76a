-- `topazfern_read` meets its contract: what the reading answered is told.
use Rattle.book.proofs.Laws.Few.{reads-few}
use Rattle.topazfern.proofs.topazfern_read.Goals as goal

pub tell_body-requires : goal.tell_body-requires
tell_body-requires c = reads-few c.args.book.now c.args.j c.read-b.result c.read-b.ensures

pub returns : goal.returns
returns c = record { body = c.read-b.result; reads = c.read-b.ensures; tells = c.tell_body.ensures }
