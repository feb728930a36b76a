-- `topazfern_read_strict` meets its contract: what the strict reading answered is told.
use Rattle.book.proofs.Laws.Few.{strict-few}
use Rattle.topazfern.proofs.topazfern_read_strict.Goals as goal

pub tell_body-requires : goal.tell_body-requires
tell_body-requires c = strict-few c.args.book.now c.args.j c.read_strict-b.result c.read_strict-b.ensures

pub returns : goal.returns
returns c = record { body = c.read_strict-b.result; reads = c.read_strict-b.ensures; tells = c.tell_body.ensures }
