-- `fresh` meets its contract: 13 with no byte changed, or the bytes of the fresh table.
use mathlib.Core.Path.{sym, subst}
use Rattle.table.specs.Normal.{Normal}
use Rattle.state.proofs.Laws.Blank.{fresh-normal}
use Rattle.labels.proofs.Laws.Proper.{proper-blank}
use Rattle.told_tables_bits.proofs.fresh.Goals as goal

pub put_back-requires : goal.put_back-requires
put_back-requires c = (c.if-area-ne-BYTES.false, λ z. subst Normal (sym c.fresh-t.ensures) (record { state = fresh-normal; labels = proper-blank }))
