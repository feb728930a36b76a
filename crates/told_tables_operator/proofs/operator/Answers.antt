-- `operator` meets its contract: refused as the circuit is, by 13, or the table put into its bytes.
use mathlib.Core.Path.{sym, ◌∙◌}
use Rattle.told_tables_operator.proofs.Laws.Told.{circuit-refused, bytes-refused, table-told}
use Rattle.told_tables_operator.proofs.operator.Goals as goal

pub returns-then-refusal-ne0 : goal.returns-then-refusal-ne0
returns-then-refusal-ne0 c = circuit-refused _ _ _ _ _ c.table_of-r.ensures c.if-refusal-ne0.true

pub returns-then-area-ne-BYTES : goal.returns-then-area-ne-BYTES
returns-then-area-ne-BYTES c =
    let r = c.table_of-r in
    bytes-refused _ _ _ _ _ r.ensures c.if-refusal-ne0.false (λ z. c.if-area-ne-BYTES.true z)

pub put_back-requires : goal.put_back-requires
put_back-requires c =
    let r = c.table_of-r in
    (c.if-area-ne-BYTES.false, λ z. (r.ensures.made (sym r.ensures.number ∙ c.if-refusal-ne0.false)).normal)

pub returns : goal.returns
returns c =
    let r = c.table_of-r in
    table-told _ _ _ _ _ r.ensures c.if-refusal-ne0.false c.if-area-ne-BYTES.false _ _ c.put_back.ensures
