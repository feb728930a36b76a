-- `read` meets its contract: by the two tests.
use mathlib.Core.Path.{sym, ◌∙◌, subst}
use Rattle.state.specs.declared.State.{State}
use Rattle.state.specs.Normal.{Normal}
use Rattle.body_read.proofs.Laws.Read.{read-fault, read-broken, read-sound}
use Rattle.body_read.proofs.read.Goals as goal

pub returns-then-fault : goal.returns-then-fault
returns-then-fault c =
    let a = c.args in
    read-fault a.width a.bs.now c.fresh.result (sym c.fault.ensures ∙ c.if-fault.true) c.fresh.ensures

pub table_of-t-requires : goal.table_of-t-requires
table_of-t-requires c = sym c.fault.ensures ∙ c.if-fault.false

pub returns-then-not-normal : goal.returns-then-not-normal
returns-then-not-normal c =
    let a = c.args in
    read-broken a.width a.bs.now (sym c.fault.ensures ∙ c.if-fault.false) c.fresh-then-not-normal.result
    (subst (λ (t : State). Normal t → ⊥) c.table_of-t.ensures (c.normal.ensures.fails c.if-not-normal.true))
    c.fresh-then-not-normal.ensures

pub returns : goal.returns
returns c =
    let a = c.args in
    read-sound a.width a.bs.now (sym c.fault.ensures ∙ c.if-fault.false) c.table_of-t.result
    (subst Normal c.table_of-t.ensures (c.normal.ensures.holds c.if-not-normal.false))
    c.table_of-t.ensures
