-- `fault_at` meets its contract: good contents keep the part within the book, and the entry says its kind.
use native.Mathlib.Omega.{arith}
use Rattle.book.proofs.Laws.Number.{entry-within, number_at}
use Rattle.book.proofs.fault_at.Goals as goal

pub overflow_add-part : goal.overflow_add-part
overflow_add-part c =
    let w = entry-within c.args.book.now c.args.j c.entry_at-e.result c.requires.0 c.requires.1 c.entry_at-e.ensures in
    omega (arith, w.0, w.1)

pub slice_bounds-part-end : goal.slice_bounds-part-end
slice_bounds-part-end c =
    let e = c.entry_at-e in
    (entry-within c.args.book.now c.args.j e.result c.requires.0 c.requires.1 e.ensures).0

pub returns : goal.returns
returns c =
    let a = c.args in
    number_at a.book.now a.j c.edition.result c.entry_at-e.result c.own_fault.result c.edition.ensures c.entry_at-e.ensures c.own_fault.ensures
