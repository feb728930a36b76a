-- `body_at` meets its contract: good contents keep the part within the book, and the entry says its kind.
use native.Mathlib.Omega.{arith}
use Rattle.contents.proofs.Laws.Good.{good}
use Rattle.book.proofs.Laws.Number.{entry-within}
use Rattle.cause_book.proofs.Laws.Body.{part_small, found-circuit, found-record, found-table}
use Rattle.cause_book.proofs.body_at.Goals as goal

pub overflow_add-to : goal.overflow_add-to
overflow_add-to c = let a = c.args in let e = c.entry_at-e in let p = c.requires in let w = entry-within a.book.now a.j e.result p.0 p.1 e.ensures in omega (arith, w.0, w.1)

pub overflow_mul-listed : goal.overflow_mul-listed
overflow_mul-listed c = let a = c.args in omega (arith, c.requires.1, (good a.book.now c.requires.0).count)

pub overflow_add-listed : goal.overflow_add-listed
overflow_add-listed c = let a = c.args in omega (arith, c.requires.1, (good a.book.now c.requires.0).count)

pub slice_bounds-circuit-end : goal.slice_bounds-circuit-end
slice_bounds-circuit-end c = let a = c.args in let e = c.entry_at-e in let p = c.requires in let w = entry-within a.book.now a.j e.result p.0 p.1 e.ensures in w.0

pub circuit-requires : goal.circuit-requires
circuit-requires c = let a = c.args in let e = c.entry_at-e in let p = c.requires in let w = entry-within a.book.now a.j e.result p.0 p.1 e.ensures in part_small a.book.now e.result w.0 w.1

pub returns-then-e-eq1 : goal.returns-then-e-eq1
returns-then-e-eq1 c = let a = c.args in let e = c.entry_at-e in let d = c.edition-edition in found-circuit a.book.now a.j e.result _ e.ensures d.result d.ensures c.if-e-eq1.true c.circuit.ensures

pub slice_bounds-record-end : goal.slice_bounds-record-end
slice_bounds-record-end c = let a = c.args in let e = c.entry_at-e in let p = c.requires in let w = entry-within a.book.now a.j e.result p.0 p.1 e.ensures in w.0

pub record-requires : goal.record-requires
record-requires c = let a = c.args in let e = c.entry_at-e in let p = c.requires in let w = entry-within a.book.now a.j e.result p.0 p.1 e.ensures in part_small a.book.now e.result w.0 w.1

pub returns-then-e-eq3 : goal.returns-then-e-eq3
returns-then-e-eq3 c = let a = c.args in let e = c.entry_at-e in found-record a.book.now a.j e.result _ e.ensures c.if-e-eq3.true c.record.ensures

pub slice_bounds-table-end : goal.slice_bounds-table-end
slice_bounds-table-end c = let a = c.args in let e = c.entry_at-e in let p = c.requires in let w = entry-within a.book.now a.j e.result p.0 p.1 e.ensures in w.0

pub table-requires : goal.table-requires
table-requires c = let a = c.args in let e = c.entry_at-e in let p = c.requires in let w = entry-within a.book.now a.j e.result p.0 p.1 e.ensures in part_small a.book.now e.result w.0 w.1

pub returns : goal.returns
returns c = let a = c.args in let e = c.entry_at-e in found-table a.book.now a.j e.result _ e.ensures c.if-e-eq1.false c.if-e-eq3.false c.table.ensures
