-- `book_size` meets its contract: the invariant is of where body i starts.
use mathlib.Core.Path.{◌≡◌, ap, ◌∙◌}
use native.Mathlib.Omega.{arith}
use lib.ListN.{length}
use Rattle.contents_lay.specs.Lay.{laid_start}
use Rattle.contents_lay.proofs.Laws.Laid.{laid-zero, laid_next}
use Rattle.contents_lay.proofs.book_size.Goals as goal

pub overflow_mul-size : goal.overflow_mul-size
overflow_mul-size c = omega arith

pub overflow_add-size : goal.overflow_add-size
overflow_add-size c = omega arith

pub loop-i-init : goal.loop-i-init
loop-i-init c = (omega arith, laid-zero c.args.lengths.now, omega arith)

pub offset_bounds-lengths-i : goal.offset_bounds-lengths-i
offset_bounds-lengths-i c = omega arith

pub bounds-lengths-i : goal.bounds-lengths-i
bounds-lengths-i c = omega arith

pub overflow_cast-size : goal.overflow_cast-size
overflow_cast-size c = omega (arith, c.type_inv.lengths c.loop-i.i)

pub overflow_add-size-in-loop-i : goal.overflow_add-size-in-loop-i
overflow_add-size-in-loop-i c = omega (arith, c.type_inv.lengths c.loop-i.i)

pub loop-i-preserved : goal.loop-i-preserved
loop-i-preserved c =
    let ls = c.args.lengths.now in
    let l = c.loop-i in
    (omega arith, omega (arith, laid_next ls l.i), omega (arith, c.type_inv.lengths l.i))

pub returns : goal.returns
returns c =
    let ls = c.args.lengths.now in
    let l = c.loop-i in
    let q : l.i ≡ length ls = omega arith in
    l.invariant.1 ∙ ap (laid_start ls) q
