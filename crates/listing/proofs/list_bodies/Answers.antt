-- `listing::list_bodies` meets its contract: the invariant says that the first line and those of the first j bodies are written.
use borrow.Author.Rules.{rules}
use native.Mathlib.Omega.{arith}
use mathlib.Core.Path.{ap}
use Prim.Native.Nat.{◌≤◌}
use lib.ListN.{length}
use Rattle.lines_words.specs.Overlay.{top}
use Rattle.lines.specs.Lines.{book_line}
use Rattle.lines_words.proofs.Laws.Writer.{lays-text, lays-within}
use Rattle.listing.proofs.Laws.Sofar.{few, narrow, begun, grown, whole}
use Rattle.listing.proofs.list_bodies.Goals as goal

pub overflow_cast-n : goal.overflow_cast-n
overflow_cast-n c =
    record { fits = omega (arith, few c.args.book.now c.count-n.result c.requires c.count-n.ensures) }

pub loop-j-init : goal.loop-j-init
loop-j-init c = begun _ _ (lays-within c.book_line.ensures)

pub overflow_cast-j : goal.overflow_cast-j
overflow_cast-j c =
    let n = c.count-n in
    record { fits = omega (arith, few c.args.book.now n.result c.requires n.ensures) }

pub loop-j-preserved : goal.loop-j-preserved
loop-j-preserved c =
    let l = c.loop-j in
    let b = c.read-b in
    let short : length c.args.text.now.area.now ≤ top = search rules in
    grown c.args.book.now _ l.j (narrow c.book_line.ensures short) _ _ b.result l.invariant b.ensures c.body_line.ensures

pub returns : goal.returns
returns c =
    let l = c.loop-j in
    let n = c.count-n in
    let b = c.book_line in
    let short : length c.args.text.now.area.now ≤ top = search rules in
    whole c.args.book.now _ l.j b.new.text l.text short
    (omega (arith, n.ensures)) (lays-text (ap book_line n.ensures) b.ensures) l.invariant
