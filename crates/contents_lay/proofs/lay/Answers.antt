-- `lay` meets its contract: refused, nothing is written; else the header, and the entries behind it.
-- what is known of the lists that are not refused
use mathlib.Core.Path.{refl}
use native.Mathlib.Omega.{arith}
use lib.ListN.{length, length-drop}
use Rattle.fields.proofs.Laws.Front.{lent-part, lent-front}
use Rattle.contents_lay.specs.Lay.{header_bytes, entries_bytes, laid_bytes}
use Rattle.contents_lay.proofs.Laws.Lay.{Lists, lay-lists}
use Rattle.contents_lay.proofs.Laws.Laid.{refused, laid}
use Rattle.contents_lay.proofs.lay.Goals as goal

pub returns-then-refusal-ne0 : goal.returns-then-refusal-ne0
returns-then-refusal-ne0 c =
    let a = c.args in
    let n = c.lay_number-refusal in
    refused a.area.now a.edition a.kinds.now a.widths.now a.lengths.now n.result n.ensures c.if-refusal-ne0.true

pub overflow_cast-n : goal.overflow_cast-n
overflow_cast-n c = omega (arith, ((let ok : Lists (length c.args.area.now) c.args.edition c.args.kinds.now c.args.widths.now c.args.lengths.now = let a = c.args in let n = c.lay_number-refusal in lay-lists (length a.area.now) a.edition a.kinds.now a.widths.now a.lengths.now n.result n.ensures c.if-refusal-ne0.false in ok)).few)

pub write_header-requires : goal.write_header-requires
write_header-requires c = omega (arith, ((let ok : Lists (length c.args.area.now) c.args.edition c.args.kinds.now c.args.widths.now c.args.lengths.now = let a = c.args in let n = c.lay_number-refusal in lay-lists (length a.area.now) a.edition a.kinds.now a.widths.now a.lengths.now n.result n.ensures c.if-refusal-ne0.false in ok)).area)

pub slice_bounds-write_entries-count : goal.slice_bounds-write_entries-count
slice_bounds-write_entries-count c = omega (arith, ((let ok : Lists (length c.args.area.now) c.args.edition c.args.kinds.now c.args.widths.now c.args.lengths.now = let a = c.args in let n = c.lay_number-refusal in lay-lists (length a.area.now) a.edition a.kinds.now a.widths.now a.lengths.now n.result n.ensures c.if-refusal-ne0.false in ok)).area)

pub slice_bounds-write_entries-start : goal.slice_bounds-write_entries-start
slice_bounds-write_entries-start c = omega (arith, ((let ok : Lists (length c.args.area.now) c.args.edition c.args.kinds.now c.args.widths.now c.args.lengths.now = let a = c.args in let n = c.lay_number-refusal in lay-lists (length a.area.now) a.edition a.kinds.now a.widths.now a.lengths.now n.result n.ensures c.if-refusal-ne0.false in ok)).area)

pub write_entries-requires : goal.write_entries-requires
write_entries-requires c =
    let l = (let ok : Lists (length c.args.area.now) c.args.edition c.args.kinds.now c.args.widths.now c.args.lengths.now = let a = c.args in let n = c.lay_number-refusal in lay-lists (length a.area.now) a.edition a.kinds.now a.widths.now a.lengths.now n.result n.ensures c.if-refusal-ne0.false in ok) in
    record { few = l.few; widths = l.widths; lengths = l.lengths; room = simp (lent-part, length-drop) (omega (arith, l.area)) }

pub overflow_mul-result : goal.overflow_mul-result
overflow_mul-result c = omega (arith, ((let ok : Lists (length c.args.area.now) c.args.edition c.args.kinds.now c.args.widths.now c.args.lengths.now = let a = c.args in let n = c.lay_number-refusal in lay-lists (length a.area.now) a.edition a.kinds.now a.widths.now a.lengths.now n.result n.ensures c.if-refusal-ne0.false in ok)).few)

pub overflow_add-result : goal.overflow_add-result
overflow_add-result c = omega (arith, ((let ok : Lists (length c.args.area.now) c.args.edition c.args.kinds.now c.args.widths.now c.args.lengths.now = let a = c.args in let n = c.lay_number-refusal in lay-lists (length a.area.now) a.edition a.kinds.now a.widths.now a.lengths.now n.result n.ensures c.if-refusal-ne0.false in ok)).few)

pub returns : goal.returns
unfolding laid_bytes
returns c =
    let a = c.args in
    let xs = a.area.now in
    let ks = a.kinds.now in
    let ws = a.widths.now in
    let ls = a.lengths.now in
    let n = c.lay_number-refusal in
    let w = c.write_entries in
    laid xs a.edition ks ws ls _ n.result n.ensures c.if-refusal-ne0.false
    (lent-front xs (header_bytes a.edition (length ks)) (entries_bytes ks ws ls (length ks)) _ w.new.part 4 c.write_header.ensures refl w.ensures)
