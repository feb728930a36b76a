-- `write_entries` meets its contract: the invariant is of the entries written and of where body j starts.
use mathlib.Core.Path.{◌≡◌, refl, ap, ◌∙◌}
use mathlib.Core.List.{◌++◌}
use Prim.Native.Nat.{ℕ, ◌-◌, ◌*◌}
use native.Mathlib.Omega.{arith}
use lib.ListN.{length, get_or, length-drop}
use borrow.Rule.Slice.PartMut.{same_len_mid}
use Rattle.fields.specs.Bytes.{front}
use Rattle.fields.proofs.Laws.Front.{lent-part, lent-front, front-none}
use Rattle.contents_lay.specs.Lay.{entry_bytes, entries_bytes}
use Rattle.contents_lay.proofs.Laws.Laid.{laid-zero, laid_next, length-entries, entries_next}
use Rattle.contents_lay.proofs.write_entries.Goals as goal

pub overflow_mul-start : goal.overflow_mul-start
overflow_mul-start c = omega arith

pub overflow_add-start : goal.overflow_add-start
overflow_add-start c = omega arith

pub loop-j-init : goal.loop-j-init
unfolding entries_bytes
loop-j-init c =
    let a = c.args in
    (omega arith, refl, laid-zero a.lengths.now, omega arith, front-none a.part.now)

pub overflow_mul-at : goal.overflow_mul-at
overflow_mul-at c = omega arith

pub offset_bounds-lengths-j : goal.offset_bounds-lengths-j
offset_bounds-lengths-j c = omega arith

pub bounds-lengths-j : goal.bounds-lengths-j
bounds-lengths-j c = omega arith

pub slice_bounds-write_entry-count : goal.slice_bounds-write_entry-count
slice_bounds-write_entry-count c = omega arith

pub slice_bounds-write_entry-start : goal.slice_bounds-write_entry-start
slice_bounds-write_entry-start c = omega arith

pub slice_bounds-write_entry-end : goal.slice_bounds-write_entry-end
slice_bounds-write_entry-end c = omega arith

pub bounds-kinds-j : goal.bounds-kinds-j
bounds-kinds-j c = omega arith

pub bounds-widths-j : goal.bounds-widths-j
bounds-widths-j c = omega arith

pub write_entry-requires : goal.write_entry-requires
write_entry-requires c = simp (lent-part, length-drop) (omega arith)

pub overflow_cast-start : goal.overflow_cast-start
overflow_cast-start c = omega (arith, c.shared_slice_known-3-1.given c.loop-j.j)

pub overflow_add-start-in-loop-j : goal.overflow_add-start-in-loop-j
overflow_add-start-in-loop-j c = omega (arith, c.shared_slice_known-3-1.given c.loop-j.j)

pub loop-j-preserved : goal.loop-j-preserved
loop-j-preserved c =
    let a = c.args in
    let l = c.loop-j in
    let w = c.write_entry in
    let ks = a.kinds.now in
    let ws = a.widths.now in
    let ls = a.lengths.now in
    let entry = entry_bytes (get_or ks l.j 0) (get_or ws l.j 0) (get_or ls l.j 0) in (
      omega arith,
      same_len_mid (8 * l.j) (length l.part - 8 * l.j) l.part w.new.part w.auto.part ∙ l.invariant.1,
      omega (arith, laid_next ls l.j),
      omega (arith, c.shared_slice_known-3-1.given l.j),
      lent-front a.part.now (entries_bytes ks ws ls l.j) (entry l.start) l.part w.new.part (8 * l.j) l.invariant.4 (length-entries ks ws ls l.j) w.ensures
          ∙ ap (λ (x : ℕ). front a.part.now (entries_bytes ks ws ls l.j ++ entry x)) l.invariant.2
          ∙ ap (front a.part.now) (entries_next ks ws ls l.j),
    )

pub shape_of-part : goal.shape_of-part
shape_of-part c = c.loop-j.invariant.1

pub returns : goal.returns
returns c =
    let a = c.args in
    let l = c.loop-j in
    let q : l.j ≡ length a.kinds.now = omega arith in
    l.invariant.4 ∙ ap (λ (k : ℕ). front a.part.now (entries_bytes a.kinds.now a.widths.now a.lengths.now k)) q
