-- `settle` meets its contract: the bodies close up, then the contents are laid.
use Rattle.edit.proofs.Laws.Settle.{settled, prefix-room, prefix-long}
use Rattle.edit.proofs.settle.Goals as goal

pub splice-requires : goal.splice-requires
splice-requires c = c.requires.splice

pub slice_bounds-kinds-end : goal.slice_bounds-kinds-end
slice_bounds-kinds-end c = prefix-room c.args.p.lists.kinds c.args.p.lists.count c.requires.few c.requires.long.0

pub slice_bounds-lay-end : goal.slice_bounds-lay-end
slice_bounds-lay-end c = prefix-long c.args.p.lists.kinds c.args.p.lists.count c.requires.few c.requires.long.0

pub slice_bounds-widths-end : goal.slice_bounds-widths-end
slice_bounds-widths-end c = prefix-room c.args.p.lists.widths c.args.p.lists.count c.requires.few c.requires.long.1

pub slice_bounds-lay-end-2 : goal.slice_bounds-lay-end-2
slice_bounds-lay-end-2 c = prefix-long c.args.p.lists.widths c.args.p.lists.count c.requires.few c.requires.long.1

pub slice_bounds-lengths-end : goal.slice_bounds-lengths-end
slice_bounds-lengths-end c = prefix-room c.args.p.lists.lengths c.args.p.lists.count c.requires.few c.requires.long.2

pub slice_bounds-lay-end-3 : goal.slice_bounds-lay-end-3
slice_bounds-lay-end-3 c = prefix-long c.args.p.lists.lengths c.args.p.lists.count c.requires.few c.requires.long.2

pub returns : goal.returns
returns c =
    let a = c.args in
    settled a.area.now a.n a.p a.body.now c.requires c.splice.new.area c.splice.ensures c.lay-w.result c.lay-w.new.area c.lay-w.ensures
