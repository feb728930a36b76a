-- `packed_mask` meets its contract: the bits of the live slots below v are packed, i of them.
use mathlib.Core.Path.{◌≡◌, sym, ap, ◌∙◌}
use Prim.Native.Nat.{◌*◌, ◌^◌}
use native.Mathlib.Omega.{arith}
use borrow.Author.Rules.{rules}
use Rattle.bits.specs.Mask.{bit}
use Rattle.body_pack.specs.Slot.{rank}
use Rattle.body_pack.proofs.Laws.Slot.{rank-none, rank-next, rank-le}
use Rattle.body_pack.proofs.Laws.Mask.{to_none, to-all, to-more, to-fits, term}
use Rattle.body_pack.proofs.packed_mask.Goals as goal

pub loop-v-init : goal.loop-v-init
loop-v-init c = (sym (rank-none c.args.live), to_none c.args.live c.args.m)

pub overflow_add-r : goal.overflow_add-r
overflow_add-r c =
    let a = c.args in
    let l = c.loop-v in
    record { fits = to-fits a.live a.m l.v l.i l.r c.only-r.result (omega arith) l.invariant.0 l.invariant.1 ((let added : (let a = c.args in let l = c.loop-v in c.only-r.result ≡ bit a.live l.v * (bit a.m l.v * 2 ^ l.i)) = let a = c.args in let l = c.loop-v in let d = c.digit-on in let e = c.digit in let s = c.single in let o = c.only in term a.live a.m l.v l.i d.result e.result s.result o.result c.only-r.result (omega arith) l.invariant.0 d.ensures.is e.ensures.is s.ensures o.ensures c.only-r.ensures in added)) }

pub overflow_add-i : goal.overflow_add-i
overflow_add-i c =
    let a = c.args in
    let l = c.loop-v in
    let d = c.digit-on.ensures in
    omega (arith, rank-le a.live l.v)

pub loop-v-preserved : goal.loop-v-preserved
loop-v-preserved c =
    let a = c.args in
    let l = c.loop-v in
    let d = c.digit-on in (
      rank-next a.live l.v l.i d.result l.invariant.0 d.ensures.is,
      to-more a.live a.m l.v l.i d.result l.r c.only-r.result (omega arith) l.invariant.0 d.ensures.is l.invariant.1 ((let added : (let a = c.args in let l = c.loop-v in c.only-r.result ≡ bit a.live l.v * (bit a.m l.v * 2 ^ l.i)) = let a = c.args in let l = c.loop-v in let d = c.digit-on in let e = c.digit in let s = c.single in let o = c.only in term a.live a.m l.v l.i d.result e.result s.result o.result c.only-r.result (omega arith) l.invariant.0 d.ensures.is e.ensures.is s.ensures o.ensures c.only-r.ensures in added)),
    )

pub returns : goal.returns
returns c =
    let a = c.args in
    let l = c.loop-v in
    let e : l.v ≡ 64 = omega arith in
    to-all a.live a.m l.i l.r (search rules) (l.invariant.0 ∙ ap (rank a.live) e) l.invariant.1
