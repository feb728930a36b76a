-- `word` meets its contract: the invariant says that the word's first bytes are laid.
use borrow.Author.Rules.{rules}
use native.Mathlib.Omega.{arith}
use mathlib.Core.Path.{◌≡◌, ap, ◌∙◌}
use Prim.Native.Nat.{ℕ, ◌≤◌}
use lib.ListN.{length, take}
use lib.Seq.{take-length}
use Rattle.lines_words.specs.Overlay.{top}
use Rattle.lines_words.proofs.Laws.Writer.{lays_none, lays_next, lays-text}
use Rattle.lines_words.proofs.Text.word.Goals as goal

pub loop-b-init : goal.loop-b-init
loop-b-init c = (omega arith, lays_none _ (search rules))

pub loop-b-preserved : goal.loop-b-preserved
loop-b-preserved c =
    let h : length c.args.self.now.area.now ≤ top = search rules in
    (omega arith, lays_next c.args.word.now c.loop-b.b-index h (search rules) c.loop-b.invariant.1 c.byte.ensures)

pub returns : goal.returns
returns c =
    let e : c.loop-b.b-index ≡ length c.args.word.now = omega arith in
    lays-text (ap (λ (n : ℕ). take n c.args.word.now) e ∙ take-length c.args.word.now) c.loop-b.invariant.1
