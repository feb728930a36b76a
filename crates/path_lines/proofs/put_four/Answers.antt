-- `put_four` meets its contract: each number is read back from its bits, and laid behind the last.
use mathlib.Core.Path.{ap}
use Prim.Native.Nat.{◌≤◌}
use borrow.Author.Rules.{rules}
use lib.ListN.{length}
use mir.Syntax.{w32}
use mir.ValLaws.{to_z-of_z}
use Rattle.lines_words.specs.Overlay.{top}
use Rattle.lines_words.specs.Text.{letters, signed_text}
use Rattle.path_lines.specs.Lines.{four_text}
use Rattle.lines_words.proofs.Laws.Writer.{lays_more, lays-text}
use Rattle.path_lines.proofs.put_four.Goals as goal

pub returns : goal.returns
unfolding four_text letters
returns c =
    let f = c.args.f in
    let h : length c.args.text.now.area.now ≤ top = search rules in
    let e₀ = ap signed_text (to_z-of_z w32 f.c0 (search rules)) in
    let e₁ = ap signed_text (to_z-of_z w32 f.c1 (search rules)) in
    let e₂ = ap signed_text (to_z-of_z w32 f.c2 (search rules)) in
    let e₃ = ap signed_text (to_z-of_z w32 f.c3 (search rules)) in
    let l₁ = lays_more h (lays-text e₀ c.signed.ensures) c.word.ensures in
    let l₂ = lays_more h (lays_more h l₁ (lays-text e₁ c.signed-2.ensures)) c.word-2.ensures in
    let l₃ = lays_more h (lays_more h l₂ (lays-text e₂ c.signed-3.ensures)) c.word-3.ensures in
    lays_more h l₃ (lays-text e₃ c.signed-4.ensures)
