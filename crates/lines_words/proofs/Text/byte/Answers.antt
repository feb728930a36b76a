-- `byte` meets its contract: the byte stands at its place, or was dropped beyond the end.
use mathlib.Core.Path.{ap, sym, ◌∙◌}
use lib.Seq.{set_out}
use Rattle.lines_words.specs.declared.Text.{Text}
use Rattle.lines_words.proofs.Laws.Writer.{lays-byte}
use Rattle.lines_words.proofs.Text.byte.Goals.{then-at-self, else-at-self}
use Rattle.lines_words.proofs.Text.byte.Goals as goal

pub returns : goal.returns
returns c =
    let t = c.args.self.now in
    elim c.if-at-self.branch [
      | then-at-self w ↦ lays-byte c.if-at-self.self (ap (λ (u : Text). u.area.ghost_name) w.self-is) (ap (λ (u : Text). u.area.now) w.self-is) c.saturating_add-self.ensures
      | else-at-self w ↦ lays-byte c.if-at-self.self (ap (λ (u : Text). u.area.ghost_name) w.self-is) (ap (λ (u : Text). u.area.now) w.self-is ∙ sym (set_out t.area.now t.at c.args.b w.if-at-self.false)) c.saturating_add-self.ensures
    ]
