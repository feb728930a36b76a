-- `body_line` meets its contract: the case that the match found is the definition's.
use mathlib.Core.Path.{sym, ap, ap₂, ◌∙◌}
use Prim.Native.Nat.{ℕ}
use Rattle.exact.specs.declared.Amount.{Amount}
use Rattle.state.specs.Entry.{ties}
use Rattle.lines.specs.Lines.{table_line}
use Rattle.book_bodies.specs.declared.Said.{Said}
use Rattle.lines_words.proofs.Laws.Writer.{lays-text}
use Rattle.listing_line.specs.Line.{body_line}
use Rattle.listing_line.proofs.body_line.Goals as goal

pub returns-in-Refused : goal.returns-in-Refused
unfolding body_line
returns-in-Refused c =
    lays-text (sym (ap (λ (s : Said). body_line c.args.j s c.args.b.table) c.in-Refused.is)) c.refused_body_line.ensures

pub returns-in-Circuit : goal.returns-in-Circuit
unfolding body_line
returns-in-Circuit c =
    lays-text (sym (ap (λ (s : Said). body_line c.args.j s c.args.b.table) c.in-Circuit.is)) c.circuit_line.ensures

pub returns-in-Record : goal.returns-in-Record
unfolding body_line
returns-in-Record c =
    lays-text (sym (ap (λ (s : Said). body_line c.args.j s c.args.b.table) c.in-Record.is)) c.record_line.ensures

pub returns-in-Whole : goal.returns-in-Whole
unfolding body_line
returns-in-Whole c =
    let t = c.args.b.table in
    lays-text
    (ap₂ (λ (live : ℕ) (a : Amount). table_line c.args.j live (ties t) a) c.count-live.ensures.is c.table_amount.ensures
    ∙ sym (ap (λ (s : Said). body_line c.args.j s t) c.in-Whole.is))
    c.table_line.ensures
