-- The line of a body in a listing: what it answered, or the number that refused it.
use Rattle.std.specs.Prelude.{cond, List, ℕ}
use Rattle.std.specs.Int.Count.{ones}
use Rattle.exact.specs.declared.Amount.{Amount}
use Rattle.exact.specs.Amount.{none, some}
use Rattle.state.specs.declared.State.{State}
use Rattle.state.specs.Entry.{ties}
use Rattle.lines.specs.Lines.{circuit_line, table_line, record_line, refused_body_line}
use Rattle.book_bodies.specs.declared.Said.{Said}
use Rattle.book_bodies.specs.declared.Said.TheVariants.{Refused, Circuit, Record, Whole}

-- a table's power and phase, or zero
abbrev pub table_amount : State → Amount
table_amount t = cond t.zero none (some t.power.0 t.form.phase.0)

-- "for each body: number, `C`, power, phase; or number, `T`, live, ties, power, phase"; "number, `R`, that power or `none`"; "`1 refused 7` in place of the answer"
unfoldable pub body_line : ℕ → Said → State → List ℕ
body_line j (Refused k) t = refused_body_line j k
body_line j (Circuit a) t = circuit_line j a
body_line j (Record c) t = record_line j c
body_line j Whole t = table_line j (ones t.live) (ties t) (table_amount t)
