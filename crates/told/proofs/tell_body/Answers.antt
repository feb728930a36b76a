-- `tell_body` meets its contract: the case that the match found.
use mathlib.Core.Path.{ap, ap₂, ◌∙◌, subst}
use Prim.Native.Nat.{ℕ, ◌≤◌}
use Rattle.exact.specs.Chance.{power_of}
use Rattle.book_bodies.specs.declared.Said.{Said}
use Rattle.book_bodies.specs.Answer.{said_chance}
use Rattle.told.proofs.Laws.Tell.{body_refused, body-circuit, body-record, body-table}
use Rattle.told.specs.Told.{Told, told, three}
use Rattle.told.proofs.tell_body.Goals as goal

pub amount_of-requires : goal.amount_of-requires
amount_of-requires c = subst (λ (s : Said). power_of (said_chance s) ≤ 65536) c.in-Record.is c.requires

pub returns-in-Refused : goal.returns-in-Refused
returns-in-Refused c = body_refused _ _ _ c.in-Refused.is

pub returns-in-Circuit : goal.returns-in-Circuit
returns-in-Circuit c = body-circuit _ _ _ _ c.in-Circuit.is (ap (λ (u : Told). three 1 0 0 u) c.tell.ensures)

pub returns-in-Record : goal.returns-in-Record
returns-in-Record c = body-record _ _ _ _ c.in-Record.is (ap (λ (u : Told). three 3 0 0 u) (c.tell-in-Record.ensures ∙ ap told c.amount_of.ensures))

pub returns-in-Whole : goal.returns-in-Whole
returns-in-Whole c = body-table _ _ _ c.in-Whole.is
    (ap₂ (λ (l : ℕ) (u : Told). three 2 l c.args.b.table.ties.count u) c.count.ensures.is (c.tell-in-Whole.ensures ∙ ap told c.table_amount.ensures))
