-- `next` meets its contract: a gate is the first of what is left, and at the end nothing is.
use mathlib.Core.List.{List, ◌∷◌}
use mathlib.Core.Path.{◌≡◌, sym, ap, ◌∙◌, subst}
use Prim.Native.Nat.{ℕ}
use native.Mathlib.Omega.{arith}
use borrow.Author.Rules.{rules}
use Rattle.blocks_cursor.specs.Inner.Cursor.{todo_at, Held, Goes}
use Rattle.blocks_cursor.proofs.Laws.Cursor.{end-law, gate-law}
use Rattle.blocks_cursor.proofs.ExpansionIterator.next.Goals as goal

-- the gate at which the cursor stands, done
went : (c : goal.After-step) → Goes c.self.inside.items.now c.loop-self.self-inside.cursor c.step.new.self
went c =
    let t = c.if-is_gate.true in
    subst (Goes c.self.inside.items.now c.loop-self.self-inside.cursor) (sym c.step.ensures)
    (gate-law c.self.inside.items.now c.loop-self.self-inside.cursor (record { held = c.loop-self.invariant.1; range = omega arith }) (c.is_gate.ensures.no-open t) (c.is_gate.ensures.no-close t))

-- so it was the first of what was left
first : (c : goal.After-step) → c.args.self.now ≡ c.loop-self.self-inside.cursor.at ∷ todo_at c.loop-self.self-inside.items.now c.step.new.self
first c =
    let I = c.loop-self.invariant in
    sym I.2 ∙ (went c).first ∙ ap (λ (bs : List ℕ). c.loop-self.self-inside.cursor.at ∷ todo_at bs c.step.new.self) (sym I.0)

pub invariant_of-self-then-is_gate : goal.invariant_of-self-then-is_gate
invariant_of-self-then-is_gate c = subst (λ (bs : List ℕ). Held bs c.step.new.self) (sym c.loop-self.invariant.0) (went c).held

pub returns-then-is_gate-clause-steps : goal.returns-then-is_gate-clause-steps
returns-then-is_gate-clause-steps c = first c

pub returns-then-is_gate-clause-goes : goal.returns-then-is_gate-clause-goes
returns-then-is_gate-clause-goes c =
    let e : c.args.self.now ≡ c.loop-self.self-inside.cursor.at ∷ todo_at c.loop-self.self-inside.items.now c.step.new.self = first c in
    search rules

pub returns-clause-steps : goal.returns-clause-steps
returns-clause-steps c =
    let I = c.loop-self.invariant in
    let e = end-law c.self.inside.items.now c.loop-self.self-inside.cursor I.1 (omega arith) in
    (sym I.2 ∙ e, ap (λ (bs : List ℕ). todo_at bs c.loop-self.self-inside.cursor) I.0 ∙ e)
