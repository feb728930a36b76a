-- `padded` meets its contract: each place is what its index asks for.
use mathlib.Core.Path.{◌≡◌}
use Prim.Native.Nat.{◌≤◌, ◌<◌}
use borrow.Author.Rules.{rules}
use Rattle.fields.proofs.Laws.Listed.{made_at}
use Rattle.body_read.proofs.padded.Goals as goal

pub returns : goal.returns
returns g c =
    let a = c.args in
    let made = made_at _ _ (λ k r. (k < a.n → goal.F-post g a.f k r) × (a.n ≤ k → r ≡ a.rest)) 64 (λ k r q l e. search rules) _ c.from_fn.ensures.items in
    record { long = c.from_fn.ensures.items.long; asked = λ v l h. (made v a.rest l).0 h; rest = λ v l h. (made v a.rest l).1 h }
