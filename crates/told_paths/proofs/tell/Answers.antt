-- `tell` meets its contract: the case that the match found is the definition's, and each number is read back from its bits.
use borrow.Author.Rules.{rules}
use mir.Syntax.{w32}
use mir.ValLaws.{to_z-of_z}
use Rattle.told_paths.specs.Told.{five}
use Rattle.told_paths.proofs.Laws.Told.{sum-refused, sum-given}
use Rattle.told_paths.proofs.tell.Goals as goal

pub returns-in-Err : goal.returns-in-Err
returns-in-Err c = sum-refused _ _ c.in-Err.refusal _ c.from.ensures c.in-Err.is

pub returns-in-Ok : goal.returns-in-Ok
returns-in-Ok c =
    let s = c.in-Ok.s in
    let e₀ = to_z-of_z w32 s.four.c0 (search rules) in
    let e₁ = to_z-of_z w32 s.four.c1 (search rules) in
    let e₂ = to_z-of_z w32 s.four.c2 (search rules) in
    let e₃ = to_z-of_z w32 s.four.c3 (search rules) in
    let p = to_z-of_z w32 s.power.0 (search rules) in
    sum-given _ _ s _ c.in-Ok.is (λ i. five (e₀ i) (e₁ i) (e₂ i) (e₃ i) (p i))
