-- No second telling of the paths of a table body: by the same of the reading and of the path sum.
use mathlib.Core.List.{List}
use mathlib.Core.Logic.{◌≢◌, ⊎_elim}
use mathlib.Core.Path.{◌≡◌, refl, sym, ap, subst, ◌∙◌}
use Prim.Native.Nat.{ℕ}
use Rattle.bits.proofs.Laws.Bit.{same_or}
use Rattle.body_read.specs.declared.Reading.{Reading}
use Rattle.body_read.proofs.Laws.Only.{one-reading}
use Rattle.path_sum.specs.declared.PathSum.{PathSum}
use Rattle.std.specs.Prelude.{Result, Ok, Err}
use Rattle.exact.specs.declared.Refusal.{Refusal}
use Rattle.path_sum.specs.Paths.{PathsAdded}
use Rattle.theorem_paths.proofs.Laws.Only.{one-paths}
use Rattle.told_paths.specs.Told.{Five, SumTold, PathsTold}

one-sum-told : (r : Result PathSum Refusal) (t u v : Five) (n m : ℕ) → SumTold r t n u → SumTold r t m v → (n ≡ m) × (u ≡ v)
one-sum-told (Err k) t u v n m A B = (A.number ∙ sym B.number, A.kept k refl ∙ sym (B.kept k refl))
one-sum-told (Ok s) t u v n m A B = (A.number ∙ sym B.number, A.given s.four s.power refl ∙ sym (B.given s.four s.power refl))

pub one-paths-told : (width : ℕ) (bs : List ℕ) (t u v : Five) (n m : ℕ) → PathsTold width bs t n u → PathsTold width bs t m v → (n ≡ m) × (u ≡ v)
one-paths-told width bs t u v n m A B = ⊎_elim given refused (same_or A.reading.refusal 0)
  where
    e : A.reading ≡ B.reading
    e = one-reading width bs A.reading B.reading A.reads B.reads

    number : A.reading.refusal ≡ B.reading.refusal
    number = ap (λ (r : Reading). r.refusal) e

    given : A.reading.refusal ≡ 0 → (n ≡ m) × (u ≡ v)
    given z =
        let a = A.given z in
        let b = B.given (sym number ∙ z) in
        let i = subst (λ (r : Reading). PathsAdded r.table a.answer) e a.is in
        let s = one-paths B.reading.table a.answer b.answer i b.is in
        one-sum-told b.answer t u v n m (subst (λ (c : Result PathSum Refusal). SumTold c t n u) s a.tells) b.tells

    refused : A.reading.refusal ≢ 0 → (n ≡ m) × (u ≡ v)
    refused ne =
        let a = A.refused ne in
        let b = B.refused (λ z. ne (number ∙ z)) in
        (a.0 ∙ number ∙ sym b.0, a.1 ∙ sym b.1)
