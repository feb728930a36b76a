-- No second telling of an answer or of a body: case by case.
use mathlib.Core.Path.{◌≡◌, refl, sym, ◌∙◌}
use Prim.Native.Nat.{ℕ}
use Rattle.std.specs.Prelude.{Result, Ok, Err}
use Rattle.exact.specs.declared.Amount.{Amount}
use Rattle.exact.specs.declared.Chance.{Chance}
use Rattle.book_bodies.specs.declared.Said.{Said}
use Rattle.book_bodies.specs.declared.Said.TheVariants.{Refused, Circuit, Record, Whole}
use Rattle.book_bodies.specs.declared.Body.{Body}
use Rattle.told.specs.Told.{Told, AnswerTold, Odds, ChanceTold, Shown, BodyTold}

-- an answer is told in one way
pub one-telling : (a : Result Amount ℕ) (t u v : Told) (n m : ℕ) → AnswerTold a t n u → AnswerTold a t m v → (n ≡ m) × (u ≡ v)
one-telling (Err k) t u v n m A B = (A.number ∙ sym B.number, A.kept k refl ∙ sym (B.kept k refl))
one-telling (Ok x) t u v n m A B = (A.number ∙ sym B.number, A.given x refl ∙ sym (B.given x refl))

-- a record's answer too
pub one-chance-told : (a : Result Chance ℕ) (t u v : Odds) (n m : ℕ) → ChanceTold a t n u → ChanceTold a t m v → (n ≡ m) × (u ≡ v)
one-chance-told (Err k) t u v n m A B = (A.number ∙ sym B.number, A.kept k refl ∙ sym (B.kept k refl))
one-chance-told (Ok c) t u v n m A B = (A.number ∙ sym B.number, A.given c refl ∙ sym (B.given c refl))

-- so is a body
pub one-body-told : (b : Body) (t u v : Shown) (n m : ℕ) → BodyTold b t n u → BodyTold b t m v → (n ≡ m) × (u ≡ v)
one-body-told b t u v n m A B = (A.number ∙ sym B.number, go b.said refl)
  where
    go : (s : Said) → b.said ≡ s → u ≡ v
    go (Refused k) f = A.kept k f ∙ sym (B.kept k f)
    go (Circuit a) f = A.circuit a f ∙ sym (B.circuit a f)
    go (Record c) f = A.recorded c f ∙ sym (B.recorded c f)
    go Whole f = A.table f ∙ sym (B.table f)
