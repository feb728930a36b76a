-- What is told of a fault has no second answer: by the fault that is told.
use mathlib.Core.List.{List}
use mathlib.Core.Path.{◌≡◌, sym, ap, ◌∙◌}
use Prim.Native.Nat.{ℕ}
use Rattle.cause_book.specs.Why.{why_number}
use Rattle.cause_book.proofs.Laws.Only.{one-why, one-why-body}
use Rattle.told_causes.specs.Told.{Four, four_of, BookTold, BodyTold}

module _ (bs : List ℕ) where
  pub one_told : (n m : ℕ) (f g : Four) → BookTold bs n f → BookTold bs m g → (n ≡ m) × (f ≡ g)
  one_told n m f g F G =
      let e : F.why ≡ G.why = one-why bs F.why G.why F.is G.is in
      (F.told.number ∙ ap why_number e ∙ sym G.told.number, F.told.told ∙ ap (four_of 16) e ∙ sym G.told.told)

  pub one-body-told : (j n m : ℕ) (f g : Four) → BodyTold bs j n f → BodyTold bs j m g → (n ≡ m) × (f ≡ g)
  one-body-told j n m f g F G =
      let e : F.why ≡ G.why = one-why-body bs j F.why G.why F.is G.is in
      (F.told.number ∙ ap why_number e ∙ sym G.told.number, F.told.told ∙ ap (four_of j) e ∙ sym G.told.told)
