-- No second result: reading lent bytes has one answer.
use mathlib.Core.Bool.{Bool, true, false}
use mathlib.Core.List.{List}
use mathlib.Core.Path.{◌≡◌, refl, sym, ap, ◌∙◌}
use Prim.Native.Nat.{ℕ}
use lib.Dec.{eqb}
use lib.ListN.{length}
use borrow.Author.Tests.{eqb-true, eqb-false}
use Rattle.exact.specs.Refusal.{accepted}
use Rattle.state.specs.declared.State.{State}
use Rattle.labels.specs.declared.Labels.{Labels}
use Rattle.image.specs.Image.{image_size, Images}
use Rattle.image_read.specs.Read.{Reading, Reads}

module _ (bs : List ℕ) (r s : Reading) (a : Reads bs r) (b : Reads bs s) where
  by_number : length bs ≡ image_size → (e : Bool) → eqb r.refusal accepted ≡ e → r ≡ s
  by_number h true e = let I = a.own (eqb-true r.refusal accepted e) in a.sound r.state r.labels I ∙ sym (b.sound r.state r.labels I)
  by_number h false e =
      let never : (t : State) (ls : Labels) → Images bs t ls → ⊥ = λ t ls I. eqb-false r.refusal accepted e (ap (λ (x : Reading). x.refusal) (a.sound t ls I)) in
      a.broken h never ∙ sym (b.broken h never)

  by_size : (e : Bool) → eqb (length bs) image_size ≡ e → r ≡ s
  by_size true e = by_number (eqb-true (length bs) image_size e) (eqb r.refusal accepted) refl
  by_size false e = let h = eqb-false (length bs) image_size e in a.short h ∙ sym (b.short h)

  pub one-reading : r ≡ s
  one-reading = by_size (eqb (length bs) image_size) refl
