-- No second result: reading a body has one answer.
use mathlib.Core.Path.{◌≡◌, refl, sym, ap, ◌∙◌}
use mathlib.Core.Bool.{Bool, true, false}
use mathlib.Core.List.{List}
use Prim.Native.Nat.{ℕ}
use lib.Dec.{eqb}
use borrow.Author.Tests.{eqb-true, eqb-false}
use Rattle.state.specs.Normal.{Normal}
use Rattle.body_bytes.specs.Body.{body_fault}
use Rattle.body_read.specs.Table.{table_of}
use Rattle.body_read.specs.Read.{Reading, Reads}

module _ (n : ℕ) (bs : List ℕ) where
  module _ (r s : Reading) (a : Reads n bs r) (b : Reads n bs s) where
    by_number : body_fault n bs ≡ false → (e : Bool) → eqb r.refusal 0 ≡ e → r ≡ s
    by_number h true e =
        let k = a.normal (eqb-true r.refusal 0 e) in
        a.sound h k ∙ sym (b.sound h k)
    by_number h false e =
        let k : Normal (table_of n bs) → ⊥ = λ j. eqb-false r.refusal 0 e (ap (λ (x : Reading). x.refusal) (a.sound h j)) in
        a.broken h k ∙ sym (b.broken h k)

    by-fault : (f : Bool) → body_fault n bs ≡ f → r ≡ s
    by-fault true h = a.fault h ∙ sym (b.fault h)
    by-fault false h = by_number h (eqb r.refusal 0) refl

    pub one-reading : r ≡ s
    one-reading = by-fault (body_fault n bs) refl
