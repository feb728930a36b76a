-- No second result: writing a body has one answer and one area.
use mathlib.Core.List.{List}
use mathlib.Core.Logic.{◌≢◌, ◌⊎◌, inl, inr, ⊎_elim}
use mathlib.Core.Path.{◌≡◌, sym, ◌∙◌}
use Prim.Native.Nat.{ℕ}
use Rattle.exact.specs.Refusal.{accepted}
use Rattle.bits.proofs.Laws.Bit.{same_or}
use Rattle.state.specs.declared.State.{State}
use Rattle.state.specs.Normal.{Normal}
use Rattle.body_write.specs.Write.{Written, BodyWritten}

module _ (t : State) (xs : List ℕ) (start : ℕ) where
  pub one_written : (r s : Written) (ys zs : List ℕ) → BodyWritten t xs start r ys → BodyWritten t xs start s zs → (r ≡ s) × (ys ≡ zs)
  one_written r s ys zs R S = go (same_or r.refusal accepted)
    where
      number : r.refusal ≡ s.refusal
      number =
          ⊎_elim
          (λ (e : r.refusal ≡ s.refusal). e)
          (λ (ne : r.refusal ≢ s.refusal).
          let never : Normal t → ⊥ = λ N. ne (R.sound N ∙ sym (S.sound N)) in
          absurd (ne (R.broken never ∙ sym (S.broken never))))
          (same_or r.refusal s.refusal)

      both : r.bytes ≡ s.bytes → r ≡ s
      both e = λ i. record { refusal = number i; bytes = e i }

      go : (r.refusal ≡ accepted) ⊎ (r.refusal ≢ accepted) → (r ≡ s) × (ys ≡ zs)
      go (inl e) =
          let f : s.refusal ≡ accepted = sym number ∙ e in
          (both (R.count e ∙ sym (S.count f)), R.written e ∙ sym (S.written f))
      go (inr ne) =
          let nf : s.refusal ≢ accepted = λ f. ne (number ∙ f) in
          (both (R.nothing ne ∙ sym (S.nothing nf)), R.kept ne ∙ sym (S.kept nf))
