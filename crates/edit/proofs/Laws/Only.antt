-- No second result: an edit has one answer and leaves one area.
use mathlib.Core.List.{List}
use mathlib.Core.Logic.{◌≢◌, ⊎_elim}
use mathlib.Core.Path.{◌≡◌, sym, ap, ◌∙◌}
use Prim.Native.Nat.{ℕ}
use Rattle.bits.proofs.Laws.Bit.{same_or}
use Rattle.edit_numbers.specs.Volume.{Edit}
use Rattle.edit_numbers.proofs.Laws.Only.{one-edit-number}
use Rattle.edit.specs.Edit.{Edited, refusal, Edits}

pub one-edit : (xs : List ℕ) (n : ℕ) (e : Edit) (r s : Edited) (ys zs : List ℕ) → Edits xs n e r ys → Edits xs n e s zs → (r ≡ s) × (ys ≡ zs)
one-edit xs n e r s ys zs R S =
    let same = one-edit-number xs n e r.refusal s.refusal R.number S.number in
    ⊎_elim
    (λ (z : r.refusal ≡ 0). let a = R.done z in let b = S.done (sym same ∙ z) in (a.0 ∙ sym b.0, a.1 ∙ sym b.1))
    (λ (ne : r.refusal ≢ 0). let a = R.refused ne in let b = S.refused (λ z. ne (same ∙ z)) in (a.0 ∙ ap refusal same ∙ sym b.0, a.1 ∙ sym b.1))
    (same_or r.refusal 0)
