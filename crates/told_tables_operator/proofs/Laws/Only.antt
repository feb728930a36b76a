-- No second result: by the same of the operator table, and of its bytes.
use mathlib.Core.List.{List}
use mathlib.Core.Logic.{◌≢◌, ⊎_elim}
use mathlib.Core.Path.{◌≡◌, sym, ap, ◌∙◌}
use Prim.Native.Nat.{ℕ}
use lib.ListN.{length}
use Rattle.bits.proofs.Laws.Bit.{same_or}
use Rattle.table.specs.declared.Changed.{Changed}
use Rattle.image.specs.Image.{image_size}
use Rattle.operator.proofs.Laws.Only.{one-table-of}
use Rattle.told_tables.specs.Called.{bytes_of}
use Rattle.told_tables_operator.specs.Operator.{OperatorTold}

pub one-operator-told : (e w : ℕ) (bs xs : List ℕ) (n m : ℕ) (ys zs : List ℕ) → OperatorTold e w bs xs n ys → OperatorTold e w bs xs m zs → (n ≡ m) × (ys ≡ zs)
one-operator-told e w bs xs n m ys zs A B = (numbers, areas)
  where
    same : A.answer ≡ B.answer
    same = one-table-of e w bs A.answer B.answer A.is B.is

    refusals : A.answer.refusal ≡ B.answer.refusal
    refusals = ap (λ (c : Changed). c.refusal) same

    numbers : n ≡ m
    numbers =
        ⊎_elim
        (λ (z : A.answer.refusal ≡ 0).
        ⊎_elim (λ (h : length xs ≡ image_size). A.number z h ∙ sym (B.number (sym refusals ∙ z) h))
        (λ (h : length xs ≢ image_size). A.short z h ∙ sym (B.short (sym refusals ∙ z) h)) (same_or (length xs) image_size))
        (λ (ne : A.answer.refusal ≢ 0). A.refused ne ∙ refusals ∙ sym (B.refused (λ z. ne (refusals ∙ z)))) (same_or A.answer.refusal 0)

    areas : ys ≡ zs
    areas =
        ⊎_elim (λ (z : n ≡ 0). A.done z ∙ ap (λ (c : Changed). bytes_of c.table) same ∙ sym (B.done (sym numbers ∙ z)))
        (λ (ne : n ≢ 0). A.kept ne ∙ sym (B.kept (λ z. ne (numbers ∙ z)))) (same_or n 0)
