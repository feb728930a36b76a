-- No second result of the writer of a table in lent bytes: by the same of the reader and of the writer that it hands on.
use mathlib.Core.List.{List}
use mathlib.Core.Logic.{◌≢◌, ⊎_elim}
use mathlib.Core.Path.{◌≡◌, sym, ap, subst, ◌∙◌}
use Prim.Native.Nat.{ℕ}
use Rattle.bits.proofs.Laws.Bit.{same_or}
use Rattle.body_write.specs.declared.Written.{Written}
use Rattle.body_write.specs.Write.{BodyWritten}
use Rattle.body_write.proofs.Laws.Only.{one_written}
use Rattle.image_read.specs.declared.Reading.{Reading}
use Rattle.image_read.proofs.Laws.Only.{one-reading}
use Rattle.told_tables_books.specs.Books.{TableWriteTold}

pub one-table-write : (bs xs : List ℕ) (start n m p q : ℕ) (ys zs : List ℕ) → TableWriteTold bs xs start n p ys → TableWriteTold bs xs start m q zs → (n ≡ m) × (p ≡ q) × (ys ≡ zs)
one-table-write bs xs start n m p q ys zs A B = ⊎_elim given refused (same_or A.reading.refusal 0)
  where
    e : A.reading ≡ B.reading
    e = one-reading bs A.reading B.reading A.reads B.reads

    number : A.reading.refusal ≡ B.reading.refusal
    number = ap (λ (r : Reading). r.refusal) e

    given : A.reading.refusal ≡ 0 → (n ≡ m) × (p ≡ q) × (ys ≡ zs)
    given z =
        let a = subst (λ (r : Reading). BodyWritten r.state xs start (record { refusal = n; bytes = p }) ys) e (A.written z) in
        let w = one_written B.reading.state xs start (record { refusal = n; bytes = p }) (record { refusal = m; bytes = q }) ys zs a (B.written (sym number ∙ z)) in
        (ap (λ (r : Written). r.refusal) w.0, ap (λ (r : Written). r.bytes) w.0, w.1)

    refused : A.reading.refusal ≢ 0 → (n ≡ m) × (p ≡ q) × (ys ≡ zs)
    refused ne =
        let a = A.refused ne in
        let b = B.refused (λ z. ne (number ∙ z)) in
        (a.0 ∙ number ∙ sym b.0, a.1 ∙ sym b.1, a.2 ∙ sym b.2)
