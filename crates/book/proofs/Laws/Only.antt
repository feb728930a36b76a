-- No second result: of a body's number, of the book's, and of what reading a body answers. By the truth of each test.
use mathlib.Core.List.{List}
use mathlib.Core.Logic.{inl, inr, ⊎_elim}
use mathlib.Core.Path.{◌≡◌, refl, sym, ap, ◌∙◌, subst}
use Prim.Native.Nat.{ℕ, ◌<◌}
use native.Mathlib.Omega.{arith}
use Rattle.exact.proofs.Laws.Sum.{split}
use Rattle.bits.proofs.Laws.Bit.{same_or}
use Rattle.contents.specs.Contents.{edition_of, count_of, kind_of, width_of, entry_of, contents_number}
use Rattle.contents.proofs.Laws.Good.{good}
use Rattle.book.specs.Book.{bytes_of, BodyNumber, Clear, Refuses, BodiesNumber, BookNumber}
use Rattle.book.specs.Read.{ReadsBody, ReadsStrict}
use Rattle.book_bodies.specs.declared.Body.{Body}
use Rattle.book_bodies.specs.Answer.{refusal, BodyAnswer}
use Rattle.book_bodies.proofs.Laws.Only.{one-table-number, one-table-answer, one-circuit-answer, one-record-answer}

module _ (bs : List ℕ) where
  -- ---- a body's number, where the contents are good
  module _ (z : contents_number bs ≡ 0) where
    pub body-number : (j k m : ℕ) → j < count_of bs → BodyNumber bs j k → BodyNumber bs j m → k ≡ m
    body-number j k m h K M =
        ⊎_elim (λ c. K.circuit c ∙ sym (M.circuit c))
        (λ o. ⊎_elim (λ c. one-table-number (width_of bs j) (bytes_of bs j) k m (K.table c) (M.table c)) (λ c. K.recorded c.1 ∙ sym (M.recorded c.1)) o)
        ((good bs z).body j h (entry_of bs j) refl).kind

    -- a body that is refused is not among those that are clear
    not-clear : (n k : ℕ) (R : Refuses bs k) → Clear bs n → R.at < n → ⊥
    not-clear n k R C h = R.refused (body-number R.at k 0 R.below R.here (C R.at h))

    refuses-only : (k m : ℕ) → Refuses bs k → Refuses bs m → k ≡ m
    refuses-only k m R S =
        ⊎_elim (λ l. absurd (not-clear S.at k R S.before l))
        (λ l. ⊎_elim (λ g. absurd (not-clear R.at m S R.before g)) (λ g. same (omega (arith, l, g))) (split S.at R.at)) (split R.at S.at)
      where
        same : S.at ≡ R.at → k ≡ m
        same e = body-number R.at k m R.below R.here (subst (λ (v : ℕ). BodyNumber bs v m) e S.here)

    bodies-only : (k m : ℕ) → BodiesNumber bs k → BodiesNumber bs m → k ≡ m
    bodies-only k m (inl a) (inl b) = a.0 ∙ sym b.0
    bodies-only k m (inl a) (inr S) = absurd (not-clear (count_of bs) m S a.1 S.below)
    bodies-only k m (inr R) (inl b) = absurd (not-clear (count_of bs) k R b.1 R.below)
    bodies-only k m (inr R) (inr S) = refuses-only k m R S

  -- ---- the book's number
  pub one_number : (k m : ℕ) → BookNumber bs k → BookNumber bs m → k ≡ m
  one_number k m K M =
      ⊎_elim (λ z. bodies-only z k m (K.bodies z) (M.bodies z)) (λ ne. K.contents ne ∙ sym (M.contents ne)) (same_or (contents_number bs) 0)

  -- ---- what a body answers, where the contents are good
  answer-only : contents_number bs ≡ 0 → (j : ℕ) → j < count_of bs → (r s : Body) → BodyAnswer (edition_of bs) (kind_of bs j) (width_of bs j) (bytes_of bs j) r
      → BodyAnswer (edition_of bs) (kind_of bs j) (width_of bs j) (bytes_of bs j) s → r ≡ s
  answer-only z j h r s a b =
      ⊎_elim (λ c. one-circuit-answer (width_of bs j) (bytes_of bs j) (edition_of bs) r s (a.circuit c) (b.circuit c))
      (λ o. ⊎_elim (λ c. one-table-answer (width_of bs j) (bytes_of bs j) r s (a.table c) (b.table c))
      (λ c. one-record-answer (width_of bs j) (bytes_of bs j) r s (a.recorded c.1) (b.recorded c.1)) o) ((good bs z).body j h (entry_of bs j) refl).kind

  pub one-body : (j : ℕ) (r s : Body) → ReadsBody bs j r → ReadsBody bs j s → r ≡ s
  one-body j r s R S =
      ⊎_elim
      (λ z. ⊎_elim (λ h. answer-only z j h r s (R.answer z h) (S.answer z h)) (λ h. R.beyond z h ∙ sym (S.beyond z h)) (split j (count_of bs)))
      (λ ne. R.refused ne ∙ sym (S.refused ne)) (same_or (contents_number bs) 0)

  -- ---- what the strict reading of a body answers
  pub one-strict : (j : ℕ) (r s : Body) → ReadsStrict bs j r → ReadsStrict bs j s → r ≡ s
  one-strict j r s R S =
      let same = one_number R.number S.number R.tested S.tested in
      ⊎_elim (λ z. one-body j r s (R.read z) (S.read (sym same ∙ z)))
      (λ ne. R.refused ne ∙ ap refusal same ∙ sym (S.refused (λ z. ne (same ∙ z)))) (same_or R.number 0)
