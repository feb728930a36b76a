-- No second result: of the first fault of a body, and of why a book or a body of it is refused.
use mathlib.Core.Bool.{Bool, true, false}
use mathlib.Core.List.{List}
use mathlib.Core.Logic.{◌⊎◌, inl, inr, ⊎_elim}
use mathlib.Core.Path.{◌≡◌, refl, sym, ap, ◌∙◌, subst}
use Prim.Native.Nat.{ℕ, ◌<◌}
use native.Mathlib.Omega.{arith}
use Rattle.std.specs.Prelude.{Some, None}
use Rattle.exact.proofs.Laws.Sum.{split}
use Rattle.bits.proofs.Laws.Bit.{same_or}
use Rattle.contents.specs.Contents.{count_of, entry_of, contents_number}
use Rattle.contents.proofs.Laws.Good.{good}
use Rattle.body_bytes.specs.Body.{body_fault}
use Rattle.cause.specs.Cause.{Finding, number_of, sound, found_number}
use Rattle.cause_table.specs.Table.{TableFound}
use Rattle.cause_book.specs.Why.{Why, why_of, BodyFound, Unfaulted, FirstFault, BookWhy, BodyWhy}

-- ---- a table's body
module _ (from wat n : ℕ) (bs : List ℕ) (f g : Finding) (F : TableFound from wat n bs f) (G : TableFound from wat n bs g) where
  one_table : f ≡ g
  unfolding number_of
  one_table = go (body_fault n bs) refl
    where
      fine : (h : body_fault n bs ≡ false) → found_number f ≡ 0 → f ≡ g
      fine h z = F.good h (F.normal z) ∙ sym (G.good h (F.normal z))

      other : (h : body_fault n bs ≡ false) → found_number g ≡ 0 → f ≡ g
      other h z = F.good h (G.normal z) ∙ sym (G.good h (G.normal z))

      go : (t : Bool) → body_fault n bs ≡ t → f ≡ g
      go true h = F.fault h ∙ sym (G.fault h)
      go false h =
          ⊎_elim (fine h)
          (λ ne. F.broken h (λ yes. ne (ap found_number (F.good h yes))) ∙ sym (G.broken h (λ yes. ne (ap found_number (F.good h yes))))) (same_or (found_number f) 0)

module _ (bs : List ℕ) where
  -- ---- a body, where the contents are good
  module _ (z : contents_number bs ≡ 0) where
    pub one_found : (j : ℕ) (f g : Finding) → j < count_of bs → BodyFound bs j f → BodyFound bs j g → f ≡ g
    one_found j f g h F G =
        ⊎_elim (λ c. F.circuit c ∙ sym (G.circuit c))
        (λ o. ⊎_elim (λ c. one_table _ _ _ _ f g (F.table c) (G.table c)) (λ c. F.recorded c.1 ∙ sym (G.recorded c.1)) o)
        ((good bs z).body j h (entry_of bs j) refl).kind

    -- a body at fault is not among those that have none
    not-clear : (n : ℕ) (r : Why) (R : FirstFault bs r) → Unfaulted bs n → R.at < n → ⊥
    unfolding number_of
    not-clear n r R C h = R.faulty (ap found_number (one_found R.at R.fault sound R.below R.here (C R.at h)))

    first-only : (r s : Why) → FirstFault bs r → FirstFault bs s → r ≡ s
    first-only r s R S =
        ⊎_elim (λ l. absurd (not-clear S.at r R S.before l))
        (λ l. ⊎_elim (λ k. absurd (not-clear R.at s S R.before k)) (λ k. same (omega (arith, l, k))) (split S.at R.at)) (split R.at S.at)
      where
        same : S.at ≡ R.at → r ≡ s
        same e =
            let here : BodyFound bs R.at S.fault = subst (λ (v : ℕ). BodyFound bs v S.fault) e S.here in
            R.is ∙ ap (why_of (Some R.at)) (one_found R.at R.fault S.fault R.below R.here here) ∙ ap (λ (v : ℕ). why_of (Some v) S.fault) (sym e) ∙ sym S.is

  -- ---- the book
  pub one-why : (r s : Why) → BookWhy bs r → BookWhy bs s → r ≡ s
  one-why r s R S = ⊎_elim (λ z. go z (R.bodies z) (S.bodies z)) (λ ne. R.contents ne ∙ sym (S.contents ne)) (same_or (contents_number bs) 0)
    where
      go : (z : contents_number bs ≡ 0) → ((r ≡ why_of None sound) × Unfaulted bs (count_of bs)) ⊎ FirstFault bs r → ((s ≡ why_of None sound) × Unfaulted bs (count_of bs)) ⊎ FirstFault bs s → r ≡ s
      go z (inl a) (inl b) = a.0 ∙ sym b.0
      go z (inl a) (inr F) = absurd (not-clear z (count_of bs) s F a.1 F.below)
      go z (inr F) (inl b) = absurd (not-clear z (count_of bs) r F b.1 F.below)
      go z (inr F) (inr G) = first-only z r s F G

  -- ---- a body of the book
  pub one-why-body : (j : ℕ) (r s : Why) → BodyWhy bs j r → BodyWhy bs j s → r ≡ s
  one-why-body j r s R S =
      ⊎_elim
      (λ z. ⊎_elim (λ h. R.is z h ∙ ap (why_of (Some j)) (one_found z j R.fault S.fault h (R.here z h) (S.here z h)) ∙ sym (S.is z h)) (λ h. R.beyond z h ∙ sym (S.beyond z h)) (split j (count_of bs)))
      (λ ne. R.refused ne ∙ sym (S.refused ne)) (same_or (contents_number bs) 0)
