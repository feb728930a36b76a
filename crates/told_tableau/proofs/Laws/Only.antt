-- No second result of a call for C on a tableau.
use mathlib.Core.List.{List, ◌++◌}
use mathlib.Core.Logic.{◌⊎◌, inl, inr, ◌≢◌}
use mathlib.Core.Path.{◌≡◌, refl, sym, ap, ◌∙◌}
use Prim.Native.Nat.{ℕ, zero, suc, ◌*◌, ◌<◌}
use native.Mathlib.Omega.{arith}
use lib.ListN.{length, drop}
use Rattle.bits.proofs.Laws.Bit.{same_or}
use Rattle.tableau.specs.Check.{tableau_number}
use Rattle.tableau.specs.Pair.{pair_number, Written}
use Rattle.tableau.proofs.Laws.Only.{only-pair}
use Rattle.told_tableau.specs.Told.{VerdictTold, PairTold}

-- a flag that is told is one
one-flag : (P : Type 0) (a b : ℕ) → a < 2 → b < 2 → (a ≡ 1 → P) → (a ≡ 0 → P → ⊥) → (b ≡ 1 → P) → (b ≡ 0 → P → ⊥) → a ≡ b
one-flag P zero zero la lb ya na yb nb = refl
one-flag P zero (suc zero) la lb ya na yb nb = absurd (na refl (yb refl))
one-flag P (suc zero) zero la lb ya na yb nb = absurd (nb refl (ya refl))
one-flag P (suc zero) (suc zero) la lb ya na yb nb = refl
one-flag P (suc (suc a)) b la lb ya na yb nb = absurd (omega arith)
one-flag P zero (suc (suc b)) la lb ya na yb nb = absurd (omega arith)
one-flag P (suc zero) (suc (suc b)) la lb ya na yb nb = absurd (omega arith)

pub one-verdict-told : (e width : ℕ) (bs masks : List ℕ) (h before n m a b : ℕ) → VerdictTold e width bs masks h before n a → VerdictTold e width bs masks h before m b → (n ≡ m) × (a ≡ b)
one-verdict-told e width bs masks h before n m a b A B = (A.number ∙ sym B.number, go (same_or (tableau_number e width bs masks h) 0))
  where
    go : (tableau_number e width bs masks h ≡ 0) ⊎ (tableau_number e width bs masks h ≢ 0) → a ≡ b
    go (inl z) = one-flag _ a b (A.flag z) (B.flag z) (A.yes z) (A.no z) (B.yes z) (B.no z)
    go (inr ne) = A.kept ne ∙ sym (B.kept ne)

pub one-pair-told : (e width : ℕ) (bs before : List ℕ) (signs n m : ℕ) (after after' : List ℕ) (h k : ℕ)
    → PairTold e width bs before signs n after h → PairTold e width bs before signs m after' k → (n ≡ m) × (after ≡ after') × (h ≡ k)
one-pair-told e width bs before signs n m after after' h k A B = go (same_or (pair_number e width bs (length before)) 0)
  where
    both : Written e width bs before h after → Written e width bs before k after' → (after ≡ after') × (h ≡ k)
    both a b =
        let o = only-pair e width bs a.masks b.masks h k a.number a.holds b.number b.holds in
        (a.whole ∙ ap (λ (l : List ℕ). l ++ drop (2 * width) before) o.0 ∙ sym b.whole, o.1)

    go : (pair_number e width bs (length before) ≡ 0) ⊎ (pair_number e width bs (length before) ≢ 0) → (n ≡ m) × (after ≡ after') × (h ≡ k)
    go (inl z) = let o = both (A.written z) (B.written z) in (A.number ∙ sym B.number, o.0, o.1)
    go (inr ne) = (A.number ∙ sym B.number, (A.kept ne).0 ∙ sym (B.kept ne).0, (A.kept ne).1 ∙ sym (B.kept ne).1)
