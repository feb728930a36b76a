-- No second result of any call for C on elements: by the same of the call that it hands on, as an answer.
use mathlib.Core.List.{List}
use mathlib.Core.Logic.{◌⊎◌, inl, inr, ◌≢◌}
use mathlib.Core.Path.{◌≡◌, sym, ap, ◌∙◌}
use Prim.Native.Nat.{ℕ}
use Rattle.bits.proofs.Laws.Bit.{same_or}
use Rattle.std.specs.Prelude.{Result, Ok, Err}
use Rattle.exact.specs.declared.Refusal.{Refusal}
use Rattle.cliffords.specs.Element.{Answers}
use Rattle.cliffords.specs.Closing.{product_number, inverse_number, closing_number, IsProduct, Undoes, Closes}
use Rattle.cliffords.proofs.Laws.Answers.{given}
use Rattle.cliffords.proofs.Laws.Only.{one_product, one-inverse, one-closing}
use Rattle.told_cliffords.specs.Told.{ElementTold}

-- the element of an answer, d for a refusal
held : ℕ → Result ℕ Refusal → ℕ
held d (Err k) = d
held d (Ok k) = k

-- one answer, one telling
module _ (refusal : ℕ) (P : ℕ → Type 0) (one : (r q : Result ℕ Refusal) → Answers refusal P r → Answers refusal P q → r ≡ q) where
  pub one_told : (before n m a b : ℕ) → ElementTold refusal P before n a → ElementTold refusal P before m b → (n ≡ m) × (a ≡ b)
  unfolding held
  one_told before n m a b A B = (A.number ∙ sym B.number, go (same_or refusal 0))
    where
      go : (refusal ≡ 0) ⊎ (refusal ≢ 0) → a ≡ b
      go (inl z) = ap (held a) (one (Ok a) (Ok b) (given refusal a P z (A.element z) (A.given z)) (given refusal b P z (B.element z) (B.given z)))
      go (inr ne) = A.kept ne ∙ sym (B.kept ne)

pub one-product-told : (i j before n m a b : ℕ) → ElementTold (product_number i j) (IsProduct i j) before n a → ElementTold (product_number i j) (IsProduct i j) before m b → (n ≡ m) × (a ≡ b)
one-product-told i j = one_told _ _ (one_product i j)

pub one-inverse-told : (i before n m a b : ℕ) → ElementTold (inverse_number i) (Undoes i) before n a → ElementTold (inverse_number i) (Undoes i) before m b → (n ≡ m) × (a ≡ b)
one-inverse-told i = one_told _ _ (one-inverse i)

pub one-closing-told : (numbers : List ℕ) (before n m a b : ℕ) → ElementTold (closing_number numbers) (Closes numbers) before n a → ElementTold (closing_number numbers) (Closes numbers) before m b → (n ≡ m) × (a ≡ b)
one-closing-told numbers = one_told _ _ (one-closing numbers)
