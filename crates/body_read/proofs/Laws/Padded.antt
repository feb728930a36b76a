-- Lists of 64 places: what stands where, and such a list that was asked of a function. Place by place.
use mathlib.Core.Path.{◌≡◌, sym, ap, ◌∙◌}
use mathlib.Core.List.{List}
use mathlib.Core.Bool.{Bool, cond}
use mathlib.Core.Logic.{⊎_elim}
use Prim.Native.Nat.{ℕ, ◌≤◌, ◌<◌}
use native.Mathlib.Omega.{arith}
use lib.Dec.{ltb}
use lib.ListN.{length, get_or, get_or-eq_default}
use lib.Seq.{ext_get_or}
use borrow.Author.Tests.{lt-ltb, le-ltb}
use Rattle.exact.proofs.Laws.Sum.{split}
use Rattle.fields.proofs.Laws.Listed.{length-listed, listed_at}
use Rattle.body_read.specs.Inner.Padded.{Padded}
use Rattle.body_read.specs.Table.{padded}

module _ {A : Type 0} (d : A) (n : ℕ) (f : ℕ → A) where
  pub length-padded : length (padded d n f) ≡ 64
  unfolding padded
  length-padded = length-listed 64 (λ v. cond (ltb v n) (f v) d)

  place : (v : ℕ) → v < 64 → get_or (padded d n f) v d ≡ cond (ltb v n) (f v) d
  unfolding padded
  place v h = listed_at d 64 (λ u. cond (ltb u n) (f u) d) v h

  -- below n, what f says
  pub padded-in : (v : ℕ) → v < n → v < 64 → get_or (padded d n f) v d ≡ f v
  padded-in v h l = place v l ∙ ap (λ (b : Bool). cond b (f v) d) (lt-ltb v n h)

  -- from n on, nothing
  pub padded-out : (v : ℕ) → n ≤ v → get_or (padded d n f) v d ≡ d
  padded-out v h =
      ⊎_elim
      (λ (l : v < 64). place v l ∙ ap (λ (b : Bool). cond b (f v) d) (le-ltb v n h))
      (λ (l : 64 ≤ v). get_or-eq_default (padded d n f) d (omega (arith, length-padded)))
      (split v 64)

-- ---- a list of 64 places that were asked of a function: its answers are those of f
module _ {A : Type 0} (R : ℕ → A → Type 0) (d : A) (n : ℕ) (f : ℕ → A) (l : List A) (P : Padded R d n l) where
  pub padded-asked : ((v : ℕ) (r : A) → R v r → r ≡ f v) → l ≡ padded d n f
  padded-asked h =
      ext_get_or d l (padded d n f) (P.long ∙ sym (length-padded d n f)) (λ v b. let k : v < 64 = omega (arith, P.long) in
      ⊎_elim
      (λ (i : v < n). h v _ (P.asked v k i) ∙ sym (padded-in d n f v i k))
      (λ (i : n ≤ v). P.rest v k i ∙ sym (padded-out d n f v i))
      (split v n))
