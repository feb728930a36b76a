-- What holds of some number below a bound, and of none: by induction on the bound.
use mathlib.Core.Path.{◌≡◌, refl, ap, ap₂, ◌∙◌}
use mathlib.Core.Bool.{Bool, true, false, ◌||◌, or-true}
use mathlib.Core.Logic.{⊎_elim}
use Prim.Native.Nat.{ℕ, zero, suc, ◌+◌, ◌≤◌, ◌<◌}
use native.Mathlib.Numerals.{add-one}
use native.Mathlib.Omega.{arith}
use Rattle.exact.proofs.Laws.Sum.{split}
use Rattle.contents.specs.Contents.{any_below}

pub or-no-left : (a b : Bool) → (a || b) ≡ false → a ≡ false
or-no-left true b e = e
or-no-left false b e = refl

pub or-no-right : (a b : Bool) → (a || b) ≡ false → b ≡ false
or-no-right true b e = absurd (let z : ◌≡◌ {A = ℕ} 0 1 = cc in omega arith)
or-no-right false b e = e

pub some-zero : (f : ℕ → Bool) → any_below 0 f ≡ false
unfolding any_below
some-zero f = refl

pub some_next : (n : ℕ) (f : ℕ → Bool) → any_below n f ≡ false → f n ≡ false → any_below (n + 1) f ≡ false
unfolding any_below
some_next n f a b = ap (λ (k : ℕ). any_below k f) (add-one n) ∙ ap₂ ◌||◌ a b

pub some-here : (n j : ℕ) (f : ℕ → Bool) → j < n → f j ≡ true → any_below n f ≡ true
unfolding any_below
some-here zero j f h e = absurd (omega arith)
some-here (suc n) j f h e = ⊎_elim (λ l. ap (λ (b : Bool). b || f n) (some-here n j f l e)) there (split j n)
  where
    there : n ≤ j → (any_below n f || f n) ≡ true
    there l =
        let q : n ≡ j = omega arith in
        ap (λ (b : Bool). any_below n f || b) (ap f q ∙ e) ∙ or-true (any_below n f)

pub some-none : (n j : ℕ) (f : ℕ → Bool) → any_below n f ≡ false → j < n → f j ≡ false
unfolding any_below
some-none zero j f e h = absurd (omega arith)
some-none (suc n) j f e h = ⊎_elim (λ l. some-none n j f (or-no-left _ _ e) l) there (split j n)
  where
    there : n ≤ j → f j ≡ false
    there l =
        let q : j ≡ n = omega arith in
        ap f q ∙ or-no-right (any_below n f) (f n) e

-- none, number by number
pub none : (n : ℕ) (f : ℕ → Bool) → ((j : ℕ) → j < n → f j ≡ false) → any_below n f ≡ false
unfolding any_below
none zero f h = refl
none (suc n) f h = ap₂ ◌||◌ (none n f (λ j l. h j (omega arith))) (h n (omega arith))
