-- A list by its elements: how long it is, and what stands where. By induction on the length.
use mathlib.Core.Path.{◌≡◌, refl, sym, ap, ◌∙◌, subst}
use mathlib.Core.Logic.{◌⊎◌, inl, inr}
use mathlib.Core.List.{List}
use Prim.Native.Nat.{ℕ, zero, suc, ◌+◌, ◌≤◌, ◌<◌}
use native.Mathlib.Nat.{eq-or-lt_of_le}
use native.Mathlib.Omega.{arith}
use lib.ListN.{length, get_or, get_or-eq_default}
use lib.Seq.{ext_get_or}
use denote.Param.Members.{Mut, Called}
use Rattle.std.specs.Array.{IsFromFnResultFrom, IsFromFnResult}
use Rattle.fields.specs.Listed.{listed}

pub length-listed : {A : Type 0} (n : ℕ) (f : ℕ → A) → length (listed n f) ≡ n
unfolding listed
length-listed zero f = refl
length-listed (suc n) f = ap suc (length-listed n (λ i. f (suc i)))

pub listed_at : {A : Type 0} (d : A) (n : ℕ) (f : ℕ → A) (i : ℕ) → i < n → get_or (listed n f) i d ≡ f i
unfolding listed
listed_at d zero f i l = absurd (omega arith)
listed_at d (suc n) f zero l = refl
listed_at d (suc n) f (suc i) l = listed_at d n (λ j. f (suc j)) i (omega arith)

pub listed-beyond : {A : Type 0} (d : A) (n : ℕ) (f : ℕ → A) (i : ℕ) → n ≤ i → get_or (listed n f) i d ≡ d
listed-beyond d n f i l = get_or-eq_default (listed n f) d (omega (arith, length-listed n f))

-- two lists of n elements that agree place by place
pub listed-is : {A : Type 0} (n : ℕ) (f : ℕ → A) (xs : List A) → length xs ≡ n → ((i : ℕ) (d : A) → i < n → get_or xs i d ≡ f i) → xs ≡ listed n f
listed-is n f xs e h =
    ext_get_or (f 0) xs (listed n f) (e ∙ sym (length-listed n f)) (λ i l. h i (f 0) (omega arith) ∙ sym (listed_at (f 0) n f i (omega arith)))

-- ---- an array made by calls of one function at each index in turn, each of which leaves the function as it was
module _ {F B : Type 0} (g : Mut F (ℕ × Unit {0}) B) (f : F) (R : ℕ → B → Type 0) (m : ℕ) (acts : (k : ℕ) (r : B) (q : F) → k < m → Called g f (k, tt) r q → (q ≡ f) × R k r) where
  made-from : (n i : ℕ) (ys : List B) → i + n ≡ m → IsFromFnResultFrom g f ys i n → (k : ℕ) (d : B) → i ≤ k → k < m → R k (get_or ys k d)
  made-from zero i ys e made k d l b = absurd (omega arith)
  made-from (suc n) i ys e made k d l b =
      let here = acts i made.1 made.0 (omega arith) made.3 in
      let rest : IsFromFnResultFrom g f ys (i + 1) n = subst (λ (q : F). IsFromFnResultFrom g q ys (i + 1) n) here.0 made.4 in
      go (λ j. made-from n (i + 1) ys (omega arith) rest k d j b) (subst (R i) (sym (made.2.1 d)) here.1) (eq-or-lt_of_le l)
    where
      go : (i + 1 ≤ k → R k (get_or ys k d)) → R i (get_or ys i d) → (i ≡ k) ⊎ (i < k) → R k (get_or ys k d)
      go later first (inl e) = subst (λ (j : ℕ). R j (get_or ys j d)) e first
      go later first (inr j) = later (omega arith)

  pub made_at : (ys : List B) → IsFromFnResult g f ys m → (k : ℕ) (d : B) → k < m → R k (get_or ys k d)
  made_at ys made k d l = made-from m 0 ys (omega arith) made.each k d (omega arith) l

pub listed-made : {F B : Type 0} (g : Mut F (ℕ × Unit {0}) B) (f : F) (h : ℕ → B) (m : ℕ) → ((k : ℕ) (r : B) (q : F) → k < m → Called g f (k, tt) r q → (q ≡ f) × (r ≡ h k))
    → (ys : List B) → IsFromFnResult g f ys m → ys ≡ listed m h
listed-made g f h m acts ys made = listed-is m h ys made.long (λ i d l. made_at g f (λ k r. r ≡ h k) m acts ys made i d l)
