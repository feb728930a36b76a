-- Bytes of a body: how many they are, and fields of one length written one behind the other.
use mathlib.Core.Bool.{Bool}
use mathlib.Core.List.{List, [], ◌∷◌, ◌++◌}
use mathlib.Core.Path.{◌≡◌, refl, sym, ap, ap₂, ◌∙◌}
use Prim.Native.Nat.{ℕ, zero, suc, ◌+◌, ◌-◌, ◌*◌, ◌<◌}
use native.Mathlib.Numerals.{add-one}
use native.Mathlib.Omega.{arith}
use lib.IntN.{ℤ}
use lib.ListN.{length, take, drop, length-append}
use Rattle.fields.specs.Bytes.{le, front}
use Rattle.fields.proofs.Laws.Front.{length-le, lent-front, front-none}
use Rattle.body_fields.specs.Fields.{joined, head_bytes, tie_bytes, field_bytes}
use Rattle.body_fields.specs.Inner.Fields.{body_size}

pub length-joined : (w n : ℕ) (f : ℕ → List ℕ) → ((i : ℕ) → length (f i) ≡ w) → length (joined n f) ≡ w * n
unfolding joined
length-joined w zero f h = omega arith
length-joined w (suc n) f h = length-append (joined n f) (f n) ∙ omega (arith, length-joined w n f h, h n)

pub length-tie : (m r : ℕ) → length (tie_bytes m r) ≡ 9
unfolding tie_bytes
length-tie m r = length-append (le 8 m) (r ∷ []) ∙ omega (arith, length-le 8 m)

pub joined-ext : (n : ℕ) (f g : ℕ → List ℕ) → ((i : ℕ) → i < n → f i ≡ g i) → joined n f ≡ joined n g
unfolding joined
joined-ext zero f g h = refl
joined-ext (suc n) f g h = ap₂ (λ (x y : List ℕ). x ++ y) (joined-ext n f g (λ i l. h i (omega arith))) (h n (omega arith))

-- ---- the loops that write them: before, one field on, and at the end
pub lent_none : (xs : List ℕ) (f : ℕ → List ℕ) → xs ≡ front xs (joined 0 f)
unfolding joined
lent_none xs f = front-none xs

joined-next : (i : ℕ) (f : ℕ → List ℕ) → joined i f ++ f i ≡ joined (i + 1) f
unfolding joined
joined-next i f = ap (λ (n : ℕ). joined n f) (sym (add-one i))

pub lent-next : (w : ℕ) (f : ℕ → List ℕ) → ((i : ℕ) → length (f i) ≡ w) → (xs part ys : List ℕ) (i at : ℕ) → at ≡ w * i → part ≡ front xs (joined i f)
    → ys ≡ front (take (length part - at) (drop at part)) (f i) → take at part ++ (ys ++ drop (length part - at) (drop at part)) ≡ front xs (joined (i + 1) f)
lent-next w f h xs part ys i at e p q =
    lent-front xs (joined i f) (f i) part ys at p (length-joined w i f h ∙ sym e) q ∙ ap (front xs) (joined-next i f)

pub lent-done : (xs part : List ℕ) (i n : ℕ) (f : ℕ → List ℕ) → i ≡ n → part ≡ front xs (joined i f) → part ≡ front xs (joined n f)
lent-done xs part i n f e p = p ∙ ap (λ (k : ℕ). front xs (joined k f)) e

-- ---- the fields of a body
pub front_same : (xs ys bs cs : List ℕ) → ys ≡ front xs bs → bs ≡ cs → ys ≡ front xs cs
front_same xs ys bs cs e f = e ∙ ap (front xs) f

module _ (zeroed : Bool) (c : ℕ) (s : ℤ) (n : ℕ) (a b : ℕ → ℕ) (k : ℕ) where
  -- the bytes up to each field
  unfoldable pub to_turns : List ℕ
  to_turns = head_bytes zeroed c s

  unfoldable pub to_rows : List ℕ
  to_rows = to_turns ++ joined n (λ i. a i ∷ [])

  unfoldable pub to_count : List ℕ
  to_count = to_rows ++ joined n (λ i. le 8 (b i))

  unfoldable pub to_ties : List ℕ
  to_ties = to_count ++ (k ∷ [])

  pub length-turns : length to_turns ≡ 4
  unfolding to_turns head_bytes le
  length-turns = refl

  pub length-rows : length to_rows ≡ 4 + n
  unfolding to_rows
  length-rows = length-append to_turns (joined n (λ i. a i ∷ [])) ∙ omega (arith, length-turns, length-joined 1 n (λ i. a i ∷ []) (λ i. refl))

  pub length-count : length to_count ≡ 4 + n + 8 * n
  unfolding to_count
  length-count = length-append to_rows (joined n (λ i. le 8 (b i))) ∙ omega (arith, length-rows, length-joined 8 n (λ i. le 8 (b i)) (λ i. length-le 8 (b i)))

  pub length-ties : length to_ties ≡ 4 + n + 8 * n + 1
  unfolding to_ties
  length-ties = length-append to_count (k ∷ []) ∙ omega (arith, length-count)

  module _ (m r : ℕ → ℕ) where
    pub fields-are : to_ties ++ joined k (λ j. tie_bytes (m j) (r j)) ≡ field_bytes zeroed c s n a b k m r
    unfolding to_ties to_count to_rows to_turns field_bytes
    fields-are = refl

    pub length_fields : length (field_bytes zeroed c s n a b k m r) ≡ body_size n k
    length_fields =
        ap length (sym fields-are)
        ∙ length-append to_ties (joined k (λ j. tie_bytes (m j) (r j)))
        ∙ omega (arith, length-ties, length-joined 9 k (λ j. tie_bytes (m j) (r j)) (λ j. length-tie (m j) (r j)))
