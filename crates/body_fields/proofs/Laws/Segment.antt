-- Segments of a list of bytes, so many of them from a place on: one behind the other, a single byte, and fields of one length. By the laws of taking and dropping.
use mathlib.Core.List.{List, [], ◌∷◌, ◌++◌}
use mathlib.Core.Path.{◌≡◌, sym, ap, ap₂, ◌∙◌}
use Prim.Native.Nat.{ℕ, zero, suc, ◌+◌, ◌*◌, ◌<◌}
use native.Mathlib.Omega.{arith}
use lib.ListN.{length, take, drop}
use lib.Seq.{drop-cons, drop-drop, take-add}
use Rattle.fields.specs.Bytes.{byte_at}
use Rattle.body_fields.specs.Fields.{joined}

-- k bytes from a place on
abbrev pub segment : List ℕ → ℕ → ℕ → List ℕ
segment bs at k = take k (drop at bs)

module _ (bs : List ℕ) where
  -- two, one behind the other
  pub segment-next : (at k m : ℕ) → segment bs at k ++ segment bs (at + k) m ≡ segment bs at (k + m)
  segment-next at k m = ap (λ (l : List ℕ). segment bs at k ++ take m l) (sym (drop-drop k at bs)) ∙ sym (take-add k m (drop at bs))

  -- behind the first k bytes the next m
  pub front-then : (k m e : ℕ) → k + m ≡ e → {xs ys : List ℕ} → xs ≡ take k bs → ys ≡ segment bs k m → xs ++ ys ≡ take e bs
  front-then k m e q a b = ap₂ ◌++◌ a b ∙ sym (take-add k m bs) ∙ ap (λ (l : ℕ). take l bs) q

  pub segment-byte : (at : ℕ) → at < length bs → byte_at bs at ∷ [] ≡ segment bs at 1
  segment-byte at h = sym (ap (take 1) (drop-cons bs at 0 h))

  -- fields of one length that are the segments one behind the other
  pub segment-joined : (w at n : ℕ) (f : ℕ → List ℕ) → ((i : ℕ) → i < n → f i ≡ segment bs (at + w * i) w) → joined n f ≡ segment bs at (w * n)
  unfolding joined
  segment-joined w at zero f h =
      let z : 0 ≡ w * 0 = omega arith in
      ap (segment bs at) z
  segment-joined w at (suc n) f h =
      let e : w * n + w ≡ w * suc n = omega arith in
      ap₂ ◌++◌ (segment-joined w at n f (λ i l. h i (omega arith))) (h n (omega arith)) ∙ segment-next at (w * n) w ∙ ap (segment bs at) e
