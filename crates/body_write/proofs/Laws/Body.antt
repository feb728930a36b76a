-- The body of a table is that of the packed one, slot by slot; and how long it is.
use mathlib.Core.Bool.{Bool}
use mathlib.Core.List.{List, [], ◌∷◌, ◌++◌}
use mathlib.Core.Path.{◌≡◌, sym, ap, ap₂, ◌∙◌, subst}
use Prim.Native.Nat.{ℕ, ◌^◌, ◌≤◌, ◌<◌}
use native.Mathlib.Omega.{arith}
use lib.Count.{ones}
use lib.IntN.{ℤ}
use lib.ListN.{length}
use Rattle.fields.specs.Bytes.{le, front}
use Rattle.state.specs.declared.State.{State}
use Rattle.state.specs.Entry.{ties}
use Rattle.state.specs.Normal.{Normal}
use Rattle.body_pack.specs.Packed.{packed_form, packed_ties, packed_table}
use Rattle.body_fields.specs.Fields.{head_bytes, tie_bytes, field_bytes}
use Rattle.body_fields.specs.Inner.Fields.{body_size, plain_bytes, Fitting}
use Rattle.body_write.specs.Body.{body_bytes}
use Rattle.body_fields.proofs.Laws.Bytes.{joined-ext, length_fields}
use Rattle.body_pack.proofs.Laws.Read.{ones_small, turn_at_lem, row-at, mask_at_lem, side-at}

-- the same numbers give the same bytes
pub fields-ext : (zeroed : Bool) (c : ℕ) (s : ℤ) (n : ℕ) (a a' b b' : ℕ → ℕ) (k : ℕ) (m m' r r' : ℕ → ℕ)
    → ((i : ℕ) → i < n → a i ≡ a' i) → ((i : ℕ) → i < n → b i ≡ b' i) → ((j : ℕ) → j < k → m j ≡ m' j) → ((j : ℕ) → j < k → r j ≡ r' j)
    → field_bytes zeroed c s n a b k m r ≡ field_bytes zeroed c s n a' b' k m' r'
unfolding field_bytes
fields-ext zeroed c s n a a' b b' k m m' r r' ea eb em er =
    ap₂ (λ (x y : List ℕ). x ++ y)
    (ap₂ (λ (x y : List ℕ). (((head_bytes zeroed c s ++ x) ++ y) ++ (k ∷ []))) (joined-ext n _ _ (λ i l. ap (λ (x : ℕ). x ∷ []) (ea i l)))
    (joined-ext n _ _ (λ i l. ap (le 8) (eb i l))))
    (joined-ext k _ _ (λ j l. ap₂ tie_bytes (em j l) (er j l)))

pub body-plain : (t : State) → t.live < 2 ^ 64 → length t.ties.masks ≡ 64 → plain_bytes (ones t.live) (packed_table t) ≡ body_bytes t
unfolding plain_bytes body_bytes packed_table packed_form packed_ties
body-plain t h e =
    fields-ext t.zero t.form.phase.0 t.power.0 (ones t.live) _ _ _ _ (ties t) _ _ _ _
    (λ i l. turn_at_lem t.live t.form i (omega (arith, ones_small t.live h)))
    (λ i l. row-at t.live t.form i (omega (arith, ones_small t.live h)))
    (λ j l. mask_at_lem t.live t.ties e j)
    (λ j l. side-at t.live t.ties e j)

pub length-body : (t : State) → length (body_bytes t) ≡ body_size (ones t.live) (ties t)
unfolding body_bytes
length-body t = length_fields t.zero t.form.phase.0 t.power.0 (ones t.live) _ _ (ties t) _ _

-- ---- what the writer of the fields asks and leaves, of a normal table t whose packed one is p
module _ (t p : State) (n : ℕ) (N : Normal t) (en : n ≡ ones t.live) (ep : p ≡ packed_table t) where
  packed-fits : (part : List ℕ) → length (body_bytes t) ≤ length part → Fitting part (ones t.live) (packed_table t)
  unfolding packed_table packed_ties
  packed-fits part l = record {
    slots = ones_small t.live N.live-range;
    few = N.reduced.count-range;
    range = N.power-range;
    room = omega (arith, length-body t);
  }

  pub body-fitting : (part : List ℕ) → length (body_bytes t) ≤ length part → Fitting part n p
  body-fitting part l = subst (λ (k : ℕ). Fitting part k p) (sym en) (subst (Fitting part (ones t.live)) (sym ep) (packed-fits part l))

  pub body-written : (xs ys : List ℕ) → ys ≡ front xs (plain_bytes n p) → ys ≡ front xs (body_bytes t)
  body-written xs ys e = e ∙ ap (front xs) (ap₂ plain_bytes en ep ∙ body-plain t N.live-range N.reduced.masks-are)
