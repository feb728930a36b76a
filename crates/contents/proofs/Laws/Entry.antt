-- An entry from its parts and from a part of the book, and what its tests say: by the truth of each test.
use mathlib.Core.Path.{◌≡◌, refl, sym, ap, ◌∙◌}
use mathlib.Core.Bool.{Bool, true, false, not, ◌||◌, cond, ◌&&◌}
use mathlib.Core.List.{List}
use Prim.Native.Nat.{ℕ, ◌+◌, ◌*◌, ◌≤◌}
use native.Mathlib.Omega.{arith}
use lib.Dec.{eqb, ltb}
use lib.ListN.{length, drop}
use lib.Seq.{get_or-drop}
use borrow.Author.Tests.{le-ltb, eq-eqb, eqb-true, ltb-false, not-false}
use Rattle.fields.specs.Bytes.{byte_at, number}
use Rattle.fields.proofs.Laws.Number.{number-drop, number-beyond, byte-beyond}
use Rattle.contents.specs.Contents.{Entry, kind_of, width_of, length_of, start_of, entry_of, good_kind, fault_at}
use Rattle.contents.proofs.Laws.Some.{or-no-left, or-no-right}
use mathlib.Core.Logic.{◌⊎◌, inl, inr}

-- ---- an entry, from its parts and from a part of the book
pub entry-eq : (bs : List ℕ) (j : ℕ) (e : Entry) → e.kind ≡ kind_of bs j → e.width ≡ width_of bs j → e.start ≡ start_of bs j → e.length ≡ length_of bs j → e ≡ entry_of bs j
entry-eq bs j e a b c d = λ i. record { kind = a i; width = b i; start = c i; length = d i }

module _ (bs : List ℕ) (j : ℕ) where
  -- place d behind entry j, in the part that starts 4 bytes before it
  moved : (d : ℕ) → 8 * j + (4 + d) ≡ 4 + 8 * j + d
  moved d = omega arith

  pub entry-moved : entry_of (drop (8 * j) bs) 0 ≡ entry_of bs j
  unfolding kind_of width_of length_of start_of
  entry-moved =
      let z : 8 * j + 4 ≡ 4 + 8 * j = omega arith in
      entry-eq bs j (entry_of (drop (8 * j) bs) 0)
      (get_or-drop (8 * j) bs 4 0 ∙ ap (byte_at bs) z)
      (get_or-drop (8 * j) bs 5 0 ∙ ap (byte_at bs) (moved 1))
      (number-drop 4 bs (8 * j) 8 ∙ ap (number 4 bs) (moved 4))
      (number-drop 2 bs (8 * j) 6 ∙ ap (number 2 bs) (moved 2))

  pub entry-beyond : length bs ≤ 8 * j → record { kind = 0; width = 0; start = 0; length = 0 } ≡ entry_of bs j
  unfolding kind_of width_of length_of start_of
  entry-beyond h =
      entry-eq bs j _
      (byte-beyond bs (4 + 8 * j) (omega arith))
      (byte-beyond bs (4 + 8 * j + 1) (omega arith))
      (sym (number-beyond 4 bs (4 + 8 * j + 4) (omega arith)))
      (sym (number-beyond 2 bs (4 + 8 * j + 2) (omega arith)))

-- ---- an entry's tests
-- what an entry that is not refused says
pub fault-none : (ed : ℕ) (e : Entry) (from size : ℕ) → fault_at ed e from size ≡ false → (good_kind ed e.kind ≡ true) × (e.start ≡ from) × (e.start + e.length ≤ size)
unfolding fault_at
fault-none ed e from size h =
    let a = not (good_kind ed e.kind) in
    let b = not (eqb e.start from) in
    let l = or-no-left (a || b) (ltb size (e.start + e.length)) h in (
      not-false (good_kind ed e.kind) (or-no-left a b l),
      eqb-true e.start from (not-false (eqb e.start from) (or-no-right a b l)),
      ltb-false size (e.start + e.length) (or-no-right (a || b) (ltb size (e.start + e.length)) h),
    )

clash : false ≡ true → ⊥
clash z = let q : ◌≡◌ {A = ℕ} 0 1 = ap (λ (b : Bool). cond b 1 0) z in absurd (omega arith)

-- one of the kinds: the third in edition 2 alone
pub kind-cases : (ed k : ℕ) → good_kind ed k ≡ true → (k ≡ 1) ⊎ (k ≡ 2) ⊎ ((ed ≡ 2) × (k ≡ 3))
unfolding good_kind
kind-cases ed k h = go (eqb k 1) refl (eqb k 2) refl (eqb ed 2) refl (eqb k 3) refl h
  where
    go : (a : Bool) → eqb k 1 ≡ a → (b : Bool) → eqb k 2 ≡ b → (c : Bool) → eqb ed 2 ≡ c → (d : Bool) → eqb k 3 ≡ d → a || b || (c && d) ≡ true → (k ≡ 1) ⊎ (k ≡ 2) ⊎ ((ed ≡ 2) × (k ≡ 3))
    go true e b f c g d i z = inl (eqb-true k 1 e)
    go false e true f c g d i z = inr (inl (eqb-true k 2 f))
    go false e false f true g true i z = inr (inr (eqb-true ed 2 g, eqb-true k 3 i))
    go false e false f true g false i z = absurd (clash z)
    go false e false f false g d i z = absurd (clash z)

-- and the way back
pub fault-pass : (ed : ℕ) (e : Entry) (from size : ℕ) → good_kind ed e.kind ≡ true → e.start ≡ from → e.start + e.length ≤ size → fault_at ed e from size ≡ false
unfolding fault_at
fault-pass ed e from size a b c = rw (a, eq-eqb e.start from b, le-ltb size (e.start + e.length) c)
