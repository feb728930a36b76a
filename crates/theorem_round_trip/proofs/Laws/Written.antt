-- What stands where in the bytes of a body: each field at the place where a reader looks for it. By the lengths of what stands before it.
use mathlib.Core.Bool.{Bool}
use mathlib.Core.List.{List, [], ◌∷◌, ◌++◌}
use mathlib.Core.Path.{◌≡◌, refl, sym, ap, subst, ◌∙◌}
use Prim.Native.Nat.{ℕ, zero, suc, ◌+◌, ◌-◌, ◌*◌, ◌^◌, ◌≤◌, ◌<◌}
use native.Mathlib.Omega.{arith}
use lib.IntN.{ℤ}
use lib.ListN.{length}
use Rattle.fields.specs.Bytes.{byte_at, le}
use Rattle.fields.proofs.Laws.Front.{length-le}
use Rattle.state.specs.Normal.{InRange}
use Rattle.body_fields.specs.Fields.{joined, mark, of_signed16, head_bytes, tie_bytes, field_bytes}
use Rattle.body_fields.proofs.Laws.Bytes.{to_turns, to_rows, to_count, to_ties, length-turns, length-rows, length-count, length-ties, length-tie, fields-are}
use Rattle.body_bytes.specs.Body.{signed16, mark_of, phase_of, power_of, turn_of, row_of, tie_count, mask_of, side_of}
use Rattle.image.proofs.Laws.Signed.{signed_back, signed-small}
use Rattle.body_fields.proofs.Laws.Part.{Part, part_at, part-own, part_left, part_right, part-joined, part-byte, part-number}

module _ (zeroed : Bool) (c : ℕ) (s : ℤ) (n : ℕ) (a b : ℕ → ℕ) (k : ℕ) (m r : ℕ → ℕ) where
  abbrev pub bytes : List ℕ
  bytes = field_bytes zeroed c s n a b k m r

  abbrev pub turn_field : ℕ → List ℕ
  turn_field i = a i ∷ []

  abbrev pub row_field : ℕ → List ℕ
  row_field i = le 8 (b i)

  abbrev pub tie_field : ℕ → List ℕ
  tie_field j = tie_bytes (m j) (r j)

  -- ---- a part of what stands before a field is a part of all
  from-ties : (ps : List ℕ) (at : ℕ) → at + length ps ≤ 5 + 9 * n → Part (to_ties zeroed c s n a b k) at ps → Part bytes at ps
  from-ties ps at h w =
      subst (λ (bs : List ℕ). Part bs at ps) (fields-are zeroed c s n a b k m r)
      (part_left (to_ties zeroed c s n a b k) (joined k tie_field) ps at (omega (arith, length-ties zeroed c s n a b k)) w)

  from-count : (ps : List ℕ) (at : ℕ) → at + length ps ≤ 4 + 9 * n → Part (to_count zeroed c s n a b k) at ps → Part bytes at ps
  unfolding to_ties
  from-count ps at h w = from-ties ps at (omega arith) in-ties
    where
      in-ties : Part (to_ties zeroed c s n a b k) at ps
      in-ties = part_left (to_count zeroed c s n a b k) (k ∷ []) ps at (omega (arith, length-count zeroed c s n a b k)) w

  from-rows : (ps : List ℕ) (at : ℕ) → at + length ps ≤ 4 + n → Part (to_rows zeroed c s n a b k) at ps → Part bytes at ps
  unfolding to_count
  from-rows ps at h w = from-count ps at (omega arith) in_count
    where
      in_count : Part (to_count zeroed c s n a b k) at ps
      in_count = part_left (to_rows zeroed c s n a b k) (joined n row_field) ps at (omega (arith, length-rows zeroed c s n a b k)) w

  from-turns : (ps : List ℕ) (at : ℕ) → at + length ps ≤ 4 → Part (to_turns zeroed c s n a b k) at ps → Part bytes at ps
  unfolding to_rows
  from-turns ps at h w = from-rows ps at (omega arith) in_rows
    where
      in_rows : Part (to_rows zeroed c s n a b k) at ps
      in_rows = part_left (to_turns zeroed c s n a b k) (joined n turn_field) ps at (omega (arith, length-turns zeroed c s n a b k)) w

  -- ---- the fields
  pub mark-is : mark zeroed ≡ mark_of bytes
  unfolding to_turns head_bytes
  mark-is = part-byte bytes 0 (mark zeroed) (from-turns (mark zeroed ∷ []) 0 (omega arith) here)
    where
      here : Part (to_turns zeroed c s n a b k) 0 (mark zeroed ∷ [])
      here zero l = refl
      here (suc i) l = absurd (omega arith)

  pub phase-is : c ≡ phase_of bytes
  unfolding to_turns head_bytes
  phase-is = part-byte bytes 1 c (from-turns (c ∷ []) 1 (omega arith) here)
    where
      here : Part (to_turns zeroed c s n a b k) 1 (c ∷ [])
      here zero l = refl
      here (suc i) l = absurd (omega arith)

  pub power-is : InRange s → s ≡ power_of bytes
  unfolding to_turns head_bytes
  power-is h = signed_back s h ∙ ap signed16 (part-number 2 (of_signed16 s) bytes 2 (signed-small s h) (from-turns (le 2 (of_signed16 s)) 2 (omega (arith, length-le 2 (of_signed16 s))) here))
    where
      here : Part (to_turns zeroed c s n a b k) 2 (le 2 (of_signed16 s))
      here = part_at ((mark zeroed ∷ c ∷ []) ++ le 2 (of_signed16 s)) (le 2 (of_signed16 s)) (2 + 0) 2 (omega arith) (part_right (mark zeroed ∷ c ∷ []) (le 2 (of_signed16 s)) (le 2 (of_signed16 s)) 2 0 refl (part-own (le 2 (of_signed16 s))))

  pub turn_is : (v : ℕ) → v < n → a v ≡ turn_of bytes v
  unfolding to_rows
  turn_is v l = part-byte bytes (4 + v) (a v) (from-rows (a v ∷ []) (4 + v) (omega arith) here)
    where
      here : Part (to_rows zeroed c s n a b k) (4 + v) (a v ∷ [])
      here =
          part_at (to_turns zeroed c s n a b k ++ joined n turn_field) (a v ∷ []) (4 + 1 * v) (4 + v) (omega arith)
          (part_right (to_turns zeroed c s n a b k) (joined n turn_field) (a v ∷ []) 4 (1 * v) (length-turns zeroed c s n a b k) (part-joined 1 n turn_field (λ i. refl) v l))

  pub row_is : (v : ℕ) → v < n → b v < 2 ^ 64 → b v ≡ row_of n bytes v
  unfolding to_count
  row_is v l h = part-number 8 (b v) bytes (4 + n + 8 * v) (omega arith) (from-count (le 8 (b v)) (4 + n + 8 * v) (omega (arith, length-le 8 (b v))) here)
    where
      here : Part (to_count zeroed c s n a b k) (4 + n + 8 * v) (le 8 (b v))
      here =
          part_right (to_rows zeroed c s n a b k) (joined n row_field) (le 8 (b v)) (4 + n) (8 * v) (length-rows zeroed c s n a b k)
          (part-joined 8 n row_field (λ i. length-le 8 (b i)) v l)

  pub count-is : k ≡ tie_count n bytes
  unfolding to_ties
  count-is = part-byte bytes (4 + 9 * n) k (from-ties (k ∷ []) (4 + 9 * n) (omega arith) here)
    where
      here : Part (to_ties zeroed c s n a b k) (4 + 9 * n) (k ∷ [])
      here =
          part_at (to_count zeroed c s n a b k ++ (k ∷ [])) (k ∷ []) (4 + n + 8 * n + 0) (4 + 9 * n) (omega arith)
          (part_right (to_count zeroed c s n a b k) (k ∷ []) (k ∷ []) (4 + n + 8 * n) 0 (length-count zeroed c s n a b k) (part-own (k ∷ [])))

  -- ---- a tie
  tie-part : (j : ℕ) → j < k → Part bytes (5 + 9 * n + 9 * j) (tie_bytes (m j) (r j))
  tie-part j l =
      subst (λ (bs : List ℕ). Part bs (5 + 9 * n + 9 * j) (tie_bytes (m j) (r j))) (fields-are zeroed c s n a b k m r)
      (part_at (to_ties zeroed c s n a b k ++ joined k tie_field) (tie_bytes (m j) (r j)) (4 + n + 8 * n + 1 + 9 * j) (5 + 9 * n + 9 * j) (omega arith)
      (part_right (to_ties zeroed c s n a b k) (joined k tie_field) (tie_bytes (m j) (r j)) (4 + n + 8 * n + 1) (9 * j) (length-ties zeroed c s n a b k)
      (part-joined 9 k tie_field (λ i. length-tie (m i) (r i)) j l)))

  pub tie-is : (j : ℕ) → j < k → m j < 2 ^ 64 → m j ≡ mask_of n bytes j
  unfolding tie_bytes
  tie-is j l h =
      part-number 8 (m j) bytes (5 + 9 * n + 9 * j) (omega arith)
      (λ i q. tie-part j l i (omega (arith, length-tie (m j) (r j), length-le 8 (m j))) ∙ here i q)
    where
      here : (i : ℕ) → i < length (le 8 (m j)) → byte_at (tie_bytes (m j) (r j)) i ≡ byte_at (le 8 (m j)) i
      here i q = ap (byte_at (le 8 (m j) ++ (r j ∷ []))) (omega arith) ∙ part_left (le 8 (m j)) (r j ∷ []) (le 8 (m j)) 0 (omega arith) (part-own (le 8 (m j))) i q

  pub side-is : (j : ℕ) → j < k → r j ≡ side_of n bytes j
  unfolding tie_bytes
  side-is j l = sym (tie-part j l 8 (omega (arith, length-tie (m j) (r j))) ∙ here)
    where
      here : byte_at (tie_bytes (m j) (r j)) 8 ≡ r j
      here =
          ap (byte_at (le 8 (m j) ++ (r j ∷ []))) (omega arith)
          ∙ part_right (le 8 (m j)) (r j ∷ []) (r j ∷ []) 8 0 (length-le 8 (m j)) (part-own (r j ∷ [])) 0 (omega arith)
