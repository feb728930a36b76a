-- What stands where in the bytes of a table: each field at the place where a reader looks for it. By the lengths of what stands before it.
use mathlib.Core.List.{List, [], ◌∷◌, ◌++◌}
use mathlib.Core.Path.{◌≡◌, refl, ap, subst, ◌∙◌}
use Prim.Native.Nat.{ℕ, zero, suc, ◌+◌, ◌*◌, ◌^◌, ◌≤◌, ◌<◌}
use native.Mathlib.Omega.{arith}
use lib.ListN.{length}
use Rattle.fields.specs.Bytes.{byte_at, le, number}
use Rattle.fields.proofs.Laws.Front.{length-le}
use Rattle.state.specs.declared.State.{State}
use Rattle.state.specs.Entry.{turn, row, tie, side, ties}
use Rattle.state.specs.Normal.{InRange}
use Rattle.labels.specs.declared.Labels.{Labels}
use Rattle.labels.specs.Labels.{label_at}
use Rattle.body_fields.specs.Fields.{joined, mark, of_signed16, head_bytes}
use Rattle.body_fields.proofs.Laws.Part.{Part, part_at, part-own, part_left, part_right, part-joined, part-byte, part-number}
use Rattle.body_bytes.specs.Body.{signed16, mark_of, phase_of, power_of}
use Rattle.image.specs.Image.{image_bytes}
use Rattle.image.specs.Inner.Stated.{live_of, row_of, count_of, mask_of, side_of}
use Rattle.image.proofs.Laws.Signed.{signed_back, signed-small}
use Rattle.image.proofs.Laws.Bytes.{turn_field, row_field, mask_field, side_field, label_field, to_live, to_turns, to_rows, to_count, to_masks, to_sides, to_labels, length-to-live, length-to-turns, length-to-rows, length-to-count, length-to-masks, length-to-sides, length-to-labels, image-is}

-- the field w places long that stands v fields behind n bytes
field_at : (w n : ℕ) (xs : List ℕ) (f : ℕ → List ℕ) → ((i : ℕ) → length (f i) ≡ w) → length xs ≡ n → (v : ℕ) → v < 64 → Part (xs ++ joined 64 f) (n + w * v) (f v)
field_at w n xs f h e v l = part_right xs (joined 64 f) (f v) n (w * v) e (part-joined w 64 f h v l)

module _ (t : State) (ls : Labels) where
  abbrev bytes : List ℕ
  bytes = image_bytes t ls

  -- ---- a part of what stands before a field is a part of all
  from-labels : (ps : List ℕ) (at : ℕ) → at + length ps ≤ 1165 → Part (to_labels t) at ps → Part bytes at ps
  from-labels ps at h w =
      subst (λ (bs : List ℕ). Part bs at ps) (image-is t ls) (part_left (to_labels t) (joined 64 (label_field t ls)) ps at (omega (arith, length-to-labels t)) w)

  from-sides : (ps : List ℕ) (at : ℕ) → at + length ps ≤ 1101 → Part (to_sides t) at ps → Part bytes at ps
  unfolding to_labels
  from-sides ps at h w = from-labels ps at (omega arith) inner
    where
      inner : Part (to_labels t) at ps
      inner = part_left (to_sides t) (joined 64 (side_field t)) ps at (omega (arith, length-to-sides t)) w

  from-masks : (ps : List ℕ) (at : ℕ) → at + length ps ≤ 589 → Part (to_masks t) at ps → Part bytes at ps
  unfolding to_sides
  from-masks ps at h w = from-sides ps at (omega arith) inner
    where
      inner : Part (to_sides t) at ps
      inner = part_left (to_masks t) (joined 64 (mask_field t)) ps at (omega (arith, length-to-masks t)) w

  from-count : (ps : List ℕ) (at : ℕ) → at + length ps ≤ 588 → Part (to_count t) at ps → Part bytes at ps
  unfolding to_masks
  from-count ps at h w = from-masks ps at (omega arith) inner
    where
      inner : Part (to_masks t) at ps
      inner = part_left (to_count t) (ties t ∷ []) ps at (omega (arith, length-to-count t)) w

  from-rows : (ps : List ℕ) (at : ℕ) → at + length ps ≤ 76 → Part (to_rows t) at ps → Part bytes at ps
  unfolding to_count
  from-rows ps at h w = from-count ps at (omega arith) inner
    where
      inner : Part (to_count t) at ps
      inner = part_left (to_rows t) (joined 64 (row_field t)) ps at (omega (arith, length-to-rows t)) w

  from-turns : (ps : List ℕ) (at : ℕ) → at + length ps ≤ 12 → Part (to_turns t) at ps → Part bytes at ps
  unfolding to_rows
  from-turns ps at h w = from-rows ps at (omega arith) inner
    where
      inner : Part (to_rows t) at ps
      inner = part_left (to_turns t) (joined 64 (turn_field t)) ps at (omega (arith, length-to-turns t)) w

  from-live : (ps : List ℕ) (at : ℕ) → at + length ps ≤ 4 → Part (to_live t) at ps → Part bytes at ps
  unfolding to_turns
  from-live ps at h w = from-turns ps at (omega arith) inner
    where
      inner : Part (to_turns t) at ps
      inner = part_left (to_live t) (le 8 t.live) ps at (omega (arith, length-to-live t)) w

  -- ---- the fields
  pub mark-at : mark t.zero ≡ mark_of bytes
  unfolding to_live head_bytes
  mark-at = part-byte bytes 0 (mark t.zero) (from-live (mark t.zero ∷ []) 0 (omega arith) here)
    where
      here : Part (to_live t) 0 (mark t.zero ∷ [])
      here zero l = refl
      here (suc i) l = absurd (omega arith)

  pub phase-at : t.form.phase.0 ≡ phase_of bytes
  unfolding to_live head_bytes
  phase-at = part-byte bytes 1 t.form.phase.0 (from-live (t.form.phase.0 ∷ []) 1 (omega arith) here)
    where
      here : Part (to_live t) 1 (t.form.phase.0 ∷ [])
      here zero l = refl
      here (suc i) l = absurd (omega arith)

  power-part : Part (to_live t) 2 (le 2 (of_signed16 t.power.0))
  unfolding to_live head_bytes
  power-part =
      let head = mark t.zero ∷ t.form.phase.0 ∷ [] in
      let s = le 2 (of_signed16 t.power.0) in
      part_at (head ++ s) s (2 + 0) 2 (omega arith) (part_right head s s 2 0 refl (part-own s))

  pub power_at : InRange t.power.0 → t.power.0 ≡ power_of bytes
  power_at h =
      let s = t.power.0 in
      signed_back s h ∙ ap signed16 (part-number 2 (of_signed16 s) bytes 2 (signed-small s h) (from-live (le 2 (of_signed16 s)) 2 (omega (arith, length-le 2 (of_signed16 s))) power-part))

  live-part : Part (to_turns t) 4 (le 8 t.live)
  unfolding to_turns
  live-part =
      let m = le 8 t.live in
      part_at (to_live t ++ m) m (4 + 0) 4 (omega arith) (part_right (to_live t) m m 4 0 (length-to-live t) (part-own m))

  pub live_at : t.live < 2 ^ 64 → t.live ≡ live_of bytes
  live_at h = part-number 8 t.live bytes 4 (omega arith) (from-turns (le 8 t.live) 4 (omega (arith, length-le 8 t.live)) live-part)

  pub turn_at_lem : (v : ℕ) → v < 64 → turn t v ≡ byte_at bytes (12 + v)
  unfolding to_rows
  turn_at_lem v l = part-byte bytes (12 + v) (turn t v) (from-rows (turn t v ∷ []) (12 + v) (omega arith) here)
    where
      here : Part (to_rows t) (12 + v) (turn t v ∷ [])
      here = part_at (to_turns t ++ joined 64 (turn_field t)) (turn t v ∷ []) (12 + 1 * v) (12 + v) (omega arith) (field_at 1 12 (to_turns t) (turn_field t) (λ i. refl) (length-to-turns t) v l)

  pub row-at : (v : ℕ) → v < 64 → row t v < 2 ^ 64 → row t v ≡ row_of bytes v
  unfolding to_count
  row-at v l h = part-number 8 (row t v) bytes (76 + 8 * v) (omega arith) (from-count (le 8 (row t v)) (76 + 8 * v) (omega (arith, length-le 8 (row t v))) here)
    where
      here : Part (to_count t) (76 + 8 * v) (le 8 (row t v))
      here = field_at 8 76 (to_rows t) (row_field t) (λ i. length-le 8 (row t i)) (length-to-rows t) v l

  pub count_at_lem : ties t ≡ count_of bytes
  unfolding to_masks
  count_at_lem = part-byte bytes 588 (ties t) (from-masks (ties t ∷ []) 588 (omega arith) here)
    where
      here : Part (to_masks t) 588 (ties t ∷ [])
      here =
          part_at (to_count t ++ (ties t ∷ [])) (ties t ∷ []) (588 + 0) 588 (omega arith) (part_right (to_count t) (ties t ∷ []) (ties t ∷ []) 588 0 (length-to-count t) (part-own (ties t ∷ [])))

  pub mask_at_lem : (j : ℕ) → j < 64 → tie t j < 2 ^ 64 → tie t j ≡ mask_of bytes j
  unfolding to_sides
  mask_at_lem j l h = part-number 8 (tie t j) bytes (589 + 8 * j) (omega arith) (from-sides (le 8 (tie t j)) (589 + 8 * j) (omega (arith, length-le 8 (tie t j))) here)
    where
      here : Part (to_sides t) (589 + 8 * j) (le 8 (tie t j))
      here = field_at 8 589 (to_masks t) (mask_field t) (λ i. length-le 8 (tie t i)) (length-to-masks t) j l

  pub side-at : (j : ℕ) → j < 64 → side t j ≡ side_of bytes j
  unfolding to_labels
  side-at j l = part-byte bytes (1101 + j) (side t j) (from-labels (side t j ∷ []) (1101 + j) (omega arith) here)
    where
      here : Part (to_labels t) (1101 + j) (side t j ∷ [])
      here = part_at (to_sides t ++ joined 64 (side_field t)) (side t j ∷ []) (1101 + 1 * j) (1101 + j) (omega arith) (field_at 1 1101 (to_sides t) (side_field t) (λ i. refl) (length-to-sides t) j l)

  pub label-at : (v : ℕ) → v < 64 → label_at ls v < 65536 → label_at ls v ≡ number 2 bytes (1165 + 2 * v)
  label-at v l h =
      part-number 2 (label_at ls v) bytes (1165 + 2 * v) (omega arith)
      (subst (λ (bs : List ℕ). Part bs (1165 + 2 * v) (le 2 (label_at ls v))) (image-is t ls)
      (field_at 2 1165 (to_labels t) (label_field t ls) (λ i. length-le 2 (label_at ls i)) (length-to-labels t) v l))
