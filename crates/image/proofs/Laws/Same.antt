-- The bytes that state a table are the bytes of that table: each field that they state, written, is the segment that stated it.
use mathlib.Core.List.{List, [], ◌∷◌, ◌++◌}
use mathlib.Core.Path.{◌≡◌, sym, ap, ap₂, ◌∙◌}
use Prim.Native.Nat.{ℕ, ◌+◌, ◌*◌, ◌≤◌, ◌<◌}
use native.Mathlib.Omega.{arith}
use lib.Dec.{eqb}
use lib.ListN.{length, take}
use lib.Seq.{take-length}
use Rattle.exact.specs.declared.Label.{Label}
use Rattle.exact.specs.declared.Quarter.{Quarter}
use Rattle.fields.specs.Bytes.{byte_at, le, number}
use Rattle.fields.proofs.Laws.Listed.{listed_at}
use Rattle.fields.proofs.Laws.Number.{number_lt, le-number}
use Rattle.form.specs.Form.{quarter, turn_at, row_at}
use Rattle.ties.specs.Ties.{mask_at, side_at}
use Rattle.state.specs.Entry.{turn, row, tie, side}
use Rattle.labels.specs.Labels.{named, label_at}
use Rattle.body_fields.specs.Fields.{joined, head_bytes}
use Rattle.body_fields.proofs.Laws.Segment.{segment, segment-next, front-then, segment-byte, segment-joined}
use Rattle.body_bytes.specs.Body.{mark_of, phase_of, power_of}
use Rattle.image.specs.Image.{image_bytes}
use Rattle.image.specs.Inner.Stated.{live_of, turn_of, row_of, count_of, mask_of, side_of, label_of, form_of, ties_of, state_of, labels_of}
use Rattle.image.proofs.Laws.Signed.{mark-same, signed_same}

module _ (bs : List ℕ) (size : length bs ≡ 1293) (small : (i : ℕ) → byte_at bs i < 256) (marked : mark_of bs < 2) where
  number_same : (k at : ℕ) → at + k ≤ 1293 → le k (number k bs at) ≡ segment bs at k
  number_same k at h = le-number k bs at (omega (arith, size)) small

  byte-same : (at : ℕ) → at < 1293 → byte_at bs at ∷ [] ≡ segment bs at 1
  byte-same at h = segment-byte bs at (omega (arith, size))

  head-same : head_bytes (state_of bs).zero (state_of bs).form.phase.0 (state_of bs).power.0 ≡ segment bs 0 4
  unfolding head_bytes state_of form_of
  head-same =
      ap₂ (λ (b w : ℕ). (b ∷ phase_of bs ∷ []) ++ le 2 w) (mark-same (mark_of bs) marked) (signed_same (number 2 bs 2) (number_lt 2 bs 2 small))
      ∙ ap₂ ◌++◌ (ap₂ ◌++◌ (byte-same 0 (omega arith)) (byte-same 1 (omega arith)) ∙ segment-next bs 0 1 1) (number_same 2 2 (omega arith))
      ∙ segment-next bs 0 2 2

  -- ---- the fields of the stated table
  live_same : le 8 (state_of bs).live ≡ segment bs 4 8
  unfolding state_of
  live_same = number_same 8 4 (omega arith)

  count_same : (state_of bs).ties.count ∷ [] ≡ segment bs 588 1
  unfolding state_of ties_of
  count_same = byte-same 588 (omega arith)

  turn_is : (v : ℕ) → v < 64 → turn (state_of bs) v ≡ byte_at bs (12 + v)
  unfolding state_of form_of turn_at
  turn_is v l = ap (λ (q : Quarter). q.0) (listed_at (quarter 0) 64 (turn_of bs) v l)

  row_is : (v : ℕ) → v < 64 → row (state_of bs) v ≡ row_of bs v
  unfolding state_of form_of row_at
  row_is v l = listed_at 0 64 (row_of bs) v l

  mask_is : (j : ℕ) → j < 64 → tie (state_of bs) j ≡ mask_of bs j
  unfolding state_of ties_of mask_at
  mask_is j l = listed_at 0 64 (mask_of bs) j l

  side-is : (j : ℕ) → j < 64 → side (state_of bs) j ≡ side_of bs j
  unfolding state_of ties_of side_at
  side-is j l = listed_at 0 64 (side_of bs) j l

  label_is : (v : ℕ) → v < 64 → label_at (labels_of bs) v ≡ number 2 bs (1165 + 2 * v)
  unfolding labels_of label_at
  label_is v l = ap (λ (q : Label). q.0) (listed_at (named 0) 64 (label_of bs) v l)

  -- ---- each list of fields, the segment that stated it
  bytes_same : (at n : ℕ) (f : ℕ → ℕ) → at + n ≤ 1293 → ((v : ℕ) → v < n → f v ≡ byte_at bs (at + v)) → joined n (λ v. f v ∷ []) ≡ segment bs at (1 * n)
  bytes_same at n f h e =
      segment-joined bs 1 at n (λ v. f v ∷ []) (λ v l.
      ap (λ (b : ℕ). b ∷ []) (e v l)
      ∙ byte-same (at + v) (omega arith)
      ∙ (let q : at + v ≡ at + 1 * v = omega arith in ap (λ (k : ℕ). segment bs k 1) q))

  numbers-same : (w at n : ℕ) (f : ℕ → ℕ) → ((v : ℕ) → v < n → at + w * v + w ≤ 1293) → ((v : ℕ) → v < n → f v ≡ number w bs (at + w * v)) → joined n (λ v. le w (f v)) ≡ segment bs at (w * n)
  numbers-same w at n f h e = segment-joined bs w at n (λ v. le w (f v)) (λ v l. ap (le w) (e v l) ∙ number_same w (at + w * v) (h v l))

  pub image-same : image_bytes (state_of bs) (labels_of bs) ≡ bs
  unfolding image_bytes
  image-same =
      let turns = bytes_same 12 64 (turn (state_of bs)) (omega arith) turn_is in
      let rows = numbers-same 8 76 64 (row (state_of bs)) (λ v l. omega arith) row_is in
      let masks = numbers-same 8 589 64 (tie (state_of bs)) (λ v l. omega arith) mask_is in
      let sides = bytes_same 1101 64 (side (state_of bs)) (omega arith) side-is in
      let labels = numbers-same 2 1165 64 (label_at (labels_of bs)) (λ v l. omega arith) label_is in
      let to-turns = front-then bs 4 8 12 (omega arith) head-same live_same in
      let to-rows = front-then bs 12 64 76 (omega arith) to-turns turns in
      let to-count = front-then bs 76 512 588 (omega arith) to-rows rows in
      let to-masks = front-then bs 588 1 589 (omega arith) to-count count_same in
      let to-sides = front-then bs 589 512 1101 (omega arith) to-masks masks in
      let to-labels = front-then bs 1101 64 1165 (omega arith) to-sides sides in
      front-then bs 1165 128 1293 (omega arith) to-labels labels ∙ ap (λ (n : ℕ). take n bs) (sym size) ∙ take-length bs
