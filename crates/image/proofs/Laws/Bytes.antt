-- The bytes of a table up to each field, and how many they are: by the lengths of the fields.
use mathlib.Core.List.{List, [], ◌∷◌, ◌++◌, append_assoc, append-nil}
use mathlib.Core.Path.{◌≡◌, refl, sym, ap, ◌∙◌}
use Prim.Native.Nat.{ℕ}
use native.Mathlib.Omega.{arith}
use lib.ListN.{length, drop, length-append, drop_of_length-le}
use Rattle.fields.specs.Bytes.{le, front}
use Rattle.fields.proofs.Laws.Front.{length-le}
use Rattle.state.specs.declared.State.{State}
use Rattle.state.specs.Entry.{turn, row, tie, side, ties}
use Rattle.labels.specs.declared.Labels.{Labels}
use Rattle.labels.specs.Labels.{label_at}
use Rattle.body_fields.specs.Fields.{joined, head_bytes}
use Rattle.body_fields.proofs.Laws.Bytes.{length-joined}
use Rattle.image.specs.Image.{image_bytes}
use Rattle.image.specs.Inner.Halves.{form_bytes, tie_bytes}

module _ (t : State) where
  abbrev pub turn_field : ℕ → List ℕ
  turn_field v = turn t v ∷ []

  abbrev pub row_field : ℕ → List ℕ
  row_field v = le 8 (row t v)

  abbrev pub mask_field : ℕ → List ℕ
  mask_field j = le 8 (tie t j)

  abbrev pub side_field : ℕ → List ℕ
  side_field j = side t j ∷ []

  unfoldable pub to_live : List ℕ
  to_live = head_bytes t.zero t.form.phase.0 t.power.0

  unfoldable pub to_turns : List ℕ
  to_turns = to_live ++ le 8 t.live

  unfoldable pub to_rows : List ℕ
  to_rows = to_turns ++ joined 64 turn_field

  unfoldable pub to_count : List ℕ
  to_count = to_rows ++ joined 64 row_field

  unfoldable pub to_masks : List ℕ
  to_masks = to_count ++ (ties t ∷ [])

  unfoldable pub to_sides : List ℕ
  to_sides = to_masks ++ joined 64 mask_field

  unfoldable pub to_labels : List ℕ
  to_labels = to_sides ++ joined 64 side_field

  pub length-to-live : length to_live ≡ 4
  unfolding to_live head_bytes le
  length-to-live = refl

  pub length-to-turns : length to_turns ≡ 12
  unfolding to_turns
  length-to-turns = length-append to_live (le 8 t.live) ∙ omega (arith, length-to-live, length-le 8 t.live)

  pub length-to-rows : length to_rows ≡ 76
  unfolding to_rows
  length-to-rows = length-append to_turns (joined 64 turn_field) ∙ omega (arith, length-to-turns, length-joined 1 64 turn_field (λ v. refl))

  pub length-to-count : length to_count ≡ 588
  unfolding to_count
  length-to-count = length-append to_rows (joined 64 row_field) ∙ omega (arith, length-to-rows, length-joined 8 64 row_field (λ v. length-le 8 (row t v)))

  pub length-to-masks : length to_masks ≡ 589
  unfolding to_masks
  length-to-masks = length-append to_count (ties t ∷ []) ∙ omega (arith, length-to-count)

  pub length-to-sides : length to_sides ≡ 1101
  unfolding to_sides
  length-to-sides = length-append to_masks (joined 64 mask_field) ∙ omega (arith, length-to-masks, length-joined 8 64 mask_field (λ j. length-le 8 (tie t j)))

  pub length-to-labels : length to_labels ≡ 1165
  unfolding to_labels
  length-to-labels = length-append to_sides (joined 64 side_field) ∙ omega (arith, length-to-sides, length-joined 1 64 side_field (λ j. refl))

  module _ (ls : Labels) where
    abbrev pub label_field : ℕ → List ℕ
    label_field v = le 2 (label_at ls v)

    pub image-is : to_labels ++ joined 64 label_field ≡ image_bytes t ls
    unfolding to_labels to_sides to_masks to_count to_rows to_turns to_live image_bytes
    image-is = refl

    pub length-image : length (image_bytes t ls) ≡ 1293
    length-image = ap length (sym image-is) ∙ length-append to_labels (joined 64 label_field) ∙ omega (arith, length-to-labels, length-joined 2 64 label_field (λ v. length-le 2 (label_at ls v)))

    -- ---- the halves
    form-is : form_bytes t ≡ to_count
    unfolding form_bytes to_count to_rows to_turns to_live
    form-is = refl

    pub length-form : length (form_bytes t) ≡ 588
    length-form = ap length form-is ∙ length-to-count

    pub halves : form_bytes t ++ tie_bytes t ls ≡ image_bytes t ls
    unfolding form_bytes tie_bytes image_bytes
    halves =
        sym (append_assoc (form_bytes t) (((ties t ∷ []) ++ joined 64 mask_field) ++ joined 64 side_field) (joined 64 label_field))
        ∙ ap (λ (l : List ℕ). l ++ joined 64 label_field) (sym (append_assoc (form_bytes t) ((ties t ∷ []) ++ joined 64 mask_field) (joined 64 side_field)))
        ∙ ap (λ (l : List ℕ). (l ++ joined 64 side_field) ++ joined 64 label_field) (sym (append_assoc (form_bytes t) (ties t ∷ []) (joined 64 mask_field)))

    pub length-tie-half : length (tie_bytes t ls) ≡ 705
    length-tie-half = omega (arith, ap length halves, length-image, length-form, length-append (form_bytes t) (tie_bytes t ls))

    -- written over the front of as many bytes, nothing else is left
    pub image-whole : (xs : List ℕ) → length xs ≡ 1293 → front xs (form_bytes t ++ tie_bytes t ls) ≡ image_bytes t ls
    unfolding front
    image-whole xs e =
        ap (front xs) halves
        ∙ ap (λ (l : List ℕ). image_bytes t ls ++ l) (drop_of_length-le xs {i = length (image_bytes t ls)} (omega (arith, length-image)))
        ∙ append-nil (image_bytes t ls)
