-- The bytes of a normal table state that table: number by number, list by list.
use mathlib.Core.List.{List}
use mathlib.Core.Path.{◌≡◌, sym, ap, ◌∙◌}
use Prim.Native.Nat.{ℕ, ◌<◌}
use native.Mathlib.Omega.{arith}
use lib.Dec.{eqb}
use lib.ListN.{length, get_or}
use lib.Seq.{ext_get_or}
use Rattle.fields.specs.Listed.{listed}
use Rattle.fields.proofs.Laws.Listed.{length-listed, listed_at}
use Rattle.form.specs.Form.{quarter, turn_at, row_at}
use Rattle.ties.specs.Ties.{mask_at, side_at}
use Rattle.state.specs.declared.State.{State}
use Rattle.state.specs.Normal.{Normal}
use Rattle.labels.specs.declared.Labels.{Labels}
use Rattle.labels.specs.Labels.{named, label_at, Proper}
use Rattle.image.specs.Image.{image_bytes}
use Rattle.image.specs.Inner.Stated.{turn_of, row_of, mask_of, side_of, label_of, form_of, ties_of, state_of, labels_of}
use Rattle.image.proofs.Laws.Signed.{mark-back}
use Rattle.image.proofs.Laws.Places.{mark-at, phase-at, power_at, live_at, turn_at_lem, row-at, count_at_lem, mask_at_lem, side-at, label-at}

-- a list of 64 places, place by place
listed-is : {A : Type 0} (d : A) (f : ℕ → A) (l : List A) → length l ≡ 64 → ((v : ℕ) → v < 64 → get_or l v d ≡ f v) → l ≡ listed 64 f
listed-is d f l e h = ext_get_or d l (listed 64 f) (e ∙ sym (length-listed 64 f)) (λ v b. let q : v < 64 = omega (arith, e) in h v q ∙ sym (listed_at d 64 f v q))

module _ (t : State) (ls : Labels) (N : Normal t) where
  abbrev bytes : List ℕ
  bytes = image_bytes t ls

  turns-are : t.form.turns ≡ listed 64 (turn_of bytes)
  unfolding turn_at
  turns-are = listed-is (quarter 0) (turn_of bytes) t.form.turns N.proper.turns-are (λ v l. ap quarter (turn_at_lem t ls v l))

  signs-are : t.form.signs ≡ listed 64 (row_of bytes)
  unfolding row_at
  signs-are = listed-is 0 (row_of bytes) t.form.signs N.proper.signs-are (λ v l. row-at t ls v l (N.proper.row-range v))

  masks-are : t.ties.masks ≡ listed 64 (mask_of bytes)
  unfolding mask_at
  masks-are = listed-is 0 (mask_of bytes) t.ties.masks N.reduced.masks-are (λ j l. mask_at_lem t ls j l (N.reduced.mask-range j))

  sides-are : t.ties.sides ≡ listed 64 (side_of bytes)
  unfolding side_at
  sides-are = listed-is 0 (side_of bytes) t.ties.sides N.reduced.sides-are (λ j l. side-at t ls j l)

  pub state-back : t ≡ state_of bytes
  unfolding state_of form_of ties_of
  state-back =
      let marked = mark-back t.zero ∙ ap (λ (k : ℕ). eqb k 1) (mark-at t ls) in
      let power = power_at t ls N.power-range in
      let live = live_at t ls N.live-range in
      λ i. record {
        zero = marked i;
        power = record { 0 = power i };
        live = live i;
        form = record { phase = record { 0 = phase-at t ls i }; turns = turns-are i; signs = signs-are i };
        ties = record { count = count_at_lem t ls i; masks = masks-are i; sides = sides-are i };
      }

  module _ (P : Proper t.live ls) where
    of-are : ls.of ≡ listed 64 (label_of bytes)
    unfolding label_at
    of-are = listed-is (named 0) (label_of bytes) ls.of P.long (λ v l. ap named (label-at t ls v l (P.range v)))

    pub labels-back : ls ≡ labels_of bytes
    unfolding labels_of
    labels-back = λ i. record { of = of-are i }
