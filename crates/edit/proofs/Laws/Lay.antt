-- The contents of a book after an edit are laid without a refusal: its lists are equal, its kinds good, and its size is that of the book closed up.
use mathlib.Core.Bool.{true, not}
use mathlib.Core.Path.{◌≡◌, sym, ap, ◌∙◌}
use Prim.Native.Nat.{ℕ, ◌+◌, ◌*◌, ◌≤◌, ◌<◌}
use native.Mathlib.Omega.{arith}
use lib.ListN.{length, get_or}
use Rattle.exact.specs.Sum.{total}
use Rattle.exact.proofs.Laws.Sum.{total_ext}
use Rattle.editions.specs.Edition.{good_edition}
use Rattle.fields.proofs.Laws.Listed.{length-listed, listed_at}
use Rattle.contents.specs.Contents.{good_kind}
use Rattle.contents.proofs.Laws.Some.{none}
use Rattle.contents_lay.specs.Lay.{laid_start, bad_kind, lay_number}
use Rattle.contents_lay.proofs.Laws.Lay.{many-none, bad-none, lay-zero}
use Rattle.body_fields.specs.Fields.{joined}
use Rattle.edit_numbers.specs.Volume.{Volume, closed_up}
use Rattle.edit_numbers.proofs.Laws.Parts.{kinds_of, widths_of, lengths_of, closed-length}
use Rattle.theorem_round_trip.proofs.Laws.Joined.{joined_length}

module _ (v : Volume) where
  pub size_is : laid_start (lengths_of v) (length (lengths_of v)) ≡ length (closed_up v)
  unfolding laid_start
  size_is =
      let f : ℕ → ℕ = λ i. length (v.body i) in
      let sum : total (length (lengths_of v)) (λ u. get_or (lengths_of v) u 0) ≡ length (joined v.count v.body) =
      ap (λ (k : ℕ). total k (λ u. get_or (lengths_of v) u 0)) (length-listed v.count f)
      ∙ total_ext v.count (λ u. get_or (lengths_of v) u 0) f (λ u l. listed_at 0 v.count f u l)
      ∙ sym (joined_length v.count v.body) in
      omega (arith, sum, closed-length v, length-listed v.count f)

  pub lay-volume : (room : ℕ) → good_edition v.edition ≡ true → v.count ≤ 16 → ((i : ℕ) → i < v.count → good_kind v.edition (v.kind i) ≡ true) → length (closed_up v) ≤ 60000 → 4 + 8 * v.count ≤ room
      → lay_number room v.edition (kinds_of v) (widths_of v) (lengths_of v) ≡ 0
  lay-volume room g few kinds short fits =
      let k = length-listed v.count v.kind in
      let w = length-listed v.count v.width in
      let l = length-listed v.count (λ i. length (v.body i)) in
      sym
      (lay-zero (kinds_of v) (widths_of v) (lengths_of v) room v.edition g (many-none (kinds_of v) (widths_of v) (lengths_of v) (omega (arith, k)) (omega (arith, w)) (omega (arith, l)))
      (bad-none (kinds_of v) (widths_of v) (lengths_of v) (w ∙ sym k) (l ∙ sym k) v.edition
      (none (length (kinds_of v)) (bad_kind v.edition (kinds_of v)) (λ i h. ap not (ap (good_kind v.edition) (listed_at 0 v.count v.kind i (omega (arith, k, h))) ∙ kinds i (omega (arith, k, h)))))
      (omega (arith, size_is)))
      (omega (arith, k)))
