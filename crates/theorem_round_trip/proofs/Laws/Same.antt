-- "An accepted table body is written back as the same bytes": each field that the body states, written, is the segment that stated it.
use mathlib.Core.Bool.{Bool, true, false}
use mathlib.Core.List.{List, [], ◌∷◌, ◌++◌}
use mathlib.Core.Logic.{⊎_elim}
use mathlib.Core.Path.{◌≡◌, refl, sym, ap, ap₂, ◌∙◌, subst}
use Prim.Native.Nat.{ℕ, zero, suc, ◌+◌, ◌*◌, ◌≤◌, ◌<◌}
use native.Mathlib.Omega.{arith}
use lib.Dec.{eqb, ltb}
use lib.ListN.{length}
use lib.Seq.{take-length}
use Rattle.exact.specs.Refusal.{accepted, bad_body, area_short, first, ◌gives◌}
use Rattle.exact.proofs.Laws.Sum.{split}
use Rattle.fields.specs.Bytes.{byte_at, le, number, over}
use Rattle.fields.proofs.Laws.Number.{number_lt, le-number}
use Rattle.state.specs.Normal.{Normal}
use Rattle.body_write.specs.declared.Written.{Written}
use Rattle.body_fields.specs.Fields.{joined, mark, of_signed16, head_bytes, tie_bytes, field_bytes}
use Rattle.body_fields.specs.Inner.Fields.{plain_bytes}
use Rattle.body_write.specs.Body.{body_bytes}
use Rattle.body_write.specs.Write.{BodyWritten}
use Rattle.body_write.proofs.Laws.Body.{fields-ext}
use Rattle.body_write.proofs.Laws.Same.{body_same}
use Rattle.body_read.specs.declared.Reading.{Reading}
use Rattle.body_bytes.specs.Body.{signed16, mark_of, phase_of, power_of, turn_of, row_of, tie_count, mask_of, side_of, body_fault}
use Rattle.body_read.specs.Table.{form_of, ties_of, table_of}
use Rattle.body_read.specs.Read.{Reads}
use Rattle.body_bytes.proofs.Laws.Fine.{Fine, fine}
use Rattle.body_read.proofs.Laws.Table.{live-is, turn_is, row_is, tie-is, side-is}
use Rattle.theorem_round_trip.specs.Same.{WrittenAgain}
use Rattle.image.proofs.Laws.Signed.{mark-same, signed_same}
use Rattle.body_fields.proofs.Laws.Segment.{segment, segment-next, front-then, segment-byte, segment-joined}

-- ---- the fields, each the segment that stated it
module _ (n : ℕ) (bs : List ℕ) (small : (i : ℕ) → byte_at bs i < 256) (f : Fine n bs) where
  number_same : (k at : ℕ) → at + k ≤ length bs → le k (number k bs at) ≡ segment bs at k
  number_same k at h = le-number k bs at h small

  head-same : head_bytes (eqb (mark_of bs) 1) (phase_of bs) (power_of bs) ≡ segment bs 0 4
  unfolding head_bytes
  head-same =
      ap₂ (λ (b w : ℕ). (b ∷ phase_of bs ∷ []) ++ le 2 w) (mark-same (mark_of bs) f.mark) (signed_same (number 2 bs 2) (number_lt 2 bs 2 small))
      ∙ ap₂ ◌++◌ (ap₂ ◌++◌ (segment-byte bs 0 (omega (arith, f.size))) (segment-byte bs 1 (omega (arith, f.size))) ∙ segment-next bs 0 1 1) (number_same 2 2 (omega (arith, f.size)))
      ∙ segment-next bs 0 2 2

  turns_same : joined n (λ v. turn_of bs v ∷ []) ≡ segment bs 4 (1 * n)
  turns_same = segment-joined bs 1 4 n _ (λ v l. segment-byte bs (4 + v) (omega (arith, f.size)) ∙ (let e : 4 + v ≡ 4 + 1 * v = omega arith in ap (λ (at : ℕ). segment bs at 1) e))

  rows_same : joined n (λ v. le 8 (row_of n bs v)) ≡ segment bs (4 + n) (8 * n)
  rows_same = segment-joined bs 8 (4 + n) n _ (λ v l. number_same 8 (4 + n + 8 * v) (omega (arith, f.size)))

  tie-same : (j : ℕ) → j < tie_count n bs → tie_bytes (mask_of n bs j) (side_of n bs j) ≡ segment bs (5 + 9 * n + 9 * j) 9
  unfolding tie_bytes
  tie-same j l =
      ap₂ ◌++◌ (number_same 8 (5 + 9 * n + 9 * j) (omega (arith, f.size))) (segment-byte bs (5 + 9 * n + 9 * j + 8) (omega (arith, f.size)))
      ∙ segment-next bs (5 + 9 * n + 9 * j) 8 1

  ties-same : joined (tie_count n bs) (λ j. tie_bytes (mask_of n bs j) (side_of n bs j)) ≡ segment bs (5 + 9 * n) (9 * tie_count n bs)
  ties-same = segment-joined bs 9 (5 + 9 * n) (tie_count n bs) _ tie-same

  fields-same : field_bytes (eqb (mark_of bs) 1) (phase_of bs) (power_of bs) n (turn_of bs) (row_of n bs) (tie_count n bs) (mask_of n bs) (side_of n bs) ≡ bs
  unfolding field_bytes
  fields-same =
      let to-rows = front-then bs 4 (1 * n) (4 + n) (omega arith) head-same turns_same in
      let to-count = front-then bs (4 + n) (8 * n) (4 + 9 * n) (omega arith) to-rows rows_same in
      let to-ties = front-then bs (4 + 9 * n) 1 (5 + 9 * n) (omega arith) to-count (segment-byte bs (4 + 9 * n) (omega (arith, f.size))) in
      front-then bs (5 + 9 * n) (9 * tie_count n bs) (length bs) (omega (arith, f.size)) to-ties ties-same ∙ take-length bs

  -- ---- the table that they state, written
  plain-same : plain_bytes n (table_of n bs) ≡ bs
  unfolding plain_bytes table_of form_of ties_of
  plain-same =
      fields-ext (eqb (mark_of bs) 1) (phase_of bs) (power_of bs) n _ _ _ _ (tie_count n bs) _ _ _ _
      (turn_is n bs f) (row_is n bs f) (tie-is n bs f) (side-is n bs f)
      ∙ fields-same

-- an accepted table body is written back as the same bytes
pub same_bytes : (n : ℕ) (bs : List ℕ) → ((i : ℕ) → byte_at bs i < 256) → body_fault n bs ≡ false → Normal (table_of n bs) → body_bytes (table_of n bs) ≡ bs
same_bytes n bs small h N =
    let f = fine n bs h in
    body_same (table_of n bs) N n f.narrow (live-is n bs) ∙ plain-same n bs small f

-- ---- by the calls
-- what is read without a refusal is the table that the bytes state
read_table : (n : ℕ) (bs : List ℕ) (r : Reading) → Reads n bs r → r.refusal ≡ accepted → (body_fault n bs ≡ false) × (r.table ≡ table_of n bs)
read_table n bs r R z = go (body_fault n bs) refl
  where
    go : (b : Bool) → body_fault n bs ≡ b → (b ≡ false) × (r.table ≡ table_of n bs)
    go true h = absurd (let q : r.refusal ≡ bad_body = ap (λ (x : Reading). x.refusal) (R.fault h) in omega (arith, z, q))
    go false h = (refl, ap (λ (x : Reading). x.table) (R.sound h (R.normal z)))

-- whatever reading a body answers without a refusal, writing its table answers and leaves what writing the body's own bytes would
pub same-written : (n : ℕ) (bs : List ℕ) → ((i : ℕ) → byte_at bs i < 256) → (r : Reading) → Reads n bs r → r.refusal ≡ accepted
    → (xs : List ℕ) (start : ℕ) (w : Written) (ys : List ℕ) → BodyWritten r.table xs start w ys → WrittenAgain bs xs start w ys
same-written n bs small r R z xs start w ys W =
    let is = read_table n bs r R z in
    let N = subst Normal (sym is.1) (R.normal z) in
    let e : body_bytes r.table ≡ bs = ap body_bytes is.1 ∙ same_bytes n bs small is.0 (R.normal z) in record {
      number = W.sound N ∙ ap (λ (l : List ℕ). first (ltb (length xs) (start + length l) gives area_short ∷ [])) e;
      count = λ q. W.count q ∙ ap length e;
      area = λ q. W.written q ∙ ap (over xs start) e;
    }
