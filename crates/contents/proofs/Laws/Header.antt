-- The header's test where all but the count is good, and what a header that is not refused says: by the truth of each test.
use mathlib.Core.Path.{◌≡◌}
use mathlib.Core.Bool.{true, false, not, ◌||◌}
use mathlib.Core.List.{List}
use Prim.Native.Nat.{ℕ, ◌≤◌}
use lib.Dec.{eqb, ltb}
use lib.ListN.{length}
use borrow.Author.Tests.{le-ltb, eq-eqb, ltb-false}
use Rattle.editions.specs.Edition.{good_edition}
use Rattle.fields.specs.Bytes.{byte_at}
use Rattle.contents.specs.Contents.{edition_of, count_of, header_fault}
use Rattle.contents.proofs.Laws.Some.{or-no-left, or-no-right}

-- the count decides where all that stands before it is good
pub header-count : (bs : List ℕ) → 4 ≤ length bs → length bs ≤ 60000 → byte_at bs 0 ≡ 0x51 → byte_at bs 1 ≡ 0x4E → good_edition (edition_of bs) ≡ true → ltb 16 (byte_at bs 3) ≡ header_fault bs
unfolding header_fault count_of
header-count bs a b c d e = rw (le-ltb (length bs) 4 a, le-ltb 60000 (length bs) b, eq-eqb (byte_at bs 0) 0x51 c, eq-eqb (byte_at bs 1) 0x4E d, e)

-- what a header that is not refused says
pub header-small : (bs : List ℕ) → header_fault bs ≡ false → (4 ≤ length bs) × (length bs ≤ 60000) × (count_of bs ≤ 16)
unfolding header_fault
header-small bs h =
    let short = ltb (length bs) 4 in
    let long = ltb 60000 (length bs) in
    let one = not (eqb (byte_at bs 0) 0x51) in
    let two = not (eqb (byte_at bs 1) 0x4E) in
    let edition = not (good_edition (edition_of bs)) in
    let count = ltb 16 (count_of bs) in
    let most = or-no-left (short || long || one || two || edition) count h in
    let sizes = or-no-left (short || long) one (or-no-left (short || long || one) two (or-no-left (short || long || one || two) edition most)) in (
      ltb-false (length bs) 4 (or-no-left short long sizes),
      ltb-false 60000 (length bs) (or-no-right short long sizes),
      ltb-false 16 (count_of bs) (or-no-right (short || long || one || two || edition) count h),
    )
