-- An accepted book: its letters, its edition, and the kind of each body. From the number 0, test by test.
use mathlib.Core.Bool.{Bool, true, false, not, ◌||◌}
use mathlib.Core.List.{List}
use mathlib.Core.Path.{◌≡◌, refl}
use Prim.Native.Nat.{ℕ, ◌+◌, ◌*◌, ◌<◌}
use native.Mathlib.Omega.{arith}
use lib.Dec.{eqb, ltb}
use lib.ListN.{length}
use borrow.Author.Tests.{eqb-true, not-false}
use Rattle.editions.specs.Edition.{good_edition}
use Rattle.fields.specs.Bytes.{byte_at}
use Rattle.contents.specs.Contents.{edition_of, count_of, kind_of, entry_of, body_start, any_below, header_fault, good_kind, entry_fault, contents_fault, contents_number}
use Rattle.contents.proofs.Laws.Some.{or-no-left, or-no-right, some-none}
use Rattle.contents.proofs.Laws.Entry.{fault-none}
use Rattle.contents.proofs.Laws.Test.{number-nine, number-ten}

module _ (bs : List ℕ) (z : contents_number bs ≡ 0) where
  good-header : header_fault bs ≡ false
  good-header = go (header_fault bs) refl
    where
      go : (t : Bool) → header_fault bs ≡ t → t ≡ false
      go true e = absurd (let n : 9 ≡ contents_number bs = number-nine bs e in omega arith)
      go false e = refl

  good-contents : contents_fault bs ≡ false
  good-contents = go (contents_fault bs) refl
    where
      go : (t : Bool) → contents_fault bs ≡ t → t ≡ false
      go true e = absurd (let n : 10 ≡ contents_number bs = number-ten bs good-header e in omega arith)
      go false e = refl

  abbrev sizes : Bool
  sizes = ltb (length bs) 4 || ltb 60000 (length bs)

  abbrev one : Bool
  one = not (eqb (byte_at bs 0) 0x51)

  abbrev two : Bool
  two = not (eqb (byte_at bs 1) 0x4E)

  abbrev third : Bool
  third = not (good_edition (edition_of bs))

  to-edition : (sizes || one || two || third) ≡ false
  unfolding header_fault
  to-edition = or-no-left (sizes || one || two || third) (ltb 16 (count_of bs)) good-header

  pub edition-good : good_edition (edition_of bs) ≡ true
  edition-good = not-false (good_edition (edition_of bs)) (or-no-right (sizes || one || two) third to-edition)

  pub letter-one : byte_at bs 0 ≡ 0x51
  letter-one = eqb-true (byte_at bs 0) 0x51 (not-false (eqb (byte_at bs 0) 0x51) (or-no-right sizes one (or-no-left (sizes || one) two (or-no-left (sizes || one || two) third to-edition))))

  pub letter-two : byte_at bs 1 ≡ 0x4E
  letter-two = eqb-true (byte_at bs 1) 0x4E (not-false (eqb (byte_at bs 1) 0x4E) (or-no-right (sizes || one) two (or-no-left (sizes || one || two) third to-edition)))

  unrefused : any_below (count_of bs) (entry_fault bs) ≡ false
  unfolding contents_fault
  unrefused =
      let short = ltb (length bs) (4 + 8 * count_of bs) in
      let any = any_below (count_of bs) (entry_fault bs) in
      or-no-right short any (or-no-left (short || any) (not (eqb (body_start bs (count_of bs)) (length bs))) good-contents)

  pub kind-good : (j : ℕ) → j < count_of bs → good_kind (edition_of bs) (kind_of bs j) ≡ true
  kind-good j h = (fault-none (edition_of bs) (entry_of bs j) (body_start bs j) (length bs) (some-none (count_of bs) j (entry_fault bs) unrefused h)).0
