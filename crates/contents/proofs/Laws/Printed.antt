-- The book that document 01 prints under "Listing" is accepted, with two circuits of width 1: by computing the definitions.
use mathlib.Core.Path.{◌≡◌, refl}
use mathlib.Core.List.{List, [], ◌∷◌}
use Prim.Native.Nat.{ℕ}
use Rattle.exact.specs.Sum.{total}
use Rattle.editions.specs.Edition.{good_edition}
use Rattle.fields.specs.Bytes.{number}
use Rattle.contents.specs.Contents.{edition_of, count_of, kind_of, width_of, length_of, start_of, entry_of, body_start, any_below, header_fault, good_kind, fault_at, contents_fault, contents_number}

unfoldable pub printed : List ℕ
printed = 0x51 ∷ 0x4E ∷ 0x01 ∷ 0x02 ∷ 0x01 ∷ 0x01 ∷ 0x0B ∷ 0x00 ∷ 0x14 ∷ 0x00 ∷ 0x00 ∷ 0x00 ∷ 0x01 ∷ 0x01 ∷ 0x11 ∷ 0x00 ∷ 0x1F ∷ 0x00 ∷ 0x00 ∷ 0x00 ∷ 0x00 ∷ 0x00 ∷ 0x00 ∷ 0x00 ∷ 0x01 ∷ 0x00 ∷ 0x00 ∷ 0x00 ∷ 0x01 ∷ 0x00 ∷ 0x00 ∷ 0x00 ∷ 0x00 ∷ 0x00 ∷ 0x00 ∷ 0x00 ∷ 0x00 ∷ 0x00 ∷ 0x00 ∷ 0x01 ∷ 0x00 ∷ 0x00 ∷ 0x02 ∷ 0x00 ∷ 0x00 ∷ 0x01 ∷ 0x00 ∷ 0x00 ∷ []

pub printed-accepted : contents_number printed ≡ 0
unfolding printed contents_number header_fault contents_fault edition_of good_edition count_of kind_of width_of length_of start_of body_start any_below good_kind fault_at total number
printed-accepted = refl

pub printed-second : entry_of printed 1 ≡ record { kind = 1; width = 1; start = 31; length = 17 }
unfolding printed kind_of width_of length_of start_of number
printed-second = refl
