-- Why an item of a circuit or record is refused: its number says which test failed, "Per gate: 7, 6, 3 or 2", and its bytes which cause of that number it is. Items are counted from 0, marks included.
use Rattle.std.specs.Prelude.{true, not, ◌&&◌, List, [], ◌∷◌, ℕ, ◌+◌, ◌*◌, eqb, leb, get_or}
use Rattle.exact.specs.Refusal.{twice, out_of_range, bad_wire, unknown_code}
use Rattle.blocks.specs.Expansion.{code_at, wire_at}
use Rattle.gates.specs.Circuit.{number_of, item_at}
use Rattle.cause.specs.declared.Cause.TheVariants.{Code, Wire, SecondWire, SameWire, SecondByte, Outcome, NoCount, Stray}
use Rattle.cause.specs.Cause.{Finding, found, ◌finds◌, first_found}

-- an item at a byte that is refused by 3: "3 for a count of 0 or a stray byte", "3 for another outcome byte", "second byte of a one-wire gate not 0"
unfoldable pub range_found : ℕ → ℕ → ℕ → ℕ → Finding
range_found byte j code second =
    first_found
    ((eqb code 64 && not (eqb second 0)) finds found Stray j (byte + 2)
    ∷ eqb code 64 finds found NoCount j (byte + 1)
    ∷ (eqb code 65 && not (eqb second 0)) finds found Stray j (byte + 2)
    ∷ eqb code 65 finds found Stray j (byte + 1)
    ∷ eqb code 80 finds found Outcome j (byte + 2)
    ∷ true finds found SecondByte j (byte + 2)
    ∷ [])

-- an item at a byte that is refused by k: "unknown gate code"; "a wire not below the width", the first before the second; "the same slot or wire twice"
unfoldable pub read_found : ℕ → ℕ → ℕ → ℕ → ℕ → ℕ → ℕ → Finding
read_found byte j width k code wire second =
    first_found
    (eqb k unknown_code finds found Code j byte
    ∷ (eqb k bad_wire && leb width wire) finds found Wire j (byte + 1)
    ∷ eqb k bad_wire finds found SecondWire j (byte + 2)
    ∷ eqb k twice finds found SameWire j (byte + 2)
    ∷ eqb k out_of_range finds range_found byte j code second
    ∷ [])

-- item j, in a dialect, of items that start at a byte
unfoldable pub item_found : ℕ → ℕ → ℕ → List ℕ → ℕ → Finding
item_found at d width bs j =
    read_found (at + 3 * j) j width (number_of (item_at d width bs j)) (code_at bs j) (wire_at bs j) (get_or bs (3 * j + 2) 0)
