-- The first fault of a circuit's or a record's body: "Circuits: 11, 6, 8, gates in order."
use Rattle.std.specs.Prelude.{cond, not, List, [], ◌∷◌, ℕ, ◌+◌, ◌*◌, ◌%◌, ◌^◌, eqb, ltb, leb, length, drop}
use Rattle.fields.specs.Bytes.{number}
use Rattle.blocks.specs.Expansion.{item_count}
use Rattle.gates.specs.Read.{record_dialect}
use Rattle.cause.specs.declared.Cause.TheVariants.{Strings, Threes, Many, Wires, Input, Output}
use Rattle.cause.specs.Cause.{Finding, found, ◌finds◌, first_found, first_below, in_order}
use Rattle.cause_blocks.specs.Blocks.{blocks_found}
use Rattle.cause_items.specs.Items.{item_found}

-- before the items: "gate bytes not in threes" (the byte behind the last whole item), "more than 4,096 gates" (the item beyond), "width of a circuit not 1..31" (its byte in the contents), "a string has a bit at or above the width".
-- The strings start at byte from, the items at byte at, and the width stands at byte wat
unfoldable pub head_found : ℕ → ℕ → ℕ → ℕ → ℕ → ℕ → List ℕ → Finding
head_found from at wat width input output gs =
    first_found
    (not (eqb (length gs % 3) 0) finds found Threes (item_count gs) (at + 3 * item_count gs)
    ∷ ltb 4096 (item_count gs) finds found Many 4096 (at + 12288)
    ∷ ltb width 1 finds found Wires 0 wat
    ∷ ltb 31 width finds found Wires 0 wat
    ∷ leb (2 ^ width) input finds found Input 0 from
    ∷ leb (2 ^ width) output finds found Output 0 (from + 4)
    ∷ [])

-- then the items in order, and their blocks "after all other refusals of that body"
unfoldable pub tested_found : ℕ → ℕ → ℕ → ℕ → ℕ → ℕ → ℕ → List ℕ → Finding
tested_found from at wat d width input output gs =
    in_order (head_found from at wat width input output gs ∷ first_below (item_count gs) (item_found at d width gs) ∷ blocks_found at gs ∷ [])

-- "Circuit body: input string (32 bits), output string (32 bits), gates.", from a byte on, in a book of edition e; 11: "body length wrong": no room for the two strings
unfoldable pub circuit_found : ℕ → ℕ → ℕ → ℕ → List ℕ → Finding
circuit_found from wat e width bs =
    cond (ltb (length bs) 8) (found Strings 0 from) (tested_found from (from + 8) wat e width (number 4 bs 0) (number 4 bs 4) (drop 8 bs))

-- "holds an input string and a list of gates": as a circuit's, in its own dialect, and with an output string of 0, which no width refuses
unfoldable pub record_found : ℕ → ℕ → ℕ → List ℕ → Finding
record_found from wat width bs =
    cond (ltb (length bs) 4) (found Strings 0 from) (tested_found from (from + 4) wat record_dialect width (number 4 bs 0) 0 (drop 4 bs))
