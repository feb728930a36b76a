-- The number that refuses a body on its own, by its kind.
use Rattle.std.specs.Prelude.{true, false, cond, List, ◌≡◌, ℕ, ltb, length, drop}
use Rattle.exact.specs.Refusal.{accepted, bad_body, not_normal}
use Rattle.fields.specs.Bytes.{number}
use Rattle.gates.specs.Circuit.{circuit_number}
use Rattle.gates.specs.Record.{record_number}
use Rattle.state.specs.Normal.{Normal}
use Rattle.body_bytes.specs.Body.{body_fault}
use Rattle.body_read.specs.Table.{table_of}

-- ---- a circuit's body
-- "Circuit body: input string (32 bits), output string (32 bits), gates."
abbrev pub input_of : List ℕ → ℕ
input_of bs = number 4 bs 0

abbrev pub output_of : List ℕ → ℕ
output_of bs = number 4 bs 4

abbrev pub gates_of : List ℕ → List ℕ
gates_of bs = drop 8 bs

-- 11: "body length wrong": no room for the two strings; "Circuits: 11, 6, 8, gates in order."; e is the edition of the book
unfoldable pub circuit_body_number : ℕ → ℕ → List ℕ → ℕ
circuit_body_number e n bs = cond (ltb (length bs) 8) bad_body (circuit_number e n (input_of bs) (output_of bs) (gates_of bs))

-- ---- a record's body: its input string stands where a circuit's does
-- "holds an input string and a list of gates"
abbrev pub record_gates : List ℕ → List ℕ
record_gates bs = drop 4 bs

-- 11: "body length wrong": no room for the string; "otherwise as circuits"
unfoldable pub record_body_number : ℕ → List ℕ → ℕ
record_body_number n bs = cond (ltb (length bs) 4) bad_body (record_number n (input_of bs) (record_gates bs))

-- ---- a table's body
-- k is the number of a table's body of width n. "Table body: 11 before 12."
pub record TableNumber (n : ℕ) (bs : List ℕ) (k : ℕ) : Type 0 where
  pub fault : body_fault n bs ≡ true → k ≡ bad_body
  -- 12: "a table .. read is not normal"
  pub broken : body_fault n bs ≡ false → (Normal (table_of n bs) → ⊥) → k ≡ not_normal
  pub sound : body_fault n bs ≡ false → Normal (table_of n bs) → k ≡ accepted
  -- not refused: the table is normal
  pub normal : k ≡ accepted → Normal (table_of n bs)

-- ---- a body by its kind
-- k is the number of a body of this kind and width on its own, in a book of edition e. "kind (1 circuit, 2 table)"; "Body kind 3 in edition 2"
pub record OwnNumber (e kind n : ℕ) (bs : List ℕ) (k : ℕ) : Type 0 where
  pub circuit : kind ≡ 1 → k ≡ circuit_body_number e n bs
  pub table : kind ≡ 2 → TableNumber n bs k
  pub recorded : kind ≡ 3 → k ≡ record_body_number n bs
