-- What a body answers on its own: a refusal's number, a circuit's amount, a record's chance or a table.
use Rattle.std.specs.Prelude.{true, false, List, ◌≢◌, ◌≡◌, ℕ, Ok}
use Rattle.exact.specs.Amount.{none}
use Rattle.exact.specs.declared.Amount.{Amount}
use Rattle.exact.specs.declared.Chance.{Chance}
use Rattle.exact.specs.declared.Chance.TheVariants.{Never}
use Rattle.exact.specs.Refusal.{accepted, bad_body, not_normal}
use Rattle.state.specs.Entry.{fresh_table}
use Rattle.state.specs.Normal.{Normal}
use Rattle.state.specs.declared.State.{State}
use Rattle.circuit.specs.Amplitude.{Amplitude}
use Rattle.record.specs.Chanced.{Chanced}
use Rattle.body_bytes.specs.Body.{body_fault}
use Rattle.body_read.specs.Table.{table_of}
use Rattle.book_bodies.specs.Number.{input_of, output_of, gates_of, circuit_body_number, record_gates, record_body_number}
pub use Rattle.book_bodies.specs.declared.Said.{Said}
pub use Rattle.book_bodies.specs.declared.Said.TheVariants.{Refused, Circuit, Record, Whole}
pub use Rattle.book_bodies.specs.declared.Body.{Body}

-- ---- an answer's number and values, case by case
abbrev pub said_number : Said → ℕ
said_number (Refused k) = k
said_number (Circuit a) = accepted
said_number (Record c) = accepted
said_number Whole = accepted

abbrev pub said_amount : Said → Amount
said_amount (Refused k) = none
said_amount (Circuit a) = a
said_amount (Record c) = none
said_amount Whole = none

abbrev pub said_chance : Said → Chance
said_chance (Refused k) = Never
said_chance (Circuit a) = Never
said_chance (Record c) = c
said_chance Whole = Never

abbrev pub body : Said → State → Body
body s t = record { said = s; table = t }

-- "A refusal answers its number only, with the table unchanged (in a join, the first; where no table was handed in, the fresh one)"
abbrev pub refusal : ℕ → Body
refusal k = body (Refused k) fresh_table

-- "the circuit's amplitude, with the fresh table in the table's place"
abbrev pub circuit_body : Amount → Body
circuit_body a = body (Circuit a) fresh_table

-- the record's chance, with the fresh table in the table's place as beside an amplitude
abbrev pub record_body : Chance → Body
record_body c = body (Record c) fresh_table

-- "or the table itself"
abbrev pub table_body : State → Body
table_body t = body Whole t

-- ---- a body on its own
-- what a circuit's body of width n answers in a book of edition e
pub record CircuitAnswer (e n : ℕ) (bs : List ℕ) (r : Body) : Type 0 where
  pub refused : circuit_body_number e n bs ≢ accepted → r ≡ refusal (circuit_body_number e n bs)
  pub given : circuit_body_number e n bs ≡ accepted → r ≡ circuit_body (said_amount r.said)
  pub value : circuit_body_number e n bs ≡ accepted → Amplitude e n (input_of bs) (output_of bs) (gates_of bs) (Ok (said_amount r.said))

-- what a table's body of width n answers
pub record TableAnswer (n : ℕ) (bs : List ℕ) (r : Body) : Type 0 where
  pub fault : body_fault n bs ≡ true → r ≡ refusal bad_body
  pub broken : body_fault n bs ≡ false → (Normal (table_of n bs) → ⊥) → r ≡ refusal not_normal
  pub sound : body_fault n bs ≡ false → Normal (table_of n bs) → r ≡ table_body (table_of n bs)
  pub normal : said_number r.said ≡ accepted → Normal (table_of n bs)

-- what a record's body of width n answers
pub record RecordAnswer (n : ℕ) (bs : List ℕ) (r : Body) : Type 0 where
  pub refused : record_body_number n bs ≢ accepted → r ≡ refusal (record_body_number n bs)
  pub given : record_body_number n bs ≡ accepted → r ≡ record_body (said_chance r.said)
  pub value : record_body_number n bs ≡ accepted → Chanced n (input_of bs) (record_gates bs) (Ok (said_chance r.said))

-- "kind (1 circuit, 2 table)"; "Body kind 3 in edition 2"
pub record BodyAnswer (e kind n : ℕ) (bs : List ℕ) (r : Body) : Type 0 where
  pub circuit : kind ≡ 1 → CircuitAnswer e n bs r
  pub table : kind ≡ 2 → TableAnswer n bs r
  pub recorded : kind ≡ 3 → RecordAnswer n bs r
