-- Read this first: from a book's bytes to its listing's text in one statement, `Text` at the end. No struct of the code stands in this file: only bytes, matrices, whole numbers, text, an amount (zero, or power and phase) and a chance (none, or one over two to a power).
-- What `listing::list` promises is this text (`bytes-to-text`), what `listing::list_strict` promises is `StrictText` (`bytes-to-strict-text`), no second text satisfies either (`one-text`, `one-strict-text`), and a table that was read has the entries that its bytes state (`bytes-to-entry`).
use Rattle.std.specs.Prelude.{Bool, true, false, cond, List, [], ◌++◌, ◌≢◌, ◌⊎◌, ◌≡◌, ℕ, zero, suc, ◌+◌, ◌*◌, ◌%◌, ◌<◌, eqb, pos}
use Rattle.std.specs.Int.Count.{count_trailing_zeros}
use Rattle.exact.specs.declared.Amount.{Amount}
use Rattle.exact.specs.Amount.{none, some, Small}
use Rattle.exact.specs.declared.Chance.{Chance}
use Rattle.exact.specs.Chance.{chance_amount}
use Rattle.exact.specs.Refusal.{accepted, bad_body, not_normal}
use Rattle.exact.specs.Sum.{total}
use Rattle.bits.specs.Mask.{bit}
use Rattle.gates.specs.Matrix.{IsAmplitude}
use Rattle.gates.specs.Read.{record_dialect}
use Rattle.gates.specs.Circuit.{gates_of as meant}
use Rattle.gates.specs.Chance.{IsChance}
use Rattle.contents.specs.Contents.{edition_of, count_of, kind_of, width_of, contents_number}
use Rattle.body_bytes.specs.Body.{mark_of, phase_of, power_of, turn_of, row_of, tie_count, mask_of, side_of, body_fault}
use Rattle.book.specs.Book.{bytes_of}
use Rattle.book_bodies.specs.Number.{input_of, output_of, gates_of, circuit_body_number, record_gates, record_body_number}
use Rattle.lines.specs.Lines.{book_line, circuit_line, table_line, record_line, refused_line, refused_body_line}

-- ---- a circuit's line
-- "number, `C`, power, phase": of an amount whose exact value is "the entry of the product, row output, column input", in the edition e of the book
pub record CircuitLine (e n : ℕ) (bs : List ℕ) (j : ℕ) (line : List ℕ) : Type 0 where
  pub amount : Amount
  pub small : Small amount
  pub value : IsAmplitude n (meant e n (gates_of bs)) (input_of bs) (output_of bs) amount
  pub text : line ≡ circuit_line j amount

-- ---- a record's line
-- "number, `R`, that power or `none`": of a chance whose exact value is "the sum of squared sizes of its entries", of the column of the input string in "the plain product of gate matrices and cuts"
pub record RecordLine (n : ℕ) (bs : List ℕ) (j : ℕ) (line : List ℕ) : Type 0 where
  pub chance : Chance
  pub value : IsChance n (meant record_dialect n (record_gates bs)) (input_of bs) (chance_amount chance)
  pub text : line ≡ record_line j chance

-- ---- a table's line, and what the table's bytes mean
-- "A tie says that the sum of a set of live bits is r modulo 2.": the first k ties of a body of width n hold at x
unfoldable pub ties_hold : ℕ → List ℕ → ℕ → (ℕ → ℕ) → Bool
ties_hold n bs zero x = true
ties_hold n bs (suc k) x = cond (eqb (total n (λ v. bit (mask_of n bs k) v * x v) % 2) (side_of n bs k)) (ties_hold n bs k x) false

-- c + 2·Σ a_v x_v + 4·Σ_{u<v} b_uv x_u x_v, eight eighth turns being none; "bit u of row v is b_uv"
unfoldable pub turns_of : ℕ → List ℕ → (ℕ → ℕ) → ℕ
turns_of n bs x =
    (phase_of bs + 2 * total n (λ v. turn_of bs v * x v) + 4 * total n (λ v. total v (λ u. bit (row_of n bs v) u * (x u * x v)))) % 8

-- "The entry at an assignment of the live bits is 0 if the zero mark is set or a tie fails; else √2^s · ω^(c + 2·Σ a_v x_v + 4·Σ_{u<v} b_uv x_u x_v)."
unfoldable pub entry_of : ℕ → List ℕ → (ℕ → ℕ) → Amount
entry_of n bs x = cond (eqb (mark_of bs) 1) none (cond (ties_hold n bs (tie_count n bs) x) (some (power_of bs) (turns_of n bs x)) none)

-- zero, or power and phase, as a table's body states them
abbrev pub stated : List ℕ → Amount
stated bs = cond (eqb (mark_of bs) 1) none (some (power_of bs) (phase_of bs))

-- ---- refusals
-- "a tie's lead is its lowest bit"
abbrev pub lead_of : ℕ → List ℕ → ℕ → ℕ
lead_of n bs j = count_trailing_zeros 64 (mask_of n bs j)

-- a table's body is "Normal", by its bytes; where 11 does not refuse it the ranges are kept, and it has no free slot below its width
pub record NormalBody (n : ℕ) (bs : List ℕ) : Type 0 where
  -- "no tie's set is empty; a tie's lead is its lowest bit; ties stand in rising order of lead; a lead occurs in no other tie, its a is 0 and its b row is 0."
  pub full : (j : ℕ) → j < tie_count n bs → mask_of n bs j ≢ 0
  pub rising : (i j : ℕ) → i < j → j < tie_count n bs → lead_of n bs i < lead_of n bs j
  pub alone : (i j : ℕ) → i < tie_count n bs → j < tie_count n bs → i ≢ j → bit (mask_of n bs i) (lead_of n bs j) ≡ 0
  pub lead-turn : (j : ℕ) → j < tie_count n bs → turn_of bs (lead_of n bs j) ≡ 0
  pub lead-row : (j : ℕ) → j < tie_count n bs → row_of n bs (lead_of n bs j) ≡ 0
  -- "b symmetric with b_vv = 0"
  pub even : (u v : ℕ) → u < n → v < n → bit (row_of n bs v) u ≡ bit (row_of n bs u) v
  pub own : (v : ℕ) → v < n → bit (row_of n bs v) v ≡ 0
  -- "A zero table has s = c = 0, no ties, all a and b zero"
  pub zero-power : mark_of bs ≡ 1 → power_of bs ≡ pos 0
  pub zero-phase : mark_of bs ≡ 1 → phase_of bs ≡ 0
  pub zero-ties : mark_of bs ≡ 1 → tie_count n bs ≡ 0
  pub zero_turn : mark_of bs ≡ 1 → (v : ℕ) → v < n → turn_of bs v ≡ 0
  pub zero_row : mark_of bs ≡ 1 → (v : ℕ) → v < n → row_of n bs v ≡ 0

-- k is the number of a table's body of width n. "Table body: 11 before 12."
pub record TableRefusal (n : ℕ) (bs : List ℕ) (k : ℕ) : Type 0 where
  pub fault : body_fault n bs ≡ true → k ≡ bad_body
  pub broken : body_fault n bs ≡ false → (NormalBody n bs → ⊥) → k ≡ not_normal
  pub sound : body_fault n bs ≡ false → NormalBody n bs → k ≡ accepted
  pub normal : k ≡ accepted → NormalBody n bs

-- k is the number of body j. "Circuits: 11, 6, 8, gates in order."; of records "otherwise as circuits"
pub record BodyRefusal (bs : List ℕ) (j k : ℕ) : Type 0 where
  pub circuit : kind_of bs j ≡ 1 → k ≡ circuit_body_number (edition_of bs) (width_of bs j) (bytes_of bs j)
  pub table : kind_of bs j ≡ 2 → TableRefusal (width_of bs j) (bytes_of bs j) k
  pub recorded : kind_of bs j ≡ 3 → k ≡ record_body_number (width_of bs j) (bytes_of bs j)

-- the first of n bodies that is refused is refused by k; 0 where none is
abbrev pub FirstRefusal : List ℕ → ℕ → ℕ → Type 0
FirstRefusal bs n k =
    ((k ≡ accepted) × ((i : ℕ) → i < n → BodyRefusal bs i accepted))
    ⊎ ((j : ℕ) × (j < n) × ((i : ℕ) → i < j → BodyRefusal bs i accepted) × BodyRefusal bs j k × (k ≢ accepted))

-- k is the number of the book. "Books: 9, contents in order, then bodies in order"
pub record BookRefusal (bs : List ℕ) (k : ℕ) : Type 0 where
  pub contents : contents_number bs ≢ accepted → k ≡ contents_number bs
  pub bodies : contents_number bs ≡ accepted → FirstRefusal bs (count_of bs) k

-- ---- the book
-- line j. "kind (1 circuit, 2 table)"; "Body kind 3 in edition 2"; "number, `T`, live, ties, power, phase"; "`1 refused 7` in place of the answer"
pub record LineOf (bs : List ℕ) (j : ℕ) (line : List ℕ) : Type 0 where
  pub number : ℕ
  pub tested : BodyRefusal bs j number
  pub refused : number ≢ accepted → line ≡ refused_body_line j number
  pub circuit : number ≡ accepted → kind_of bs j ≡ 1 → CircuitLine (edition_of bs) (width_of bs j) (bytes_of bs j) j line
  pub table : number ≡ accepted → kind_of bs j ≡ 2 → line ≡ table_line j (width_of bs j) (tie_count (width_of bs j) (bytes_of bs j)) (stated (bytes_of bs j))
  pub recorded : number ≡ accepted → kind_of bs j ≡ 3 → RecordLine (width_of bs j) (bytes_of bs j) j line

-- the first n lines
unfoldable pub lines_of : ℕ → (ℕ → List ℕ) → List ℕ
lines_of zero f = []
lines_of (suc n) f = lines_of n f ++ f n

-- "First line `book` and the count. Then for each body"; "the default is one line per body, `1 refused 7` in place of the answer, and the rest goes on; faults of header or contents still refuse the whole"
pub record Text (bs text : List ℕ) : Type 0 where
  pub refused : contents_number bs ≢ accepted → text ≡ refused_line (contents_number bs)
  pub lines : ℕ → List ℕ
  pub each : contents_number bs ≡ accepted → (j : ℕ) → j < count_of bs → LineOf bs j (lines j)
  pub listed : contents_number bs ≡ accepted → text ≡ book_line (count_of bs) ++ lines_of (count_of bs) lines

-- "A refused book gives the single line `refused` and the number.": "the strict reading by name"
pub record StrictText (bs text : List ℕ) : Type 0 where
  pub number : ℕ
  pub tested : BookRefusal bs number
  pub refused : number ≢ accepted → text ≡ refused_line number
  pub listed : number ≡ accepted → Text bs text
