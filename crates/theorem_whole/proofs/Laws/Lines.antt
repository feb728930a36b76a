-- The line of a body that is not refused, from what reading it promises: a circuit's and a record's by the matrices, a table's by its bytes.
use mathlib.Core.Bool.{Bool, true, false, cond}
use mathlib.Core.List.{List}
use mathlib.Core.Path.{◌≡◌, refl, ◌∙◌, ap}
use Prim.Native.Nat.{ℕ, zero, suc, ◌-◌, ◌^◌}
use native.Mathlib.Omega.{arith}
use lib.Count.{ones}
use lib.Dec.{ltb}
use lib.ListN.{length}
use lib.Pow.{pow_pos}
use Rattle.exact.specs.Refusal.{accepted, bad_body}
use Rattle.exact.specs.Sum.{total}
use Rattle.exact.proofs.Laws.Sum.{total_ext}
use Rattle.bits.specs.Mask.{bit}
use Rattle.bits.proofs.Laws.First.{first_bit}
use Rattle.bits.proofs.Laws.Parity.{ones-total}
use Rattle.gates.specs.Circuit.{circuit_number}
use Rattle.gates.specs.Record.{record_number}
use Rattle.body_bytes.specs.Body.{tie_count, body_fault}
use Rattle.body_read.specs.Table.{form_of, ties_of, table_of}
use Rattle.book_bodies.specs.declared.Body.{Body}
use Rattle.book_bodies.specs.Number.{input_of, output_of, gates_of, circuit_body_number, record_gates, record_body_number, TableNumber}
use Rattle.book_bodies.specs.Answer.{said_amount, said_chance, CircuitAnswer, RecordAnswer, TableAnswer}
use Rattle.lines.specs.Lines.{table_line}
use Rattle.listing_line.specs.Line.{body_line}
use Rattle.theorem_whole.specs.Text.{CircuitLine, RecordLine, stated}

-- the mask of the n lowest bits has n of them
total-ones : (n : ℕ) → total n (λ v. 1) ≡ n
unfolding total
total-ones zero = refl
total-ones (suc n) = omega (arith, total-ones n)

ones_low : (n : ℕ) → ones (2 ^ n - 1) ≡ n
ones_low n = ones-total n (2 ^ n - 1) (omega (arith, pow_pos n)) ∙ total_ext n (bit (2 ^ n - 1)) (λ v. 1) (first_bit n) ∙ total-ones n

-- ---- a circuit's line
pub circuit-line : (ed n j : ℕ) (bs : List ℕ) (r : Body) → circuit_body_number ed n bs ≡ accepted → circuit_number ed n (input_of bs) (output_of bs) (gates_of bs) ≡ accepted → CircuitAnswer ed n bs r → CircuitLine ed n bs j (body_line j r.said r.table)
unfolding body_line
circuit-line ed n j bs r z w A = record {
  amount = said_amount r.said;
  small = (A.value z).small;
  value = (A.value z).value w;
  text = ap (λ (b : Body). body_line j b.said b.table) (A.given z);
}

-- a body of a circuit that is not refused has room for its strings, and its circuit is not refused
pub circuit-passed : (ed n : ℕ) (bs : List ℕ) → circuit_body_number ed n bs ≡ accepted → circuit_number ed n (input_of bs) (output_of bs) (gates_of bs) ≡ accepted
unfolding circuit_body_number
circuit-passed ed n bs z = go (ltb (length bs) 8) z
  where
    go : (b : Bool) → cond b bad_body (circuit_number ed n (input_of bs) (output_of bs) (gates_of bs)) ≡ accepted → circuit_number ed n (input_of bs) (output_of bs) (gates_of bs) ≡ accepted
    go true e = absurd (omega (arith, e))
    go false e = e

-- ---- a record's line
pub record-line : (n j : ℕ) (bs : List ℕ) (r : Body) → record_body_number n bs ≡ accepted → record_number n (input_of bs) (record_gates bs) ≡ accepted → RecordAnswer n bs r → RecordLine n bs j (body_line j r.said r.table)
unfolding body_line
record-line n j bs r z w A = record {
  chance = said_chance r.said;
  value = (A.value z).value w;
  text = ap (λ (b : Body). body_line j b.said b.table) (A.given z);
}

pub record-passed : (n : ℕ) (bs : List ℕ) → record_body_number n bs ≡ accepted → record_number n (input_of bs) (record_gates bs) ≡ accepted
unfolding record_body_number
record-passed n bs z = go (ltb (length bs) 4) z
  where
    go : (b : Bool) → cond b bad_body (record_number n (input_of bs) (record_gates bs)) ≡ accepted → record_number n (input_of bs) (record_gates bs) ≡ accepted
    go true e = absurd (omega (arith, e))
    go false e = e

-- ---- a table's line
pub table-line : (n j : ℕ) (bs : List ℕ) (r : Body) → TableNumber n bs accepted → TableAnswer n bs r
    → body_line j r.said r.table ≡ table_line j n (tie_count n bs) (stated bs)
unfolding body_line table_of form_of ties_of
table-line n j bs r T A =
    ap (λ (b : Body). body_line j b.said b.table) (A.sound fine (T.normal refl))
    ∙ ap (λ (k : ℕ). table_line j k (tie_count n bs) (stated bs)) (ones_low n)
  where
    fine : body_fault n bs ≡ false
    fine = go (body_fault n bs) refl
      where
        go : (b : Bool) → body_fault n bs ≡ b → body_fault n bs ≡ false
        go true e = absurd (let q : accepted ≡ bad_body = T.fault e in omega (arith, q))
        go false e = e
