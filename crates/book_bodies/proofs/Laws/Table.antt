-- What a table's body answers on each way through the code: from the reading of its bytes.
use mathlib.Core.List.{List}
use mathlib.Core.Logic.{◌≢◌}
use mathlib.Core.Path.{◌≡◌, ap}
use Prim.Native.Nat.{ℕ}
use native.Mathlib.Omega.{arith}
use Rattle.body_read.specs.declared.Reading.{Reading}
use Rattle.body_read.specs.Read.{Reads}
use Rattle.book_bodies.specs.Number.{TableNumber}
use Rattle.book_bodies.specs.Answer.{Refused, Whole, body, TableAnswer}

module _ (n : ℕ) (bs : List ℕ) (r : Reading) (R : Reads n bs r) where
  of : {s : Reading} → r ≡ s → r.refusal ≡ s.refusal
  of e = ap (λ (x : Reading). x.refusal) e

  pub table-refused : r.refusal ≢ 0 → TableAnswer n bs (body (Refused r.refusal) r.table)
  table-refused ne = record {
    fault = λ f. ap (λ (x : Reading). body (Refused x.refusal) x.table) (R.fault f);
    broken = λ f k. ap (λ (x : Reading). body (Refused x.refusal) x.table) (R.broken f k);
    sound = λ f k. absurd (ne (of (R.sound f k)));
    normal = λ z. absurd (ne z);
  }

  pub table-whole : r.refusal ≡ 0 → TableAnswer n bs (body Whole r.table)
  table-whole z = record {
    fault = λ f. absurd (let q : r.refusal ≡ 11 = of (R.fault f) in omega (arith, z, q));
    broken = λ f k. absurd (let q : r.refusal ≡ 12 = of (R.broken f k) in omega (arith, z, q));
    sound = λ f k. ap (λ (x : Reading). body Whole x.table) (R.sound f k);
    normal = λ y. R.normal z;
  }

  pub table-number : TableNumber n bs r.refusal
  table-number = record { fault = λ f. of (R.fault f); broken = λ f k. of (R.broken f k); sound = λ f k. of (R.sound f k); normal = R.normal }
