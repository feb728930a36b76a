-- The operator table told on each way: refused as its circuit, by 13, or put into the bytes.
use mathlib.Core.List.{List}
use mathlib.Core.Logic.{◌≢◌}
use mathlib.Core.Path.{◌≡◌, refl}
use Prim.Native.Nat.{ℕ}
use native.Mathlib.Omega.{arith}
use lib.ListN.{length}
use Rattle.exact.specs.Refusal.{accepted, area_short}
use Rattle.table.specs.declared.Changed.{Changed}
use Rattle.image.specs.Image.{image_size}
use Rattle.operator.specs.Calls.{TableOf}
use Rattle.told_tables.specs.Inner.Back.{PutBack}
use Rattle.told_tables_operator.specs.Operator.{OperatorTold}

module _ (e w : ℕ) (bs xs : List ℕ) (a : Changed) (is : TableOf e w bs a) where
  pub circuit-refused : a.refusal ≢ accepted → OperatorTold e w bs xs a.refusal xs
  circuit-refused h = record {
    answer = a;
    is = is;
    refused = λ k. refl;
    short = λ z k. absurd (h z);
    number = λ z k. absurd (h z);
    kept = λ k. refl;
    done = λ z. absurd (h z);
  }

  pub bytes-refused : a.refusal ≡ accepted → length xs ≢ image_size → OperatorTold e w bs xs area_short xs
  bytes-refused z h = record {
    answer = a;
    is = is;
    refused = λ k. absurd (k z);
    short = λ q k. refl;
    number = λ q k. absurd (h k);
    kept = λ k. refl;
    done = λ q. absurd (omega arith);
  }

  pub table-told : a.refusal ≡ accepted → length xs ≡ image_size → (n : ℕ) (ys : List ℕ) → PutBack xs a.table 0 n ys → OperatorTold e w bs xs n ys
  table-told z h n ys B = record {
    answer = a;
    is = is;
    refused = λ k. absurd (k z);
    short = λ q k. absurd (k h);
    number = λ q k. B.number;
    kept = λ k. B.kept k;
    done = λ q. B.written q;
  }
