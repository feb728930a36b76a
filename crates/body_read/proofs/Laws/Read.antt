-- What reading a body answers on each way through the code, and that no second answer would do: by the truth of the tests.
use mathlib.Core.Path.{◌≡◌, ap}
use mathlib.Core.Bool.{Bool, true, false}
use mathlib.Core.List.{List}
use Prim.Native.Nat.{ℕ}
use native.Mathlib.Omega.{arith}
use Rattle.exact.specs.Refusal.{accepted, bad_body, not_normal}
use Rattle.state.specs.declared.State.{State}
use Rattle.state.specs.Entry.{fresh_table}
use Rattle.state.specs.Normal.{Normal}
use Rattle.body_bytes.specs.Body.{body_fault}
use Rattle.body_read.specs.Table.{table_of}
use Rattle.body_read.specs.Read.{reading, Reads}

-- two ways of one test
either : {A : Type 0} {b : Bool} → b ≡ true → b ≡ false → A
either e f = absurd (let z : ◌≡◌ {A = ℕ} 0 1 = cc in omega arith)

module _ (n : ℕ) (bs : List ℕ) where
  pub read-fault : (t : State) → body_fault n bs ≡ true → t ≡ fresh_table → Reads n bs (reading bad_body t)
  read-fault t h e = record {
    fault = λ f. ap (reading bad_body) e;
    broken = λ f k. either h f;
    sound = λ f k. either h f;
    normal = λ z. absurd (omega (arith, z));
  }

  module _ (h : body_fault n bs ≡ false) where
    pub read-broken : (t : State) → (Normal (table_of n bs) → ⊥) → t ≡ fresh_table → Reads n bs (reading not_normal t)
    read-broken t k e = record {
      fault = λ f. either f h;
      broken = λ f j. ap (reading not_normal) e;
      sound = λ f j. absurd (k j);
      normal = λ z. absurd (omega (arith, z));
    }

    pub read-sound : (t : State) → Normal (table_of n bs) → t ≡ table_of n bs → Reads n bs (reading accepted t)
    read-sound t k e = record {
      fault = λ f. either f h;
      broken = λ f j. absurd (j k);
      sound = λ f j. ap (reading accepted) e;
      normal = λ z. k;
    }
