-- The writer of a table: refused where its labels are not proper, and else as the writer of its state.
use mathlib.Core.List.{List}
use mathlib.Core.Path.{◌≡◌, refl}
use Prim.Native.Nat.{ℕ}
use native.Mathlib.Omega.{arith}
use Rattle.labels.specs.Labels.{Proper}
use Rattle.body_write.specs.declared.Written.{Written}
use Rattle.body_write.specs.Write.{BodyWritten}
use Rattle.table.specs.declared.Table.{Table}
use Rattle.table.specs.Normal.{Normal}
use Rattle.book_tables.specs.Write.{TableWritten}

module _ (t : Table) (xs : List ℕ) (start : ℕ) where
  pub write-not : (Proper t.state.live t.labels → ⊥) → TableWritten t xs start (record { refusal = 12; bytes = 0 }) xs
  write-not h = record {
    broken = λ b. refl;
    sound = λ N. absurd (h N.labels);
    nothing = λ ne. refl;
    kept = λ ne. refl;
    count = λ e. absurd (omega (arith, e));
    written = λ e. absurd (omega (arith, e));
  }

  pub write-by : (r : Written) (ys : List ℕ) → Proper t.state.live t.labels → BodyWritten t.state xs start r ys → TableWritten t xs start r ys
  write-by r ys P W = record {
    broken = λ b. W.broken (λ N. b (record { state = N; labels = P }));
    sound = λ N. W.sound N.state;
    nothing = W.nothing;
    kept = W.kept;
    count = W.count;
    written = W.written;
  }
