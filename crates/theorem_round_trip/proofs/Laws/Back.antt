-- "A table written to a book reads back with the same entries": a normal table, written and read, is the table with its live bits renumbered in rising order.
use mathlib.Core.Bool.{false}
use mathlib.Core.List.{List}
use mathlib.Core.Path.{◌≡◌, refl, sym, ap, subst, ◌∙◌}
use Prim.Native.Nat.{ℕ, ◌-◌, ◌^◌, ◌≤◌}
use lib.Count.{ones}
use Rattle.exact.specs.Refusal.{accepted}
use Rattle.state.specs.declared.State.{State}
use Rattle.state.specs.Entry.{entry, turn, row, tie, side, ties}
use Rattle.state.specs.Normal.{Normal}
use Rattle.state.proofs.Laws.Room.{fewer-ties}
use Rattle.body_pack.specs.Packed.{packed_ties, packed_table, unpacked}
use Rattle.body_fields.specs.Inner.Fields.{plain_bytes}
use Rattle.body_write.specs.Body.{body_bytes}
use Rattle.body_pack.proofs.Laws.Read.{ones_small}
use Rattle.body_fields.proofs.Laws.Bytes.{length_fields}
use Rattle.body_write.proofs.Laws.Body.{body-plain}
use Rattle.body_pack.proofs.Laws.Normal.{packed-normal}
use Rattle.body_pack.proofs.Laws.Entry.{packed-entry}
use Rattle.body_read.specs.declared.Reading.{Reading}
use Rattle.body_bytes.specs.Body.{body_fault}
use Rattle.body_read.specs.Table.{table_of}
use Rattle.body_read.specs.Read.{reading, Reads}
use Rattle.body_bytes.proofs.Laws.Fine.{not-refused}
use Rattle.body_read.proofs.Laws.Stated.{States, stated, stated-fine, stated-read}
use Rattle.theorem_round_trip.proofs.Laws.Written.{mark-is, phase-is, power-is, turn_is, row_is, count-is, tie-is, side-is}

-- the bytes of a table whose live slots are 0..n−1 state it
pub states : (n : ℕ) (t : State) → Normal t → t.live ≡ 2 ^ n - 1 → States n (plain_bytes n t) t
unfolding plain_bytes
states n t N e = record {
  size = length_fields t.zero t.form.phase.0 t.power.0 n (turn t) (row t) (ties t) (tie t) (side t);
  live = e;
  zero = sym (mark-is t.zero t.form.phase.0 t.power.0 n (turn t) (row t) (ties t) (tie t) (side t));
  power = power-is t.zero t.form.phase.0 t.power.0 n (turn t) (row t) (ties t) (tie t) (side t) N.power-range;
  phase = phase-is t.zero t.form.phase.0 t.power.0 n (turn t) (row t) (ties t) (tie t) (side t);
  turn = turn_is t.zero t.form.phase.0 t.power.0 n (turn t) (row t) (ties t) (tie t) (side t);
  row = λ v l. row_is t.zero t.form.phase.0 t.power.0 n (turn t) (row t) (ties t) (tie t) (side t) v l (N.proper.row-range v);
  count = count-is t.zero t.form.phase.0 t.power.0 n (turn t) (row t) (ties t) (tie t) (side t);
  tie = λ j l. tie-is t.zero t.form.phase.0 t.power.0 n (turn t) (row t) (ties t) (tie t) (side t) j l (N.reduced.mask-range j);
  side = side-is t.zero t.form.phase.0 t.power.0 n (turn t) (row t) (ties t) (tie t) (side t);
}

-- and so do the bytes of any normal table, of its packed one
module _ (t : State) (N : Normal t) where
  stated-body : States (ones t.live) (body_bytes t) (packed_table t)
  unfolding packed_table
  stated-body =
      subst (λ (bs : List ℕ). States (ones t.live) bs (packed_table t)) (body-plain t N.live-range N.reduced.masks-are)
      (states (ones t.live) (packed_table t) (packed-normal t N) refl)

  few-ties : ties (packed_table t) ≤ ones t.live
  unfolding packed_table packed_ties
  few-ties = fewer-ties t N

  -- a written table reads back
  pub read_back : (r : Reading) → Reads (ones t.live) (body_bytes t) r → r ≡ reading accepted (packed_table t)
  read_back r w =
      stated-read (ones t.live) (body_bytes t) (packed_table t) (packed-normal t N) stated-body (ones_small t.live N.live-range) few-ties r w

  -- its bytes are not refused, and state the packed table
  pub written-fine : body_fault (ones t.live) (body_bytes t) ≡ false
  written-fine =
      not-refused (ones t.live) (body_bytes t)
      (stated-fine (ones t.live) (body_bytes t) (packed_table t) (packed-normal t N) stated-body (ones_small t.live N.live-range) few-ties)

  pub written-table : packed_table t ≡ table_of (ones t.live) (body_bytes t)
  written-table = stated (ones t.live) (body_bytes t) (packed_table t) (packed-normal t N) stated-body

  pub written-normal : Normal (table_of (ones t.live) (body_bytes t))
  written-normal = subst Normal written-table (packed-normal t N)

-- and what is read has the same entries, bit i of the new table being the live bit with i live bits below it
pub same-values : (t : State) → Normal t → (r : Reading) → Reads (ones t.live) (body_bytes t) r → (y : ℕ → ℕ)
    → entry r.table y ≡ entry t (unpacked t.live y)
same-values t N r w y = ap (λ (q : Reading). entry q.table y) (read_back t N r w) ∙ packed-entry t N y
