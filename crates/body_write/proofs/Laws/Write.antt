-- The writer of a body: what it answers and leaves in each of its ways out, and that no second answer and area meet its contract.
use mathlib.Core.List.{List, [], ◌∷◌}
use mathlib.Core.Path.{◌≡◌, refl, sym, ap}
use Prim.Native.Nat.{ℕ, ◌+◌, ◌≤◌, ◌<◌}
use native.Mathlib.Omega.{arith}
use borrow.Author.Tests.{lt-ltb, le-ltb}
use lib.ListN.{length}
use mathlib.Core.Bool.{Bool}
use Rattle.exact.specs.Refusal.{accepted, not_normal, area_short, first, ◌gives◌}
use Rattle.fields.specs.Bytes.{over}
use Rattle.state.specs.declared.State.{State}
use Rattle.state.specs.Normal.{Normal}
use Rattle.body_write.specs.Body.{body_bytes}
use Rattle.body_write.specs.Write.{Written, body_number, BodyWritten}
use Rattle.body_write.proofs.Laws.Body.{length-body}

abbrev pub refused_by : ℕ → Written
refused_by n = record { refusal = n; bytes = 0 }

module _ (t : State) (xs : List ℕ) (start : ℕ) where
  -- the table is not normal
  pub write-broken : (Normal t → ⊥) → BodyWritten t xs start (refused_by not_normal) xs
  write-broken never = record {
    broken = λ b. refl;
    sound = λ N. absurd (never N);
    nothing = λ ne. refl;
    kept = λ ne. refl;
    count = λ e. absurd (omega arith);
    written = λ e. absurd (omega arith);
  }

  number_short : length xs < start + length (body_bytes t) → area_short ≡ body_number (length xs) start t
  number_short h = sym (ap (λ (b : Bool). first (b gives area_short ∷ [])) (lt-ltb (length xs) (start + length (body_bytes t)) h))

  number_fits : start + length (body_bytes t) ≤ length xs → accepted ≡ body_number (length xs) start t
  number_fits h = sym (ap (λ (b : Bool). first (b gives area_short ∷ [])) (le-ltb (length xs) (start + length (body_bytes t)) h))

  -- there is no room
  pub write-short : Normal t → length xs < start + length (body_bytes t) → BodyWritten t xs start (refused_by area_short) xs
  write-short N h = record {
    broken = λ b. absurd (b N);
    sound = λ M. number_short h;
    nothing = λ ne. refl;
    kept = λ ne. refl;
    count = λ e. absurd (omega arith);
    written = λ e. absurd (omega arith);
  }

  -- there is
  pub write_done : (size : ℕ) (ys : List ℕ) → Normal t → size ≡ length (body_bytes t) → start + length (body_bytes t) ≤ length xs → ys ≡ over xs start (body_bytes t)
      → BodyWritten t xs start (record { refusal = accepted; bytes = size }) ys
  write_done size ys N e h w = record {
    broken = λ b. absurd (b N);
    sound = λ M. number_fits h;
    nothing = λ ne. absurd (ne refl);
    kept = λ ne. absurd (ne refl);
    count = λ q. e;
    written = λ q. w;
  }

  -- a start at the area's end or beyond it is refused: there is always something to write
  pub start-beyond : length xs ≤ start → body_number (length xs) start t ≡ area_short
  start-beyond h = sym (number_short (omega (arith, length-body t)))
