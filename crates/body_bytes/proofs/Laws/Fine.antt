-- What a body that is not refused by 11 says, field by field, and that such a body is not refused: by the truth of each test.
use mathlib.Core.Path.{◌≡◌}
use mathlib.Core.Bool.{false, not, ◌||◌}
use mathlib.Core.List.{List}
use Prim.Native.Nat.{ℕ, ◌+◌, ◌*◌, ◌^◌, ◌≤◌, ◌<◌}
use native.Mathlib.Omega.{arith}
use lib.Dec.{eqb, ltb, leb}
use lib.ListN.{length}
use borrow.Author.Tests.{le-ltb, lt-leb, eq-eqb, ltb-false, leb-false, eqb-true, not-false}
use Rattle.state.specs.Number.{outside}
use Rattle.state.specs.Normal.{InRange}
use Rattle.contents.specs.Contents.{any_below}
use Rattle.contents.proofs.Laws.Some.{or-no-left, or-no-right, some-none, none}
use Rattle.body_bytes.specs.Body.{mark_of, phase_of, power_of, turn_of, row_of, tie_count, mask_of, side_of}
use Rattle.body_bytes.specs.Body.{size_fault, head_fault, turn_fault, row_fault, tie_fault, body_fault}
use Rattle.state.proofs.Laws.Range.{inside-range}
use Rattle.body_bytes.proofs.Laws.Signed.{not-outside}

-- every field of a body of width n is in range
pub record Fine (n : ℕ) (bs : List ℕ) : Type 0 where
  pub narrow : n ≤ 64
  pub few : tie_count n bs ≤ n
  pub size : length bs ≡ 5 + 9 * n + 9 * tie_count n bs
  pub mark : mark_of bs < 2
  pub phase : phase_of bs < 8
  pub power : InRange (power_of bs)
  pub turn : (v : ℕ) → v < n → turn_of bs v < 4
  pub row : (v : ℕ) → v < n → row_of n bs v < 2 ^ n
  pub mask : (j : ℕ) → j < tie_count n bs → mask_of n bs j < 2 ^ n
  pub side : (j : ℕ) → j < tie_count n bs → side_of n bs j < 2

module _ (n : ℕ) (bs : List ℕ) where
  -- ---- not refused: every field is in range
  size-says : size_fault n bs ≡ false → (n ≤ 64) × (tie_count n bs ≤ n) × (length bs ≡ 5 + 9 * n + 9 * tie_count n bs)
  unfolding size_fault
  size-says h =
      let wide = ltb 64 n in
      let short = ltb (length bs) (5 + 9 * n) in
      let many = ltb n (tie_count n bs) in
      let other = not (eqb (length bs) (5 + 9 * n + 9 * tie_count n bs)) in
      let most = or-no-left (wide || short || many) other h in (
        ltb-false 64 n (or-no-left wide short (or-no-left (wide || short) many most)),
        ltb-false n (tie_count n bs) (or-no-right (wide || short) many most),
        eqb-true _ _ (not-false _ (or-no-right (wide || short || many) other h)),
      )

  head-says : head_fault bs ≡ false → (mark_of bs ≤ 1) × (phase_of bs ≤ 7) × InRange (power_of bs)
  unfolding head_fault
  head-says h =
      let mark = ltb 1 (mark_of bs) in
      let phase = ltb 7 (phase_of bs) in
      let most = or-no-left (mark || phase) (outside (power_of bs)) h in (
        ltb-false 1 (mark_of bs) (or-no-left mark phase most),
        ltb-false 7 (phase_of bs) (or-no-right mark phase most),
        inside-range (power_of bs) (or-no-right (mark || phase) (outside (power_of bs)) h),
      )

  turn-says : (v : ℕ) → turn_fault bs v ≡ false → turn_of bs v ≤ 3
  unfolding turn_fault
  turn-says v h = ltb-false 3 (turn_of bs v) h

  row-says : (v : ℕ) → row_fault n bs v ≡ false → row_of n bs v < 2 ^ n
  unfolding row_fault
  row-says v h = leb-false (2 ^ n) (row_of n bs v) h

  tie-says : (j : ℕ) → tie_fault n bs j ≡ false → (mask_of n bs j < 2 ^ n) × (side_of n bs j ≤ 1)
  unfolding tie_fault
  tie-says j h =
      let out = leb (2 ^ n) (mask_of n bs j) in
      let high = ltb 1 (side_of n bs j) in
      (leb-false (2 ^ n) (mask_of n bs j) (or-no-left out high h), ltb-false 1 (side_of n bs j) (or-no-right out high h))

  pub fine : body_fault n bs ≡ false → Fine n bs
  unfolding body_fault
  fine h =
      let k = tie_count n bs in
      let size = size_fault n bs in
      let head = head_fault bs in
      let turns = any_below n (turn_fault bs) in
      let rows = any_below n (row_fault n bs) in
      let ties = any_below k (tie_fault n bs) in
      let no-ties = or-no-right (size || head || turns || rows) ties h in
      let four = or-no-left (size || head || turns || rows) ties h in
      let three = or-no-left (size || head || turns) rows four in
      let two = or-no-left (size || head) turns three in
      let s = size-says (or-no-left size head two) in
      let f = head-says (or-no-right size head two) in
      let tied : (j : ℕ) → j < k → (mask_of n bs j < 2 ^ n) × (side_of n bs j ≤ 1) = λ j l. tie-says j (some-none k j (tie_fault n bs) no-ties l) in
      record {
        narrow = s.0;
        few = s.1;
        size = s.2;
        mark = omega (arith, f.0);
        phase = omega (arith, f.1);
        power = f.2;
        turn = λ v l. omega (arith, turn-says v (some-none n v (turn_fault bs) (or-no-right (size || head) turns three) l));
        row = λ v l. row-says v (some-none n v (row_fault n bs) (or-no-right (size || head || turns) rows four) l);
        mask = λ j l. (tied j l).0;
        side = λ j l. omega (arith, (tied j l).1);
      }

  -- ---- every field in range: not refused
  module _ (f : Fine n bs) where
    size-good : size_fault n bs ≡ false
    unfolding size_fault
    size-good =
        rw (le-ltb 64 n f.narrow, le-ltb (length bs) (5 + 9 * n) (omega (arith, f.size)), le-ltb n (tie_count n bs) f.few, eq-eqb (length bs) (5 + 9 * n + 9 * tie_count n bs) f.size)

    head-good : head_fault bs ≡ false
    unfolding head_fault
    head-good = rw (le-ltb 1 (mark_of bs) (omega (arith, f.mark)), le-ltb 7 (phase_of bs) (omega (arith, f.phase))) (not-outside (power_of bs) f.power)

    turn-good : (v : ℕ) → v < n → turn_fault bs v ≡ false
    unfolding turn_fault
    turn-good v l = le-ltb 3 (turn_of bs v) (omega (arith, f.turn v l))

    row-good : (v : ℕ) → v < n → row_fault n bs v ≡ false
    unfolding row_fault
    row-good v l = lt-leb (2 ^ n) (row_of n bs v) (f.row v l)

    tie-good : (j : ℕ) → j < tie_count n bs → tie_fault n bs j ≡ false
    unfolding tie_fault
    tie-good j l = rw (lt-leb (2 ^ n) (mask_of n bs j) (f.mask j l)) (le-ltb 1 (side_of n bs j) (omega (arith, f.side j l)))

    pub not-refused : body_fault n bs ≡ false
    unfolding body_fault
    not-refused =
        rw (size-good, head-good, none n (turn_fault bs) turn-good, none n (row_fault n bs) row-good) (none (tie_count n bs) (tie_fault n bs) tie-good)
