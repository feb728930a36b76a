-- Bytes that state a normal table number by number: they are not refused by 11, and the table that they state is that table. By the places of each list.
use mathlib.Core.Path.{◌≡◌, refl, sym, ap, ◌∙◌, subst}
use mathlib.Core.Bool.{Bool, true, false, cond}
use mathlib.Core.List.{List}
use mathlib.Core.Logic.{⊎_elim}
use Prim.Native.Nat.{ℕ, ◌+◌, ◌-◌, ◌*◌, ◌^◌, ◌≤◌, ◌<◌}
use native.Mathlib.Omega.{arith}
use lib.Dec.{eqb}
use lib.ListN.{length, get_or}
use lib.Seq.{ext_get_or}
use Rattle.exact.specs.Refusal.{accepted}
use Rattle.exact.proofs.Laws.Sum.{split}
use Rattle.form.specs.Form.{quarter, turn_at, row_at}
use Rattle.ties.specs.Ties.{mask_at, side_at}
use Rattle.state.specs.declared.State.{State}
use Rattle.state.specs.Entry.{turn, row, tie, side, ties}
use Rattle.state.specs.Normal.{Normal, InRange}
use Rattle.state.proofs.Laws.First.{free-from, row_low, tie-low}
use Rattle.body_bytes.specs.Body.{mark_of, phase_of, power_of, turn_of, row_of, tie_count, mask_of, side_of}
use Rattle.body_read.specs.Table.{quarter_of, padded, form_of, ties_of, table_of}
use Rattle.body_read.specs.Read.{Reading, reading, Reads}
use Rattle.body_read.proofs.Laws.Padded.{length-padded, padded-in, padded-out}
use Rattle.body_bytes.proofs.Laws.Fine.{Fine, not-refused}

-- a list of 64 places that is f below n and d from there on
padded-is : {A : Type 0} (d : A) (n : ℕ) (f : ℕ → A) (l : List A) → length l ≡ 64 → ((v : ℕ) → v < n → get_or l v d ≡ f v) → ((v : ℕ) → n ≤ v → get_or l v d ≡ d)
    → l ≡ padded d n f
padded-is {A} d n f l e low high = ext_get_or d l (padded d n f) (e ∙ sym (length-padded d n f)) each
  where
    each : (v : ℕ) → v < length l → get_or l v d ≡ get_or (padded d n f) v d
    each v h =
        ⊎_elim
        (λ (b : v < n). low v b ∙ sym (padded-in d n f v b (omega (arith, e))))
        (λ (b : n ≤ v). high v b ∙ sym (padded-out d n f v b))
        (split v n)

-- the fields of bs are the numbers of t, a table whose live slots are "0..n−1"
pub record States (n : ℕ) (bs : List ℕ) (t : State) : Type 0 where
  pub size : length bs ≡ 5 + 9 * n + 9 * ties t
  pub live : t.live ≡ 2 ^ n - 1
  pub zero : mark_of bs ≡ cond t.zero 1 0
  pub power : t.power.0 ≡ power_of bs
  pub phase : t.form.phase.0 ≡ phase_of bs
  pub turn : (v : ℕ) → v < n → turn t v ≡ turn_of bs v
  pub row : (v : ℕ) → v < n → row t v ≡ row_of n bs v
  pub count : ties t ≡ tie_count n bs
  pub tie : (j : ℕ) → j < ties t → tie t j ≡ mask_of n bs j
  pub side : (j : ℕ) → j < ties t → side t j ≡ side_of n bs j

module _ (n : ℕ) (bs : List ℕ) (t : State) (m : Normal t) (s : States n bs t) where
  turns-are : t.form.turns ≡ padded (quarter 0) n (quarter_of bs)
  unfolding turn_at
  turns-are =
      padded-is (quarter 0) n (quarter_of bs) t.form.turns m.proper.turns-are (λ v h. ap quarter (s.turn v h)) (λ v h. ap quarter (m.free-turn v (free-from t m n s.live v h)))

  signs-are : t.form.signs ≡ padded 0 n (row_of n bs)
  unfolding row_at
  signs-are = padded-is 0 n (row_of n bs) t.form.signs m.proper.signs-are s.row (λ v h. m.free-row v (free-from t m n s.live v h))

  masks-are : t.ties.masks ≡ padded 0 (tie_count n bs) (mask_of n bs)
  unfolding mask_at
  masks-are =
      padded-is 0 (tie_count n bs) (mask_of n bs) t.ties.masks m.reduced.masks-are
      (λ j h. s.tie j (omega (arith, s.count)))
      (λ j h. m.reduced.unused-mask j (omega (arith, s.count)))

  sides-are : t.ties.sides ≡ padded 0 (tie_count n bs) (side_of n bs)
  unfolding side_at
  sides-are =
      padded-is 0 (tie_count n bs) (side_of n bs) t.ties.sides m.reduced.sides-are
      (λ j h. s.side j (omega (arith, s.count)))
      (λ j h. m.reduced.unused-side j (omega (arith, s.count)))

  zero-back : (b : Bool) → b ≡ eqb (cond b 1 0) 1
  zero-back true = refl
  zero-back false = refl

  zero-small : (b : Bool) → cond b 1 0 < 2
  zero-small true = omega arith
  zero-small false = omega arith

  marked : t.zero ≡ eqb (mark_of bs) 1
  marked = zero-back t.zero ∙ ap (λ (k : ℕ). eqb k 1) (sym s.zero)

  pub stated : t ≡ table_of n bs
  unfolding table_of form_of ties_of
  stated = λ i. record {
    zero = marked i;
    power = record { 0 = s.power i };
    live = s.live i;
    form = record { phase = record { 0 = s.phase i }; turns = turns-are i; signs = signs-are i };
    ties = record { count = s.count i; masks = masks-are i; sides = sides-are i };
  }

  -- a body that states t is not refused by 11
  pub stated-fine : n ≤ 64 → ties t ≤ n → Fine n bs
  stated-fine w f = record {
    narrow = w;
    few = omega (arith, s.count);
    size = s.size ∙ ap (λ (k : ℕ). 5 + 9 * n + 9 * k) s.count;
    mark = subst (λ (k : ℕ). k < 2) (sym s.zero) (zero-small t.zero);
    phase = subst (λ (c : ℕ). c < 8) s.phase m.proper.phase-range;
    power = subst InRange s.power m.power-range;
    turn = λ v h. subst (λ (a : ℕ). a < 4) (s.turn v h) (m.proper.turn-range v);
    row = λ v h. subst (λ (r : ℕ). r < 2 ^ n) (s.row v h) (row_low t m n s.live v);
    mask = λ j h. subst (λ (r : ℕ). r < 2 ^ n) (s.tie j (omega (arith, s.count))) (tie-low t m n s.live j);
    side = λ j h. subst (λ (r : ℕ). r < 2) (s.side j (omega (arith, s.count))) (m.reduced.side-range j);
  }

  -- and is read as t
  pub stated-read : n ≤ 64 → ties t ≤ n → (r : Reading) → Reads n bs r → r ≡ reading accepted t
  stated-read w f r a = a.sound (not-refused n bs (stated-fine w f)) (subst Normal stated m) ∙ ap (reading accepted) (sym stated)
