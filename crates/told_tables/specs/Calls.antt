-- What each call for C promises that changes a table: the bytes before and after, and what stands behind its other pointers; n is the number that it answers, 0 for none.
use Rattle.std.specs.Prelude.{List, ◌≢◌, ◌≡◌, ℕ, ℤ, length}
use Rattle.exact.specs.Refusal.{accepted, area_short}
use Rattle.state.specs.declared.Rule.{Rule}
use Rattle.state.specs.declared.Rule.TheVariants.{None, Tied, Odd, NewTie, Free, Vanished}
use Rattle.table.specs.Normal.{fresh}
use Rattle.table.specs.declared.Changed.{Changed}
use Rattle.table.specs.declared.Opened.{Opened}
use Rattle.table.specs.declared.Summed.{Summed}
use Rattle.table.specs.Answers.{NewBit, TurnCall, ScaleCall, TieCall, SumCall, FixCall}
use Rattle.image.specs.Image.{image_size}
use Rattle.told_tables.specs.Called.{bytes_of, Called}

-- "Fresh: no live bits, entry 1.": whatever the bytes were; 13 where they are not 1,293
pub record FreshTold (xs : List ℕ) (n : ℕ) (ys : List ℕ) : Type 0 where
  pub short : length xs ≢ image_size → n ≡ area_short
  pub kept : length xs ≢ image_size → ys ≡ xs
  pub number : length xs ≡ image_size → n ≡ accepted
  pub done : length xs ≡ image_size → ys ≡ bytes_of fresh

-- the bytes and a number behind a pointer
pub record Beside : Type 0 where
  pub bytes : List ℕ
  pub number : ℕ

abbrev pub beside : List ℕ → ℕ → Beside
beside xs k = record { bytes = xs; number = k }

-- a new bit with a label, and its slot
abbrev pub NewBitTold : List ℕ → ℕ → ℕ → ℕ → List ℕ → ℕ → Type 0
NewBitTold xs l before n ys after = Called xs (λ t. NewBit t l) (λ (r : Opened). r.refusal) (λ r. beside (bytes_of r.table) r.slot.0) (beside xs before) n (beside ys after)

abbrev pub TurnTold : List ℕ → ℕ → ℕ → ℕ → ℕ → List ℕ → Type 0
TurnTold xs u v k n ys = Called xs (λ t. TurnCall t u v k) (λ (r : Changed). r.refusal) (λ r. bytes_of r.table) xs n ys

abbrev pub ScaleTold : List ℕ → ℤ → ℕ → ℕ → List ℕ → Type 0
ScaleTold xs m p n ys = Called xs (λ t. ScaleCall t m p) (λ (r : Changed). r.refusal) (λ r. bytes_of r.table) xs n ys

abbrev pub TieTold : List ℕ → ℕ → ℕ → ℕ → List ℕ → Type 0
TieTold xs m b n ys = Called xs (λ t. TieCall t m b) (λ (r : Changed). r.refusal) (λ r. bytes_of r.table) xs n ys

abbrev pub FixTold : List ℕ → ℕ → ℕ → ℕ → List ℕ → Type 0
FixTold xs v b n ys = Called xs (λ t. FixCall t v b) (λ (r : Changed). r.refusal) (λ r. bytes_of r.table) xs n ys

-- the case that applied, as include/topazfern.h counts them
abbrev pub rule_told : Rule → ℕ
rule_told None = 0
rule_told Tied = 1
rule_told Odd = 2
rule_told NewTie = 3
rule_told Free = 4
rule_told Vanished = 5

-- a slot summed, and the case that applied
abbrev pub SumTold : List ℕ → ℕ → ℕ → ℕ → List ℕ → ℕ → Type 0
SumTold xs v before n ys after = Called xs (λ t. SumCall t v) (λ (r : Summed). r.refusal) (λ r. beside (bytes_of r.table) (rule_told r.rule)) (beside xs before) n (beside ys after)
