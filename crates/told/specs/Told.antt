-- What stands behind the pointers that a call for C is lent, once it has told an amount, a chance, an answer or a body; n is the number that it answers, 0 for none.
use Rattle.std.specs.Prelude.{◌≡◌, ℕ, ℤ, pos, Result, Ok, Err}
use Rattle.std.specs.Int.Count.{ones}
use Rattle.exact.specs.declared.Amount.{Amount}
use Rattle.exact.specs.declared.Amount.TheVariants.{Zero, Some}
use Rattle.exact.specs.declared.Refusal.{Refusal}
use Rattle.exact.specs.Code.{code_of}
use Rattle.exact.specs.Refusal.{accepted}
use Rattle.exact.specs.declared.Chance.{Chance}
use Rattle.exact.specs.declared.Chance.TheVariants.{Never, OneOver}
use Rattle.exact.specs.Chance.{chance_amount}
use Rattle.state.specs.Entry.{ties}
use Rattle.book_bodies.specs.declared.Said.TheVariants.{Refused, Circuit, Record, Whole}
use Rattle.book_bodies.specs.declared.Body.{Body}
use Rattle.book_bodies.specs.Answer.{said_number}
use Rattle.listing_line.specs.Line.{table_amount}

-- ---- an amount as three numbers
-- 1 for zero, or else 0
abbrev pub zero_of : Amount → ℕ
zero_of Zero = 1
zero_of (Some s c) = 0

-- the power, 0 for zero
abbrev pub power_told : Amount → ℤ
power_told Zero = pos 0
power_told (Some s c) = s.0

-- the phase, 0 for zero
abbrev pub phase_told : Amount → ℕ
phase_told Zero = 0
phase_told (Some s c) = c.0

-- what stands behind the three pointers
pub record Told : Type 0 where
  pub zero : ℕ
  pub power : ℤ
  pub phase : ℕ

abbrev pub behind : ℕ → ℤ → ℕ → Told
behind z s c = record { zero = z; power = s; phase = c }

abbrev pub told : Amount → Told
told a = behind (zero_of a) (power_told a) (phase_told a)

-- ---- an answer that may be refused, by any number
-- a refusal by its number
abbrev pub numbered : {A : Type 0} → Result A Refusal → Result A ℕ
numbered (Ok a) = Ok a
numbered (Err r) = Err (code_of r)

-- the number of refusal, 0 for none
abbrev pub number_in : {A : Type 0} → Result A ℕ → ℕ
number_in (Ok a) = accepted
number_in (Err k) = k

-- ---- an answer
-- an answer told: refused by its number, with the three as they were; or its amount
pub record AnswerTold (a : Result Amount ℕ) (before : Told) (n : ℕ) (after : Told) : Type 0 where
  pub number : n ≡ number_in a
  pub kept : (k : ℕ) → a ≡ Err k → after ≡ before
  pub given : (m : Amount) → a ≡ Ok m → after ≡ told m

-- ---- a chance as two numbers
-- what stands behind the two pointers
pub record Odds : Type 0 where
  pub never : ℕ
  pub power : ℕ

abbrev pub odds : ℕ → ℕ → Odds
odds n e = record { never = n; power = e }

-- "none, or one over two to a power": 1 and 0 for none, or else 0 and that power
abbrev pub told_chance : Chance → Odds
told_chance Never = odds 1 0
told_chance (OneOver e) = odds 0 e

-- a record's answer told: refused by its number, with the two as they were; or its chance
pub record ChanceTold (a : Result Chance ℕ) (before : Odds) (n : ℕ) (after : Odds) : Type 0 where
  pub number : n ≡ number_in a
  pub kept : (k : ℕ) → a ≡ Err k → after ≡ before
  pub given : (c : Chance) → a ≡ Ok c → after ≡ told_chance c

-- ---- a body of a book
-- what stands behind the six pointers
pub record Shown : Type 0 where
  pub kind : ℕ
  pub live : ℕ
  pub ties : ℕ
  pub amount : Told

abbrev pub three : ℕ → ℕ → ℕ → Told → Shown
three k l m u = record { kind = k; live = l; ties = m; amount = u }

abbrev pub six : ℕ → ℕ → ℕ → ℕ → ℤ → ℕ → Shown
six k l m z s c = three k l m (behind z s c)

abbrev pub shown : ℕ → ℕ → ℕ → Amount → Shown
shown k l m a = three k l m (told a)

-- "kind (1 circuit, 2 table)", "Body kind 3 in edition 2": refused by its number, with the six as they were; or a circuit's amplitude; or a record's chance as an amount; or a table's live bits, ties and amount
pub record BodyTold (b : Body) (before : Shown) (n : ℕ) (after : Shown) : Type 0 where
  pub number : n ≡ said_number b.said
  pub kept : (k : ℕ) → b.said ≡ Refused k → after ≡ before
  pub circuit : (a : Amount) → b.said ≡ Circuit a → after ≡ shown 1 0 0 a
  pub recorded : (c : Chance) → b.said ≡ Record c → after ≡ shown 3 0 0 (chance_amount c)
  pub table : b.said ≡ Whole → after ≡ shown 2 (ones b.table.live) (ties b.table) (table_amount b.table)
