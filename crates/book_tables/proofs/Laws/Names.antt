-- A reading named from a first label on, on each way through the code.
use mathlib.Core.Bool.{Bool, true, false}
use mathlib.Core.Path.{◌≡◌, refl, sym, ap, ap₂, ◌∙◌}
use Prim.Native.Nat.{ℕ, ◌+◌, ◌-◌, ◌^◌, ◌≤◌, ◌<◌}
use native.Mathlib.Omega.{arith}
use lib.Count.{ones}
use lib.Dec.{ltb}
use borrow.Author.Tests.{ltb-false}
use Rattle.bits.specs.Mask.{bit}
use Rattle.bits.specs.Inner.Found.{Count}
use Rattle.bits.proofs.Laws.First.{first_bit, first_above}
use Rattle.labels.specs.declared.Labels.{Labels}
use Rattle.labels.specs.Labels.{rising, past_last, Proper}
use Rattle.labels.proofs.Laws.Rising.{proper-rising}
use Rattle.labels.proofs.Laws.Used.{clash}
use Rattle.state.specs.declared.State.{State}
use Rattle.state.specs.Normal.{Normal as NormalState}
use Rattle.body_write.proofs.Laws.First.{ones-first}
use Rattle.body_read.specs.declared.Reading.{Reading as StateReading}
use Rattle.book_bodies.specs.declared.Body.{Body as StateBody}
use Rattle.book_bodies.specs.declared.Said.TheVariants.{Refused}
use Rattle.table.specs.declared.Table.{Table}
use Rattle.table.specs.Normal.{Normal, fresh}
use Rattle.book_tables.specs.Read.{Reading, Body, named, NamesBody, NamesReading}

-- where no label would pass the last one there are labels enough
pub fits : (first n : ℕ) {b : Bool} → b ≡ past_last first n → b ≡ false → first + n ≤ 65536
fits first n e q = ltb-false 65536 (first + n) (sym e ∙ q)

-- what the code counted is how many slots are live
module _ (first n : ℕ) (s : State) (w : Count s.live n) where
  told : {b c : Bool} → b ≡ past_last first n → b ≡ c → past_last first (ones s.live) ≡ c
  told e q = ap (past_last first) (sym w.is) ∙ sym e ∙ q

  labels-of : (ls : Labels) → ls ≡ rising first n → record { state = s; labels = ls } ≡ named first s
  labels-of ls e = ap (λ (m : Labels). of m) (e ∙ ap (rising first) w.is)
    where
      of : Labels → Table
      of m = record { state = s; labels = m }

either : {A : Type 0} {b : Bool} → b ≡ true → b ≡ false → A
either e f = absurd (clash (sym e ∙ f))

module _ (first n : ℕ) (b : StateBody) (w : Count b.table.live n) {p : Bool} (e : p ≡ past_last first n) where
  few : ones b.table.live ≤ 64
  few = omega (arith, w.is, w.bound)

  pub body-past : (t : Table) → p ≡ true → t ≡ fresh → NamesBody first b (record { said = Refused 3; table = t })
  body-past t q f = record { few = few; past = λ h. ap body f; given = λ h. either (told first n b.table w e q) h }
    where
      body : Table → Body
      body s = record { said = Refused 3; table = s }

  pub body-given : (ls : Labels) → p ≡ false → ls ≡ rising first n → NamesBody first b (record { said = b.said; table = record { state = b.table; labels = ls } })
  body-given ls q f = record { few = few; past = λ h. either h (told first n b.table w e q); given = λ h. ap body (labels-of first n b.table w ls f) }
    where
      body : Table → Body
      body s = record { said = b.said; table = s }

module _ (first n : ℕ) (b : StateReading) (w : Count b.table.live n) {p : Bool} (e : p ≡ past_last first n) where
  pub reading-past : (t : Table) → p ≡ true → t ≡ fresh → NamesReading first b (record { refusal = 3; table = t })
  reading-past t q f = record { past = λ h. ap reading f; given = λ h. either (told first n b.table w e q) h }
    where
      reading : Table → Reading
      reading s = record { refusal = 3; table = s }

  pub reading-given : (ls : Labels) → p ≡ false → ls ≡ rising first n → NamesReading first b (record { refusal = b.refusal; table = record { state = b.table; labels = ls } })
  reading-given ls q f = record { past = λ h. either h (told first n b.table w e q); given = λ h. ap reading (labels-of first n b.table w ls f) }
    where
      reading : Table → Reading
      reading s = record { refusal = b.refusal; table = s }

-- a normal state whose live slots are the lowest is a normal table once they are named
pub named-normal : (first n : ℕ) (s : State) → NormalState s → s.live ≡ 2 ^ n - 1 → n ≤ 64 → past_last first (ones s.live) ≡ false → Normal (named first s)
named-normal first n s N live l p = record { state = N; labels = proper }
  where
    count : ones s.live ≡ n
    count = ap ones live ∙ ones-first n

    proper : Proper s.live (rising first (ones s.live))
    proper =
        proper-rising s.live first (ones s.live) (omega (arith, count, l)) (ltb-false 65536 (first + ones s.live) p)
        (λ v k. ap (λ (m : ℕ). bit m v) live ∙ first_bit n v (omega (arith, k, count))) (λ v k. ap (λ (m : ℕ). bit m v) live ∙ first_above n v (omega (arith, k, count)))
