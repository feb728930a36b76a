-- What the call Doubles promises. "Doubles: refused as Entry is; otherwise an entry's value, either plain zero or two doubles"
use Rattle.std.specs.Prelude.{[], ◌≢◌, ◌≡◌, ℕ}
use Rattle.exact.specs.Refusal.{accepted, not_normal}
use Rattle.bits.specs.Mask.{bit}
use Rattle.state.specs.declared.State.{State}
use Rattle.state.specs.Entry.{entry}
use Rattle.state.specs.Normal.{Normal}
use Rattle.state.specs.Number.{entry_number}
use Rattle.doubles.specs.Answer.{Doubles, answer, answer_of}

-- its number is Entry's; refused it has no value, and else that of the entry
pub record DoublesAt (t : State) (x : ℕ) (r : Doubles) : Type 0 where
  pub broken : (Normal t → ⊥) → (answer r).number ≡ not_normal
  pub sound : Normal t → (answer r).number ≡ entry_number t x
  pub none : (answer r).number ≢ accepted → (answer r).values ≡ []
  pub done : (answer r).number ≡ accepted → answer r ≡ answer_of (entry t (bit x))
