-- A circuit's answer, and a record's, as they are said of a body.
use Rattle.std.specs.Prelude.{Result, Ok, Err}
use Rattle.exact.specs.declared.Amount.{Amount}
use Rattle.exact.specs.declared.Chance.{Chance}
use Rattle.exact.specs.declared.Refusal.{Refusal}
use Rattle.exact.specs.Code.{code_of}
use Rattle.book_bodies.specs.declared.Said.{Said}
use Rattle.book_bodies.specs.declared.Said.TheVariants.{Refused, Circuit, Record}

abbrev pub said_of : Result Amount Refusal → Said
said_of (Ok a) = Circuit a
said_of (Err r) = Refused (code_of r)

abbrev pub said_told : Result Chance Refusal → Said
said_told (Ok c) = Record c
said_told (Err r) = Refused (code_of r)
