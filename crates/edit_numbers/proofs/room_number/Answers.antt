-- `room_number` meets its contract: by the tests; a body that is itself too long makes a book that is.
use native.Mathlib.Omega.{arith}
use Prim.Native.Nat.{◌+◌}
use Rattle.edit_numbers.proofs.Laws.Order.{room-long, room-short, room-none}
use Rattle.edit_numbers.proofs.room_number.Goals as goal

pub returns-then-more-gt-MOST_BYTES : goal.returns-then-more-gt-MOST_BYTES
returns-then-more-gt-MOST_BYTES c = let a = c.args in room-long a.room (a.kept + a.more) (omega arith)

pub returns-then-size-gt-MOST_BYTES : goal.returns-then-size-gt-MOST_BYTES
returns-then-size-gt-MOST_BYTES c = let a = c.args in room-long a.room (a.kept + a.more) (omega arith)

pub returns-then-size-room : goal.returns-then-size-room
returns-then-size-room c = let a = c.args in room-short a.room (a.kept + a.more) (omega arith) (omega arith)

pub returns : goal.returns
returns c = let a = c.args in room-none a.room (a.kept + a.more) (omega arith) (omega arith)
