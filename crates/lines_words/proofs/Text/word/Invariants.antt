-- `word` meets its contract: the invariant says that the word's first bytes are laid.
use Prim.Native.Nat.{◌≤◌}
use lib.ListN.{length, take}
use Rattle.lines_words.specs.Inner.Writer.{Lays}
use Rattle.lines_words.proofs.Text.word.Given as goal

abbrev pub invariant-loop-b : goal.invariant-loop-b
invariant-loop-b l = (l.b-index ≤ length l.word) × Lays l.initial.self (take l.b-index l.word) l.self
