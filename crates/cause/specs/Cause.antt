-- The causes of the numbers of refusal, each with its number, and the first fault of a list of tests.
use Rattle.std.specs.Prelude.{Bool, cond, List, [], ◌∷◌, ℕ, zero, suc, Result, Ok, Err}
use Rattle.exact.specs.Refusal.{accepted, twice, out_of_range, bad_wire, unknown_code, bad_string, bad_header, bad_contents, bad_body, not_normal, no_body, bad_block}
pub use Rattle.cause.specs.declared.Cause.{Cause}
pub use Rattle.cause.specs.declared.Cause.TheVariants.{Short, Long, Letters, Edition, Count, Contents, Kind, Start, End, LastEnd, NoBody, Strings, Threes, Many, Wires, Input, Output, Code, Wire, SecondWire, SameWire, SecondByte, Outcome, NoCount, Stray, Deep, Unopened, Empty, Unclosed, Expansion, TableWidth, Length, ManyTies, ZeroMark, Phase, PowerOut, Turn, Row, Mask, Side, NotNormal}
pub use Rattle.cause.specs.declared.Found.{Found}

-- ---- the number of each cause
unfoldable pub number_of : Cause → ℕ
-- 9: "book shorter than 4"
number_of Short = bad_header
-- 9: "longer than 60,000 bytes"
number_of Long = bad_header
-- 9: "wrong letters"
number_of Letters = bad_header
-- 9: "9 for an edition other than 1 or 2"
number_of Edition = bad_header
-- 9: "count k (0..16)"
number_of Count = bad_header
-- 10: "contents too short"
number_of Contents = bad_contents
-- 10: "kind (1 circuit, 2 table)"; "Body kind 3 in edition 2"
number_of Kind = bad_contents
-- 10: "Bodies follow in order without gaps"
number_of Start = bad_contents
-- 10: "end beyond the book"
number_of End = bad_contents
-- 10: "last end (with no body, the contents' end) not the book's end"
number_of LastEnd = bad_contents
-- 14: "no body of that number"
number_of NoBody = no_body
-- 11: "body length wrong"
number_of Strings = bad_body
-- 11: "gate bytes not in threes"
number_of Threes = bad_body
-- 11: "more than 4,096 gates"
number_of Many = bad_body
-- 6: "width of a circuit not 1..31"
number_of Wires = bad_wire
-- 8: "a string has a bit at or above the width"
number_of Input = bad_string
number_of Output = bad_string
-- 7: "unknown gate code"
number_of Code = unknown_code
-- 6: "a wire not below the width"
number_of Wire = bad_wire
number_of SecondWire = bad_wire
-- 2: "the same slot or wire twice"
number_of SameWire = twice
-- 3: "second byte of a one-wire gate not 0"
number_of SecondByte = out_of_range
-- 3: "3 for another outcome byte"
number_of Outcome = out_of_range
-- 3: "3 for a count of 0 or a stray byte"
number_of NoCount = out_of_range
number_of Stray = out_of_range
-- 16: "a depth above 8"
number_of Deep = bad_block
-- 16: "an unclosed, empty or unopened block"
number_of Unopened = bad_block
number_of Empty = bad_block
number_of Unclosed = bad_block
-- 16: "too long an expansion"
number_of Expansion = bad_block
-- 11: "table width above 64"
number_of TableWidth = bad_body
-- 11: "body length wrong"
number_of Length = bad_body
-- 11: "more ties than n"
number_of ManyTies = bad_body
-- 11: "zero mark or r above 1"
number_of ZeroMark = bad_body
-- 11: "a phase c (0..7)"
number_of Phase = bad_body
-- 11: "s beyond ±2,000"
number_of PowerOut = bad_body
-- 11: "for each slot a turn a_v (0..3)"
number_of Turn = bad_body
-- 11: "a row or mask bit at or above n"
number_of Row = bad_body
number_of Mask = bad_body
-- 11: "zero mark or r above 1"
number_of Side = bad_body
-- 12: "a table handed in or read is not normal"
number_of NotNormal = not_normal

-- ---- no fault, or one
abbrev pub Finding : Type 0
Finding = Result Unit Found

-- a fault: the gate or field at fault, as its item and its byte
abbrev pub found : Cause → ℕ → ℕ → Finding
found c i b = Err (record { cause = c; item = i; byte = b })

-- no fault
abbrev pub sound : Finding
sound = Ok tt

-- its number, 0 where there is none
abbrev pub found_number : Finding → ℕ
found_number (Ok u) = accepted
found_number (Err f) = number_of f.cause

-- ---- the first fault
-- a test and the fault that it finds
pub record Look : Type 0 where
  pub when : Bool
  pub finds : Finding

infix 71 ◌finds◌
abbrev pub ◌finds◌ : Bool → Finding → Look
b finds f = record { when = b; finds = f }

-- what the first test that holds finds: an order of refusals is a list of tests
unfoldable pub first_found : List Look → Finding
first_found [] = sound
first_found (t ∷ ts) = cond t.when t.finds (first_found ts)

-- the first of two, where it is a fault
unfoldable pub or_else : Finding → Finding → Finding
or_else (Ok u) g = g
or_else (Err e) g = Err e

-- the first fault of n things, in order
unfoldable pub first_below : ℕ → (ℕ → Finding) → Finding
first_below zero f = sound
first_below (suc n) f = or_else (first_below n f) (f n)

-- the first fault of several, in their order
unfoldable pub in_order : List Finding → Finding
in_order [] = sound
in_order (f ∷ fs) = or_else f (in_order fs)
