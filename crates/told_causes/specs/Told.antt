-- What C is told of a fault: its body, item, byte and cause, each as a number.
use Rattle.std.specs.Prelude.{List, ◌≡◌, ℕ, Option, Some, None, Ok, Err}
use Rattle.cause.specs.declared.Cause.{Cause}
use Rattle.cause.specs.declared.Cause.TheVariants.{Short, Long, Letters, Edition, Count, Contents, Kind, Start, End, LastEnd, NoBody, Strings, Threes, Many, Wires, Input, Output, Code, Wire, SecondWire, SameWire, SecondByte, Outcome, NoCount, Stray, Deep, Unopened, Empty, Unclosed, Expansion, TableWidth, Length, ManyTies, ZeroMark, Phase, PowerOut, Turn, Row, Mask, Side, NotNormal}
use Rattle.cause_book.specs.Why.{Why, why_number, BookWhy, BodyWhy}

-- the causes by their numbers, in the order in which they are listed
abbrev pub code_of : Cause → ℕ
code_of Short = 1
code_of Long = 2
code_of Letters = 3
code_of Edition = 4
code_of Count = 5
code_of Contents = 6
code_of Kind = 7
code_of Start = 8
code_of End = 9
code_of LastEnd = 10
code_of NoBody = 11
code_of Strings = 12
code_of Threes = 13
code_of Many = 14
code_of Wires = 15
code_of Input = 16
code_of Output = 17
code_of Code = 18
code_of Wire = 19
code_of SecondWire = 20
code_of SameWire = 21
code_of SecondByte = 22
code_of Outcome = 23
code_of NoCount = 24
code_of Stray = 25
code_of Deep = 26
code_of Unopened = 27
code_of Empty = 28
code_of Unclosed = 29
code_of Expansion = 30
code_of TableWidth = 31
code_of Length = 32
code_of ManyTies = 33
code_of ZeroMark = 34
code_of Phase = 35
code_of PowerOut = 36
code_of Turn = 37
code_of Row = 38
code_of Mask = 39
code_of Side = 40
code_of NotNormal = 41

-- what stands behind the four pointers
pub record Four : Type 0 where
  pub body : ℕ
  pub item : ℕ
  pub byte : ℕ
  pub cause : ℕ

abbrev pub four : ℕ → ℕ → ℕ → ℕ → Four
four b i p k = record { body = b; item = i; byte = p; cause = k }

-- "count k (0..16)": no body has the number 16, which stands for none
abbrev pub no_one : ℕ
no_one = 16

abbrev pub body_told : Option ℕ → ℕ
body_told None = no_one
body_told (Some j) = j

-- what stands behind the pointers: without a fault the body that was asked for, or none, and zeros
abbrev pub four_of : ℕ → Why → Four
four_of asked (Ok u) = four asked 0 0 0
four_of asked (Err r) = four (body_told r.body) r.fault.item r.fault.byte (code_of r.fault.cause)

-- n is the number of a fault, and f stands behind the pointers
pub record WhyTold (asked : ℕ) (w : Why) (n : ℕ) (f : Four) : Type 0 where
  pub number : n ≡ why_number w
  pub told : f ≡ four_of asked w

-- why a book is refused, told
pub record BookTold (bs : List ℕ) (n : ℕ) (f : Four) : Type 0 where
  pub why : Why
  pub is : BookWhy bs why
  pub told : WhyTold no_one why n f

-- why body j of a book is refused, told
pub record BodyTold (bs : List ℕ) (j n : ℕ) (f : Four) : Type 0 where
  pub why : Why
  pub is : BodyWhy bs j why
  pub told : WhyTold j why n f
