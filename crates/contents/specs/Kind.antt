-- The kinds of a body, by the number that an entry states.
use Rattle.std.specs.Prelude.{◌≡◌, ◌≢◌, ℕ, Result, MatchResult}
use Rattle.exact.specs.declared.Refusal.{Refusal}
use Rattle.exact.specs.declared.Refusal.TheVariants.{BadContents}
pub use Rattle.contents.specs.declared.Kind.{Kind}
pub use Rattle.contents.specs.declared.Kind.TheVariants.{Circuit, Table, Record}

-- "kind (1 circuit, 2 table)"; "Body kind 3 in edition 2"
abbrev pub kind_number : Kind → ℕ
kind_number Circuit = 1
kind_number Table = 2
kind_number Record = 3

-- r is the kind of this number, or 10 where none has it
abbrev pub StatesKind : ℕ → Result Kind Refusal → Type 0
StatesKind k r = MatchResult r (λ kind. kind_number kind ≡ k) (λ e. (e ≡ BadContents) × (k ≢ 1) × (k ≢ 2) × (k ≢ 3))
