-- What the calls for C on tableaux put behind the pointers that they are lent.
use Rattle.std.specs.Prelude.{List, ◌≢◌, ◌≡◌, ℕ, ◌<◌, length}
use Rattle.exact.specs.Refusal.{accepted}
use Rattle.gates.specs.Circuit.{gates_of}
use Rattle.tableau_pauli.specs.Tableau.{Leuven}
use Rattle.tableau.specs.Check.{tableau_number}
use Rattle.tableau.specs.Pair.{pair_number, Written}

-- n is the number that a check answers, 0 for none: refused, with the flag as it was; or a flag that is 1 exactly where Eq. 16 holds, and else 0
pub record VerdictTold (e width : ℕ) (bs masks : List ℕ) (h before n after : ℕ) : Type 0 where
  pub number : n ≡ tableau_number e width bs masks h
  pub kept : tableau_number e width bs masks h ≢ accepted → after ≡ before
  pub flag : tableau_number e width bs masks h ≡ accepted → after < 2
  pub yes : tableau_number e width bs masks h ≡ accepted → after ≡ 1 → Leuven width (gates_of e width bs) masks h
  pub no : tableau_number e width bs masks h ≡ accepted → after ≡ 0 → Leuven width (gates_of e width bs) masks h → ⊥

-- n is the number that a pair asked for answers: refused, with list and signs as they were; or written
pub record PairTold (e width : ℕ) (bs before : List ℕ) (signs n : ℕ) (after : List ℕ) (h : ℕ) : Type 0 where
  pub number : n ≡ pair_number e width bs (length before)
  pub kept : pair_number e width bs (length before) ≢ accepted → (after ≡ before) × (h ≡ signs)
  pub written : pair_number e width bs (length before) ≡ accepted → Written e width bs before h after
