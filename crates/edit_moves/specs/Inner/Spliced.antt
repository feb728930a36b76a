-- An area whose book closes up around a new body, place by place.
use Rattle.std.specs.Prelude.{◌≡◌, List, ◌⊎◌, ℕ, ◌+◌, ◌-◌, ◌≤◌, ◌<◌, length, get_or}

-- where the new body goes, where it ends, and where the book ends
abbrev pub placed : ℕ → ℕ → ℕ → ℕ
placed old new from = new + (from - old)

abbrev pub behind : ℕ → ℕ → ℕ → List ℕ → ℕ
behind old new from body = placed old new from + length body

abbrev pub ending : ℕ → ℕ → ℕ → ℕ → ℕ → List ℕ → ℕ
ending n old new from to body = behind old new from body + (n - to)

-- the parts lie in order within the book, the result within the area, and the first part's new place leaves the last part as it is
pub record Spliceable (xs : List ℕ) (n old new from to : ℕ) (body : List ℕ) : Type 0 where
  pub first : old ≤ from
  pub gone : from ≤ to
  pub last : to ≤ n
  pub area : n ≤ length xs
  pub room : ending n old new from to body ≤ length xs
  pub apart : (placed old new from ≤ to) ⊎ (n ≤ to)

pub record Spliced (xs : List ℕ) (n old new from to : ℕ) (body ys : List ℕ) : Type 0 where
  pub long : length ys ≡ length xs
  pub ahead : (p : ℕ) → new ≤ p → p < placed old new from → get_or ys p 0 ≡ get_or xs (old + (p - new)) 0
  pub here : (p : ℕ) → placed old new from ≤ p → p < behind old new from body → get_or ys p 0 ≡ get_or body (p - placed old new from) 0
  pub rest : (p : ℕ) → behind old new from body ≤ p → p < ending n old new from to body → get_or ys p 0 ≡ get_or xs (to + (p - behind old new from body)) 0
  pub zeros : (p : ℕ) → ending n old new from to body ≤ p → p < n → get_or ys p 0 ≡ 0
  pub stays : (p : ℕ) → (p < new) ⊎ ((n ≤ p) × (ending n old new from to body ≤ p)) → get_or ys p 0 ≡ get_or xs p 0
