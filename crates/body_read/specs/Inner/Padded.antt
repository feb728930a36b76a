-- What a list of 64 places is, of which the first n are asked of a function.
use Rattle.std.specs.Prelude.{◌≡◌, List, ℕ, ◌≤◌, ◌<◌, length, get_or}

-- 64 places: below n what R says of the index, and d from there on
pub record Padded {A : Type 0} (R : ℕ → A → Type 0) (d : A) (n : ℕ) (l : List A) : Type 0 where
  pub long : length l ≡ 64
  pub asked : (v : ℕ) → v < 64 → v < n → R v (get_or l v d)
  pub rest : (v : ℕ) → v < 64 → n ≤ v → get_or l v d ≡ d
