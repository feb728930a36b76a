-- What the writer of the entries is handed.
use Rattle.std.specs.Prelude.{List, ◌≡◌, ℕ, ◌*◌, ◌≤◌, length}

-- equal lists of at most 16, and room
pub record Entries (part ks ws ls : List ℕ) : Type 0 where
  pub few : length ks ≤ 16
  pub widths : length ws ≡ length ks
  pub lengths : length ls ≡ length ks
  pub room : 8 * length ks ≤ length part
