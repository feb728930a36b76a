-- What is known of a mark that is not at fault.
use Rattle.std.specs.Prelude.{◌≢◌, ◌≡◌, ℕ, ◌≤◌}
use Rattle.cause_blocks.specs.declared.Scan.{Scan}

pub record Steps (code : ℕ) (s : Scan) : Type 0 where
  pub few : s.more ≤ 8
  pub room : code ≡ 64 → s.more ≢ 0
  pub open-one : code ≡ 65 → s.more ≢ 8
