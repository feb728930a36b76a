-- What the calls for C on the numbers of elements put behind the pointer that they are lent.
use Rattle.std.specs.Prelude.{◌≢◌, ◌≡◌, ℕ, ◌<◌}
use Rattle.exact.specs.Refusal.{accepted}

-- n is the number that a call answers, 0 for none: refused, with the element as it was; or one of "the 24 elements", with P
pub record ElementTold (refusal : ℕ) (P : ℕ → Type 0) (before n after : ℕ) : Type 0 where
  pub number : n ≡ refusal
  pub kept : refusal ≢ accepted → after ≡ before
  pub element : refusal ≡ accepted → after < 24
  pub given : refusal ≡ accepted → P after
