-- What the tests of a new body and of room answer.
use Rattle.std.specs.Prelude.{true, false, List, [], ◌∷◌, ◌≡◌, ℕ, ltb}
use Rattle.exact.specs.Refusal.{bad_contents, area_short, first, ◌gives◌}
use Rattle.contents.specs.Contents.{good_kind}
use Rattle.book_bodies.specs.Number.{OwnNumber}

-- "10 for a bad kind, the body's own"
pub record NewNumber (e kind n : ℕ) (bs : List ℕ) (k : ℕ) : Type 0 where
  pub bad : good_kind e kind ≡ false → k ≡ bad_contents
  pub own : good_kind e kind ≡ true → OwnNumber e kind n bs k

-- "10 for 60,000, 13 for the area"
abbrev pub room_number : ℕ → ℕ → ℕ
room_number room size = first ((ltb 60000 size gives bad_contents) ∷ (ltb room size gives area_short) ∷ [])
