-- Numbers of bytes as the readers and writers state them.
use Rattle.std.specs.Prelude.{◌≡◌, List, [], ◌∷◌, ℕ, ◌+◌, ◌*◌, ◌^◌, ◌≤◌, ◌<◌, length}
use Rattle.fields.specs.Bytes.{number, front}

-- the number whose bytes, the lowest first, those are
unfoldable pub of_le : List ℕ → ℕ
of_le [] = 0
of_le (b ∷ bs) = b + 256 * of_le bs

-- r is the number of k bytes at a place of bs
pub record Stated (k : ℕ) (bs : List ℕ) (at r : ℕ) : Type 0 where
  pub is : r ≡ number k bs at
  pub small : r < 256 ^ k

-- ys is xs with the k bytes bs over its front, and xs itself where it is shorter
pub record Put (k : ℕ) (bs xs ys : List ℕ) : Type 0 where
  pub fits : k ≤ length xs → ys ≡ front xs bs
  pub short : length xs < k → ys ≡ xs
