-- The fields of a table's body as bytes, where its live slots are the lowest.
use Rattle.std.specs.Prelude.{Bool, cond, List, [], ◌∷◌, ◌++◌, ℕ, zero, suc, ◌-◌, ℤ, pos, negsuc}
use Rattle.fields.specs.Bytes.{le}

-- f 0, behind it f 1, .., behind it f (n − 1)
unfoldable pub joined : ℕ → (ℕ → List ℕ) → List ℕ
joined zero f = []
joined (suc n) f = joined n f ++ f n

-- the zero mark as a byte
abbrev pub mark : Bool → ℕ
mark zeroed = cond zeroed 1 0

-- "s (16 bits, two's complement)": a negative number is counted down from 65,536
unfoldable pub of_signed16 : ℤ → ℕ
of_signed16 (pos n) = n
of_signed16 (negsuc n) = 65536 - suc n

-- "zero mark, c, s (16 bits, two's complement)"
unfoldable pub head_bytes : Bool → ℕ → ℤ → List ℕ
head_bytes zeroed c s = (mark zeroed ∷ c ∷ []) ++ le 2 (of_signed16 s)

-- "for each tie an 8-byte mask and r"
unfoldable pub tie_bytes : ℕ → ℕ → List ℕ
tie_bytes m r = le 8 m ++ (r ∷ [])

-- "zero mark, c, s (16 bits, two's complement), n bytes a, n rows of 8 bytes b (bit u of row v is b_uv), tie count, then for each tie an 8-byte mask and r"
unfoldable pub field_bytes : Bool → ℕ → ℤ → ℕ → (ℕ → ℕ) → (ℕ → ℕ) → ℕ → (ℕ → ℕ) → (ℕ → ℕ) → List ℕ
field_bytes zeroed c s n a b k m r =
    (((head_bytes zeroed c s ++ joined n (λ i. a i ∷ [])) ++ joined n (λ i. le 8 (b i))) ++ (k ∷ [])) ++ joined k (λ j. tie_bytes (m j) (r j))
