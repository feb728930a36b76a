-- Text that is filled up to a width.
use Rattle.std.specs.Prelude.{ℕ, ◌-◌, List, ◌++◌, length, replicate}

-- zeros, as many as the text is short of the width, and the text
abbrev pub zero_padded : ℕ → List ℕ → List ℕ
zero_padded width text = replicate (width - length text) 48 ++ text
