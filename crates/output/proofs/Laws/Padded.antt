-- What a hole with a `0` and a width shows of a number is its digits behind zeros.
use Rattle.std.proofs.Common.{false, ◌≡◌, ℕ, List, [], arith}
use Rattle.std.proofs.lemmas.Grind.{common_steps}
use Rattle.std.specs.Fmt.{format_spec, padded_integral, char_count}
use Rattle.output.specs.Inner.Padded.{zero_padded}

pub zeros_in_front : (w : ℕ) (text : List ℕ) → padded_integral (format_spec 32 0 4 w 18446744073709551615) false [] text ≡ zero_padded w text
unfolding padded_integral char_count
zeros_in_front w text = grind (arith, common_steps)
