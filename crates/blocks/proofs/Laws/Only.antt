-- No second result: a body's reading is one.
use mathlib.Core.Bool.{Bool, true, false, cond}
use mathlib.Core.List.{List}
use mathlib.Core.Path.{◌≡◌, refl, sym, ap, ◌∙◌, subst}
use Prim.Native.Nat.{ℕ}
use Rattle.std.specs.Prelude.{Option, Some, None}
use Rattle.blocks.specs.Expansion.{blocks_fault}
use Rattle.blocks.specs.Inner.Spans.{Whole}

both : (b : Bool) → b ≡ true → b ≡ false → ⊥
both b e f = subst (λ (x : Bool). cond x ⊥ (Unit {0})) (sym f ∙ e) tt

pub one_size : (bs : List ℕ) (r s : Option ℕ) → Whole bs r → Whole bs s → r ≡ s
one_size bs None None R S = refl
one_size bs None (Some k) R S = absurd (both (blocks_fault bs) R S.good)
one_size bs (Some k) None R S = absurd (both (blocks_fault bs) S R.good)
one_size bs (Some k) (Some l) R S = ap Some (R.count ∙ sym S.count)
