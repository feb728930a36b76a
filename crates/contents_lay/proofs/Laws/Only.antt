-- No second result: laying header and contents has one answer and one area.
use mathlib.Core.Path.{◌≡◌, sym, ◌∙◌}
use mathlib.Core.List.{List}
use Prim.Native.Nat.{ℕ}
use Rattle.contents_lay.specs.Lay.{Written, ContentsLaid}

module _ (xs : List ℕ) (ed : ℕ) (ks ws ls : List ℕ) where
  pub one-laid : (r r' : Written) (ys ys' : List ℕ) → ContentsLaid xs ed ks ws ls r ys → ContentsLaid xs ed ks ws ls r' ys' → (r ≡ r') × (ys ≡ ys')
  one-laid r r' ys ys' a b = (a.answer ∙ sym b.answer, a.area ∙ sym b.area)
