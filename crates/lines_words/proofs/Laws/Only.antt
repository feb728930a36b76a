-- No second result: a text laid over an area leaves one area and one place.
use mathlib.Core.Path.{◌≡◌, sym, ◌∙◌}
use mathlib.Core.List.{List}
use Prim.Native.Nat.{ℕ}
use Rattle.lines_words.specs.Overlay.{TextLaid}

pub one-overlay : {xs text ys zs : List ℕ} {at p q : ℕ} → TextLaid xs at text ys p → TextLaid xs at text zs q → (ys ≡ zs) × (p ≡ q)
one-overlay l m = (l.area ∙ sym m.area, l.place ∙ sym m.place)
