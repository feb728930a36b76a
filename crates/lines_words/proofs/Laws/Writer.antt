-- The laws of a writer: it lays one text after another, in the area that it was given. By those of text laid over an area.
use mathlib.Core.Path.{◌≡◌, refl, ap, ap₂, ◌∙◌, subst}
use mathlib.Core.List.{List, [], ◌∷◌, ◌++◌}
use Prim.Native.Nat.{ℕ, ◌+◌, ◌≤◌, ◌<◌, min}
use native.Mathlib.Omega.{arith}
use lib.ListN.{length, get_or, take, set}
use Rattle.lines_words.specs.Overlay.{overlaid, top, place_behind, TextLaid}
use Rattle.lines_words.specs.Inner.Writer.{Lays}
use Rattle.lines_words.specs.declared.Text.{Text}
use Rattle.lines_words.proofs.Laws.Laid.{laid_none, laid_more, laid-text, laid_next}

-- a byte is stored, or dropped beyond the end
pub lays-byte : {t : Text} {b r : ℕ} (u : Text) → u.area.ghost_name ≡ t.area.ghost_name → u.area.now ≡ set t.area.now t.at b → r ≡ min (t.at + 1) top → Lays t (b ∷ []) (record { area = u.area; at = r })
unfolding overlaid place_behind
lays-byte u same stored place = record { same = same; laid = record { area = stored; place = place } }

pub lays_none : (t : Text) → t.at ≤ top → Lays t [] t
lays_none t h = record { same = refl; laid = laid_none _ _ h }

pub lays_more : {t u v : Text} {bs cs : List ℕ} → length t.area.now ≤ top → Lays t bs u → Lays u cs v → Lays t (bs ++ cs) v
lays_more h l m = record { same = m.same ∙ l.same; laid = laid_more h l.laid m.laid }

pub lays-from : {t u v : Text} {bs : List ℕ} → u ≡ t → Lays u bs v → Lays t bs v
lays-from {t} {u} {v} {bs} e l = subst (λ (w : Text). Lays w bs v) e l

pub lays-text : {t u : Text} {bs cs : List ℕ} → bs ≡ cs → Lays t bs u → Lays t cs u
lays-text e l = record { same = l.same; laid = laid-text e l.laid }

pub lays_next : (ws : List ℕ) (i : ℕ) {t u v : Text} → length t.area.now ≤ top → i < length ws → Lays t (take i ws) u → Lays u (get_or ws i 0 ∷ []) v → Lays t (take (i + 1) ws) v
lays_next ws i h l m n = record { same = n.same ∙ m.same; laid = laid_next ws i h l m.laid n.laid }

-- the place stays one
pub lays-within : {t u : Text} {text : List ℕ} → Lays t text u → u.at ≤ top
unfolding place_behind
lays-within l = omega (arith, l.laid.place)

-- what was laid by a writer that began at an area's front stands there, up to its place
pub lays-front : {t u : Text} {xs ys text : List ℕ} {r : ℕ} → (t.area.now ≡ xs) × (t.at ≡ 0) → ys ≡ u.area.now → r ≡ u.at → Lays t text u → TextLaid xs 0 text ys r
lays-front {t} {u} {xs} {ys} {text} b e p l = record {
  area = e ∙ l.laid.area ∙ ap₂ (λ (zs : List ℕ) (at : ℕ). overlaid zs at text) b.0 b.1;
  place = p ∙ l.laid.place ∙ ap (λ (at : ℕ). place_behind at text) b.1;
}
