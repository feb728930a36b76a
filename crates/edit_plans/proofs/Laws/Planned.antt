-- A plan from its fields: the places that the code found are those of the parts.
use mathlib.Core.List.{List}
use mathlib.Core.Logic.{◌⊎◌}
use mathlib.Core.Path.{◌≡◌, sym, subst}
use Prim.Native.Nat.{ℕ, ◌+◌, ◌*◌, ◌≤◌}
use lib.ListN.{length}
use Rattle.contents.specs.Contents.{count_of}
use Rattle.edit_numbers.specs.Volume.{Volume}
use Rattle.edit_numbers.specs.Inner.Parts.{Parts}
use Rattle.edit_plans.specs.Inner.Plan.{Plan, Held, Planned}

pub planned : (bs : List ℕ) (v : Volume) (new : List ℕ) (from to : ℕ) (p : Plan) → Parts bs v from to new → p.edition ≡ v.edition → Held v p.lists → p.old ≡ 4 + 8 * count_of bs
    → p.from ≡ from → p.to ≡ to → (v.count ≤ count_of bs) ⊎ (length bs ≤ p.to) → Planned bs v new p
planned bs v new from to p P e H o f t a = record {
  edition = e;
  held = H;
  old = o;
  parts = subst (λ (a : ℕ). Parts bs v a p.to new) (sym f) (subst (λ (b : ℕ). Parts bs v from b new) (sym t) P);
  apart = a;
}
