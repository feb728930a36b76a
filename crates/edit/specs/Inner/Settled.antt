-- A plan carried out in the area.
use Rattle.std.specs.Prelude.{List, ◌++◌, ◌≡◌, ℕ, ◌+◌, ◌-◌, ◌*◌, ◌≤◌, length, take, drop, replicate}
use Rattle.contents_lay.specs.Lay.{laid_bytes, lay_number}
use Rattle.edit_moves.specs.Inner.Spliced.{ending, Spliceable}
use Rattle.edit_plans.specs.declared.Plan.{Plan}
use Rattle.edit.specs.Edit.{Edited, new_length}

abbrev pub kinds_of : Plan → List ℕ
kinds_of p = take p.lists.count p.lists.kinds

abbrev pub widths_of : Plan → List ℕ
widths_of p = take p.lists.count p.lists.widths

abbrev pub lengths_of : Plan → List ℕ
lengths_of p = take p.lists.count p.lists.lengths

abbrev pub begins : Plan → ℕ
begins p = 4 + 8 * p.lists.count

abbrev pub ends : ℕ → Plan → List ℕ → ℕ
ends n p body = ending n p.old (begins p) p.from p.to body

pub record Settleable (xs : List ℕ) (n : ℕ) (p : Plan) (body : List ℕ) : Type 0 where
  pub few : p.lists.count ≤ 16
  pub long : (length p.lists.kinds ≡ 16) × (length p.lists.widths ≡ 16) × (length p.lists.lengths ≡ 16)
  pub splice : Spliceable xs n p.old (begins p) p.from p.to body
  pub lay : lay_number (length xs) p.edition (kinds_of p) (widths_of p) (lengths_of p) ≡ 0

pub record Settled (xs : List ℕ) (n : ℕ) (p : Plan) (body : List ℕ) (r : Edited) (ys : List ℕ) : Type 0 where
  pub answer : r ≡ new_length (ends n p body)
  pub area :
      ys
      ≡ laid_bytes p.edition (kinds_of p) (widths_of p) (lengths_of p)
      ++ (take (p.from - p.old) (drop p.old xs)
      ++ (body ++ (take (n - p.to) (drop p.to xs) ++ (replicate (n - ends n p body) 0 ++ drop (ends n p body + (n - ends n p body)) xs))))
