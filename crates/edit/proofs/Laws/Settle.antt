-- A plan carried out: the bodies close up, and then the contents are laid over the front.
use mathlib.Core.List.{List, ◌++◌}
use mathlib.Core.Path.{◌≡◌, sym, ap, ◌∙◌}
use Prim.Native.Nat.{ℕ, ◌+◌, ◌-◌, ◌*◌, ◌≤◌}
use native.Mathlib.Omega.{arith}
use lib.ListN.{length, take, drop}
use lib.Seq.{length-take-le}
use Rattle.contents_lay.specs.declared.Written.{Written}
use Rattle.contents_lay.specs.Lay.{laid_bytes, lay_number, laid_answer, ContentsLaid}
use Rattle.contents_lay.proofs.Laws.Laid.{laid-area}
use Rattle.edit_moves.specs.Inner.Spliced.{Spliced}
use Rattle.edit_moves.proofs.Laws.Closed.{closed-up}
use Rattle.edit_plans.specs.declared.Plan.{Plan}
use Rattle.edit.specs.Inner.Settled.{kinds_of, widths_of, lengths_of, begins, ends, Settleable, Settled}

module _ (xs : List ℕ) (n : ℕ) (p : Plan) (body : List ℕ) (S : Settleable xs n p body) (ms : List ℕ) (M : Spliced xs n p.old (begins p) p.from p.to body ms) (w : Written) (ys : List ℕ) (L : ContentsLaid ms p.edition (kinds_of p) (widths_of p) (lengths_of p) w ys) where
  accepted-lay : lay_number (length ms) p.edition (kinds_of p) (widths_of p) (lengths_of p) ≡ 0
  accepted-lay = ap (λ (k : ℕ). lay_number k p.edition (kinds_of p) (widths_of p) (lengths_of p)) M.long ∙ S.lay

  unrefused : w.refusal ≡ 0
  unfolding laid_answer
  unrefused = ap (λ (x : Written). x.refusal) L.answer ∙ accepted-lay

  first-bytes : 4 + 8 * length (kinds_of p) ≡ begins p
  first-bytes = ap (λ (k : ℕ). 4 + 8 * k) (length-take-le p.lists.count p.lists.kinds (omega (arith, S.few, S.long.0)))

  pub settled : Settled xs n p body (record { refusal = w.refusal; length = ends n p body }) ys
  settled = record {
    answer = λ i. record { refusal = unrefused i; length = ends n p body };
    area =
        L.area
        ∙ laid-area ms p.edition (kinds_of p) (widths_of p) (lengths_of p) accepted-lay
        ∙ ap (λ (l : List ℕ). laid_bytes p.edition (kinds_of p) (widths_of p) (lengths_of p) ++ l)
        (ap (λ (k : ℕ). drop k ms) first-bytes ∙ closed-up xs n p.old (begins p) p.from p.to body ms S.splice M);
  }

-- ---- the first so many of a list of 16
pub prefix-room : (l : List ℕ) (c : ℕ) → c ≤ 16 → length l ≡ 16 → c ≤ length l
prefix-room l c h e = omega arith

pub prefix-long : (l : List ℕ) (c : ℕ) → c ≤ 16 → length l ≡ 16 → c ≡ length (take c l)
prefix-long l c h e = sym (length-take-le c l (omega (arith, e)))
