-- How many bytes a good book has after each edit: from its three parts.
use mathlib.Core.List.{List, []}
use mathlib.Core.Path.{◌≡◌, ap}
use Prim.Native.Nat.{ℕ, ◌+◌, ◌-◌, ◌≤◌, ◌<◌}
use native.Mathlib.Omega.{arith}
use lib.ListN.{length}
use Rattle.contents.specs.declared.Entry.{Entry}
use Rattle.contents.specs.Contents.{count_of, length_of, entry_of, contents_number}
use Rattle.contents.proofs.Laws.Good.{good}
use Rattle.edit_numbers.specs.Volume.{remove, replace, add}
use Rattle.edit_numbers.specs.Number.{size_after}
use Rattle.edit_numbers.proofs.Laws.Run.{start-suc}
use Rattle.edit_numbers.proofs.Laws.Parts.{parts-length, parts-removed, parts-replaced, parts_added}

module _ (bs : List ℕ) (z : contents_number bs ≡ 0) where
  module _ (j : ℕ) (h : j < count_of bs) where
    pub size-removed : size_after bs (remove j) + 8 + length_of bs j ≡ length bs
    size-removed =
        let P = parts-removed bs z j h in
        omega (arith, parts-length bs z _ _ _ [] P, P.first, P.gone, P.last, start-suc bs j)

    -- as the code has it, from the entry
    pub size-replaced : (e : Entry) → e ≡ entry_of bs j → (kind width : ℕ) (new : List ℕ) → length bs - e.length + length new ≡ size_after bs (replace j kind width new)
    size-replaced e is kind width new =
        let P = parts-replaced bs z j h kind width new in
        let q : e.length ≡ length_of bs j = ap (λ (x : Entry). x.length) is in
        omega (arith, parts-length bs z _ _ _ new P, P.first, P.gone, P.last, start-suc bs j, q)

    pub entry-short : (e : Entry) → e ≡ entry_of bs j → (e.length ≤ length bs) × (length bs ≤ 60000)
    entry-short e is = (omega (arith, ((good bs z).body j h e is).within), (good bs z).short)

  pub size-added : (kind width : ℕ) (new : List ℕ) → length bs + 8 + length new ≡ size_after bs (add kind width new)
  size-added kind width new =
      let P = parts_added bs z kind width new in
      omega (arith, parts-length bs z _ _ _ new P, P.first)
