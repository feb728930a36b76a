-- What edition 1 accepts edition 2 accepts.
use mathlib.Core.Bool.{true, not}
use mathlib.Core.List.{List, [], ◌∷◌}
use mathlib.Core.Path.{◌≡◌, sym, ap, ◌∙◌}
use Prim.Native.Nat.{ℕ, ◌%◌, ◌^◌}
use lib.Dec.{eqb, ltb, leb}
use lib.ListN.{length}
use Rattle.exact.specs.Refusal.{bad_wire, bad_string, bad_body, ◌gives◌, first}
use Rattle.editions.specs.Edition.{good_edition}
use Rattle.blocks.specs.Expansion.{item_count}
use Rattle.gates.specs.Circuit.{items_number, circuit_number}
use Rattle.gates.proofs.Laws.Listed.{accepted-both}
use Rattle.circuit_number.proofs.Laws.Number.{blocks-left, Accepted, accepted-law}

pub accepted-too : (width input output : ℕ) (bs : List ℕ) → circuit_number 1 width input output bs ≡ 0 → circuit_number 2 width input output bs ≡ 0
unfolding circuit_number good_edition
accepted-too width input output bs e = ap own later ∙ e
  where
    at : Accepted 1 width input output bs
    at = accepted-law 1 width input output bs e

    -- the items are refused in neither, and the blocks are the same
    later : items_number 2 width bs ≡ items_number 1 width bs
    later = sym (blocks-left 2 width bs (accepted-both width bs (item_count bs) at.gates)) ∙ blocks-left 1 width bs at.gates

    -- a circuit's own number, by that of its items
    own : ℕ → ℕ
    own n =
        first
        (not (eqb (length bs % 3) 0) gives bad_body
        ∷ ltb 4096 (item_count bs) gives bad_body
        ∷ ltb width 1 gives bad_wire
        ∷ ltb 31 width gives bad_wire
        ∷ leb (2 ^ width) input gives bad_string
        ∷ leb (2 ^ width) output gives bad_string
        ∷ true gives n
        ∷ [])
