-- The first fault of the blocks of a body: "16 for an unclosed, empty or unopened block, a depth above 8 or too long an expansion". Marks in order, then what is left open, then the expansion.
use Rattle.std.specs.Prelude.{false, cond, not, ◌&&◌, List, [], ◌∷◌, ℕ, zero, suc, ◌+◌, ◌-◌, ◌*◌, eqb}
use Rattle.blocks.specs.Expansion.{code_at, item_count, blocks_fault}
use Rattle.cause.specs.declared.Cause.TheVariants.{Deep, Unopened, Empty, Unclosed, Expansion}
use Rattle.cause.specs.Cause.{Finding, found, ◌finds◌, first_found, or_else, in_order}
pub use Rattle.cause_blocks.specs.declared.Scan.{Scan}

-- the fault of item j as a mark, of items that start at a byte: "code 64 opens a block .. and code 65 closes it", "up to 8 deep"
unfoldable pub mark_found : ℕ → ℕ → ℕ → Scan → Finding
mark_found at code j s =
    first_found
    ((eqb code 64 && eqb s.more 0) finds found Deep j (at + 3 * j)
    ∷ (eqb code 65 && eqb s.more 8) finds found Unopened j (at + 3 * j)
    ∷ (eqb code 65 && s.fresh) finds found Empty j (at + 3 * j)
    ∷ [])

-- what is known behind item j: how many more blocks may open, the item that opened the outermost open block, whether item j opened one
unfoldable pub behind : ℕ → ℕ → Scan → Scan
behind code j s = record {
  more = cond (eqb code 64) (s.more - 1) (cond (eqb code 65) (suc s.more) s.more);
  outer = cond (eqb code 64 && eqb s.more 8) j s.outer;
  fresh = eqb code 64;
}

-- the first fault of n items from item j on; the item at fault where a block is left open is the one that opened it, the outermost first
unfoldable pub scan_found : ℕ → List ℕ → ℕ → ℕ → Scan → Finding
scan_found at bs zero j s = first_found (not (eqb s.more 8) finds found Unclosed s.outer (at + 3 * s.outer) ∷ [])
scan_found at bs (suc n) j s = or_else (mark_found at (code_at bs j) j s) (scan_found at bs n (suc j) (behind (code_at bs j) j s))

-- no block is open
abbrev pub start : Scan
start = record { more = 8; outer = 0; fresh = false }

-- refused by 16 though every block is opened, filled and closed: "too long an expansion"
unfoldable pub long_found : ℕ → List ℕ → Finding
long_found at bs = first_found (blocks_fault bs finds found Expansion 0 at ∷ [])

unfoldable pub blocks_found : ℕ → List ℕ → Finding
blocks_found at bs = in_order (scan_found at bs (item_count bs) 0 start ∷ long_found at bs ∷ [])
