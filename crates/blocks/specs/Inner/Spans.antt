-- What the readers of blocks and items promise each other: what is left from an item on, as what they have read before what is left behind it.
use Rattle.std.specs.Prelude.{Option, Some, None, true, false, List, [], ◌∷◌, ◌++◌, ◌≢◌, ◌≡◌, ℕ, suc, ◌-◌, ◌<◌, ◌≤◌, min, length}
use Rattle.blocks.specs.Expansion.{code_at, item_count, levels, expansion, blocks_fault}
pub use Rattle.blocks.specs.declared.Span.{Span}

-- what is left from item j on, where d more blocks may open
unfoldable pub rest : List ℕ → ℕ → ℕ → List (List ℕ)
rest bs j d = levels bs (item_count bs - j) j d

-- a block that holds e, and what is left behind its close
abbrev pub onto : List ℕ → List (List ℕ) → List (List ℕ)
onto e [] = []
onto e (l ∷ ls) = e ∷ (l ∷ ls)

-- e, and what is left behind it in the same block
abbrev pub before : List ℕ → List (List ℕ) → List (List ℕ)
before e [] = []
before e (l ∷ ls) = (e ++ l) ∷ ls

-- from j on to the close before next, size gates (counted up to 65,537)
pub record Closed (bs : List ℕ) (j d next size : ℕ) : Type 0 where
  pub holds : List ℕ
  pub count : size ≡ min (length holds) 65537
  pub moves : j < next
  pub range : next ≤ item_count bs
  pub is : rest bs j d ≡ onto holds (rest bs next (suc d))

-- item j stands for size gates, and the item behind it is next
pub record Stands (bs : List ℕ) (j d next size : ℕ) : Type 0 where
  pub holds : List ℕ
  pub count : size ≡ min (length holds) 65537
  pub moves : j < next
  pub range : next ≤ item_count bs
  pub is : rest bs j d ≡ before holds (rest bs next d)

-- items from j up to at, in one block
pub record Seen (bs : List ℕ) (j d at size : ℕ) : Type 0 where
  pub holds : List ℕ
  pub count : size ≡ min (length holds) 65537
  pub from : j ≤ at
  pub range : at ≤ item_count bs
  pub is : rest bs j d ≡ before holds (rest bs at d)

abbrev pub Block : List ℕ → ℕ → ℕ → Option Span → Type 0
Block bs j d None = rest bs j d ≡ []
Block bs j d (Some s) = Closed bs j d s.next s.size

abbrev pub Item : List ℕ → ℕ → ℕ → Option Span → Type 0
Item bs j d None = rest bs j d ≡ []
Item bs j d (Some s) = Stands bs j d s.next s.size

-- an item that closes no block
pub record Good (bs : List ℕ) (j d : ℕ) : Type 0 where
  pub range : j < item_count bs
  pub few : d ≤ 8
  pub not-close : code_at bs j ≢ 65

-- the whole body: how many gates the expansion has
pub record Expanded (bs : List ℕ) (size : ℕ) : Type 0 where
  pub good : blocks_fault bs ≡ false
  pub count : size ≡ length (expansion bs)

-- the whole body: a fault exactly where its blocks have one
abbrev pub Whole : List ℕ → Option ℕ → Type 0
Whole bs None = blocks_fault bs ≡ true
Whole bs (Some size) = Expanded bs size
