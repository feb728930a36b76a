-- What a writer leaves in the area that is lent to it.
use Rattle.std.specs.Prelude.{◌≡◌, List, ℕ}
use Rattle.lines_words.specs.Overlay.{TextLaid}
use Rattle.lines_words.specs.declared.Text.{Text}

-- the text is laid behind what stands there, in the same area
pub record Lays (t : Text) (text : List ℕ) (u : Text) : Type 0 where
  pub same : u.area.ghost_name ≡ t.area.ghost_name
  pub laid : TextLaid t.area.now t.at text u.area.now u.at
