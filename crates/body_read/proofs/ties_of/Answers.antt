-- `ties_of` meets its contract: part by part.
use mathlib.Core.Path.{◌≡◌, subst}
use Prim.Native.Nat.{ℕ}
use borrow.Author.Rules.{rules}
use Rattle.body_bytes.specs.Body.{mask_of, side_of}
use Rattle.body_read.specs.Table.{padded}
use Rattle.body_read.proofs.Laws.Padded.{padded-asked}
use Rattle.body_read.proofs.Laws.Parts.{ties-are}
use Rattle.body_read.proofs.ties_of.Goals as goal

pub returns : goal.returns
returns c =
    let a = c.args in
    let k = c.count_of-k in
    let masks = padded-asked _ 0 k.result (mask_of a.width a.bs.now) _ c.padded.ensures (λ v r e. search rules) in
    let sides = padded-asked _ 0 k.result (side_of a.width a.bs.now) _ c.padded-2.ensures (λ v r e. search rules) in
    ties-are a.width a.bs.now _ _ _ k.ensures
    (subst (λ (n : ℕ). c.padded.result ≡ padded 0 n (mask_of a.width a.bs.now)) k.ensures masks)
    (subst (λ (n : ℕ). c.padded-2.result ≡ padded 0 n (side_of a.width a.bs.now)) k.ensures sides)
