-- What a read gave stands behind what was filled before, and the two together are what was consumed.
use Rattle.std.proofs.Common.{◌≡◌, ℕ, ◌+◌, ◌-◌, ◌≤◌, List, ◌++◌, length, take, drop, arith, sym, ap, ◌∙◌, subst, le_refl, drop_at, length-take-le}
use Rattle.std.proofs.lemmas.Slice.{take-put_mid_below}
use Rattle.std.specs.Io.KnownBytes.{Consumes}
use Rattle.std.proofs.KnownBytes.{Consumes-trans}
use borrow.Rule.Slice.PartMut.{put_mid, post_of, mid_of, same_len_mid, mid_len}
use lib.Seq.{take-add, take-append-le}
use Rattle.input.proofs.fill.Goals as goal

-- what stands in front of n + m after ys was put at n
filled : (n m k : ℕ) (xs ys : List ℕ) → n ≤ length xs → m ≤ length ys → take n xs ++ take m ys ≡ take (n + m) (put_mid n k xs ys)
filled n m k xs ys within fits =
    let after = post_of n k xs in
    let front : take n (put_mid n k xs ys) ≡ take n xs = take-put_mid_below n k xs ys n (le_refl _) within in
    let behind = ap (take m) (drop_at (take n xs) (ys ++ after) n (length-take-le n xs within)) ∙ take-append-le m ys after fits in
    sym (take-add n m (put_mid n k xs ys) ∙ ap (λ l. l ++ take m (drop n (put_mid n k xs ys))) front ∙ ap (λ l. take n xs ++ l) behind)

-- what was read fits behind the place
fits : (n m : ℕ) (xs ys : List ℕ) → n ≤ length xs → length ys ≡ length (mid_of n (length xs - n) xs) → m ≤ length ys → n + m ≤ length (put_mid n (length xs - n) xs ys)
fits n m xs ys within same few = omega (arith, same, few, mid_len n (length xs) xs (omega arith), same_len_mid n (length xs - n) xs ys same)

pub loop-n-preserved : goal.loop-n-preserved
loop-n-preserved g c =
    let l = c.loop-n in
    let m = c.more-got in
    let new = m.new.part in (
      fits l.n m.result.bytes l.area new l.invariant.0 m.ensures.within.1 m.ensures.within.0,
      subst (Consumes _ _) (filled l.n m.result.bytes (length l.area - l.n) l.area new l.invariant.0 m.ensures.within.0) (Consumes-trans _ _ _ _ _ l.invariant.1 m.ensures.bytes),
    )
