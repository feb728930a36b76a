-- A number put at the front of a part: on each side of the test of its length, and what a caller learns whose part is long enough.
use mathlib.Core.List.{List, ◌++◌}
use mathlib.Core.Path.{◌≡◌, refl, sym, ap, ap₂, ◌∙◌}
use Prim.Native.Nat.{ℕ, ◌+◌, ◌-◌, ◌≤◌, ◌<◌}
use native.Mathlib.Omega.{arith}
use lib.ListN.{length, take, drop, length-drop}
use lib.Seq.{length-take-le}
use Rattle.fields.specs.Bytes.{front}
use Rattle.fields.specs.Inner.Bytes.{Put}
use Rattle.fields.proofs.Laws.Front.{length_front, lent-part}

pub put-short : (k : ℕ) (bs xs : List ℕ) → length xs < k → Put k bs xs xs
put-short k bs xs h = record { fits = λ l. absurd (omega arith); short = λ l. refl }

pub put-fits : (k : ℕ) (bs xs ys : List ℕ) → k ≤ length xs → ys ≡ front xs bs → Put k bs xs ys
put-fits k bs xs ys h e = record { fits = λ l. e; short = λ l. absurd (omega arith) }

-- the first k bytes replaced by bs
pub put-copied : (k : ℕ) (bs xs ys : List ℕ) → k ≤ length xs → ys ≡ bs → length ys ≡ length (take k xs) → Put k bs xs (ys ++ drop k xs)
unfolding front
put-copied k bs xs ys h e n =
    let m : k ≡ length bs = sym (length-take-le k xs h) ∙ sym n ∙ ap length e in
    put-fits k bs xs (ys ++ drop k xs) h (ap₂ (λ (l : List ℕ) (j : ℕ). l ++ drop j xs) e m)

-- behind bytes that were put at the front of a part with room for k more
pub lent-put : (xs bs cs part ys : List ℕ) (at k : ℕ) → part ≡ front xs bs → length bs ≡ at → at + k ≤ length xs → Put k cs (take (length part - at) (drop at part)) ys
    → ys ≡ front (take (length part - at) (drop at part)) cs
lent-put xs bs cs part ys at k e n h P = P.fits room
  where
    same : length part ≡ length xs
    same = ap length e ∙ length_front xs bs (omega (arith, n, h))

    room : k ≤ length (take (length part - at) (drop at part))
    room = simp (lent-part, length-drop) (omega (arith, same, h))
