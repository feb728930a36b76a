-- Lists one behind the other: how long they are, and where each stands. By induction on how many there are.
use mathlib.Core.List.{List, [], ◌++◌, append_assoc, append-nil}
use mathlib.Core.Logic.{⊎_elim}
use mathlib.Core.Path.{◌≡◌, refl, sym, ap, ◌∙◌, subst}
use Prim.Native.Nat.{ℕ, zero, suc, ◌+◌, ◌≤◌, ◌<◌}
use native.Mathlib.Omega.{arith}
use lib.ListN.{length, take, drop, length-append}
use lib.Seq.{take_at, drop_at}
use Rattle.exact.specs.Sum.{total}
use Rattle.exact.proofs.Laws.Sum.{split}
use Rattle.body_fields.specs.Fields.{joined}

pub joined_length : (n : ℕ) (f : ℕ → List ℕ) → length (joined n f) ≡ total n (λ i. length (f i))
unfolding joined total
joined_length zero f = refl
joined_length (suc n) f = length-append (joined n f) (f n) ∙ ap (λ (k : ℕ). k + length (f n)) (joined_length n f)

-- list j stands behind those before it, whatever follows
within : (n j : ℕ) (f : ℕ → List ℕ) (tail : List ℕ) → j < n → take (length (f j)) (drop (length (joined j f)) (joined n f ++ tail)) ≡ f j
unfolding joined
within zero j f tail h = absurd (omega arith)
within (suc n) j f tail h =
    ap (λ (l : List ℕ). take (length (f j)) (drop (length (joined j f)) l)) (append_assoc (joined n f) (f n) tail)
    ∙ ⊎_elim (λ l. within n j f (f n ++ tail) l) there (split j n)
  where
    last : take (length (f n)) (drop (length (joined n f)) (joined n f ++ (f n ++ tail))) ≡ f n
    last = ap (take (length (f n))) (drop_at (joined n f) (f n ++ tail) (length (joined n f)) refl) ∙ take_at (f n) tail (length (f n)) refl

    there : n ≤ j → take (length (f j)) (drop (length (joined j f)) (joined n f ++ (f n ++ tail))) ≡ f j
    there l =
        let q : n ≡ j = omega arith in
        subst (λ (m : ℕ). take (length (f m)) (drop (length (joined m f)) (joined n f ++ (f n ++ tail))) ≡ f m) q last

pub joined_at : (n j : ℕ) (f : ℕ → List ℕ) → j < n → take (length (f j)) (drop (length (joined j f)) (joined n f)) ≡ f j
joined_at n j f h = ap (λ (l : List ℕ). take (length (f j)) (drop (length (joined j f)) l)) (sym (append-nil (joined n f))) ∙ within n j f [] h
