-- A book that closes up around a new body: two moves, the body and zeros, one after the other, place by place.
use mathlib.Core.Path.{◌≡◌, ◌∙◌, refl}
use mathlib.Core.Logic.{◌⊎◌, inl, inr, ⊎_elim}
use mathlib.Core.List.{List}
use Prim.Native.Nat.{ℕ, ◌+◌, ◌-◌, ◌≤◌, ◌<◌}
use native.Mathlib.Omega.{arith}
use borrow.Rule.Slice.PartMut.{put_mid}
use lib.ListN.{length, get_or, replicate}
use Rattle.std.specs.List.{CopiedTo, SameBelow, SameFrom}
use Rattle.exact.proofs.Laws.Sum.{split}
use Rattle.edit_moves.specs.Inner.Held as held
use Rattle.edit_moves.specs.Inner.Held.{Holds}
use Rattle.edit_moves.proofs.Laws.Holds.{holds-copied, holds-zeros}
use Rattle.edit_moves.specs.Inner.Spliced.{placed, behind, ending, Spliceable, Spliced}

module _ (xs : List ℕ) (n old new from to : ℕ) (body : List ℕ) (S : Spliceable xs n old new from to body) (a b c d : List ℕ) where
  abbrev at : ℕ
  at = placed old new from

  abbrev past : ℕ
  past = behind old new from body

  abbrev end : ℕ
  end = ending n old new from to body

  module _ (A : Holds (held.from xs old new) new at xs a) (B : Holds (held.from a to past) past end a b) (C : Holds (held.of body at) at past b c) (low : ℕ) (least : (low ≤ end) × (low ≤ n) × ((low ≡ end) ⊎ (low ≡ n))) (D : Holds (λ p. 0) low n c d) where
    -- the bytes behind the gap were not touched by the first move
    untouched : (p : ℕ) → past ≤ p → p < end → get_or a (to + (p - past)) 0 ≡ get_or xs (to + (p - past)) 0
    untouched p l h = A.else (to + (p - past)) (inr (⊎_elim (λ k. omega arith) (λ k. absurd (omega (arith, S.last))) S.apart))

    -- the zeros begin at the new end, or nowhere before the old one
    beneath : (p : ℕ) → p < end → (p < low) ⊎ (n ≤ p)
    beneath p h = ⊎_elim (λ e. inl (omega arith)) (λ e. ⊎_elim (λ (b : p < n). inl (omega arith)) (λ (b : n ≤ p). inr b) (split p n)) least.2

    stays : (p : ℕ) → (p < new) ⊎ ((n ≤ p) × (end ≤ p)) → get_or d p 0 ≡ get_or xs p 0
    stays p (inl l) = D.else p (beneath p (omega arith)) ∙ C.else p (inl (omega arith)) ∙ B.else p (inl (omega arith)) ∙ A.else p (inl l)
    stays p (inr l) = D.else p (inr l.0) ∙ C.else p (inr (omega (arith, l.1))) ∙ B.else p (inr l.1) ∙ A.else p (inr (omega (arith, l.1)))

    pub spliced : Spliced xs n old new from to body d
    spliced = record {
      long = D.long ∙ C.long ∙ B.long ∙ A.long;
      ahead = λ p l h. D.else p (beneath p (omega arith)) ∙ C.else p (inl h) ∙ B.else p (inl (omega arith)) ∙ A.here p l h;
      here = λ p l h. D.else p (beneath p (omega arith)) ∙ C.here p l h;
      rest = λ p l h. D.else p (beneath p h) ∙ C.else p (inr l) ∙ B.here p l h ∙ untouched p l h;
      zeros = λ p l h. D.here p (omega (arith, least.0)) h;
      stays = stays;
    }

-- the same, from what the library's calls say of the area after each of them
pub spliced-by_calls : (xs : List ℕ) (n old new from to : ℕ) (body : List ℕ) → Spliceable xs n old new from to body → (a b c zs : List ℕ) (low : ℕ)
    → length a ≡ length xs → CopiedTo xs a old new (from - old) × SameBelow xs a new × SameFrom xs a (new + (from - old))
    → length b ≡ length a → CopiedTo a b to (behind old new from body) (n - to) × SameBelow a b (behind old new from body) × SameFrom a b (behind old new from body + (n - to))
    → Holds (held.of body (placed old new from)) (placed old new from) (behind old new from body) b c
    → (low ≤ ending n old new from to body) × (low ≤ n) × ((low ≡ ending n old new from to body) ⊎ (low ≡ n))
    → zs ≡ replicate (n - low) 0
    → Spliced xs n old new from to body (put_mid low (n - low) c zs)
spliced-by_calls xs n old new from to body S a b c zs low la A lb B third least z = spliced xs n old new from to body S a b c _ first second third low least fourth
  where
    past : ℕ
    past = behind old new from body

    first : Holds (held.from xs old new) new (placed old new from) xs a
    first = holds-copied xs a old new (from - old) (placed old new from) refl la A

    second : Holds (held.from a to past) past (ending n old new from to body) a b
    second = holds-copied a b to past (n - to) (ending n old new from to body) refl lb B

    fourth : Holds (λ p. 0) low n c (put_mid low (n - low) c zs)
    fourth = holds-zeros c zs low (n - low) n (omega (arith, least.1)) z (omega (arith, third.long, la, lb, S.area, least.1))
