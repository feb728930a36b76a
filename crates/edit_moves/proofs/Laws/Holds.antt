-- A list in which the places from lo up to hi hold given bytes, and all others what they held: what a copy within it, and a write to a part of it, leave.
use mathlib.Core.Path.{◌≡◌, refl, sym, ◌∙◌, ap}
use mathlib.Core.Logic.{◌≢◌, inl, inr, ⊎_elim}
use mathlib.Core.List.{List}
use Prim.Native.Nat.{ℕ, ◌+◌, ◌-◌, ◌≤◌, ◌<◌}
use native.Mathlib.Decide.{ℕ_discrete}
use native.Mathlib.Omega.{arith}
use borrow.Author.Rules.{rules}
use borrow.Rule.Slice.PartMut.{put_mid}
use lib.ListN.{length, length-set, get_or, set, replicate, length-replicate, get_or-replicate}
use lib.Seq.{get_or-set_same, get_or-set_other}
use Rattle.std.specs.List.{CopiedTo, SameBelow, SameFrom}
use Rattle.std.proofs.lemmas.List.{places}
use Rattle.edit_moves.specs.Inner.Held.{Holds, from, of}

pub holds-copied : (xs ys : List ℕ) (at to len hi : ℕ) → to + len ≡ hi → length ys ≡ length xs → CopiedTo xs ys at to len × SameBelow xs ys to × SameFrom xs ys (to + len) → Holds (from xs at to) to hi xs ys
holds-copied xs ys at to len hi e l C = record {
  long = l;
  here = λ p m h. C.0 p 0 m (omega arith);
  else = λ p w. ⊎_elim (λ k. C.1 p 0 k) (λ k. C.2 p 0 (omega arith)) w;
}

pub holds-put : (xs bs : List ℕ) (at len hi : ℕ) → at + len ≡ hi → length bs ≡ len → at + len ≤ length xs → Holds (of bs at) at hi xs (put_mid at len xs bs)
holds-put xs bs at len hi e l h = record {
  long = search (rules, places);
  here = λ p m k. search (rules, places);
  else = λ p w. ⊎_elim (λ k. search (rules, places)) (λ k. search (rules, places)) w;
}

pub holds-zeros : (xs zs : List ℕ) (at len hi : ℕ) → at + len ≡ hi → zs ≡ replicate len 0 → at + len ≤ length xs → Holds (λ p. 0) at hi xs (put_mid at len xs zs)
holds-zeros xs zs at len hi e z h = record { long = H.long; here = λ p m k. H.here p m k ∙ ap (λ (l : List ℕ). get_or l (p - at) 0) z ∙ get_or-replicate len (p - at) 0 0 (omega arith); else = H.else }
  where
    H : Holds (of zs at) at hi xs (put_mid at len xs zs)
    H = holds-put xs zs at len hi e (ap length z ∙ length-replicate len 0) h

-- a range that grows by a byte at its upper end: by what a store leaves at its own place and at the others
module _ (f : ℕ → ℕ) (xs : List ℕ) where
  pub holds-none : (lo : ℕ) → Holds f lo lo xs xs
  holds-none lo = record { long = refl; here = λ p l h. absurd (omega arith); else = λ p w. refl }

  module _ (lo hi i b : ℕ) (ys : List ℕ) (H : Holds f lo hi xs ys) (room : i < length ys) (is : b ≡ f i) where
    -- the place that a store is at, and any other
    at : get_or (set ys i b) i 0 ≡ f i
    at = get_or-set_same ys i b 0 room ∙ is

    other : (p : ℕ) → p ≢ i → get_or (set ys i b) p 0 ≡ get_or ys p 0
    other p ne = get_or-set_other ys i p b 0 ne

    pub holds-up : lo ≤ hi → i ≡ hi → Holds f lo (hi + 1) xs (set ys i b)
    holds-up l e = record {
      long = length-set ys i b ∙ H.long;
      here = λ p m h. go p m h (ℕ_discrete p i);
      else = λ p w. other p (λ q. ⊎_elim (λ k. omega arith) (λ k. omega arith) w) ∙ H.else p (⊎_elim (λ k. inl k) (λ k. inr (omega arith)) w);
    }
      where
        go : (p : ℕ) → lo ≤ p → p < hi + 1 → Dec (p ≡ i) → get_or (set ys i b) p 0 ≡ f p
        go p m h (yes q) = ap (λ (j : ℕ). get_or (set ys i b) j 0) q ∙ at ∙ ap f (sym q)
        go p m h (no ne) = other p ne ∙ H.here p m (omega (arith, ne, e))

-- the range up to an equal place
pub holds-to : (f : ℕ → ℕ) (lo i hi : ℕ) (xs ys : List ℕ) → i ≡ hi → Holds f lo i xs ys → Holds f lo hi xs ys
holds-to f lo i hi xs ys e H = record {
  long = H.long;
  here = λ p l h. H.here p l (omega arith);
  else = λ p w. H.else p (⊎_elim (λ k. inl k) (λ k. inr (omega arith)) w);
}
