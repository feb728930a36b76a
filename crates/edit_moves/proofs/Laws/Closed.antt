-- What a book that closed up around a new body is from its contents' end on, as one list: part by part, from the places.
use mathlib.Core.Path.{◌≡◌, refl, sym, ap, ap₂, ◌∙◌}
use mathlib.Core.Logic.{inr}
use mathlib.Core.List.{List, ◌++◌}
use Prim.Native.Nat.{ℕ, ◌+◌, ◌-◌, ◌≤◌, ◌<◌}
use native.Mathlib.Omega.{arith}
use lib.ListN.{length, take, drop, get_or, replicate, length-drop, length-replicate, get_or-replicate, take-append-drop}
use lib.Seq.{length-take-le, get_or-take, get_or-drop, drop-drop, ext_get_or}
use Rattle.edit_moves.specs.Inner.Spliced.{placed, behind, ending, Spliceable, Spliced}

-- zs stands in ys from a place on: ys from there on is zs and what follows
off : (ys zs : List ℕ) (at k past : ℕ) → length zs ≡ k → at + k ≡ past → past ≤ length ys → ((i : ℕ) → i < k → get_or ys (at + i) 0 ≡ get_or zs i 0) → drop at ys ≡ zs ++ drop past ys
off ys zs at k past e q h f =
    sym (take-append-drop k (drop at ys))
    ∙ ap₂ ◌++◌ (ext_get_or 0 (take k (drop at ys)) zs (long ∙ sym e) same) (drop-drop k at ys ∙ ap (λ (m : ℕ). drop m ys) q)
  where
    long : length (take k (drop at ys)) ≡ k
    long = length-take-le k (drop at ys) (omega (arith, length-drop at ys))

    same : (i : ℕ) → i < length (take k (drop at ys)) → get_or (take k (drop at ys)) i 0 ≡ get_or zs i 0
    same i l =
        let b : i < k = omega (arith, long) in
        get_or-take k (drop at ys) i 0 b ∙ get_or-drop at ys i 0 ∙ f i b

-- a part of xs, and how long it is
part-long : (xs : List ℕ) (at k : ℕ) → at + k ≤ length xs → length (take k (drop at xs)) ≡ k
part-long xs at k h = length-take-le k (drop at xs) (omega (arith, length-drop at xs))

part_at : (xs : List ℕ) (at k i : ℕ) → i < k → get_or (take k (drop at xs)) i 0 ≡ get_or xs (at + i) 0
part_at xs at k i l = get_or-take k (drop at xs) i 0 l ∙ get_or-drop at xs i 0

module _ (xs : List ℕ) (n old new from to : ℕ) (body ys : List ℕ) (S : Spliceable xs n old new from to body) (R : Spliced xs n old new from to body ys) where
  abbrev at : ℕ
  at = placed old new from

  abbrev past : ℕ
  past = behind old new from body

  abbrev end : ℕ
  end = ending n old new from to body

  abbrev more : ℕ
  more = n - end

  beyond : drop (end + more) ys ≡ drop (end + more) xs
  beyond = ext_get_or 0 (drop (end + more) ys) (drop (end + more) xs) long same
    where
      long : length (drop (end + more) ys) ≡ length (drop (end + more) xs)
      long = omega (arith, length-drop (end + more) ys, length-drop (end + more) xs, R.long)

      same : (i : ℕ) → i < length (drop (end + more) ys) → get_or (drop (end + more) ys) i 0 ≡ get_or (drop (end + more) xs) i 0
      same i l = get_or-drop (end + more) ys i 0 ∙ R.stays (end + more + i) (inr (omega arith, omega arith)) ∙ sym (get_or-drop (end + more) xs i 0)

  zeros : drop end ys ≡ replicate more 0 ++ drop (end + more) ys
  zeros = off ys (replicate more 0) end more (end + more) (length-replicate more 0) refl (omega (arith, R.long, S.room, S.area)) same
    where
      same : (i : ℕ) → i < more → get_or ys (end + i) 0 ≡ get_or (replicate more 0) i 0
      same i l = R.zeros (end + i) (omega arith) (omega arith) ∙ sym (get_or-replicate more i 0 0 l)

  rest : drop past ys ≡ take (n - to) (drop to xs) ++ drop end ys
  rest = off ys (take (n - to) (drop to xs)) past (n - to) end (part-long xs to (n - to) (omega (arith, S.last, S.area))) refl (omega (arith, R.long, S.room)) same
    where
      same : (i : ℕ) → i < n - to → get_or ys (past + i) 0 ≡ get_or (take (n - to) (drop to xs)) i 0
      same i l =
          let e : to + (past + i - past) ≡ to + i = omega arith in
          R.rest (past + i) (omega arith) (omega arith) ∙ ap (λ (p : ℕ). get_or xs p 0) e ∙ sym (part_at xs to (n - to) i l)

  here : drop at ys ≡ body ++ drop past ys
  here = off ys body at (length body) past refl refl (omega (arith, R.long, S.room)) same
    where
      same : (i : ℕ) → i < length body → get_or ys (at + i) 0 ≡ get_or body i 0
      same i l =
          let e : at + i - at ≡ i = omega arith in
          R.here (at + i) (omega arith) (omega arith) ∙ ap (λ (p : ℕ). get_or body p 0) e

  ahead : drop new ys ≡ take (from - old) (drop old xs) ++ drop at ys
  ahead = off ys (take (from - old) (drop old xs)) new (from - old) at (part-long xs old (from - old) (omega (arith, S.first, S.gone, S.last, S.area))) refl (omega (arith, R.long, S.room)) same
    where
      same : (i : ℕ) → i < from - old → get_or ys (new + i) 0 ≡ get_or (take (from - old) (drop old xs)) i 0
      same i l =
          let e : old + (new + i - new) ≡ old + i = omega arith in
          R.ahead (new + i) (omega arith) (omega arith) ∙ ap (λ (p : ℕ). get_or xs p 0) e ∙ sym (part_at xs old (from - old) i l)

  pub closed-up : drop new ys ≡ take (from - old) (drop old xs) ++ (body ++ (take (n - to) (drop to xs) ++ (replicate more 0 ++ drop (end + more) xs)))
  closed-up =
      ahead
      ∙ ap (λ (l : List ℕ). take (from - old) (drop old xs) ++ l)
      (here ∙ ap (λ (l : List ℕ). body ++ l)
      (rest ∙ ap (λ (l : List ℕ). take (n - to) (drop to xs) ++ l)
      (zeros ∙ ap (λ (l : List ℕ). replicate more 0 ++ l) beyond)))
