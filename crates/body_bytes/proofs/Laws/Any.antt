-- A test asked of each number below n in turn says whether it holds of some of them.
use mathlib.Core.List.{List}
use mathlib.Core.Bool.{Bool, true, false}
use mathlib.Core.Path.{◌≡◌, refl, sym, ap, ◌∙◌}
use Prim.Native.Nat.{ℕ, ◌<◌}
use native.Mathlib.Omega.{arith}
use lib.ListN.{length, get_or}
use denote.Param.Members.{Mut, Called}
use Rattle.std.specs.Bool.{MatchBool}
use Rattle.std.specs.Iterator.{YieldsThen}
use Rattle.std.specs.List.{range_with_len, FoldsTo, AllWithin, HoldsAt}
use Rattle.std.specs.Option.{MatchOption}
use Rattle.std.specs.Prelude.{Option}
use Rattle.std.specs.declared.ops.Range.{Range}
use Rattle.std.proofs.iter.Yields.{nat_range_steps}
use Rattle.std.proofs.lemmas.Iterator.{YieldsList-from_range, cases_from_any}
use Rattle.std.proofs.lemmas.List.FromFn.{length-range_with_len, get_or-range_with_len}
use Rattle.contents.specs.Contents.{any_below}
use Rattle.contents.proofs.Laws.Some.{some-here, none}

module _ (h : ℕ → Bool) (n : ℕ) where
  asked : (j d : ℕ) → j < n → h (get_or (range_with_len 0 n) j d) ≡ h j
  asked j d b = ap h (get_or-range_with_len 0 n j d b ∙ omega arith)

  found : (r : Bool) → MatchBool r ((k : ℕ) × (k < length (range_with_len 0 n)) × HoldsAt (λ x. h x ≡ true) (range_with_len 0 n) k) (AllWithin (λ x. h x ≡ false) (range_with_len 0 n) 0 (length (range_with_len 0 n)))
      → r ≡ any_below n h
  found true (k, l, y) =
      let b : k < n = omega (arith, length-range_with_len 0 n) in
      sym (some-here n k h b (sym (asked k 0 b) ∙ y 0))
  found false never =
      sym (none n h (λ j b. sym (asked j 0 b) ∙ never j 0 (omega arith) (omega (arith, length-range_with_len 0 n))))

  pub any-tested : {F : Type 0} {g : Mut F (ℕ × Unit {0}) Bool} {f : F} → ((x : ℕ) (b : Bool) (q : F) → Called g f (x, tt) b q → (q ≡ f) × (b ≡ h x)) → (u : Range ℕ) (r : Bool)
      → (xs : List ℕ) × (o : Option ℕ) × (j : F) × YieldsThen nat_range_steps (record { start = 0; end = n }) xs o u × FoldsTo (λ p x q. Called g p (x, tt) false q) f xs j
      × MatchOption o (r ≡ false) (λ x. (r ≡ true) × ((i : F) × Called g j (x, tt) true i)) → r ≡ any_below n h
  any-tested {f} acts u r ran =
      found r (cases_from_any u f r (λ x. h x ≡ true) (λ x. h x ≡ false) ran (YieldsList-from_range 0 n n refl (omega arith)) (λ x q e. sym (acts x true q e).1) (λ x q e. ((acts x false q e).0, sym (acts x false q e).1)))
