-- The first fault of tests, of two, of several and of n: what it is on each way, and its number.
use mathlib.Core.Bool.{Bool, true, false, cond}
use mathlib.Core.List.{List, [], ◌∷◌}
use mathlib.Core.Logic.{◌≢◌, ⊎_elim}
use mathlib.Core.Path.{◌≡◌, refl, sym, ap, ◌∙◌}
use Prim.Native.Nat.{ℕ, zero, suc, ◌+◌, ◌≤◌, ◌<◌}
use native.Mathlib.Numerals.{add-one}
use native.Mathlib.Omega.{arith}
use lib.Dec.{eqb}
use borrow.Author.Tests.{eq-eqb}
use Rattle.std.specs.Prelude.{Ok, Err}
use Rattle.cause.specs.Cause.{Cause, Short, Long, Letters, Edition, Count, Contents, Kind, Start, End, LastEnd, NoBody, Strings, Threes, Many, Wires, Input, Output, Code, Wire, SecondWire, SameWire, SecondByte, Outcome, NoCount, Stray, Deep, Unopened, Empty, Unclosed, Expansion, TableWidth, Length, ManyTies, ZeroMark, Phase, PowerOut, Turn, Row, Mask, Side, NotNormal, Found, Finding, Look, number_of, sound, found_number, ◌finds◌, first_found, or_else, first_below, in_order}
use Rattle.exact.proofs.Laws.Sum.{split}
use Rattle.bits.proofs.Laws.Bit.{same_or}

-- ---- a test that holds, and one that does not
pub pick : (a : Bool) (f r : Finding) (ts : List Look) → r ≡ f → a ≡ true → r ≡ first_found (a finds f ∷ ts)
unfolding first_found
pick a f r ts h e = h ∙ sym (ap (λ (b : Bool). cond b f (first_found ts)) e)

pub pass : (a : Bool) (f r : Finding) (ts : List Look) → a ≡ false → r ≡ first_found ts → r ≡ first_found (a finds f ∷ ts)
unfolding first_found
pass a f r ts e h = h ∙ sym (ap (λ (b : Bool). cond b f (first_found ts)) e)

pub no_more : (r : Finding) → r ≡ sound → r ≡ first_found []
unfolding first_found
no_more r h = h

-- the number of a list of tests
pub first-number : (a : Bool) (f : Finding) (ts : List Look) → found_number (first_found (a finds f ∷ ts)) ≡ cond a (found_number f) (found_number (first_found ts))
unfolding first_found
first-number true f ts = refl
first-number false f ts = refl

pub last-number : found_number (first_found []) ≡ 0
unfolding first_found number_of
last-number = refl

-- ---- a fault without a number is none: every cause has a number
some : (c : Cause) → eqb (number_of c) 0 ≡ false
unfolding number_of
some Short = refl
some Long = refl
some Letters = refl
some Edition = refl
some Count = refl
some Contents = refl
some Kind = refl
some Start = refl
some End = refl
some LastEnd = refl
some NoBody = refl
some Strings = refl
some Threes = refl
some Many = refl
some Wires = refl
some Input = refl
some Output = refl
some Code = refl
some Wire = refl
some SecondWire = refl
some SameWire = refl
some SecondByte = refl
some Outcome = refl
some NoCount = refl
some Stray = refl
some Deep = refl
some Unopened = refl
some Empty = refl
some Unclosed = refl
some Expansion = refl
some TableWidth = refl
some Length = refl
some ManyTies = refl
some ZeroMark = refl
some Phase = refl
some PowerOut = refl
some Turn = refl
some Row = refl
some Mask = refl
some Side = refl
some NotNormal = refl

pub faulty : (f : Found) → found_number (Err f) ≢ 0
faulty f z = clash (sym (some f.cause) ∙ eq-eqb (number_of f.cause) 0 z)
  where
    clash : false ≡ true → ⊥
    clash e = cc

pub refused : (e : Found) (f : Finding) → Err e ≡ f → found_number f ≢ 0
refused e f h z = faulty e (ap found_number h ∙ z)

pub plain : (f : Finding) → found_number f ≡ 0 → f ≡ sound
plain (Ok tt) z = refl
plain (Err e) z = absurd (faulty e z)

-- ---- the first of two
pub else-first : (f g : Finding) → found_number f ≢ 0 → f ≡ or_else f g
unfolding or_else
else-first (Ok tt) g ne = absurd (ne refl)
else-first (Err e) g ne = refl

pub else-next : (f g : Finding) → found_number f ≡ 0 → g ≡ or_else f g
unfolding or_else
else-next (Ok tt) g z = refl
else-next (Err e) g z = absurd (faulty e z)

pub else-number : (f g : Finding) → found_number (or_else f g) ≡ cond (eqb (found_number f) 0) (found_number g) (found_number f)
unfolding or_else
else-number (Ok tt) g = refl
else-number (Err e) g = sym (ap (λ (b : Bool). cond b (found_number g) (number_of e.cause)) (some e.cause))

-- ---- the first of n
module _ (f : ℕ → Finding) where
  pub below-zero : first_below 0 f ≡ sound
  unfolding first_below
  below-zero = refl

  below_suc : (n : ℕ) → first_below n f ≡ sound → first_below (suc n) f ≡ f n
  unfolding first_below number_of
  below_suc n e = ap (λ (g : Finding). or_else g (f n)) e ∙ sym (else-next sound (f n) refl)

  pub below_next : (n : ℕ) → first_below n f ≡ sound → f n ≡ sound → first_below (n + 1) f ≡ sound
  below_next n e h = ap (λ (k : ℕ). first_below k f) (add-one n) ∙ below_suc n e ∙ h

  below-kept : (n m : ℕ) → n ≤ m → found_number (first_below n f) ≢ 0 → first_below m f ≡ first_below n f
  unfolding first_below
  below-kept n zero l ne = let q : 0 ≡ n = omega arith in ap (λ (k : ℕ). first_below k f) q
  below-kept n (suc m) l ne = ⊎_elim (λ h. there (below-kept n m (omega arith) ne)) (λ h. let q : suc m ≡ n = omega (arith, l, h) in ap (λ (k : ℕ). first_below k f) q) (split n (suc m))
    where
      there : first_below m f ≡ first_below n f → or_else (first_below m f) (f m) ≡ first_below n f
      there e = sym (else-first (first_below m f) (f m) (λ z. ne (sym (ap found_number e) ∙ z))) ∙ e

  pub below-here : (j n : ℕ) → first_below j f ≡ sound → j < n → found_number (f j) ≢ 0 → f j ≡ first_below n f
  below-here j n e l ne = sym (below-kept (suc j) n l (λ z. ne (sym (ap found_number (below_suc j e)) ∙ z)) ∙ below_suc j e)

  pub below_none : (j n : ℕ) → first_below j f ≡ sound → j ≤ n → n ≤ j → sound ≡ first_below n f
  below_none j n e l m = let q : n ≡ j = omega arith in sym (ap (λ (k : ℕ). first_below k f) q ∙ e)

-- ---- the first of several
module _ (f : Finding) (fs : List Finding) where
  pub order-here : (r : Finding) → r ≡ f → found_number r ≢ 0 → r ≡ in_order (f ∷ fs)
  unfolding in_order
  order-here r h ne = h ∙ else-first f (in_order fs) (λ z. ne (ap found_number h ∙ z))

  pub order-next : (r : Finding) → found_number f ≡ 0 → r ≡ in_order fs → r ≡ in_order (f ∷ fs)
  unfolding in_order
  order-next r z h = h ∙ else-next f (in_order fs) z

  pub order-number : found_number (in_order (f ∷ fs)) ≡ cond (eqb (found_number f) 0) (found_number (in_order fs)) (found_number f)
  unfolding in_order
  order-number = else-number f (in_order fs)

pub order-end : sound ≡ in_order []
unfolding in_order
order-end = refl

pub order-last : found_number (in_order []) ≡ 0
unfolding in_order number_of
order-last = refl

pub order-one : (f : Finding) → f ≡ in_order (f ∷ [])
order-one f = ⊎_elim (λ z. plain f z ∙ order-next f [] sound z order-end) (λ ne. order-here f [] f refl ne) (same_or (found_number f) 0)
