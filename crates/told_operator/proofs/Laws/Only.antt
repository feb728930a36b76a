-- No second result of either call for C on operators: by the same of the call that it hands on.
use mathlib.Core.Bool.{Bool, true, false}
use mathlib.Core.List.{List}
use mathlib.Core.Path.{◌≡◌, sym, ◌∙◌, subst}
use Prim.Native.Nat.{ℕ}
use Rattle.std.specs.Prelude.{Option, Some, None, Result, Ok, Err}
use Rattle.exact.specs.declared.Eighth.{Eighth}
use Rattle.exact.specs.declared.Refusal.{Refusal}
use Rattle.operator.proofs.Laws.Only.{one_same, one-common-phase}
use Rattle.told_operator.specs.Told.{TellsSame, TellsPhase, SameTold, PhaseTold}

one_way : (c : Result Bool Refusal) (before n m a b : ℕ) → TellsSame c before n a → TellsSame c before m b → (n ≡ m) × (a ≡ b)
one_way (Err k) before n m a b p q = (p.0 ∙ sym q.0, p.1 ∙ sym q.1)
one_way (Ok true) before n m a b p q = (p.0 ∙ sym q.0, p.1 ∙ sym q.1)
one_way (Ok false) before n m a b p q = (p.0 ∙ sym q.0, p.1 ∙ sym q.1)

pub one-same-told : (e w : ℕ) (bs : List ℕ) (f v : ℕ) (cs : List ℕ) (before n m a b : ℕ) → SameTold e w bs f v cs before n a → SameTold e w bs f v cs before m b → (n ≡ m) × (a ≡ b)
one-same-told e w bs f v cs before n m a b A B =
    one_way A.answer before n m a b A.tells (subst (λ (c : Result Bool Refusal). TellsSame c before m b) (one_same e w bs f v cs B.answer A.answer B.is A.is) B.tells)

turned-way : (r : Result (Option Eighth) Refusal) (before phase n m a b t u : ℕ) → TellsPhase r before phase n a t → TellsPhase r before phase m b u → (n ≡ m) × (a ≡ b) × (t ≡ u)
turned-way (Err k) before phase n m a b t u p q = (p.0 ∙ sym q.0, p.1 ∙ sym q.1, p.2 ∙ sym q.2)
turned-way (Ok (Some k)) before phase n m a b t u p q = (p.0 ∙ sym q.0, p.1 ∙ sym q.1, p.2 ∙ sym q.2)
turned-way (Ok None) before phase n m a b t u p q = (p.0 ∙ sym q.0, p.1 ∙ sym q.1, p.2 ∙ sym q.2)

pub one-phase-told : (e w : ℕ) (bs : List ℕ) (f v : ℕ) (cs : List ℕ) (before phase n m a b t u : ℕ) → PhaseTold e w bs f v cs before phase n a t → PhaseTold e w bs f v cs before phase m b u
    → (n ≡ m) × (a ≡ b) × (t ≡ u)
one-phase-told e w bs f v cs before phase n m a b t u A B =
    turned-way A.answer before phase n m a b t u A.tells (subst (λ (r : Result (Option Eighth) Refusal). TellsPhase r before phase m b u) (one-common-phase e w bs f v cs B.answer A.answer B.is A.is) B.tells)
