-- No second result: a number has one answer, its kind or 10.
use mathlib.Core.Path.{◌≡◌, refl, sym, ap, ◌∙◌}
use Prim.Native.Nat.{ℕ}
use native.Mathlib.Omega.{arith}
use Rattle.std.specs.Prelude.{Result, Ok, Err}
use Rattle.exact.specs.declared.Refusal.{Refusal}
use Rattle.contents.specs.Kind.{Kind, Circuit, Table, Record, kind_number, StatesKind}

-- no two kinds have one number
kind-only : (a b : Kind) → kind_number a ≡ kind_number b → a ≡ b
kind-only Circuit Circuit e = refl
kind-only Circuit Table e = absurd (omega (arith, e))
kind-only Circuit Record e = absurd (omega (arith, e))
kind-only Table Circuit e = absurd (omega (arith, e))
kind-only Table Table e = refl
kind-only Table Record e = absurd (omega (arith, e))
kind-only Record Circuit e = absurd (omega (arith, e))
kind-only Record Table e = absurd (omega (arith, e))
kind-only Record Record e = refl

-- a kind's number is not refused
kind-stated : (k : ℕ) (a : Kind) (e : Refusal) → kind_number a ≡ k → StatesKind k (Err e) → ⊥
kind-stated k Circuit e p q = q.1 (sym p)
kind-stated k Table e p q = q.2 (sym p)
kind-stated k Record e p q = q.3 (sym p)

pub one-kind : (k : ℕ) (r s : Result Kind Refusal) → StatesKind k r → StatesKind k s → r ≡ s
one-kind k (Ok a) (Ok b) p q = ap Ok (kind-only a b (p ∙ sym q))
one-kind k (Ok a) (Err e) p q = absurd (kind-stated k a e p q)
one-kind k (Err d) (Ok b) p q = absurd (kind-stated k b d q p)
one-kind k (Err d) (Err e) p q = ap Err (p.0 ∙ sym q.0)
