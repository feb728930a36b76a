-- What is told on each way through the code, case by case of the body.
use mathlib.Core.Path.{◌≡◌, refl, sym, ap, ◌∙◌}
use Prim.Native.Nat.{ℕ}
use native.Mathlib.Omega.{arith}
use lib.Count.{ones}
use Rattle.exact.specs.declared.Amount.{Amount}
use Rattle.exact.specs.declared.Chance.{Chance}
use Rattle.exact.specs.Chance.{chance_amount}
use Rattle.state.specs.Entry.{ties}
use Rattle.book_bodies.specs.declared.Said.{Said}
use Rattle.book_bodies.specs.declared.Said.TheVariants.{Refused, Circuit, Record, Whole}
use Rattle.book_bodies.specs.declared.Body.{Body}
use Rattle.book_bodies.specs.Answer.{said_number, said_amount, said_chance}
use Rattle.listing_line.specs.Line.{table_amount}
use Rattle.told.specs.Told.{Shown, shown, BodyTold}

-- ---- a body
case : Said → ℕ
case (Refused k) = 0
case (Circuit a) = 1
case Whole = 2
case (Record c) = 3

no-circuit : (k : ℕ) (a : Amount) → Refused k ≡ Circuit a → ⊥
unfolding case
no-circuit k a e = let f : ◌≡◌ {A = ℕ} 0 1 = ap case e in omega (arith, f)

no_whole : (k : ℕ) → Refused k ≡ Whole → ⊥
unfolding case
no_whole k e = let f : ◌≡◌ {A = ℕ} 0 2 = ap case e in omega (arith, f)

no_table : (a : Amount) → Circuit a ≡ Whole → ⊥
unfolding case
no_table a e = let f : ◌≡◌ {A = ℕ} 1 2 = ap case e in omega (arith, f)

no_record : (k : ℕ) (c : Chance) → Refused k ≡ Record c → ⊥
unfolding case
no_record k c e = let f : ◌≡◌ {A = ℕ} 0 3 = ap case e in omega (arith, f)

circuit-record : (a : Amount) (c : Chance) → Circuit a ≡ Record c → ⊥
unfolding case
circuit-record a c e = let f : ◌≡◌ {A = ℕ} 1 3 = ap case e in omega (arith, f)

record-table : (c : Chance) → Record c ≡ Whole → ⊥
unfolding case
record-table c e = let f : ◌≡◌ {A = ℕ} 3 2 = ap case e in omega (arith, f)

module _ (b : Body) (t : Shown) where
  pub body_refused : (k : ℕ) → b.said ≡ Refused k → BodyTold b t k t
  body_refused k e = record {
    number = sym (ap said_number e);
    kept = λ i f. refl;
    circuit = λ a f. absurd (no-circuit k a (sym e ∙ f));
    recorded = λ c f. absurd (no_record k c (sym e ∙ f));
    table = λ f. absurd (no_whole k (sym e ∙ f));
  }

  pub body-circuit : (a : Amount) (u : Shown) → b.said ≡ Circuit a → u ≡ shown 1 0 0 a → BodyTold b t 0 u
  body-circuit a u e g = record {
    number = sym (ap said_number e);
    kept = λ k f. absurd (no-circuit k a (sym f ∙ e));
    circuit = λ m f. g ∙ ap (λ (s : Said). shown 1 0 0 (said_amount s)) (sym e ∙ f);
    recorded = λ c f. absurd (circuit-record a c (sym e ∙ f));
    table = λ f. absurd (no_table a (sym e ∙ f));
  }

  pub body-record : (c : Chance) (u : Shown) → b.said ≡ Record c → u ≡ shown 3 0 0 (chance_amount c) → BodyTold b t 0 u
  body-record c u e g = record {
    number = sym (ap said_number e);
    kept = λ k f. absurd (no_record k c (sym f ∙ e));
    circuit = λ a f. absurd (circuit-record a c (sym f ∙ e));
    recorded = λ d f. g ∙ ap (λ (s : Said). shown 3 0 0 (chance_amount (said_chance s))) (sym e ∙ f);
    table = λ f. absurd (record-table c (sym e ∙ f));
  }

  pub body-table : (u : Shown) → b.said ≡ Whole → u ≡ shown 2 (ones b.table.live) (ties b.table) (table_amount b.table) → BodyTold b t 0 u
  body-table u e g = record {
    number = sym (ap said_number e);
    kept = λ k f. absurd (no_whole k (sym f ∙ e));
    circuit = λ a f. absurd (no_table a (sym f ∙ e));
    recorded = λ c f. absurd (record-table c (sym f ∙ e));
    table = λ f. g;
  }
