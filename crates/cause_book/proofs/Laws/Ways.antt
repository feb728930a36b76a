-- Why a book or a body of it is refused, on each way through the code.
use mathlib.Core.List.{List}
use mathlib.Core.Logic.{◌≢◌, inl, inr, ⊎_elim}
use mathlib.Core.Path.{◌≡◌, refl, sym, ap, ◌∙◌, subst}
use Prim.Native.Nat.{ℕ, ◌+◌, ◌≤◌, ◌<◌}
use native.Mathlib.Omega.{arith}
use Rattle.std.specs.Prelude.{Option, Some, None, Ok, Err}
use Rattle.exact.proofs.Laws.Sum.{split}
use Rattle.contents.specs.Contents.{count_of, contents_number}
use Rattle.cause.specs.declared.Cause.TheVariants.{NoBody}
use Rattle.cause.specs.Cause.{Finding, found, sound, found_number}
use Rattle.cause.proofs.Laws.First.{plain}
use Rattle.cause_contents.specs.Contents.{contents_found}
use Rattle.cause_contents.proofs.Laws.Number.{contents-number}
use Rattle.cause_book.specs.Why.{Reason, Why, why_of, why_number, BodyFound, Unfaulted, BookWhy, BodyWhy}

-- ---- what `told` answers has the number of the fault
pub why-finding : (b : Option ℕ) (f : Finding) → why_number (why_of b f) ≡ found_number f
why-finding b (Ok tt) = refl
why-finding b (Err f) = refl

pub told-good : (b : Option ℕ) (f : Finding) → Ok tt ≡ why_of b f → found_number f ≡ 0
told-good b f h = sym (why-finding b f) ∙ ap why_number (sym h)

pub told-refused : (b : Option ℕ) (f : Finding) (r : Reason) → Err r ≡ why_of b f → found_number f ≢ 0
told-refused b f r h z = clash (h ∙ ap (why_of b) (plain f z))
  where
    clash : ◌≡◌ {A = Why} (Err r) (Ok tt) → ⊥
    clash e = cc

module _ (bs : List ℕ) (f : Finding) (e : f ≡ contents_found bs) where
  pub front-good : Ok tt ≡ why_of None f → contents_number bs ≡ 0
  front-good h = sym (contents-number bs) ∙ sym (ap found_number e) ∙ told-good None f h

  pub front-refused : (r : Reason) → Err r ≡ why_of None f → contents_number bs ≢ 0
  front-refused r h z = told-refused None f r h (ap found_number e ∙ contents-number bs ∙ z)

module _ (bs : List ℕ) where
  pub none_yet : Unfaulted bs 0
  none_yet i h = absurd (omega (arith, h))

  pub next-clear : (j : ℕ) (f : Finding) → Unfaulted bs j → BodyFound bs j f → found_number f ≡ 0 → Unfaulted bs (j + 1)
  next-clear j f C F z i h = ⊎_elim (λ l. C i l) (λ l. let q : j ≡ i = omega (arith, l, h) in subst (λ (v : ℕ). BodyFound bs v sound) q (subst (BodyFound bs j) (plain f z) F)) (split i j)

  module _ (r : Why) where
    pub why-contents : (f : Finding) → f ≡ contents_found bs → contents_number bs ≢ 0 → r ≡ why_of None f → BookWhy bs r
    why-contents f e ne h = record { contents = λ n. h ∙ ap (why_of None) e; bodies = λ z. absurd (ne z) }

    pub why-first : (j : ℕ) (f : Finding) → contents_number bs ≡ 0 → j < count_of bs → Unfaulted bs j → BodyFound bs j f → found_number f ≢ 0 → r ≡ why_of (Some j) f → BookWhy bs r
    why-first j f z l C F ne h = record {
      contents = λ n. absurd (n z);
      bodies = λ q. inr (record { at = j; below = l; before = C; fault = f; here = F; faulty = ne; is = h });
    }

    pub why-none : (j : ℕ) → contents_number bs ≡ 0 → count_of bs ≤ j → Unfaulted bs j → r ≡ why_of None sound → BookWhy bs r
    why-none j z l C h = record { contents = λ n. absurd (n z); bodies = λ q. inl (h, λ i k. C i (omega (arith, l, k))) }

    pub body-contents : (j : ℕ) (f : Finding) → f ≡ contents_found bs → contents_number bs ≢ 0 → r ≡ why_of None f → BodyWhy bs j r
    body-contents j f e ne h = record { refused = λ n. h ∙ ap (why_of None) e; beyond = λ z l. absurd (ne z); fault = sound; here = λ z l. absurd (ne z); is = λ z l. absurd (ne z) }

    pub body-beyond : (j : ℕ) (f : Finding) → contents_number bs ≡ 0 → count_of bs ≤ j → f ≡ found NoBody 0 3 → r ≡ why_of None f → BodyWhy bs j r
    body-beyond j f z l e h = record { refused = λ n. absurd (n z); beyond = λ q k. h ∙ ap (why_of None) e; fault = sound; here = λ q k. absurd (omega (arith, l, k)); is = λ q k. absurd (omega (arith, l, k)) }

    pub body-here : (j : ℕ) (f : Finding) → contents_number bs ≡ 0 → j < count_of bs → BodyFound bs j f → r ≡ why_of (Some j) f → BodyWhy bs j r
    body-here j f z l F h = record { refused = λ n. absurd (n z); beyond = λ q k. absurd (omega (arith, l, k)); fault = f; here = λ q k. F; is = λ q k. h }
