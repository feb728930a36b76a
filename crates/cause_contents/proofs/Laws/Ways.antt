-- The first fault of header and contents on each way through the code.
use mathlib.Core.Bool.{not}
use mathlib.Core.List.{List, []}
use mathlib.Core.Logic.{◌≢◌}
use mathlib.Core.Path.{◌≡◌, refl, sym, ap, ap₂, ◌∙◌}
use Prim.Native.Nat.{ℕ, ◌+◌, ◌*◌, ◌≤◌, ◌<◌}
use native.Mathlib.Omega.{arith}
use lib.ListN.{length}
use borrow.Author.Tests.{lt-ltb, le-ltb, eq-eqb, ne_eqb}
use Rattle.contents.specs.declared.Entry.{Entry}
use Rattle.contents.specs.Contents.{edition_of, count_of, entry_of, body_start}
use Rattle.cause.specs.declared.Cause.TheVariants.{Contents, LastEnd}
use Rattle.cause.specs.Cause.{Finding, number_of, found, sound, found_number, first_below}
use Rattle.cause.proofs.Laws.First.{pick, pass, no_more, order-here, order-next, order-end, below-here}
use Rattle.cause_contents.specs.Contents.{header_found, entry_found, short_found, end_found, entry_at, contents_found}

-- a turn of the loop looks at entry j
pub turn-entry : (bs : List ℕ) (j at ed : ℕ) (e : Entry) (r : Finding) → e ≡ entry_of bs j → at ≡ body_start bs j → ed ≡ edition_of bs → r ≡ entry_found ed e j at (length bs) → r ≡ entry_at bs j
turn-entry bs j at ed e r is from states h =
    h ∙ ap (λ (x : ℕ). entry_found x e j at (length bs)) states ∙ ap₂ (λ (x : Entry) (y : ℕ). entry_found (edition_of bs) x j y (length bs)) is from

module _ (bs : List ℕ) (r : Finding) where
  pub at-header : r ≡ header_found bs → found_number r ≢ 0 → r ≡ contents_found bs
  unfolding contents_found
  at-header e ne = order-here _ _ _ e ne

  module _ (head : found_number (header_found bs) ≡ 0) where
    pub at-short : length bs < 4 + 8 * count_of bs → r ≡ found Contents 0 (length bs) → r ≡ contents_found bs
    unfolding contents_found short_found number_of
    at-short l e = order-next _ _ _ head (order-here _ _ _ (pick _ _ _ _ e (lt-ltb (length bs) (4 + 8 * count_of bs) l)) (λ z. let q : 10 ≡ 0 = sym (ap found_number e) ∙ z in omega arith))

    module _ (long : 4 + 8 * count_of bs ≤ length bs) where
      not_short : found_number (short_found bs) ≡ 0
      unfolding short_found number_of
      not_short = sym (ap found_number (pass _ (found Contents 0 (length bs)) sound [] (le-ltb (length bs) (4 + 8 * count_of bs) long) (no_more sound refl)))

      pub at_entry : (j : ℕ) → first_below j (entry_at bs) ≡ sound → j < count_of bs → r ≡ entry_at bs j → found_number r ≢ 0 → r ≡ contents_found bs
      unfolding contents_found
      at_entry j s l e ne = order-next _ _ _ head (order-next _ _ _ not_short (order-here _ _ _ (e ∙ below-here (entry_at bs) j (count_of bs) s l (λ z. ne (ap found_number e ∙ z))) ne))

      module _ (clear : sound ≡ first_below (count_of bs) (entry_at bs)) where
        no-entry : found_number (first_below (count_of bs) (entry_at bs)) ≡ 0
        unfolding number_of
        no-entry = sym (ap found_number clear)

        pub at-end : body_start bs (count_of bs) ≢ length bs → r ≡ found LastEnd 0 (body_start bs (count_of bs)) → r ≡ contents_found bs
        unfolding contents_found end_found number_of
        at-end ne e = order-next _ _ _ head (order-next _ _ _ not_short (order-next _ _ _ no-entry (order-here _ _ _ (pick _ _ _ _ e (ap not (ne_eqb (body_start bs (count_of bs)) (length bs) ne))) (λ z. let q : 10 ≡ 0 = sym (ap found_number e) ∙ z in omega arith))))

        not_end : body_start bs (count_of bs) ≡ length bs → found_number (end_found bs) ≡ 0
        unfolding end_found number_of
        not_end h = sym (ap found_number (pass _ (found LastEnd 0 (body_start bs (count_of bs))) sound [] (ap not (eq-eqb (body_start bs (count_of bs)) (length bs) h)) (no_more sound refl)))

        pub at-good : body_start bs (count_of bs) ≡ length bs → r ≡ sound → r ≡ contents_found bs
        unfolding contents_found
        at-good h e = order-next _ _ _ head (order-next _ _ _ not_short (order-next _ _ _ no-entry (order-next _ _ _ (not_end h) (e ∙ order-end))))
