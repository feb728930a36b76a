-- A table that was written as a body of a book is read from the book as it was, its live bits renumbered in rising order: the book is not refused, and the body's bytes are those that were written.
use mathlib.Core.List.{List}
use mathlib.Core.Path.{◌≡◌, refl, sym, ap, ◌∙◌, subst}
use Prim.Native.Nat.{ℕ, ◌<◌}
use native.Mathlib.Omega.{arith}
use lib.Count.{ones}
use lib.ListN.{length, get_or}
use Rattle.exact.specs.Refusal.{accepted}
use Rattle.state.specs.declared.State.{State}
use Rattle.state.specs.Entry.{entry}
use Rattle.state.specs.Normal.{Normal}
use Rattle.body_pack.specs.Packed.{packed_table, unpacked}
use Rattle.body_write.specs.Body as pack
use Rattle.body_pack.proofs.Laws.Entry.{packed-entry}
use Rattle.book_bodies.specs.declared.Body.{Body}
use Rattle.book.specs.Book.{bytes_of}
use Rattle.book_bodies.specs.Number.{TableNumber}
use Rattle.book.specs.Read.{ReadsBody}
use Rattle.book_bodies.specs.Answer.{table_body, TableAnswer}
use Rattle.theorem_round_trip.specs.Book.{Holds}
use Rattle.theorem_round_trip.proofs.Laws.Back.{written-fine, written-table, written-normal}

module _ (t : State) (N : Normal t) where
  -- a written table is a body that is not refused
  pub written-number : TableNumber (ones t.live) (pack.body_bytes t) accepted
  written-number = record {
    fault = λ f. absurd (let z : ◌≡◌ {A = ℕ} 0 1 = cc (written-fine t N) in omega arith);
    broken = λ f k. absurd (k (written-normal t N));
    sound = λ f k. refl;
    normal = λ z. written-normal t N;
  }

  module _ (ed : ℕ) (ks ws ls : List ℕ) (bodies : ℕ → List ℕ) (bs : List ℕ) (H : Holds ed ks ws ls bodies bs) where
    module _ (j : ℕ) (h : j < length ks) (kind : get_or ks j 0 ≡ 2) (width : get_or ws j 0 ≡ ones t.live) (body : bodies j ≡ pack.body_bytes t) (r : Body) (R : ReadsBody bs j r) where
      answers : TableAnswer (ones t.live) (pack.body_bytes t) r
      answers =
          let A = (R.answer H.contents (omega (arith, H.count))).table (H.kind j h ∙ kind) in
          subst (λ (l : List ℕ). TableAnswer (ones t.live) l r) (H.body j h ∙ body)
          (subst (λ (n : ℕ). TableAnswer n (bytes_of bs j) r) (H.width j h ∙ width) A)

      pub kept : r ≡ table_body (packed_table t)
      kept = answers.sound (written-fine t N) (written-normal t N) ∙ ap table_body (sym (written-table t N))

      -- "A table written to a book reads back with the same entries"
      pub kept-values : (y : ℕ → ℕ) → entry r.table y ≡ entry t (unpacked t.live y)
      kept-values y = ap (λ (q : Body). entry q.table y) kept ∙ packed-entry t N y
