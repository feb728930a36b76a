-- Header and contents that were laid, with accepted bodies behind them, are an accepted book that has each body in its place: from the round trip of the contents, body by body.
use mathlib.Core.List.{List, ◌++◌}
use mathlib.Core.Path.{◌≡◌, refl, sym, ap, ap₂, ◌∙◌, subst}
use Prim.Native.Nat.{ℕ, ◌+◌, ◌≤◌, ◌<◌}
use native.Mathlib.Omega.{arith}
use lib.ListN.{length, take, drop, get_or}
use lib.Seq.{drop-append-add}
use Rattle.exact.specs.Refusal.{accepted}
use Rattle.exact.specs.Sum.{total}
use Rattle.exact.proofs.Laws.Sum.{total_ext}
use Rattle.contents.specs.declared.Entry.{Entry}
use Rattle.contents.specs.Contents.{kind_of, width_of, length_of, start_of}
use Rattle.contents_lay.specs.Lay.{laid_start, laid_bytes, lay_number}
use Rattle.contents_lay.proofs.Laws.Lay.{lay-lists}
use Rattle.contents_lay.proofs.Laws.Laid.{length-laid}
use Rattle.contents_lay.proofs.Laws.Round.{Round, round}
use Rattle.body_fields.specs.Fields.{joined}
use Rattle.book.specs.Book.{bytes_of, BodyNumber}
use Rattle.book_bodies.specs.Number.{circuit_body_number, record_body_number, TableNumber}
use Rattle.book.proofs.Laws.Number.{book-clear}
use Rattle.theorem_round_trip.specs.Book.{laid_book, Fits, Holds}
use Rattle.theorem_round_trip.proofs.Laws.Joined.{joined_length, joined_at}

module _ (room ed : ℕ) (ks ws ls : List ℕ) (bodies : ℕ → List ℕ) (z : lay_number room ed ks ws ls ≡ accepted) (fits : (j : ℕ) → j < length ks → Fits ed ks ws ls j (bodies j)) where
  abbrev book : List ℕ
  book = laid_bytes ed ks ws ls ++ joined (length ks) bodies

  lengths : length ls ≡ length ks
  lengths = (lay-lists room ed ks ws ls 0 (sym z) refl).lengths

  -- how many bytes the first bodies are
  first-bodies : (j : ℕ) → j ≤ length ks → length (joined j bodies) ≡ total j (λ v. get_or ls v 0)
  first-bodies j h = joined_length j bodies ∙ total_ext j (λ v. length (bodies v)) (λ v. get_or ls v 0) (λ v l. (fits v (omega arith)).long)

  -- where body j is laid to start, those before it end
  pub starts : (j : ℕ) → j ≤ length ks → laid_start ls j ≡ length (laid_bytes ed ks ws ls) + length (joined j bodies)
  unfolding laid_start
  starts j h = omega (arith, length-laid ed ks ws ls, first-bodies j h, lengths)

  pub ends : laid_start ls (length ls) ≡ length (laid_bytes ed ks ws ls) + length (joined (length ks) bodies)
  ends = ap (laid_start ls) lengths ∙ starts (length ks) (omega arith)

  rounded : Round ed ks ws ls book
  rounded = round room ed ks ws ls (joined (length ks) bodies) z (first-bodies (length ks) (omega arith) ∙ ap (λ (n : ℕ). total n (λ v. get_or ls v 0)) (sym lengths))

  module _ (j : ℕ) (h : j < length ks) where
    kind-is : kind_of book j ≡ get_or ks j 0
    kind-is = ap (λ (e : Entry). e.kind) (rounded.entry j h)

    width_is : width_of book j ≡ get_or ws j 0
    width_is = ap (λ (e : Entry). e.width) (rounded.entry j h)

    length-is : length_of book j ≡ get_or ls j 0
    length-is = ap (λ (e : Entry). e.length) (rounded.entry j h)

    start_is : start_of book j ≡ laid_start ls j
    start_is = ap (λ (e : Entry). e.start) (rounded.entry j h)

    body_is : bytes_of book j ≡ bodies j
    unfolding bytes_of
    body_is =
        ap₂ (λ (k at : ℕ). take k (drop at book)) (length-is ∙ sym (fits j h).long) (start_is ∙ starts j (omega arith))
        ∙ ap (take (length (bodies j))) (drop-append-add (laid_bytes ed ks ws ls) (joined (length ks) bodies) (length (joined j bodies)))
        ∙ joined_at (length ks) j bodies h

    number_is : BodyNumber book j accepted
    number_is = record {
      circuit = λ k. sym (ap (λ (v : ℕ). circuit_body_number v (width_of book j) (bytes_of book j)) rounded.edition ∙ ap₂ (circuit_body_number ed) width_is body_is ∙ (fits j h).circuit (sym kind-is ∙ k));
      table = λ k.
          subst (λ (n : ℕ). TableNumber n (bytes_of book j) accepted) (sym width_is)
          (subst (λ (l : List ℕ). TableNumber (get_or ws j 0) l accepted) (sym body_is) ((fits j h).table (sym kind-is ∙ k)));
      recorded = λ k. sym (ap₂ record_body_number width_is body_is ∙ (fits j h).recorded (sym kind-is ∙ k));
    }

  -- the whole book
  pub laid-book : Holds ed ks ws ls bodies (laid_book ed ks ws ls bodies)
  unfolding laid_book
  laid-book = record {
    edition = rounded.edition;
    contents = rounded.number;
    number = book-clear book (length ks) rounded.number (omega (arith, rounded.count)) number_is;
    count = rounded.count;
    kind = kind-is;
    width = width_is;
    long = length-is;
    body = body_is;
  }
