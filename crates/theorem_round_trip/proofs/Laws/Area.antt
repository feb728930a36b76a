-- An area in which header and contents were laid and body after body was put in its place holds the book at its front, and all other bytes as they were. By induction on the bodies.
use mathlib.Core.List.{List, ◌++◌, append_assoc, append-nil}
use mathlib.Core.Path.{◌≡◌, refl, sym, ap, ap₂, ◌∙◌, subst}
use Prim.Native.Nat.{ℕ, zero, suc, ◌≤◌, ◌<◌}
use native.Mathlib.Omega.{arith}
use lib.ListN.{length, take, drop, length-append}
use Rattle.exact.specs.Refusal.{accepted}
use Rattle.fields.specs.Bytes.{front, over}
use Rattle.fields.proofs.Laws.Front.{front-more, take-front}
use Rattle.fields.proofs.Laws.Over.{over-front}
use Rattle.contents_lay.specs.declared.Written.{Written}
use Rattle.contents_lay.specs.Lay.{laid_start, laid_bytes, lay_number, laid_answer}
use Rattle.contents_lay.proofs.Laws.Laid.{length-laid, laid-area}
use Rattle.body_fields.specs.Fields.{joined}
use Rattle.theorem_round_trip.specs.Book.{laid_book, Fits, Holds, PutTogether}
use Rattle.theorem_round_trip.proofs.Laws.Book.{starts, ends, laid-book}

-- cs put behind bs at the front
front-on : (xs bs cs : List ℕ) → over (front xs bs) (length bs) cs ≡ front xs (bs ++ cs)
front-on xs bs cs = sym (over-front (front xs bs) cs (length bs)) ∙ front-more xs bs cs (length bs) refl

module _ (xs : List ℕ) (ed : ℕ) (ks ws ls : List ℕ) (bodies areas : ℕ → List ℕ) (r : Written) (P : PutTogether xs ed ks ws ls bodies areas r) (fits : (j : ℕ) → j < length ks → Fits ed ks ws ls j (bodies j)) where
  lay-accepted : lay_number (length xs) ed ks ws ls ≡ accepted
  unfolding laid_answer
  lay-accepted = sym (ap (λ (w : Written). w.refusal) P.laid.answer) ∙ P.unrefused

  first-area : areas 0 ≡ front xs (laid_bytes ed ks ws ls)
  unfolding front
  first-area =
      P.laid.area ∙ laid-area xs ed ks ws ls lay-accepted ∙ ap (λ (n : ℕ). laid_bytes ed ks ws ls ++ drop n xs) (sym (length-laid ed ks ws ls))

  -- with the first n bodies
  area-with : (n : ℕ) → n ≤ length ks → areas n ≡ front xs (laid_bytes ed ks ws ls ++ joined n bodies)
  unfolding joined
  area-with zero h = first-area ∙ ap (front xs) (sym (append-nil (laid_bytes ed ks ws ls)))
  area-with (suc n) h =
      let bs = laid_bytes ed ks ws ls ++ joined n bodies in
      let at : laid_start ls n ≡ length bs = starts (length xs) ed ks ws ls bodies lay-accepted fits n (omega arith) ∙ sym (length-append (laid_bytes ed ks ws ls) (joined n bodies)) in
      P.put n (omega arith)
      ∙ ap₂ (λ (l : List ℕ) (k : ℕ). over l k (bodies n)) (area-with n (omega arith)) at
      ∙ front-on xs bs (bodies n)
      ∙ ap (front xs) (append_assoc (laid_bytes ed ks ws ls) (joined n bodies) (bodies n))

  -- with all of them: the book at the front, and all other bytes as they were
  pub put-area : areas (length ks) ≡ front xs (laid_book ed ks ws ls bodies)
  unfolding laid_book
  put-area = area-with (length ks) (omega arith)

  book-length : length (laid_book ed ks ws ls bodies) ≡ laid_start ls (length ls)
  unfolding laid_book
  book-length = length-append (laid_bytes ed ks ws ls) (joined (length ks) bodies) ∙ sym (ends (length xs) ed ks ws ls bodies lay-accepted fits)

  -- so many bytes from the front on are an accepted book
  pub put-book : Holds ed ks ws ls bodies (take (laid_start ls (length ls)) (areas (length ks)))
  put-book = subst (Holds ed ks ws ls bodies) (sym first-bytes) (laid-book (length xs) ed ks ws ls bodies lay-accepted fits)
    where
      first-bytes : take (laid_start ls (length ls)) (areas (length ks)) ≡ laid_book ed ks ws ls bodies
      first-bytes = ap (take (laid_start ls (length ls))) put-area ∙ take-front xs (laid_book ed ks ws ls bodies) (laid_start ls (length ls)) book-length
