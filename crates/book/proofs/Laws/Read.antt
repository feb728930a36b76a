-- What reading a body of a book answers on each way through the code.
use mathlib.Core.List.{List}
use mathlib.Core.Logic.{◌≢◌}
use mathlib.Core.Path.{◌≡◌, ap, ◌∙◌}
use Prim.Native.Nat.{ℕ, ◌≤◌, ◌<◌}
use native.Mathlib.Omega.{arith}
use Rattle.contents.specs.Contents.{edition_of, count_of, kind_of, width_of, contents_number}
use Rattle.book.specs.Book.{bytes_of, BookNumber}
use Rattle.book.specs.Read.{ReadsBody, ReadsStrict}
use Rattle.book_bodies.specs.declared.Body.{Body}
use Rattle.book_bodies.specs.Answer.{refusal, BodyAnswer}

-- ---- a body on its own
module _ (bs : List ℕ) (j : ℕ) (r : Body) where
  pub reads-refused : (k : ℕ) → k ≡ contents_number bs → k ≢ 0 → r ≡ refusal k → ReadsBody bs j r
  reads-refused k n ne e = record {
    refused = λ h. e ∙ ap refusal n;
    beyond = λ z h. absurd (ne (n ∙ z));
    answer = λ z h. absurd (ne (n ∙ z));
  }

  module _ (z : contents_number bs ≡ 0) where
    pub reads-beyond : count_of bs ≤ j → r ≡ refusal 14 → ReadsBody bs j r
    reads-beyond h e = record {
      refused = λ ne. absurd (ne z);
      beyond = λ y l. e;
      answer = λ y l. absurd (omega (arith, h, l));
    }

    pub reads-answer : j < count_of bs → BodyAnswer (edition_of bs) (kind_of bs j) (width_of bs j) (bytes_of bs j) r → ReadsBody bs j r
    reads-answer h a = record {
      refused = λ ne. absurd (ne z);
      beyond = λ y l. absurd (omega (arith, h, l));
      answer = λ y l. a;
    }

-- ---- a body of a tested book
module _ (bs : List ℕ) (j k : ℕ) (r : Body) (B : BookNumber bs k) where
  pub strict-refused : k ≢ 0 → r ≡ refusal k → ReadsStrict bs j r
  strict-refused ne e = record { number = k; tested = B; refused = λ h. e; read = λ z. absurd (ne z) }

  pub strict-read : k ≡ 0 → ReadsBody bs j r → ReadsStrict bs j r
  strict-read z A = record { number = k; tested = B; refused = λ ne. absurd (ne z); read = λ y. A }
