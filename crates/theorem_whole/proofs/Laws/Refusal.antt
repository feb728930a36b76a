-- The number of a book by its bytes is the number that the library's promises name, both ways.
use mathlib.Core.Bool.{Bool, true, false}
use mathlib.Core.List.{List}
use mathlib.Core.Logic.{inl, inr, ⊎_elim}
use mathlib.Core.Path.{◌≡◌, refl, sym, ap, ◌∙◌}
use Prim.Native.Nat.{ℕ}
use native.Mathlib.Omega.{arith}
use Rattle.exact.specs.Refusal.{accepted, bad_body}
use Rattle.contents.specs.Contents.{edition_of, count_of, kind_of, width_of}
use Rattle.body_bytes.specs.Body.{body_fault}
use Rattle.body_bytes.proofs.Laws.Fine.{fine}
use Rattle.book.specs.Book.{bytes_of, BodyNumber, BodiesNumber, BookNumber}
use Rattle.bits.proofs.Laws.Bit.{same_or}
use Rattle.book_bodies.specs.declared.Body.{Body}
use Rattle.book_bodies.specs.Number.{circuit_body_number, record_body_number, TableNumber}
use Rattle.book_bodies.specs.Answer.{said_number, CircuitAnswer, RecordAnswer, TableAnswer, BodyAnswer}
use Rattle.theorem_whole.specs.Text.{TableRefusal, BodyRefusal, FirstRefusal, BookRefusal}
use Rattle.theorem_whole.proofs.Laws.Normal.{to-bytes, from_bytes}

-- a number that accepts is not 11's
pub unfaulted : (f : Bool) (k : ℕ) → k ≡ accepted → (f ≡ true → k ≡ bad_body) → f ≡ false
unfaulted true k z h = absurd (omega (arith, z, h refl))
unfaulted false k z h = refl

-- ---- from the promises to the bytes
table_to : (n : ℕ) (bs : List ℕ) (k : ℕ) → TableNumber n bs k → TableRefusal n bs k
table_to n bs k N = record {
  fault = N.fault;
  broken = λ h b. N.broken h (λ t. b (to-bytes n bs (fine n bs h) t));
  sound = λ h b. N.sound h (from_bytes n bs (fine n bs h) b);
  normal = λ z. to-bytes n bs (fine n bs (unfaulted (body_fault n bs) k z N.fault)) (N.normal z);
}

pub body-to : (bs : List ℕ) (j k : ℕ) → BodyNumber bs j k → BodyRefusal bs j k
body-to bs j k N = record { circuit = N.circuit; table = λ e. table_to (width_of bs j) (bytes_of bs j) k (N.table e); recorded = N.recorded }

pub book-to : (bs : List ℕ) (k : ℕ) → BookNumber bs k → BookRefusal bs k
book-to bs k N = record { contents = N.contents; bodies = λ z. go (N.bodies z) }
  where
    go : BodiesNumber bs k → FirstRefusal bs (count_of bs) k
    go (inl c) = inl (c.0, λ i l. body-to bs i accepted (c.1 i l))
    go (inr r) = inr (r.at, r.below, λ i l. body-to bs i accepted (r.before i l), body-to bs r.at k r.here, r.refused)

-- ---- and back
table-from : (n : ℕ) (bs : List ℕ) (k : ℕ) → TableRefusal n bs k → TableNumber n bs k
table-from n bs k N = record {
  fault = N.fault;
  broken = λ h b. N.broken h (λ t. b (from_bytes n bs (fine n bs h) t));
  sound = λ h b. N.sound h (to-bytes n bs (fine n bs h) b);
  normal = λ z. from_bytes n bs (fine n bs (unfaulted (body_fault n bs) k z N.fault)) (N.normal z);
}

pub body-from : (bs : List ℕ) (j k : ℕ) → BodyRefusal bs j k → BodyNumber bs j k
body-from bs j k N = record { circuit = N.circuit; table = λ e. table-from (width_of bs j) (bytes_of bs j) k (N.table e); recorded = N.recorded }

pub book-from : (bs : List ℕ) (k : ℕ) → BookRefusal bs k → BookNumber bs k
book-from bs k N = record { contents = N.contents; bodies = λ z. go (N.bodies z) }
  where
    go : FirstRefusal bs (count_of bs) k → BodiesNumber bs k
    go (inl c) = inl (c.0, λ i l. body-from bs i accepted (c.1 i l))
    go (inr (j, l, b, h, r)) = inr (record { at = j; below = l; before = λ i q. body-from bs i accepted (b i q); here = body-from bs j k h; refused = r })

-- ---- what a body answers says its number
module _ (n : ℕ) (bs : List ℕ) (r : Body) where
  of : (s : Body) → r ≡ s → said_number r.said ≡ said_number s.said
  of s e = ap (λ (b : Body). said_number b.said) e

  circuit-said : (ed : ℕ) → CircuitAnswer ed n bs r → said_number r.said ≡ circuit_body_number ed n bs
  circuit-said ed A = ⊎_elim (λ z. of _ (A.given z) ∙ sym z) (λ ne. of _ (A.refused ne)) (same_or (circuit_body_number ed n bs) accepted)

  record-said : RecordAnswer n bs r → said_number r.said ≡ record_body_number n bs
  record-said A = ⊎_elim (λ z. of _ (A.given z) ∙ sym z) (λ ne. of _ (A.refused ne)) (same_or (record_body_number n bs) accepted)

  table-said : TableAnswer n bs r → TableNumber n bs (said_number r.said)
  table-said A = record { fault = λ f. of _ (A.fault f); broken = λ f b. of _ (A.broken f b); sound = λ f b. of _ (A.sound f b); normal = A.normal }

pub body-said : (bs : List ℕ) (j : ℕ) (r : Body) → BodyAnswer (edition_of bs) (kind_of bs j) (width_of bs j) (bytes_of bs j) r → BodyNumber bs j (said_number r.said)
body-said bs j r A = record {
  circuit = λ k. circuit-said (width_of bs j) (bytes_of bs j) r (edition_of bs) (A.circuit k);
  table = λ k. table-said (width_of bs j) (bytes_of bs j) r (A.table k);
  recorded = λ k. record-said (width_of bs j) (bytes_of bs j) r (A.recorded k);
}
