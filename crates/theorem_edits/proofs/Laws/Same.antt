-- A book closed up from its own bodies is the book, and so a body replaced by itself changes nothing: each part of the contents is the segment that stated it.
use mathlib.Core.Bool.{not}
use mathlib.Core.List.{List, [], ◌∷◌, ◌++◌}
use mathlib.Core.Path.{◌≡◌, refl, sym, ap, ap₂, ◌∙◌}
use Prim.Native.Nat.{ℕ, zero, suc, ◌+◌, ◌-◌, ◌*◌, ◌≤◌, ◌<◌}
use native.Mathlib.Decide.{ℕ_discrete}
use native.Mathlib.Omega.{arith}
use borrow.Author.Tests.{lt-ltb}
use lib.ListN.{length, take, drop, get_or, replicate, take-append-drop}
use lib.Seq.{take-length, length-take-le}
use Rattle.exact.specs.Refusal.{accepted}
use Rattle.exact.specs.Sum.{total}
use Rattle.exact.proofs.Laws.Sum.{total_ext}
use Rattle.fields.specs.Bytes.{byte_at, number}
use Rattle.fields.proofs.Laws.Number.{le-number}
use Rattle.fields.proofs.Laws.Listed.{length-listed, listed_at}
use Rattle.contents.specs.Contents.{edition_of, count_of, kind_of, width_of, length_of, start_of, entry_of, body_start, contents_number}
use Rattle.contents.proofs.Laws.Good.{good}
use Rattle.contents_lay.specs.Lay.{header_bytes, entry_bytes, laid_start, entries_bytes, laid_bytes}
use Rattle.book.specs.Book.{bytes_of, BookNumber}
use Rattle.book.proofs.Laws.Number.{contents-good}
use Rattle.body_fields.proofs.Laws.Segment.{segment, segment-next, front-then, segment-byte}
use Rattle.edit_numbers.specs.Volume.{Volume, Edit, replace, volume_of, swapped, edited, closed_up}
use Rattle.edit_numbers.specs.Number.{BookEdit, size_after}
use Rattle.edit_numbers.proofs.Laws.Run.{run-first}
use Rattle.edit_numbers.proofs.Laws.Parts.{kinds_of, widths_of, lengths_of, closed_is, swapped_at, swapped_off}
use Rattle.edit_numbers.proofs.Laws.Order.{room-tested, room-none}
use Rattle.edit_numbers.proofs.Laws.Only.{one-edit-number}
use Rattle.edit_plans.proofs.Laws.Held.{body-length}
use Rattle.edit.specs.declared.Edited.{Edited}
use Rattle.edit.specs.Edit.{new_length, closed, Edits}
use Rattle.edit.proofs.Laws.Accepted.{letter-one, letter-two}
use Rattle.edit.proofs.Laws.Bodies.{fine-old}

module _ (bs : List ℕ) (small : (i : ℕ) → byte_at bs i < 256) (z : contents_number bs ≡ 0) where
  abbrev v : Volume
  v = volume_of bs

  abbrev c : ℕ
  c = count_of bs

  -- ---- the header
  header-same : header_bytes (edition_of bs) c ≡ take 4 bs
  unfolding edition_of count_of
  header-same =
      let long = (good bs z).long in
      ap₂ (λ (a b : ℕ). a ∷ b ∷ byte_at bs 2 ∷ byte_at bs 3 ∷ []) (sym (letter-one bs z)) (sym (letter-two bs z))
      ∙ front-then bs 3 1 4 refl (front-then bs 2 1 3 refl (front-then bs 1 1 2 refl (segment-byte bs 0 (omega (arith, long))) (segment-byte bs 1 (omega (arith, long)))) (segment-byte bs 2 (omega (arith, long)))) (segment-byte bs 3 (omega (arith, long)))

  -- ---- the entries
  starts : (i : ℕ) → i ≤ c → laid_start (lengths_of v) i ≡ body_start bs i
  unfolding laid_start body_start
  starts i h =
      let sum : total i (λ u. get_or (lengths_of v) u 0) ≡ total i (length_of bs) =
      total_ext i (λ u. get_or (lengths_of v) u 0) (length_of bs) (λ u l. listed_at 0 c (λ k. length (bytes_of bs k)) u (omega arith) ∙ body-length bs z u (omega arith)) in
      omega (arith, sum, length-listed c (λ k. length (bytes_of bs k)))

  entry-same : (i : ℕ) → i < c → entry_bytes (kind_of bs i) (width_of bs i) (length_of bs i) (start_of bs i) ≡ segment bs (4 + 8 * i) 8
  unfolding entry_bytes kind_of width_of length_of start_of
  entry-same i h =
      let at = 4 + 8 * i in
      let long : at + 8 ≤ length bs = omega (arith, (good bs z).long) in
      ap₂ ◌++◌ (ap₂ ◌++◌ (segment-byte bs at (omega (arith, long))) (segment-byte bs (at + 1) (omega (arith, long))) ∙ segment-next bs at 1 1)
      (ap₂ ◌++◌ (le-number 2 bs (at + 2) (omega (arith, long)) small) (le-number 4 bs (at + 4) (omega (arith, long)) small ∙ ap (λ (k : ℕ). segment bs k 4) (apart at)) ∙ segment-next bs (at + 2) 2 4)
      ∙ segment-next bs at 2 6
    where
      apart : (k : ℕ) → k + 4 ≡ k + 2 + 2
      apart k = omega arith

  entries-same : (i : ℕ) → i ≤ c → entries_bytes (kinds_of v) (widths_of v) (lengths_of v) i ≡ segment bs 4 (8 * i)
  unfolding entries_bytes
  entries-same zero h = refl
  entries-same (suc i) h =
      let l : i < c = omega arith in
      let e : 8 * i + 8 ≡ 8 * suc i = omega arith in
      ap₂ ◌++◌ (entries-same i (omega arith))
      (fields i l ∙ entry-same i l)
      ∙ segment-next bs 4 (8 * i) 8
      ∙ ap (segment bs 4) e
    where
      fields : (i : ℕ) → i < c → entry_bytes (get_or (kinds_of v) i 0) (get_or (widths_of v) i 0) (get_or (lengths_of v) i 0) (laid_start (lengths_of v) i) ≡ entry_bytes (kind_of bs i) (width_of bs i) (length_of bs i) (start_of bs i)
      fields i l =
          ap₂ (λ (a b : ℕ). entry_bytes a b (get_or (lengths_of v) i 0) (laid_start (lengths_of v) i)) (listed_at 0 c (kind_of bs) i l) (listed_at 0 c (width_of bs) i l)
          ∙ ap₂ (λ (a b : ℕ). entry_bytes (kind_of bs i) (width_of bs i) a b) (listed_at 0 c (λ k. length (bytes_of bs k)) i l ∙ body-length bs z i l)
          (starts i (omega arith) ∙ sym ((good bs z).body i l (entry_of bs i) refl).start)

  laid_same : laid_bytes (edition_of bs) (kinds_of v) (widths_of v) (lengths_of v) ≡ take (4 + 8 * c) bs
  unfolding laid_bytes
  laid_same =
      ap (λ (k : ℕ). header_bytes (edition_of bs) k ++ entries_bytes (kinds_of v) (widths_of v) (lengths_of v) k) (length-listed c (kind_of bs))
      ∙ front-then bs 4 (8 * c) (4 + 8 * c) refl header-same (entries-same c (omega arith))

  -- ---- the book
  pub own_same : closed_up v ≡ bs
  own_same =
      let first = 4 + 8 * c in
      let end : body_start bs c - first ≡ length bs - first = ap (λ (k : ℕ). k - first) (good bs z).last in
      closed_is v
      ∙ front-then bs first (length bs - first) (length bs) (omega (arith, (good bs z).long)) laid_same (run-first bs z (bytes_of bs) c (omega arith) (λ i l. refl) ∙ ap (segment bs first) end)
      ∙ take-length bs

-- ---- a body replaced by itself
-- the bodies are what they were
same-volume : (bs : List ℕ) (j : ℕ) → edited (replace j (kind_of bs j) (width_of bs j) (bytes_of bs j)) (volume_of bs) ≡ volume_of bs
same-volume bs j = λ t. record {
  edition = edition_of bs;
  count = count_of bs;
  kind = λ i. own (kind_of bs) i t;
  width = λ i. own (width_of bs) i t;
  body = λ i. own (bytes_of bs) i t;
}
  where
    own : {A : Type 0} (f : ℕ → A) (i : ℕ) → swapped j (f j) f i ≡ f i
    own f i = go (ℕ_discrete i j)
      where
        go : Dec (i ≡ j) → swapped j (f j) f i ≡ f i
        go (yes q) = swapped_at j (f j) f i q ∙ ap f (sym q)
        go (no ne) = swapped_off j (f j) f i ne

-- a book in the place of itself leaves the area as it was
closed_same : (xs : List ℕ) (n : ℕ) → n ≤ length xs → closed xs n (take n xs) ≡ xs
closed_same xs n h =
    let long : length (take n xs) ≡ n = length-take-le n xs h in
    let none : n - n ≡ 0 = omega arith in
    let all : n + 0 ≡ n = omega arith in
    ap (λ (k : ℕ). take n xs ++ (replicate (n - k) 0 ++ drop (k + (n - k)) xs)) long
    ∙ ap (λ (k : ℕ). take n xs ++ (replicate k 0 ++ drop (n + k) xs)) none
    ∙ ap (λ (k : ℕ). take n xs ++ drop k xs) all
    ∙ take-append-drop n xs

module _ (xs : List ℕ) (n j : ℕ) (h : n ≤ length xs) (small : (i : ℕ) → byte_at (take n xs) i < 256) (B : BookNumber (take n xs) accepted) (l : j < count_of (take n xs)) where
  abbrev book : List ℕ
  book = take n xs

  abbrev own : Edit
  own = replace j (kind_of book j) (width_of book j) (bytes_of book j)

  unchanged : closed_up (edited own (volume_of book)) ≡ book
  unchanged = ap closed_up (same-volume book j) ∙ own_same book small (contents-good book 0 B refl)

  not-refused : BookEdit book (length xs) own 0
  not-refused =
      let F = fine-old book B j l in
      let size : size_after book own ≡ n = ap length unchanged ∙ length-take-le n xs h in
      room-tested book (length xs) own 0 B refl (ap not (lt-ltb j (count_of book) l)) (ap not F.good) 0 F.own refl refl 0 (size_after book own)
      (room-none (length xs) (size_after book own) (omega (arith, size, length-take-le n xs h, (good book (contents-good book 0 B refl)).short)) (omega (arith, size))) refl

  -- it answers the old length and changes no byte
  pub replaced-same : (r : Edited) (ys : List ℕ) → Edits xs n own r ys → (r ≡ new_length n) × (ys ≡ xs)
  replaced-same r ys E =
      let z = one-edit-number xs n own r.refusal 0 E.number (record { beyond = λ b. absurd (omega (arith, b, h)); within = λ _. not-refused }) in
      let d = E.done z in (
        d.0 ∙ ap new_length (ap length unchanged ∙ length-take-le n xs h),
        d.1 ∙ ap (closed xs n) unchanged ∙ closed_same xs n h,
      )
