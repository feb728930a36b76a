-- Header and contents that were laid, with the bodies behind them, are an accepted book whose entries are the lists': entry by entry, from the bytes.
use mathlib.Core.Path.{◌≡◌, refl, sym, ap, ap₂, ◌∙◌}
use mathlib.Core.Bool.{true, false}
use mathlib.Core.List.{List, ◌++◌, append_assoc}
use mathlib.Core.Logic.{⊎_elim}
use Prim.Native.Nat.{ℕ, zero, suc, ◌+◌, ◌*◌, ◌≤◌, ◌<◌}
use native.Mathlib.Nat.{add-zero, le_of_eq}
use native.Mathlib.Omega.{arith}
use lib.ListN.{length, take, drop, get_or, length-append}
use lib.Seq.{take_at, drop_at, drop-drop, take_all, get_or-take, get_or-drop}
use borrow.Author.Tests.{le-ltb, eq-eqb, not-false}
use Rattle.exact.specs.Sum.{total}
use Rattle.exact.proofs.Laws.Sum.{split, total_ext}
use Rattle.editions.specs.Edition.{good_edition}
use Rattle.fields.specs.Bytes.{byte_at, le, number}
use Rattle.fields.proofs.Laws.Front.{length-le}
use Rattle.fields.proofs.Laws.Number.{number-drop, number-take, number-le}
use Rattle.contents.specs.Contents.{edition_of, count_of, kind_of, width_of, length_of, start_of, entry_of, body_start, header_fault, good_kind, entry_fault, contents_number}
use Rattle.contents_lay.specs.Lay.{entry_bytes, laid_start, entries_bytes, laid_bytes, bad_kind, lay_number}
use Rattle.contents.proofs.Laws.Some.{some-none, none}
use Rattle.contents.proofs.Laws.Entry.{entry-eq, fault-pass}
use Rattle.contents.proofs.Laws.Header.{header-count}
use Rattle.contents.proofs.Laws.Test.{number-none, contents-last}
use Rattle.contents_lay.proofs.Laws.Lay.{Lists, lay-lists}
use Rattle.contents_lay.proofs.Laws.Laid.{length-entry, length-entries, length-laid}

-- ---- a part of a sum
total-part : (f : ℕ → ℕ) (n j : ℕ) → j < n → total j f + f j ≤ total n f
unfolding total
total-part f zero j h = absurd (omega arith)
total-part f (suc n) j h = ⊎_elim (λ l. omega (arith, total-part f n j l)) there (split j n)
  where
    there : n ≤ j → total j f + f j ≤ total n f + f n
    there l =
        let q : j ≡ n = omega arith in
        le_of_eq (ap₂ (λ (a b : ℕ). a + b) (ap (λ (k : ℕ). total k f) q) (ap f q))

-- ---- the fields of an entry's bytes
module _ (k w l s : ℕ) where
  entry_length : l < 65536 → number 2 (entry_bytes k w l s) 2 ≡ l
  unfolding entry_bytes
  entry_length h = number-le 2 l (entry_bytes k w l s) 2 (take_at (le 2 l) (le 4 s) 2 (length-le 2 l)) h

  entry-start : s < 4294967296 → number 4 (entry_bytes k w l s) 4 ≡ s
  unfolding entry_bytes
  entry-start h =
      number-le 4 s (entry_bytes k w l s) 4
      (ap (take 4) (drop_at (le 2 l) (le 4 s) 2 (length-le 2 l)) ∙ take_all 4 (le 4 s) (le_of_eq (length-le 4 s))) h

  entry-kind : byte_at (entry_bytes k w l s) 0 ≡ k
  unfolding entry_bytes
  entry-kind = refl

  entry-width : byte_at (entry_bytes k w l s) 1 ≡ w
  unfolding entry_bytes
  entry-width = refl

module _ (ks ws ls : List ℕ) where
  abbrev entry : ℕ → List ℕ
  entry j = entry_bytes (get_or ks j 0) (get_or ws j 0) (get_or ls j 0) (laid_start ls j)

  -- where entry j stands
  entries_at : (i j : ℕ) → j < i → (tail : List ℕ) → take 8 (drop (8 * j) (entries_bytes ks ws ls i ++ tail)) ≡ entry j
  unfolding entries_bytes
  entries_at zero j h tail = absurd (omega arith)
  entries_at (suc i) j h tail =
      ap (λ (l : List ℕ). take 8 (drop (8 * j) l)) (append_assoc (entries_bytes ks ws ls i) (entry i) tail)
      ∙ ⊎_elim (λ l. entries_at i j l (entry i ++ tail)) there (split j i)
    where
      there : i ≤ j → take 8 (drop (8 * j) (entries_bytes ks ws ls i ++ (entry i ++ tail))) ≡ entry j
      there l =
          let q : j ≡ i = omega arith in
          ap (λ (m : ℕ). take 8 (drop (8 * m) (entries_bytes ks ws ls i ++ (entry i ++ tail)))) q
          ∙ ap (take 8) (drop_at (entries_bytes ks ws ls i) (entry i ++ tail) (8 * i) (length-entries ks ws ls i))
          ∙ take_at (entry i) tail 8 (length-entry (get_or ks i 0) (get_or ws i 0) (get_or ls i 0) (laid_start ls i))
          ∙ ap entry (sym q)

-- ---- the book: what was laid, and the bodies
module _ (room ed : ℕ) (ks ws ls tail : List ℕ) (ok : Lists room ed ks ws ls) (full : length tail ≡ total (length ls) (λ v. get_or ls v 0)) where
  abbrev book : List ℕ
  book = laid_bytes ed ks ws ls ++ tail

  pub round-edition : edition_of book ≡ ed
  unfolding edition_of laid_bytes
  round-edition = refl

  pub round-count : count_of book ≡ length ks
  unfolding count_of laid_bytes
  round-count = refl

  book-length : length book ≡ laid_start ls (length ls)
  unfolding laid_start
  book-length = length-append (laid_bytes ed ks ws ls) tail ∙ omega (arith, length-laid ed ks ws ls, ok.lengths, full)

  room-four : 4 + 8 * length ks ≤ laid_start ls (length ls)
  unfolding laid_start
  room-four = omega (arith, ok.lengths)

  module _ (j : ℕ) (h : j < length ks) where
    here : take 8 (drop (4 + 8 * j) book) ≡ entry ks ws ls j
    unfolding laid_bytes
    here = ap (take 8) (sym (drop-drop (8 * j) 4 book)) ∙ entries_at ks ws ls (length ks) j h tail

    byte-here : (d : ℕ) → d < 8 → byte_at book (4 + 8 * j + d) ≡ byte_at (entry ks ws ls j) d
    byte-here d l = sym (get_or-drop (4 + 8 * j) book d 0) ∙ sym (get_or-take 8 (drop (4 + 8 * j) book) d 0 l) ∙ ap (λ (s : List ℕ). byte_at s d) here

    number-here : (k d : ℕ) → d + k ≤ 8 → number k book (4 + 8 * j + d) ≡ number k (entry ks ws ls j) d
    number-here k d l =
        sym (number-drop k book (4 + 8 * j) d) ∙ sym (number-take k 8 (drop (4 + 8 * j) book) d l) ∙ ap (λ (s : List ℕ). number k s d) here

    -- a body's end is at most the book's
    ends : laid_start ls j + get_or ls j 0 ≤ laid_start ls (length ls)
    unfolding laid_start
    ends = omega (arith, total-part (λ v. get_or ls v 0) (length ls) j (omega (arith, ok.lengths)))

    round-kind : kind_of book j ≡ get_or ks j 0
    unfolding kind_of
    round-kind = ap (byte_at book) (sym (add-zero (4 + 8 * j))) ∙ byte-here 0 (omega arith) ∙ entry-kind _ _ _ _

    round-width : width_of book j ≡ get_or ws j 0
    unfolding width_of
    round-width = byte-here 1 (omega arith) ∙ entry-width _ _ _ _

    round-length : length_of book j ≡ get_or ls j 0
    unfolding length_of
    round-length = number-here 2 2 (omega arith) ∙ entry_length _ _ _ _ (omega (arith, ends, ok.size))

    round-stated : start_of book j ≡ laid_start ls j
    unfolding start_of
    round-stated = number-here 4 4 (omega arith) ∙ entry-start _ _ _ _ (omega (arith, ends, ok.size))

    -- entry j states what stands at j in the lists
    pub round-entry : entry_of book j ≡ record { kind = get_or ks j 0; width = get_or ws j 0; start = laid_start ls j; length = get_or ls j 0 }
    round-entry = sym (entry-eq book j _ (sym round-kind) (sym round-width) (sym round-stated) (sym round-length))

  -- bodies start where they were laid to start
  pub round-start : (j : ℕ) → j ≤ length ks → body_start book j ≡ laid_start ls j
  unfolding body_start laid_start
  round-start j h =
      let e = total_ext j (length_of book) (λ v. get_or ls v 0) (λ v l. round-length v (omega arith)) in
      omega (arith, round-count, ok.lengths, e)

  unfaulted : (j : ℕ) → j < count_of book → entry_fault book j ≡ false
  unfaulted j h =
      let l : j < length ks = omega (arith, round-count) in
      let kind = not-false (good_kind ed (get_or ks j 0)) (some-none (length ks) j (bad_kind ed ks) ok.kinds l) in
      fault-pass (edition_of book) (entry_of book j) (body_start book j) (length book) (ap₂ good_kind round-edition (round-kind j l) ∙ kind)
      (round-stated j l ∙ sym (round-start j (omega arith)))
      (omega (arith, round-stated j l, round-length j l, ends j l, book-length))

  round-header : header_fault book ≡ false
  unfolding laid_bytes
  round-header =
      sym (header-count book (omega (arith, book-length, room-four)) (omega (arith, book-length, ok.size)) refl refl (ap good_edition round-edition ∙ ok.edition)) ∙ le-ltb 16 (length ks) ok.few

  -- the book is accepted
  pub round_number : contents_number book ≡ 0
  round_number =
      let fine =
      contents-last book true (omega (arith, book-length, round-count, room-four)) (none (count_of book) (entry_fault book) unfaulted)
      (eq-eqb (body_start book (count_of book)) (length book) (ap (body_start book) round-count ∙ round-start (length ks) (omega arith) ∙ ap (laid_start ls) (sym ok.lengths) ∙ sym book-length)) in
      sym (number-none book round-header fine)

-- lists that are laid in some area, and bodies of their lengths: the book, in one statement
pub record Round (ed : ℕ) (ks ws ls bs : List ℕ) : Type 0 where
  pub edition : edition_of bs ≡ ed
  pub number : contents_number bs ≡ 0
  pub count : count_of bs ≡ length ks
  pub entry : (j : ℕ) → j < length ks → entry_of bs j ≡ record { kind = get_or ks j 0; width = get_or ws j 0; start = laid_start ls j; length = get_or ls j 0 }
  pub start : (j : ℕ) → j ≤ length ks → body_start bs j ≡ laid_start ls j

pub round : (room ed : ℕ) (ks ws ls tail : List ℕ) → lay_number room ed ks ws ls ≡ 0 → length tail ≡ total (length ls) (λ v. get_or ls v 0)
    → Round ed ks ws ls (laid_bytes ed ks ws ls ++ tail)
round room ed ks ws ls tail z full =
    let ok = lay-lists room ed ks ws ls 0 (sym z) refl in record {
      edition = round-edition room ed ks ws ls tail ok full;
      number = round_number room ed ks ws ls tail ok full;
      count = round-count room ed ks ws ls tail ok full;
      entry = round-entry room ed ks ws ls tail ok full;
      start = round-start room ed ks ws ls tail ok full;
    }
