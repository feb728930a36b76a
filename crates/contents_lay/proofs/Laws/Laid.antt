-- The bytes that are laid, one entry more and all of them; the writer's answer and area; and that there is no second one.
use mathlib.Core.Path.{◌≡◌, refl, sym, ap, ◌∙◌}
use mathlib.Core.List.{List, ◌++◌}
use Prim.Native.Nat.{ℕ, zero, suc, ◌+◌, ◌*◌, ◌≤◌}
use native.Mathlib.Numerals.{add-one}
use native.Mathlib.Omega.{arith}
use lib.ListN.{length, drop, get_or, length-append}
use Rattle.exact.specs.Sum.{total}
use Rattle.fields.specs.Bytes.{le, front}
use Rattle.fields.proofs.Laws.Front.{length-le, length_front, front_out}
use Rattle.contents_lay.specs.Lay.{entry_bytes, laid_start, entries_bytes, laid_bytes, lay_number, unless, laid_answer, laid_area, ContentsLaid}
use Rattle.contents_lay.proofs.Laws.Lay.{lay-lists}

pub laid-zero : (ls : List ℕ) → 4 + 8 * length ls ≡ laid_start ls 0
unfolding laid_start total
laid-zero ls = omega arith

pub laid_next : (ls : List ℕ) (i : ℕ) → laid_start ls i + get_or ls i 0 ≡ laid_start ls (i + 1)
unfolding laid_start total
laid_next ls i = omega arith ∙ ap (laid_start ls) (sym (add-one i))

pub length-entry : (k w l s : ℕ) → length (entry_bytes k w l s) ≡ 8
unfolding entry_bytes
length-entry k w l s = omega (arith, length-append (le 2 l) (le 4 s), length-le 2 l, length-le 4 s)

pub length-entries : (ks ws ls : List ℕ) (i : ℕ) → length (entries_bytes ks ws ls i) ≡ 8 * i
unfolding entries_bytes
length-entries ks ws ls zero = refl
length-entries ks ws ls (suc i) =
    length-append (entries_bytes ks ws ls i) (entry_bytes (get_or ks i 0) (get_or ws i 0) (get_or ls i 0) (laid_start ls i))
    ∙ omega (arith, length-entries ks ws ls i, length-entry (get_or ks i 0) (get_or ws i 0) (get_or ls i 0) (laid_start ls i))

pub entries_next : (ks ws ls : List ℕ) (i : ℕ)
    → entries_bytes ks ws ls i ++ entry_bytes (get_or ks i 0) (get_or ws i 0) (get_or ls i 0) (laid_start ls i) ≡ entries_bytes ks ws ls (i + 1)
unfolding entries_bytes
entries_next ks ws ls i = ap (entries_bytes ks ws ls) (sym (add-one i))

pub length-laid : (ed : ℕ) (ks ws ls : List ℕ) → length (laid_bytes ed ks ws ls) ≡ 4 + 8 * length ks
unfolding laid_bytes
length-laid ed ks ws ls = omega (arith, length-entries ks ws ls (length ks))

-- ---- answer and area
module _ (xs : List ℕ) (ed : ℕ) (ks ws ls : List ℕ) where
  pub refused : (n : ℕ) → n ≡ lay_number (length xs) ed ks ws ls → (n ≡ 0 → ⊥) → ContentsLaid xs ed ks ws ls (record { refusal = n; bytes = 0 }) xs
  unfolding laid_answer laid_area
  refused zero e h = absurd (h refl)
  refused (suc n) e h = record {
    answer = λ i. record { refusal = e i; bytes = unless (e i) (4 + 8 * length ks) 0 };
    area = λ i. unless (e i) (front xs (laid_bytes ed ks ws ls)) xs;
  }

  pub laid : (ys : List ℕ) (n : ℕ) → n ≡ lay_number (length xs) ed ks ws ls → n ≡ 0 → ys ≡ front xs (laid_bytes ed ks ws ls) → ContentsLaid xs ed ks ws ls (record { refusal = 0; bytes = 4 + 8 * length ks }) ys
  unfolding laid_answer laid_area
  laid ys n is z w =
      let e = sym z ∙ is in record {
        answer = λ i. record { refusal = e i; bytes = unless (e i) (4 + 8 * length ks) 0 };
        area = w ∙ (λ i. unless (e i) (front xs (laid_bytes ed ks ws ls)) xs);
      }

  -- where nothing is refused, the area holds the bytes and then what it held
  pub laid-area : lay_number (length xs) ed ks ws ls ≡ 0 → laid_area xs ed ks ws ls ≡ laid_bytes ed ks ws ls ++ drop (4 + 8 * length ks) xs
  unfolding laid_area front
  laid-area z =
      (λ i. unless (z i) (front xs (laid_bytes ed ks ws ls)) xs) ∙ ap (λ (n : ℕ). laid_bytes ed ks ws ls ++ drop n xs) (length-laid ed ks ws ls)

  -- "all other bytes stay": every byte behind what is laid, and the length
  pub laid-stays : (i : ℕ) → 4 + 8 * length ks ≤ i → get_or (laid_area xs ed ks ws ls) i 0 ≡ get_or xs i 0
  unfolding laid_area
  laid-stays i h = go (lay_number (length xs) ed ks ws ls)
    where
      go : (n : ℕ) → get_or (unless n (front xs (laid_bytes ed ks ws ls)) xs) i 0 ≡ get_or xs i 0
      go zero = front_out xs (laid_bytes ed ks ws ls) i (omega (arith, length-laid ed ks ws ls))
      go (suc n) = refl

  pub laid-long : length (laid_area xs ed ks ws ls) ≡ length xs
  unfolding laid_area
  laid-long = go (lay_number (length xs) ed ks ws ls) refl
    where
      go : (n : ℕ) → n ≡ lay_number (length xs) ed ks ws ls → length (unless n (front xs (laid_bytes ed ks ws ls)) xs) ≡ length xs
      go zero e = length_front xs (laid_bytes ed ks ws ls) (omega (arith, length-laid ed ks ws ls, (lay-lists (length xs) ed ks ws ls 0 e refl).area))
      go (suc n) e = refl
