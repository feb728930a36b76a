-- The lists that were read, and a new body put among them, are the lists of the book after the edit: place by place.
use mathlib.Core.List.{List}
use mathlib.Core.Logic.{⊎_elim}
use mathlib.Core.Path.{◌≡◌, refl, sym, ap, ◌∙◌}
use Prim.Native.Nat.{ℕ, suc, ◌+◌, ◌-◌, ◌≤◌, ◌<◌}
use native.Mathlib.Decide.{ℕ_discrete}
use native.Mathlib.Omega.{arith}
use lib.ListN.{length, take, drop, get_or, set, length-set, length-drop}
use Rattle.exact.proofs.Laws.Sum.{split}
use lib.Seq.{length-take-le, get_or-take, get_or-set_same, get_or-set_other, ext_get_or}
use Rattle.fields.specs.Listed.{listed}
use Rattle.fields.proofs.Laws.Listed.{length-listed, listed_at}
use Rattle.contents.specs.declared.Entry.{Entry}
use Rattle.contents.specs.Contents.{count_of, kind_of, width_of, length_of, start_of, entry_of, body_start, contents_number}
use Rattle.contents.proofs.Laws.Good.{good}
use Rattle.book.specs.Book.{bytes_of}
use Rattle.edit_numbers.specs.Volume.{Volume, remove, volume_of, skip, swapped, edited}
use Rattle.edit_numbers.proofs.Laws.Run.{start-suc}
use Rattle.edit_numbers.proofs.Laws.Parts.{skip_below, skip-from, swapped_at, swapped_off}
use Rattle.edit_plans.specs.Inner.Lists.{Lists, Readable, Reads, Put}
use Rattle.edit_plans.specs.Inner.Plan.{Held}

-- the first n of a list of 16, by its elements
taken : (l : List ℕ) (n c : ℕ) (f : ℕ → ℕ) → length l ≡ 16 → c ≤ 16 → n ≡ c → ((i : ℕ) → i < c → get_or l i 0 ≡ f i) → take n l ≡ listed c f
taken l n c f long few e same =
    ap (λ (k : ℕ). take k l) e
    ∙ ext_get_or 0 (take c l) (listed c f) (short ∙ sym (length-listed c f))
    (λ i h. get_or-take c l i 0 (omega (arith, short, h)) ∙ same i (omega (arith, short, h)) ∙ sym (listed_at 0 c f i (omega (arith, short, h))))
  where
    short : length (take c l) ≡ c
    short = length-take-le c l (omega (arith, long))

module _ (bs : List ℕ) (z : contents_number bs ≡ 0) where
  -- the bytes of a body are as many as the contents state
  pub body-length : (i : ℕ) → i < count_of bs → length (bytes_of bs i) ≡ length_of bs i
  unfolding bytes_of
  body-length i h = length-take-le (length_of bs i) (drop (start_of bs i) bs) (omega (arith, length-drop (start_of bs i) bs, ((good bs z).body i h (entry_of bs i) refl).within))

  few : count_of bs ≤ 16
  few = (good bs z).count

  module _ (j : ℕ) (h : j < count_of bs) where
    skipped : (i : ℕ) → i < count_of bs - 1 → skip j i < count_of bs
    skipped i l = ⊎_elim (λ (b : i < j). omega (arith, skip_below j i b)) (λ (b : j ≤ i). omega (arith, skip-from j i b)) (split i j)

    pub readable-without : (n : ℕ) → n ≡ count_of bs → Readable bs (n - 1) j
    readable-without n e = record { good = z; few = omega (arith, few); own = λ i l. skipped i (omega arith) }

    pub held-removed : (n : ℕ) (l : Lists) → n ≡ count_of bs → Reads bs (n - 1) j l → Held (edited (remove j) (volume_of bs)) l
    held-removed n l e R = record {
      counted = R.counted ∙ ap (λ (k : ℕ). k - 1) e;
      few = omega (arith, few);
      long = R.long;
      kinds = taken l.kinds l.count (count_of bs - 1) _ R.long.0 (omega (arith, few)) (R.counted ∙ ap (λ (k : ℕ). k - 1) e) (λ i b. R.listed.kind i (omega arith));
      widths = taken l.widths l.count (count_of bs - 1) _ R.long.1 (omega (arith, few)) (R.counted ∙ ap (λ (k : ℕ). k - 1) e) (λ i b. R.listed.width i (omega arith));
      lengths = taken l.lengths l.count (count_of bs - 1) _ R.long.2 (omega (arith, few)) (R.counted ∙ ap (λ (k : ℕ). k - 1) e) (λ i b. R.listed.size i (omega arith) ∙ sym (body-length (skip j i) (skipped i b)));
    }

  pub readable-all : (n : ℕ) → n ≡ count_of bs → Readable bs n n
  readable-all n e = record { good = z; few = omega (arith, few); own = λ i l. omega (arith, skip_below n i l) }

  -- a new body at j of c, all others as the book has them
  module _ (n c j kind width : ℕ) (new : List ℕ) (l r : Lists) (e : n ≡ count_of bs) (R : Reads bs n n l) (P : Put l c j kind width (length new) r) (room : j < 16) (fits : c ≤ 16) (others : (i : ℕ) → i < c → (i ≡ j → ⊥) → i < count_of bs) where
    one : (xs ys : List ℕ) (a : ℕ) (f : ℕ → ℕ) → length xs ≡ 16 → ys ≡ set xs j a → ((i : ℕ) → i < n → get_or xs i 0 ≡ f (skip n i)) → (i : ℕ) → i < c → get_or ys i 0 ≡ swapped j a f i
    one xs ys a f long put same i b = ap (λ (q : List ℕ). get_or q i 0) put ∙ go (ℕ_discrete i j)
      where
        go : Dec (i ≡ j) → get_or (set xs j a) i 0 ≡ swapped j a f i
        go (yes q) = ap (λ (k : ℕ). get_or (set xs j a) k 0) q ∙ get_or-set_same xs j a 0 (omega (arith, long)) ∙ sym (swapped_at j a f i q)
        go (no ne) =
            let m : i < n = omega (arith, others i b ne) in
            get_or-set_other xs j i a 0 ne ∙ same i m ∙ ap f (skip_below n i m) ∙ sym (swapped_off j a f i ne)

    sizes : (i : ℕ) → i < c → swapped j (length new) (length_of bs) i ≡ length (swapped j new (bytes_of bs) i)
    sizes i b = go (ℕ_discrete i j)
      where
        go : Dec (i ≡ j) → swapped j (length new) (length_of bs) i ≡ length (swapped j new (bytes_of bs) i)
        go (yes q) = swapped_at j (length new) (length_of bs) i q ∙ ap length (sym (swapped_at j new (bytes_of bs) i q))
        go (no ne) = swapped_off j (length new) (length_of bs) i ne ∙ sym (body-length i (others i b ne)) ∙ ap length (sym (swapped_off j new (bytes_of bs) i ne))

    pub held-put : (v : Volume) → v.count ≡ c → ((i : ℕ) → v.kind i ≡ swapped j kind (kind_of bs) i) → ((i : ℕ) → v.width i ≡ swapped j width (width_of bs) i) → ((i : ℕ) → v.body i ≡ swapped j new (bytes_of bs) i) → Held v r
    held-put v q ks ws bodies = record {
      counted = P.counted ∙ sym q;
      few = omega (arith, q);
      long = (
        longs l.kinds r.kinds kind R.long.0 P.kinds,
        longs l.widths r.widths width R.long.1 P.widths,
        longs l.lengths r.lengths (length new) R.long.2 P.lengths,
      );
      kinds = taken r.kinds r.count v.count _ (longs l.kinds r.kinds kind R.long.0 P.kinds) (omega (arith, q)) (P.counted ∙ sym q) (λ i b. one l.kinds r.kinds kind (kind_of bs) R.long.0 P.kinds R.listed.kind i (omega (arith, q)) ∙ sym (ks i));
      widths = taken r.widths r.count v.count _ (longs l.widths r.widths width R.long.1 P.widths) (omega (arith, q)) (P.counted ∙ sym q) (λ i b. one l.widths r.widths width (width_of bs) R.long.1 P.widths R.listed.width i (omega (arith, q)) ∙ sym (ws i));
      lengths = taken r.lengths r.count v.count _ (longs l.lengths r.lengths (length new) R.long.2 P.lengths) (omega (arith, q)) (P.counted ∙ sym q) (λ i b. one l.lengths r.lengths (length new) (length_of bs) R.long.2 P.lengths R.listed.size i (omega (arith, q)) ∙ sizes i (omega (arith, q)) ∙ ap length (sym (bodies i)));
    }
      where
        longs : (xs ys : List ℕ) (a : ℕ) → length xs ≡ 16 → ys ≡ set xs j a → length ys ≡ 16
        longs xs ys a long put = ap length put ∙ length-set xs j a ∙ long

  -- where an entry says that its body starts and ends
  pub entry-start : (j : ℕ) (e : Entry) → j < count_of bs → e ≡ entry_of bs j → e.start ≡ body_start bs j
  entry-start j e h is = ((good bs z).body j h e is).start

  pub entry-end : (j : ℕ) (e : Entry) → j < count_of bs → e ≡ entry_of bs j → e.start + e.length ≡ body_start bs (suc j)
  entry-end j e h is = omega (arith, entry-start j e h is, start-suc bs j, ap (λ (x : Entry). x.length) is)

  pub entry-within : (j : ℕ) (e : Entry) → j < count_of bs → e ≡ entry_of bs j → (e.start + e.length ≤ 60000)
  entry-within j e h is = omega (arith, ((good bs z).body j h e is).within, (good bs z).short)
