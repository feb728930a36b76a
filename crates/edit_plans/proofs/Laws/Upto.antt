-- The lists of a book's contents, one body more: by what a store leaves at its own place and at the others.
use mathlib.Core.List.{List}
use mathlib.Core.Logic.{⊎_elim}
use mathlib.Core.Path.{◌≡◌, ap, ◌∙◌}
use Prim.Native.Nat.{ℕ, ◌+◌, ◌≤◌, ◌<◌}
use native.Mathlib.Omega.{arith}
use lib.ListN.{length, get_or, set}
use lib.Seq.{get_or-set_same, get_or-set_other}
use Rattle.exact.proofs.Laws.Sum.{split}
use Rattle.contents.specs.declared.Entry.{Entry}
use Rattle.contents.specs.Contents.{entry_of}
use Rattle.edit_numbers.specs.Volume.{skip}
use Rattle.edit_plans.specs.Inner.Lists.{Upto}

pub upto-none : (bs : List ℕ) (j : ℕ) (ks ws ls : List ℕ) → Upto bs 0 j ks ws ls
upto-none bs j ks ws ls = record { kind = λ i h. absurd (omega arith); width = λ i h. absurd (omega arith); size = λ i h. absurd (omega arith) }

-- one element more of one list
more : (f : ℕ → ℕ) (l : List ℕ) (n a : ℕ) → n < length l → a ≡ f n → ((i : ℕ) → i < n → get_or l i 0 ≡ f i) → (i : ℕ) → i < n + 1 → get_or (set l n a) i 0 ≡ f i
more f l n a room e below i h = ⊎_elim old new (split i n)
  where
    old : i < n → get_or (set l n a) i 0 ≡ f i
    old b = get_or-set_other l n i a 0 (λ q. omega arith) ∙ below i b

    new : n ≤ i → get_or (set l n a) i 0 ≡ f i
    new b =
        let q : i ≡ n = omega arith in
        ap (λ (p : ℕ). get_or (set l n a) p 0) q ∙ get_or-set_same l n a 0 room ∙ e ∙ ap f (omega arith)

pub upto_next : (bs : List ℕ) (n j : ℕ) (ks ws ls : List ℕ) → n < length ks → n < length ws → n < length ls → Upto bs n j ks ws ls
    → (e : Entry) → e ≡ entry_of bs (skip j n) → Upto bs (n + 1) j (set ks n e.kind) (set ws n e.width) (set ls n e.length)
upto_next bs n j ks ws ls a b c U e is = record {
  kind = more _ ks n e.kind a (ap (λ (x : Entry). x.kind) is) U.kind;
  width = more _ ws n e.width b (ap (λ (x : Entry). x.width) is) U.width;
  size = more _ ls n e.length c (ap (λ (x : Entry). x.length) is) U.size;
}
