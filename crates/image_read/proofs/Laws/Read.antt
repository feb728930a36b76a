-- What reading lent bytes answers on each side of its tests: by the round trip of a table's bytes, both ways.
use mathlib.Core.List.{List}
use mathlib.Core.Logic.{◌≢◌}
use mathlib.Core.Path.{◌≡◌, sym, ap, ap₂, ◌∙◌, subst}
use Prim.Native.Nat.{ℕ, ◌<◌}
use native.Mathlib.Omega.{arith}
use lib.ListN.{length}
use Rattle.exact.specs.Refusal.{accepted, not_normal, area_short}
use Rattle.fields.specs.Bytes.{byte_at}
use Rattle.state.specs.declared.State.{State}
use Rattle.state.specs.Entry.{fresh_table}
use Rattle.state.specs.Normal.{Normal}
use Rattle.labels.specs.declared.Labels.{Labels}
use Rattle.labels.specs.Labels.{no_labels, Proper}
use Rattle.body_bytes.specs.Body.{mark_of}
use Rattle.image.specs.Image.{image_size, Images}
use Rattle.image.specs.Inner.Stated.{state_of, labels_of}
use Rattle.image.proofs.Laws.Signed.{mark-small}
use Rattle.image.proofs.Laws.Bytes.{length-image}
use Rattle.image.proofs.Laws.Places.{mark-at}
use Rattle.image.proofs.Laws.Back.{state-back, labels-back}
use Rattle.image.proofs.Laws.Same.{image-same}
use Rattle.image_read.specs.Read.{Reading, reading, Reads}

module _ (bs : List ℕ) where
  -- ---- of bytes that are those of a normal table
  module _ (t : State) (ls : Labels) (I : Images bs t ls) where
    pub size_of : length bs ≡ image_size
    size_of = ap length I.bytes ∙ length-image t ls

    pub mark-of : mark_of bs < 2
    mark-of = subst (λ (k : ℕ). k < 2) (mark-at t ls ∙ ap mark_of (sym I.bytes)) (mark-small t.zero)

    pub state-of : t ≡ state_of bs
    state-of = state-back t ls I.normal ∙ ap state_of (sym I.bytes)

    pub labels-of : ls ≡ labels_of bs
    labels-of = labels-back t ls I.normal I.proper ∙ ap labels_of (sym I.bytes)

    normal-of : Normal (state_of bs)
    normal-of = subst Normal state-of I.normal

    proper-of : Proper (state_of bs).live (labels_of bs)
    proper-of = subst (Proper (state_of bs).live) labels-of (subst (λ (s : State). Proper s.live ls) state-of I.proper)

  -- ---- the refusals
  pub read_short : length bs ≢ image_size → (r : Reading) → r ≡ reading area_short fresh_table no_labels → Reads bs r
  read_short h r e = record {
    short = λ k. e;
    broken = λ k never. absurd (h k);
    sound = λ t ls I. absurd (h (size_of t ls I));
    own = λ z. absurd (let q : r.refusal ≡ area_short = ap (λ (x : Reading). x.refusal) e in omega (arith, z, q));
  }

  broken : length bs ≡ image_size → ((t : State) (ls : Labels) → Images bs t ls → ⊥) → (r : Reading) → r ≡ reading not_normal fresh_table no_labels → Reads bs r
  broken h never r e = record {
    short = λ k. absurd (k h);
    broken = λ k q. e;
    sound = λ t ls I. absurd (never t ls I);
    own = λ z. absurd (let q : r.refusal ≡ not_normal = ap (λ (x : Reading). x.refusal) e in omega (arith, z, q));
  }

  pub read-marked : length bs ≡ image_size → 1 < mark_of bs → (r : Reading) → r ≡ reading not_normal fresh_table no_labels → Reads bs r
  read-marked h m = broken h (λ t ls I. omega (arith, mark-of t ls I))

  pub read-broken : length bs ≡ image_size → (Normal (state_of bs) → ⊥) → (r : Reading) → r ≡ reading not_normal fresh_table no_labels → Reads bs r
  read-broken h never = broken h (λ t ls I. never (normal-of t ls I))

  pub read-improper : length bs ≡ image_size → (Proper (state_of bs).live (labels_of bs) → ⊥) → (r : Reading) → r ≡ reading not_normal fresh_table no_labels → Reads bs r
  read-improper h never = broken h (λ t ls I. never (proper-of t ls I))

  -- ---- the table
  module _ (h : length bs ≡ image_size) (small : (i : ℕ) → byte_at bs i < 256) (m : mark_of bs < 2) (N : Normal (state_of bs)) (P : Proper (state_of bs).live (labels_of bs)) where
    images : Images bs (state_of bs) (labels_of bs)
    images = record { normal = N; proper = P; bytes = sym (image-same bs h small m) }

    pub read-sound : (t : State) (ls : Labels) → t ≡ state_of bs → ls ≡ labels_of bs → Reads bs (reading accepted t ls)
    read-sound t ls e f = record {
      short = λ k. absurd (k h);
      broken = λ k never. absurd (never (state_of bs) (labels_of bs) images);
      sound = λ s l I. ap₂ (reading accepted) (e ∙ sym (state-of s l I)) (f ∙ sym (labels-of s l I));
      own = λ z. subst (λ (l : Labels). Images bs t l) (sym f) (subst (λ (s : State). Images bs s (labels_of bs)) (sym e) images);
    }
