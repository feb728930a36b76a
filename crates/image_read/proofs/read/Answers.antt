-- `read` meets its contract: by the tests one after the other.
use mathlib.Core.Path.{◌≡◌, subst}
use native.Mathlib.Omega.{arith}
use Rattle.state.specs.declared.State.{State}
use Rattle.state.specs.Normal.{Normal}
use Rattle.labels.specs.declared.Labels.{Labels}
use Rattle.labels.specs.Labels.{Proper}
use Rattle.image.specs.Inner.Stated.{state_of, labels_of}
use Rattle.image_read.proofs.Laws.Read.{read_short, read-marked, read-broken, read-improper, read-sound}
use Rattle.image_read.proofs.read.Goals as goal
use Rattle.image_read.proofs.read.Goals.{then-not-normal-via-then-not-normal, then-not-normal-via-else-not-normal+then-not-proper}

pub returns-then-bs-ne-BYTES : goal.returns-then-bs-ne-BYTES
returns-then-bs-ne-BYTES c =
    let a = c.args in
    read_short a.bs.now (λ z. omega (arith, z)) _ c.refused.ensures

pub returns-then-bs-gt1 : goal.returns-then-bs-gt1
returns-then-bs-gt1 c =
    let a = c.args in
    read-marked a.bs.now (omega arith) (omega arith) _ c.refused-then-bs-gt1.ensures

pub returns-then-not-normal : goal.returns-then-not-normal
returns-then-not-normal c =
    let a = c.args in
    let e = c.state_of-t.ensures in
    let P : (t : State) → t ≡ state_of a.bs.now → (Proper t.live c.labels_of-ls.result → ⊥) → Proper (state_of a.bs.now).live (labels_of a.bs.now) → ⊥
    = λ t e. subst (λ (u : State). (Proper t.live c.labels_of-ls.result → ⊥) → Proper u.live (labels_of a.bs.now) → ⊥) e (subst (λ (m : Labels). (Proper t.live c.labels_of-ls.result → ⊥) → Proper t.live m → ⊥) c.labels_of-ls.ensures (λ f. f)) in
    elim c.then-not-normal.branch [
      | then-not-normal-via-then-not-normal w ↦
          read-broken a.bs.now (omega arith) (subst (λ (t : State). Normal t → ⊥) e (c.normal.ensures.fails w.if-not-normal.true)) _ c.refused-then-not-normal.ensures
      | then-not-normal-via-else-not-normal+then-not-proper w ↦
          read-improper a.bs.now (omega arith) (P _ e (w.proper.ensures.fails w.if-not-proper.true)) _ c.refused-then-not-normal.ensures
    ]

pub returns : goal.returns
returns c =
    let a = c.args in
    let N = subst Normal c.state_of-t.ensures (c.normal.ensures.holds c.if-not-normal.false) in
    let P = subst (λ (t : State). Proper t.live (labels_of a.bs.now)) c.state_of-t.ensures (subst (Proper c.state_of-t.result.live) c.labels_of-ls.ensures (c.proper.ensures.holds c.if-not-proper.false)) in
    read-sound a.bs.now (omega arith) (λ i. omega (arith, c.shared_slice_known-1.given i)) (omega arith) N P _ _ c.state_of-t.ensures c.labels_of-ls.ensures
