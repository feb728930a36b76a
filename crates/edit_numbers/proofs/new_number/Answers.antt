-- `new_number` meets its contract: by the kind, then by the body's own number.
use borrow.Author.Tests.{not-true, not-false}
use mathlib.Core.Bool.{true, false}
use mathlib.Core.Path.{◌≡◌, refl, sym, ◌∙◌}
use native.Mathlib.Omega.{arith}
use Prim.Native.Nat.{ℕ}
use Rattle.contents.specs.Contents.{good_kind}
use Rattle.edit_numbers.proofs.new_number.Goals as goal

pub returns-then-not-good_kind : goal.returns-then-not-good_kind
returns-then-not-good_kind c =
    let bad : good_kind c.args.edition c.args.kind ≡ false = sym c.good_kind.ensures ∙ not-true c.good_kind.result c.if-not-good_kind.true-raw in record {
      bad = λ g. refl;
      own = λ g. absurd (let z : ◌≡◌ {A = ℕ} 0 1 = cc (g, bad) in omega arith);
    }

pub returns : goal.returns
returns c =
    let fine : good_kind c.args.edition c.args.kind ≡ true = sym c.good_kind.ensures ∙ not-false c.good_kind.result c.if-not-good_kind.false-raw in record {
      bad = λ g. absurd (let z : ◌≡◌ {A = ℕ} 0 1 = cc (g, fine) in omega arith);
      own = λ g. c.own_fault.ensures;
    }
