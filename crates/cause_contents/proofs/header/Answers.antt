-- `header` meets its contract: test by test.
use mathlib.Core.Bool.{not}
use mathlib.Core.Path.{refl, sym, ap, ◌∙◌}
use native.Mathlib.Omega.{arith}
use borrow.Author.Tests.{lt-ltb, le-ltb, eq-eqb, ne_eqb, not-true, not-false}
use lib.ListN.{length}
use Rattle.fields.specs.Bytes.{byte_at}
use Rattle.editions.specs.Edition.{good_edition}
use Rattle.contents.specs.Contents.{count_of}
use Rattle.cause.proofs.Laws.First.{pick, pass, no_more}
use Rattle.cause_contents.specs.Contents.{header_found}
use Rattle.cause_contents.proofs.header.Goals as goal

pub returns-then-bs-lt4 : goal.returns-then-bs-lt4
unfolding header_found
returns-then-bs-lt4 c = let bs = c.args.bs.now in pick _ _ _ _ c.fault.ensures (lt-ltb (length bs) 4 (omega arith))

pub returns-then-bs-gt-MOST_BYTES : goal.returns-then-bs-gt-MOST_BYTES
unfolding header_found
returns-then-bs-gt-MOST_BYTES c = let bs = c.args.bs.now in pass _ _ _ _ (le-ltb (length bs) 4 (omega arith)) (pick _ _ _ _ c.fault-then-bs-gt-MOST_BYTES.ensures (lt-ltb 60000 (length bs) (omega arith)))

pub returns-then-bs-ne81 : goal.returns-then-bs-ne81
unfolding header_found
returns-then-bs-ne81 c = let bs = c.args.bs.now in pass _ _ _ _ (le-ltb (length bs) 4 (omega arith)) (pass _ _ _ _ (le-ltb 60000 (length bs) (omega arith)) (pick _ _ _ _ c.fault-then-bs-ne81.ensures (ap not (ne_eqb (byte_at bs 0) 0x51 c.if-bs-ne81.true))))

pub returns-then-bs-ne78 : goal.returns-then-bs-ne78
unfolding header_found
returns-then-bs-ne78 c = let bs = c.args.bs.now in pass _ _ _ _ (le-ltb (length bs) 4 (omega arith)) (pass _ _ _ _ (le-ltb 60000 (length bs) (omega arith)) (pass _ _ _ _ (ap not (eq-eqb (byte_at bs 0) 0x51 (omega arith))) (pick _ _ _ _ c.fault-then-bs-ne78.ensures (ap not (ne_eqb (byte_at bs 1) 0x4E c.if-bs-ne78.true)))))

pub returns-then-not-good_edition : goal.returns-then-not-good_edition
unfolding header_found
returns-then-not-good_edition c = let bs = c.args.bs.now in pass _ _ _ _ (le-ltb (length bs) 4 (omega arith)) (pass _ _ _ _ (le-ltb 60000 (length bs) (omega arith)) (pass _ _ _ _ (ap not (eq-eqb (byte_at bs 0) 0x51 (omega arith))) (pass _ _ _ _ (ap not (eq-eqb (byte_at bs 1) 0x4E (omega arith))) (pick _ _ _ _ c.fault-then-not-good_edition.ensures (ap not (ap good_edition (sym c.edition.ensures) ∙ sym c.good_edition.ensures ∙ not-true c.good_edition.result c.if-not-good_edition.true-raw))))))

pub returns-then-count-gt-MOST_BODIES : goal.returns-then-count-gt-MOST_BODIES
unfolding header_found
returns-then-count-gt-MOST_BODIES c = let bs = c.args.bs.now in pass _ _ _ _ (le-ltb (length bs) 4 (omega arith)) (pass _ _ _ _ (le-ltb 60000 (length bs) (omega arith)) (pass _ _ _ _ (ap not (eq-eqb (byte_at bs 0) 0x51 (omega arith))) (pass _ _ _ _ (ap not (eq-eqb (byte_at bs 1) 0x4E (omega arith))) (pass _ _ _ _ (ap not (ap good_edition (sym c.edition.ensures) ∙ sym c.good_edition.ensures ∙ not-false c.good_edition.result c.if-not-good_edition.false-raw)) (pick _ _ _ _ c.fault-then-count-gt-MOST_BODIES.ensures (lt-ltb 16 (count_of bs) (omega arith)))))))

pub returns : goal.returns
unfolding header_found
returns c = let bs = c.args.bs.now in pass _ _ _ _ (le-ltb (length bs) 4 (omega arith)) (pass _ _ _ _ (le-ltb 60000 (length bs) (omega arith)) (pass _ _ _ _ (ap not (eq-eqb (byte_at bs 0) 0x51 (omega arith))) (pass _ _ _ _ (ap not (eq-eqb (byte_at bs 1) 0x4E (omega arith))) (pass _ _ _ _ (ap not (ap good_edition (sym c.edition.ensures) ∙ sym c.good_edition.ensures ∙ not-false c.good_edition.result c.if-not-good_edition.false-raw)) (pass _ _ _ _ (le-ltb 16 (count_of bs) (omega arith)) (no_more _ refl))))))
