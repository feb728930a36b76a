-- `paths` meets its contract: refused as the body is, or the path sum told.
use mathlib.Core.Path.{refl}
use Rattle.told_paths.proofs.paths.Goals as goal

pub returns-then-refusal-ne0 : goal.returns-then-refusal-ne0
returns-then-refusal-ne0 c = record {
  reading = c.read-r.result;
  reads = c.read-r.ensures;
  refused = λ ne. (refl, refl);
  given = λ z. absurd (c.if-refusal-ne0.true z);
}

pub returns : goal.returns
returns c =
    let r = c.read-r in record {
      reading = r.result;
      reads = r.ensures;
      refused = λ ne. absurd (ne c.if-refusal-ne0.false);
      given = λ z. record { answer = c.sum-s.result; is = c.sum-s.ensures; tells = c.tell.ensures };
    }
