-- From label 0 on every table that is read has labels enough, so that what is read is what its own numbers left.
use mathlib.Core.Path.{◌≡◌, sym, ap, subst, ◌∙◌}
use Prim.Native.Nat.{◌+◌}
use native.Mathlib.Omega.{arith}
use lib.Count.{ones}
use borrow.Author.Tests.{le-ltb}
use Rattle.book_bodies.specs.declared.Body.{Body as StateBody}
use Rattle.book_tables.specs.declared.Body.{Body}
use Rattle.book_tables.specs.Read.{NamesBody, BodyAs}
use Rattle.book_shown.specs.Inner.Plain.{plain}

within : (b : StateBody) (r : Body) → NamesBody 0 b r → plain r ≡ b
within b r N = ap plain (N.given (le-ltb 65536 (0 + ones b.table.live) (omega (arith, N.few))))

pub from_zero : {Is : StateBody → Type 0} (r : Body) (s : StateBody) → BodyAs Is 0 r → s ≡ plain r → Is s
from_zero {Is} r s R e = subst Is (sym (e ∙ within R.body r R.names)) R.read
