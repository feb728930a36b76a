-- Gates that are not refused, told without a branch for each: a code of one wire or of two, and tests put together.
use mathlib.Core.Bool.{Bool, true, false, ◌&&◌, ◌||◌}
use mathlib.Core.Logic.{◌⊎◌, inl, inr}
use mathlib.Core.Path.{◌≡◌, refl, sym, ap, ◌∙◌}
use Prim.Native.Nat.{ℕ, ◌≤◌, ◌<◌}
use Rattle.std.proofs.lemmas.Bool.{false≢true}
use Rattle.gates.specs.Read.{gate_read}
use Rattle.gates.specs.Circuit.{number_of}
use Rattle.gates.proofs.Laws.Read.{one_arm, two-arm, read_one, read-two}

pub one-accepted : (d c w s n : ℕ) → 1 ≤ c → c ≤ 7 → w < n → s ≡ 0 → number_of (gate_read d c w s n) ≡ 0
one-accepted d c w s n h k l z = sym (ap number_of (one_arm d c w s n c refl l z ∙ read_one d c w s n h k))

pub two-accepted : (d c w s n : ℕ) → 16 ≤ c → c ≤ 18 → w < n → s < n → (w ≡ s → ⊥) → number_of (gate_read d c w s n) ≡ 0
two-accepted d c w s n h k l m ne = sym (ap number_of (two-arm c w s n c refl l m ne ∙ read-two d c w s n h k))

-- two tests, both of them and either
pub both : (a b : Bool) → (a && b) ≡ true → (a ≡ true) × (b ≡ true)
both true b e = (refl, e)
both false b e = (e, absurd (false≢true e))

pub either : (a b : Bool) → (a || b) ≡ true → (a ≡ true) ⊎ (b ≡ true)
either true b e = inl refl
either false b e = inr e
