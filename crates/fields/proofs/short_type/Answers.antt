-- `fields::short_type` reads the byte after the first, and what ends the field.
use Prim.Native.Nat.{ℕ, ◌+◌}
use mathlib.Core.Path.{◌≡◌, refl, ap}
use mathlib.Core.List.{List, [], ◌∷◌}
use native.Mathlib.Omega.{arith}
use lib.ListN.{length, get_or}
use Rattle.fields.specs.inner.Window.{Starts}
use Rattle.fields.proofs.FixedFields.{StandsAt, first, then, here, ended, unended, solid_at}
use Rattle.fields.proofs.short_type.Goals as goal

-- the byte that stands there, and an x after it
two : {w : List ℕ} {at : ℕ} → Starts w at → get_or w (at + 1) 0 ≡ 120 → StandsAt (get_or w at 0 ∷ 120 ∷ []) w at
two s e = then (first s refl) (solid_at 120 (omega arith)) e

pub bounds-w-at : goal.bounds-w-at
bounds-w-at c = omega (arith, here (first c.requires refl))

pub bounds-w-at-2 : goal.bounds-w-at-2
bounds-w-at-2 c = omega (arith, here (two c.requires c.if-w-at-ne120.false))

pub returns-then-not-ends : goal.returns-then-not-ends
returns-then-not-ends c =
    let e = c.ends in
    λ f rest a v p. unended (two c.requires c.if-w-at-ne120.false) e.result e.ensures c.if-not-ends.true a (ap length p.0)

pub returns : goal.returns
returns c =
    let e = c.ends in
    record {
      field = _;
      there = ended (two c.requires c.if-w-at-ne120.false) (omega arith) e.result e.ensures c.if-not-ends.false;
      place = refl;
      has = (refl, refl);
    }
