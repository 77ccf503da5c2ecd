-- `fields::remote_field` reads `RTR` byte by byte, and what ends the field.
use Prim.Native.Nat.{ℕ, ◌+◌}
use mathlib.Core.Path.{◌≡◌, refl, ap}
use mathlib.Core.List.{List, [], ◌∷◌}
use native.Mathlib.Omega.{arith}
use lib.ListN.{length, get_or}
use Rattle.fields.specs.inner.Window.{Starts}
use Rattle.fields.proofs.FixedFields.{StandsAt, first, then, here, ended, unended, solid_at}
use Rattle.fields.proofs.remote_field.Goals as goal

-- the bytes read so far stand there
two : {w : List ℕ} {at : ℕ} → Starts w at → get_or w at 0 ≡ 82 → get_or w (at + 1) 0 ≡ 84 → StandsAt (82 ∷ 84 ∷ []) w at
two s e f = then (first s e) (solid_at 84 (omega arith)) f

three : {w : List ℕ} {at : ℕ} → Starts w at → get_or w at 0 ≡ 82 → get_or w (at + 1) 0 ≡ 84 → get_or w (at + 2) 0 ≡ 82
    → StandsAt (82 ∷ 84 ∷ 82 ∷ []) w at
three s e f g = then (two s e f) (solid_at 82 (omega arith)) g

pub bounds-w-at-else-w-at-ne84 : goal.bounds-w-at-else-w-at-ne84
bounds-w-at-else-w-at-ne84 c = omega (arith, here (two c.requires c.if-w-at-ne82.false c.if-w-at-ne84.false))

pub bounds-w-at-2 : goal.bounds-w-at-2
bounds-w-at-2 c = omega (arith, here (three c.requires c.if-w-at-ne82.false c.if-w-at-ne84.false c.if-w-at-ne82-2.false))

pub returns-then-not-ends : goal.returns-then-not-ends
returns-then-not-ends c =
    let e = c.ends in
    λ f rest a v p.
    unended (three c.requires c.if-w-at-ne82.false c.if-w-at-ne84.false c.if-w-at-ne82-2.false)
    e.result e.ensures c.if-not-ends.true a (ap length p)

pub returns : goal.returns
returns c =
    let e = c.ends in
    record {
      field = _;
      there = ended (three c.requires c.if-w-at-ne82.false c.if-w-at-ne84.false c.if-w-at-ne82-2.false) (omega arith)
          e.result e.ensures c.if-not-ends.false;
      place = refl;
      has = refl;
    }
