-- `fields::long_type` reads the four bytes after the first one by one, and what ends the field.
use Prim.Native.Nat.{ℕ, ◌+◌}
use mathlib.Core.Path.{◌≡◌, refl, ap}
use mathlib.Core.List.{List, [], ◌∷◌}
use native.Mathlib.Omega.{arith}
use lib.ListN.{length, get_or}
use Rattle.fields.specs.inner.Window.{Solid, Starts}
use Rattle.fields.proofs.FixedFields.{StandsAt, first, then, here, ended, unended}
use Rattle.fields.proofs.long_type.Goals as goal

-- the bytes read so far stand there
two : {w : List ℕ} {at a : ℕ} → Starts w at → Solid a → get_or w (at + 1) 0 ≡ a → StandsAt (get_or w at 0 ∷ a ∷ []) w at
two s p e = then (first s refl) p e

three : {w : List ℕ} {at a b : ℕ} → Starts w at → Solid a → get_or w (at + 1) 0 ≡ a → Solid b → get_or w (at + 2) 0 ≡ b
    → StandsAt (get_or w at 0 ∷ a ∷ b ∷ []) w at
three s p e q f = then (two s p e) q f

four : {w : List ℕ} {at a b c : ℕ} → Starts w at → Solid a → get_or w (at + 1) 0 ≡ a → Solid b → get_or w (at + 2) 0 ≡ b
    → Solid c → get_or w (at + 3) 0 ≡ c → StandsAt (get_or w at 0 ∷ a ∷ b ∷ c ∷ []) w at
four s p e q f r g = then (three s p e q f) r g

five : {w : List ℕ} {at a b c d : ℕ} → Starts w at → Solid a → get_or w (at + 1) 0 ≡ a → Solid b → get_or w (at + 2) 0 ≡ b
    → Solid c → get_or w (at + 3) 0 ≡ c → Solid d → get_or w (at + 4) 0 ≡ d
    → StandsAt (get_or w at 0 ∷ a ∷ b ∷ c ∷ d ∷ []) w at
five s p e q f r g t h = then (four s p e q f r g) t h

pub bounds-w-at : goal.bounds-w-at
bounds-w-at c = omega (arith, here (first c.requires.0 refl))

pub bounds-w-at-else-w-at : goal.bounds-w-at-else-w-at
bounds-w-at-else-w-at c = omega (arith, here (two c.requires.0 c.requires.1 c.if-w-at.false))

pub bounds-w-at-else-w-at-2 : goal.bounds-w-at-else-w-at-2
bounds-w-at-else-w-at-2 c =
    omega (arith, here (three c.requires.0 c.requires.1 c.if-w-at.false c.requires.2 c.if-w-at-2.false))

pub bounds-w-at-else-w-at-3 : goal.bounds-w-at-else-w-at-3
bounds-w-at-else-w-at-3 c = omega (
  arith,
  here (four c.requires.0 c.requires.1 c.if-w-at.false c.requires.2 c.if-w-at-2.false
      c.requires.3 c.if-w-at-3.false),
)

pub bounds-w-at-2 : goal.bounds-w-at-2
bounds-w-at-2 c = omega (
  arith,
  here (five c.requires.0 c.requires.1 c.if-w-at.false c.requires.2 c.if-w-at-2.false
      c.requires.3 c.if-w-at-3.false c.requires.4 c.if-w-at-4.false),
)

pub returns-then-not-ends : goal.returns-then-not-ends
returns-then-not-ends c =
    let e = c.ends in
    λ f rest a v p.
    unended (five c.requires.0 c.requires.1 c.if-w-at.false c.requires.2 c.if-w-at-2.false
    c.requires.3 c.if-w-at-3.false c.requires.4 c.if-w-at-4.false) e.result e.ensures c.if-not-ends.true a (ap length p.0)

pub returns : goal.returns
returns c =
    let e = c.ends in
    record {
      field = _;
      there = ended (five c.requires.0 c.requires.1 c.if-w-at.false c.requires.2 c.if-w-at-2.false
          c.requires.3 c.if-w-at-3.false c.requires.4 c.if-w-at-4.false) (omega arith)
          e.result e.ensures c.if-not-ends.false;
      place = refl;
      has = (refl, refl);
    }
