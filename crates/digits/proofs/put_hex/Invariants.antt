-- `digits::put_hex` puts one digit more in each turn, from the last to the first.
use Prim.Native.Nat.{◌≤◌}
use mathlib.Core.Path.{◌≡◌}
use lib.ListN.{length}
use Rattle.digits.specs.House.{glyph_of}
use Rattle.digits.proofs.Writers.{PutFrom}
use Rattle.digits.proofs.put_hex.Given as goal

abbrev pub invariant-loop-i : goal.invariant-loop-i
invariant-loop-i l = (l.i ≤ l.w) × (length l.out ≡ length l.initial.out) × PutFrom (glyph_of l.letters) 16 l.w l.n l.at l.initial.out l.out l.i l.m
