-- `testing::words::skip` keeps: so many blanks were passed.
use Prim.Native.Nat.{◌≤◌}
use mathlib.Core.Path.{◌≡◌}
use lib.ListN.{length, drop}
use Rattle.testing.specs.Words.{skipped}
use Rattle.testing.proofs.words.skip.Given as goal

abbrev pub invariant-loop : goal.invariant-loop
invariant-loop l = (l.p ≤ length l.s) × (drop l.p l.s ≡ skipped l.counter (drop l.at l.s))
