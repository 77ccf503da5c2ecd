-- `testing::words::numbers` keeps: the numbers so far are those of their words.
use Prim.Native.Nat.{ℕ, ◌+◌, ◌*◌, ◌≤◌, ◌<◌}
use mathlib.Core.Path.{◌≡◌}
use lib.ListN.{length, get_or, drop}
use Rattle.testing.specs.Words.{skipped, word, ValueOf}
use Rattle.testing.proofs.words.numbers.Given as goal

abbrev pub invariant-loop-k : goal.invariant-loop-k
invariant-loop-k l = (l.at ≤ length l.s) × (length l.a ≡ 9) × (drop l.at l.s ≡ skipped (l.first + l.k * l.step) l.s) × ((j : ℕ) → j < l.k → ValueOf (word (l.first + j * l.step) l.s) (get_or l.a j 0))
