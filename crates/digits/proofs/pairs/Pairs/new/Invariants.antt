-- `Pairs::new` puts the two digits of one byte more in each turn.
use mathlib.Core.Path.{◌≡◌}
use lib.ListN.{length}
use Rattle.digits.proofs.ByteDigits.{PairsTo}
use Rattle.digits.proofs.pairs.Pairs.new.Given as goal

abbrev pub invariant-loop-i : goal.invariant-loop-i
invariant-loop-i l = (l.pairs.0 ≡ l.letters) × (length l.pairs.1.0 ≡ 512) × PairsTo l.letters l.i l.pairs.1.0
