-- `Pairs::new` puts the two digits of one byte more in each turn.
use native.Mathlib.Omega.{arith}
use borrow.Author.Rules.{rules}
use Rattle.digits.proofs.ByteDigits.{no_pair, pair_more, all_pairs}
use Rattle.digits.proofs.pairs.Pairs.new.Goals as goal

pub loop-i-init : goal.loop-i-init
loop-i-init c = (search rules, search rules, no_pair _ _)

pub loop-i-preserved : goal.loop-i-preserved
loop-i-preserved c = (search rules, search rules, pair_more c.loop-i.invariant.2 (omega arith) c.glyph.ensures c.glyph-in-loop-i.ensures)

pub invariant_of-pairs : goal.invariant_of-pairs
invariant_of-pairs c = record { pairs = all_pairs (rw (← c.loop-i.invariant.0) at c.loop-i.invariant.2) (omega arith) c.loop-i.invariant.1 }

pub returns : goal.returns
returns c = c.loop-i.invariant.0
