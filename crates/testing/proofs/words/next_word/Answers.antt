-- `testing::words::next_word` cuts the line at the next blank.
use native.Mathlib.Omega.{arith}
use Rattle.testing.proofs.Cutting.{cut_from, cut_end}
use Rattle.testing.proofs.words.next_word.Goals as goal

pub returns-then-i-s : goal.returns-then-i-s
returns-then-i-s c = (omega arith, (cut_from c.find-i.ensures).1)

pub returns-else-i-s : goal.returns-else-i-s
returns-else-i-s c = (omega (arith, c.find-i.ensures.within), cut_end c.find-i.ensures (omega arith))
