-- `testing::words::key` keeps: the letters so far are the digits of its number.
use Rattle.digits.proofs.Readers.{Passed}
use Rattle.testing.specs.Words.{Letter}
use Rattle.testing.proofs.words.key.Given as goal

abbrev pub invariant-loop-b : goal.invariant-loop-b
invariant-loop-b l = Passed Letter 256 8 l.word l.k l.b-index
